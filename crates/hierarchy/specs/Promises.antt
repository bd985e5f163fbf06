-- What a run promises: a record with a field for each of its sentences, and what each of them says.
-- What happens in an instance is said of what that instance is given and of its own chronicle.
use Rattle.std.specs.Prelude.{◌≡◌, ◌≢◌, ℕ, suc, ◌≤◌, ◌⊎◌, List, [], ◌∷◌, ◌++◌, Bool, true, false, Option, Some, IfSome, IsNone, IsSome, IsSomeAnd, IsTrue, Contains, Result, Ok, Err, count_by, unwrap_or}
use Rattle.std.specs.List.{AllByRecursion as Each}
use Rattle.instance_rules.specs.Desks.{AreDueFrom}
use Rattle.instance_rules.specs.Family.{AreNested}
use Rattle.instance_rules.specs.Legal.{IsSound}
use Rattle.kvs_model.specs.History.{after_groups}
use Rattle.kvs_model.specs.Store.{Name, Path, Store}
use Rattle.kvs_model.specs.Walk.{walk}
use Rattle.kvs_rules.specs.Brokers.{HasHeard, heard}
use Rattle.kvs_rules.specs.Landings.{AreFresh, IsManagers, IsUsers, commands_of, names_of}
use Rattle.kvs_rules.specs.Log.{Happened, Log, before_asked}
use Rattle.kvs_rules.specs.Namespaces.{Setting, family_at, is_primary, landed, newest_store, scope_of, store_after}
use Rattle.kvs_rules.specs.declared.events.KvsAsk.TheVariants as ask
use Rattle.kvs_rules.specs.declared.events.KvsEvent.TheVariants as event
use Rattle.kvs_txn.specs.declared.answers.Found.{Found}
use Rattle.kvs_txn.specs.declared.answers.Numbered.{Numbered}
use Rattle.kvs_txn.specs.declared.answers.Query.{Query}
use Rattle.kvs_txn.specs.declared.txn.By.{By}
use Rattle.kvs_txn.specs.declared.txn.Group.{Group}
use Rattle.tree_rules.specs.Texts.{root_reference}
use Rattle.workload.specs.Laws.{HasOwnLabels}
use Rattle.answers.specs.Chronicle.{Setup, before_issue, replies_to, top}
use Rattle.answers.specs.Commands.{ask_at, broker_of, command_at, subject_at}
use Rattle.answers.specs.Floors.{floor, knows_after, number_in, roots_named}
use Rattle.answers.specs.Jobs.{instance_of, log_in}
use Rattle.answers.specs.Services.{log_of, setting_of}
use Rattle.answers.specs.declared.chronicle.Entry.{Entry}
use Rattle.answers.specs.declared.chronicle.Entry.TheVariants as entry
use Rattle.answers.specs.declared.chronicle.Reply.{Reply}
use Rattle.answers.specs.declared.chronicle.Reply.TheVariants as reply
use Rattle.run_laws.specs.Feeds.{TellsLog, WatchesSeeTheirLogs}
use Rattle.run_laws.specs.Jobs.{store_of}
use Rattle.run_laws.specs.Reserved.{HeadsKeepTheirSeconds, IsNamed}
use Rattle.run_laws.specs.Views.{JobsFollowWithRoots, LogsGrowWithRoots}
use Rattle.hierarchy.specs.Births.{is_at, label_of, lives}
use Rattle.hierarchy.specs.Families.{family_of}
use Rattle.hierarchy.specs.Own.{own_of, setup_in}

-- ---- whose a fact is

-- P of an instance that lives behind these entries, and of its own chronicle
abbrev pub InLiving : Setup → List Entry → ℕ → (Setup → List Entry → Type 0) → Type 0
InLiving set c i P = IsTrue (lives c i) × P (setup_in set c i) (own_of set c i)

-- P of the actor's instance, which lives
pub record AtHome (set : Setup) (c : List Entry) (actor : ℕ) (P : Setup → List Entry
    → Type 0) : Type 0 where
  pub home : ℕ
  pub theirs : IsTrue (is_at set.work.actors (label_of c home) actor)
  pub held : InLiving set c home P

-- ---- each published root is the plain store after whole transactions, fences landing at once

-- the landing makes the store of its number out of the newest one, by its transactions in order.
-- Each is a whole one: a commit, all members of a fence, or a post of the job manager
pub record IsPublished (set : Setting) (log : Log) (space : Name)
    (number : ℕ) (authors : List (Option By)) (groups : List Group) : Type 0 where
  pub named : authors ≡ names_of groups
  pub once : AreFresh set log (commands_of authors)
  pub whole : Each (λ group. IsUsers set space group ⊎ IsManagers set space group) groups
  pub next : number ≡ suc (landed log space)
  pub old : Store
  pub standing : newest_store set log space ≡ Some old
  pub new : Store
  pub made : after_groups (scope_of space) groups old ≡ Some new
  pub newest : newest_store set (log ++ Happened (event.Landed space number authors groups) ∷ [])
      space ≡ Some new

-- a landing without transactions opens or removes a namespace
abbrev pub RootsArePlain : Setup → List Entry → Type 0
RootsArePlain set c = (past more : List Entry) (i : ℕ) (space : Name) (number : ℕ)
    (authors : List (Option By)) (groups : List Group)
    → c ≡ past ++ entry.Landed i space number authors groups ∷ more → groups ≢ []
    → InLiving set past i
    (λ s own. IsPublished (setting_of s) (log_of s.work top own) space number authors groups)

-- ---- each read sees a root no older than its actor had seen or was told, or its broker had heard

-- the number is no less than what its actor had seen or was told at the command's issue
abbrev pub IsNoOlder : Setup → List Entry → By → ℕ → Type 0
IsNoOlder s own by number =
    floor s.work (before_issue by own) by.actor (subject_at s.work by) ≤ number

-- P of the store of this number, nor is it less than what the command's broker had heard then
pub record SeesStore (s : Setup) (own : List Entry) (by : By) (P : Store
    → Type 0) (number : ℕ) : Type 0 where
  pub seen : IsNoOlder s own by number
  pub known : unwrap_or (heard (before_asked by (log_of s.work top own))
      (broker_of s.work by.actor) (subject_at s.work by)) 0 ≤ number
  pub store : Store
  pub standing : store_after (setting_of s) (log_of s.work top own)
      (subject_at s.work by) number ≡ Some store
  pub held : P store

-- a root that may be shown to the command: no less than what its actor had seen of the namespace
-- or was told at the issue, nor than what its broker had heard then
pub record MaySee (s : Setup) (own : List Entry) (by : By) (root : Numbered) : Type 0 where
  pub seen : floor s.work (before_issue by own) by.actor root.namespace ≤ root.number
  pub known : unwrap_or (heard (before_asked by (log_of s.work top own))
      (broker_of s.work by.actor) root.namespace) 0 ≤ root.number

-- a walk in such roots tells this
pub record SeesWalk (s : Setup) (own : List Entry) (by : By) (asked : Query) (path : Path)
    (uses : List Numbered) (told : Result Found Name) (number : ℕ) : Type 0 where
  pub roots : Each (MaySee s own by)
      (record { namespace = subject_at s.work by; number = number } ∷ uses)
  pub tells : walk (family_at (setting_of s) (log_of s.work top own)
      (record { namespace = subject_at s.work by; number = number } ∷ uses))
      (subject_at s.work by) asked path ≡ told

-- a read tells what stands there, or where a link leads to no namespace, and a `getroot` the
-- reference of the whole store
abbrev pub SeesNoOlder : Setup → List Entry → By → Reply → Option ℕ → Type 0
SeesNoOlder set c by (reply.Read found uses) number = AtHome set c by.actor (λ s own.
    (query : Query) × (path : Path) × (ask_at s.work by ≡ Some (ask.Read query path))
    × IsSomeAnd number (SeesWalk s own by query path uses (Ok found)))
SeesNoOlder set c by (reply.NoTarget space uses) number = AtHome set c by.actor (λ s own.
    (query : Query) × (path : Path) × (ask_at s.work by ≡ Some (ask.Read query path))
    × IsSomeAnd number (SeesWalk s own by query path uses (Err space)))
SeesNoOlder set c by (reply.Root reference) number = AtHome set c by.actor (λ s own.
    IsSomeAnd number (SeesStore s own by (λ st. reference ≡ root_reference s.hash st)))
SeesNoOlder set c by given number =
    IfSome number (λ n. AtHome set c by.actor (λ s own. IsNoOlder s own by n))

abbrev pub ReadsAreFresh : Setup → List Entry → Type 0
ReadsAreFresh set c = (past more : List Entry) (actor command : ℕ) (given : Reply)
    (number : Option ℕ) → c ≡ past ++ entry.Replied actor command given number ∷ more
    → SeesNoOlder set past (record { actor = actor; command = command }) given number

-- ---- each committer is answered once its own broker has heard the landing

-- the landing of this number names the command, and its broker has heard of it
pub record IsHeardOf (s : Setup) (own : List Entry) (by : By) (number : ℕ) : Type 0 where
  pub authors : List (Option By)
  pub groups : List Group
  pub landing : Contains (log_of s.work top own)
      (Happened (event.Landed (subject_at s.work by) number authors groups))
  pub named : Contains authors (Some by)
  pub told : HasHeard (log_of s.work top own) (broker_of s.work by.actor) (subject_at s.work by)
      number

-- whether a reply says that what the command asked has landed
abbrev pub is_committed : Reply → Bool
is_committed reply.Committed = true
is_committed reply.Fenced = true
is_committed reply.Created = true
is_committed reply.Removed = true
is_committed (reply.Submitted id) = true
is_committed _ = false

abbrev pub CommittersHaveHeard : Setup → List Entry → Type 0
CommittersHaveHeard set c = (past more : List Entry) (actor command : ℕ) (given : Reply)
    (number : Option ℕ) → c ≡ past ++ entry.Replied actor command given number ∷ more
    → IsTrue (is_committed given)
    → let by : By = record { actor = actor; command = command } in
    AtHome set past actor (λ s own. IsSomeAnd number (IsHeardOf s own by))

-- ---- each job's stored eventlog replays through due events alone

-- each of the manager's transactions in `primary` is of events that are due where they land
abbrev pub EventsAreDue : Setup → List Entry → Type 0
EventsAreDue set c = (past more : List Entry) (i : ℕ) (space : Name) (number : ℕ)
    (authors : List (Option By)) (groups : List Group)
    → c ≡ past ++ entry.Landed i space number authors groups ∷ more
    → IsTrue (is_primary space)
    → InLiving set past i (λ s own. (st : Store) × (store_of s own ≡ Some st)
    × AreDueFrom (instance_of s) (log_in s.work own) groups st)

-- after each first part P of what each living instance is given and of its own chronicle
abbrev pub InAllLiving : Setup → List Entry → (Setup → List Entry → Type 0) → Type 0
InAllLiving set c P = (past more : List Entry) → c ≡ past ++ more
    → (i : ℕ) → IsTrue (lives past i) → P (setup_in set past i) (own_of set past i)

-- no event of a job is lost or changed: its log at a root is the first part of that at a later one
abbrev pub LogsGrowInAll : Setup → List Entry → Type 0
LogsGrowInAll set c = InAllLiving set c
    (λ s own. LogsGrowWithRoots (setting_of s) (log_of s.work top own))

-- and what a later root tells of a job follows by the table from what an earlier one tells
abbrev pub JobsFollowInAll : Setup → List Entry → Type 0
JobsFollowInAll set c = InAllLiving set c
    (λ s own. JobsFollowWithRoots (setting_of s) (log_of s.work top own))

-- ---- a watch is fed the log of its job, each event once and in order

-- what a watch was fed so far is the whole log of its job at the root at which it was fed last
abbrev pub WatchesSeeTheirLogsInAll : Setup → List Entry → Type 0
WatchesSeeTheirLogsInAll set c = InAllLiving set c WatchesSeeTheirLogs

-- and it is told the names of these events, once its job is over
abbrev pub WatchesTellTheirLogs : Setup → List Entry → Type 0
WatchesTellTheirLogs set c = (past more : List Entry) (actor command : ℕ) (shown : List (List ℕ))
    (number : Option ℕ)
    → c ≡ past ++ entry.Replied actor command (reply.Watched shown) number ∷ more
    → let by : By = record { actor = actor; command = command } in
    AtHome set past actor (λ s own. IsSomeAnd number (TellsLog s own by shown))

-- ---- while a job stays the first in the queue, its reserved second never rises

-- under both policies, and no tick goes above it
abbrev pub HeadsKeepTheirSecondsInAll : Setup → List Entry → Type 0
HeadsKeepTheirSecondsInAll set c = InAllLiving set c HeadsKeepTheirSeconds

-- ---- the numbers that an actor's replies name never fall

-- no root that the reply names is below one of its namespace that a reply before the command's
-- issue named, which its actor was given or one that has told it since
abbrev pub IsNotBelow : Setup → List Entry → By → Reply → Option ℕ → Type 0
IsNotBelow s own by given number = (before between : List Entry) (other : By) (told : Reply)
    (earlier : Option ℕ) (root : Numbered)
    → before_issue by own
    ≡ (before ++ entry.Replied other.actor other.command told earlier ∷ []) ++ between
    → IsTrue (knows_after other.actor between by.actor)
    → Contains (roots_named s.work by given number) root
    → number_in root.namespace (roots_named s.work other told earlier) ≤ root.number

-- a reply without a number names no root
abbrev pub NumbersNeverFall : Setup → List Entry → Type 0
NumbersNeverFall set c = (past more : List Entry) (actor command : ℕ) (given : Reply)
    (number : Option ℕ) → c ≡ past ++ entry.Replied actor command given number ∷ more
    → let by : By = record { actor = actor; command = command } in
    IfSome number (λ n. AtHome set past actor (λ s own. IsNotBelow s own by given (Some n)))

-- ---- live allocations are disjoint, satisfying and within the grant

-- after each first part the logs of each living instance's jobs replay, and its live jobs hold
-- units of its grant that satisfy them, no two of them one in common
abbrev pub JobsStaySoundInAll : Setup → List Entry → Type 0
JobsStaySoundInAll set c = (past more : List Entry) → c ≡ past ++ more
    → (i : ℕ) → IsTrue (lives past i)
    → IsSound (instance_of (setup_in set past i))
    (log_in (setup_in set past i).work (own_of set past i))

-- ---- the grant of each living child lies within what a live job of its living parent holds

-- after each first part the grant of each living child has the units of such a job's resources
abbrev pub ChildrenStayNested : Setup → List Entry → Type 0
ChildrenStayNested set c = (past more : List Entry) → c ≡ past ++ more
    → AreNested (family_of set past)

-- ---- every command has its one reply

pub record AreReplied (set : Setup) (c : List Entry) : Type 0 where
  pub once : (by : By) → IsSome (command_at set.work by) → count_by (replies_to by) c ≡ 1
  pub no_other : (by : By) → IsNone (command_at set.work by) → count_by (replies_to by) c ≡ 0

-- ---- the promises

-- each published root is the plain store after whole transactions, fences landing at once; each
-- read sees a root no older than its actor had seen or was told; each committer is answered once
-- its own broker has heard the landing; the numbers that an actor's replies name never fall; each
-- event of a job lands where it is due, stored logs replay and only grow, and what later roots tell
-- of jobs follows from what earlier ones told; each watch is fed the log of its job, each event
-- once and in order, and is told the names of what it was fed, where no two submissions have one
-- label; while a job stays the first in the queue, the second that is reserved for it never rises,
-- where hosts have names of hosts; live allocations are disjoint, satisfy their jobs and are within
-- the grant; the grant of each living child lies within what a live job of its living parent holds;
-- and every command has its one reply
pub record KeepsItsPromises (set : Setup) (c : List Entry) : Type 0 where
  pub published : RootsArePlain set c
  pub reads : ReadsAreFresh set c
  pub answered : CommittersHaveHeard set c
  pub numbers : NumbersNeverFall set c
  pub due : EventsAreDue set c
  pub grows : LogsGrowInAll set c
  pub follows : JobsFollowInAll set c
  pub fed : HasOwnLabels set.work.lines → WatchesSeeTheirLogsInAll set c
  pub told : HasOwnLabels set.work.lines → WatchesTellTheirLogs set c
  pub reserved : IsNamed set.resources → HeadsKeepTheirSecondsInAll set c
  pub live : JobsStaySoundInAll set c
  pub nested : ChildrenStayNested set c
  pub replied : AreReplied set c

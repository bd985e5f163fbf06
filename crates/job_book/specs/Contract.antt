-- What the calls of a book ask for and answer.
use Rattle.std.specs.Prelude.{◌≡◌, ◌≤◌, ◌<◌, ◌^◌, ℕ, List, [], Option, Some, None, Contains, IfSome, filter, flat_map, nat_lt, option_and_then}
use Rattle.std.specs.List.{AllByRecursion as Each}
use Rattle.std.specs.List.Sorted.{IsStrictlyIncreasing}
use Rattle.job_deeds.specs.event_log.declared.event.Event.{Event}
use Rattle.job_deeds.specs.job_rules.Fits.{IsGrant}
use Rattle.job_deeds.specs.job_spec.declared.spec.Depend.{Depend}
use Rattle.job_deeds.specs.job_spec.declared.spec.JobSpec.{JobSpec}
use Rattle.job_deeds.specs.job_spec.Sound.{IsSpec}
use Rattle.job_deeds.specs.job_states.Changes.{change_of}
use Rattle.job_deeds.specs.job_states.Table.{submitted_job}
use Rattle.job_deeds.specs.job_states.declared.job.Change.TheVariants.{Submit}
use Rattle.job_deeds.specs.resource_set.Valid.{IsR}
use Rattle.job_deeds.specs.resource_set.declared.node.Resources.{Resources}
use Rattle.job_deeds.specs.tap.declared.Ask.{Ask}
use Rattle.job_deeds.specs.manager_rules.Dependencies.{job_at}
use Rattle.job_deeds.specs.manager_rules.Due.{IsDue}
use Rattle.job_deeds.specs.manager_rules.Jobs.{AreNeeds, StoredJob, ids_of}
use Rattle.job_deeds.specs.manager_rules.Posts.{with_event, with_job}
use Rattle.job_deeds.specs.manager_rules.Scene.{IsScene}
use Rattle.job_deeds.specs.manager_rules.Sound.{IsSound}
use Rattle.job_deeds.specs.manager_rules.Times.{IsBirthDue, seconds_of}
use Rattle.job_deeds.specs.manager_rules.Limits.{no_limits}
use Rattle.job_deeds.specs.manager_rules.Whys.{IsWhy}
use Rattle.job_deeds.specs.manager_rules.declared.asked.Asked.{Asked}
use Rattle.job_deeds.specs.manager_rules.declared.due.Due.{Due}
use Rattle.job_deeds.specs.manager_rules.declared.policy.Policy.TheVariants.{FirstFit}
use Rattle.job_deeds.specs.manager_rules.declared.terms.Limits.{Limits}
use Rattle.job_deeds.specs.manager_rules.declared.why.Why.{Why}
use Rattle.job_deeds.specs.Choices.{IsSeen, SaysAs}
use Rattle.job_deeds.specs.Passing.{IsPasserOf}
use Rattle.job_deeds.specs.declared.decisions.Desk.{Desk}
use Rattle.job_book.specs.Value.{BookValue, scene_of}

-- ---- submissions

-- the event begins a log, by this user with this urgency
abbrev pub Begins : Event → ℕ → ℕ → Type 0
Begins event userid urgency = change_of event ≡ Some (Submit userid urgency)

-- it begins one
abbrev pub BeginsAsOne : Event → Type 0
BeginsAsOne event = (userid : ℕ) × (urgency : ℕ) × Begins event userid urgency

-- `depends`, where it stands, is a list of descriptions; all dependencies are on jobs of the book
abbrev pub KnowsNeeds : BookValue → JobSpec → Event → Type 0
KnowsNeeds book spec event =
    (needs : List Depend) × AreNeeds spec event needs
    × Each (λ need. Contains (ids_of book.jobs) need.on) needs

-- a job that is just submitted
abbrev pub new_job : ℕ → JobSpec → List Depend → ℕ → ℕ → StoredJob
new_job id spec needs userid urgency = record {
  id = id;
  spec = spec;
  needs = needs;
  job = submitted_job userid urgency;
  start = None;
  r = None;
}

-- a row of this submission
abbrev pub IsNewJob : ℕ → JobSpec → Event → StoredJob → Type 0
IsNewJob id spec event j =
    (needs : List Depend) (userid urgency : ℕ)
    → AreNeeds spec event needs → Begins event userid urgency
    → j ≡ new_job id spec needs userid urgency

-- the book with one more
abbrev pub with_new : BookValue → StoredJob → BookValue
with_new book j = record book { jobs = with_job j book.jobs }

-- the new book has besides the job of this submission
abbrev pub Gains : BookValue → ℕ → JobSpec → Event → BookValue → Type 0
Gains old id spec event new =
    (needs : List Depend) (userid urgency : ℕ)
    → AreNeeds spec event needs → Begins event userid urgency
    → new ≡ with_new old (new_job id spec needs userid urgency)

-- ---- due events

-- what a book looks at, with any answers and limits, is seen from a desk
abbrev pub IsSeenIn : BookValue → ℕ → List Asked → Desk → Type 0
IsSeenIn book now asked desk =
    (answer : Ask → ℕ) (limits : Limits) → IsSeen desk (scene_of book now asked answer limits)

-- the event is due, whatever function the tap answers as and however new jobs are limited
abbrev pub IsDueIn : BookValue → ℕ → List Asked → (Ask → ℕ → Type 0) → Due → Type 0
IsDueIn book now asked says due =
    (answer : Ask → ℕ) (limits : Limits) → SaysAs says answer
    → IsDue (scene_of book now asked answer limits) due

-- nothing is due
abbrev pub NoneDueIn : BookValue → ℕ → List Asked → (Ask → ℕ → Type 0) → Type 0
NoneDueIn book now asked says =
    (answer : Ask → ℕ) (limits : Limits) → SaysAs says answer
    → (due : Due) → IsDue (scene_of book now asked answer limits) due → ⊥

-- what is found: an event that is due, or none where nothing is
abbrev pub Finds : BookValue → ℕ → List Asked → (Ask → ℕ → Type 0) → Option Due → Type 0
Finds book now asked says (Some due) = IsDueIn book now asked says due
Finds book now asked says None = NoneDueIn book now asked says

-- the book where nobody passes the first in the queue
abbrev pub plain : BookValue → BookValue
plain book = record book { policy = FirstFit }

-- what is found for the one that passes the first: an event that is due, or none where nobody
-- passes it
abbrev pub FindsPassing : BookValue → ℕ → List Asked → (Ask → ℕ → Type 0) → Option Due → Type 0
FindsPassing book now asked says (Some due) = IsDueIn book now asked says due
FindsPassing book now asked says None =
    (answer : Ask → ℕ) (limits : Limits) → SaysAs says answer
    → IsPasserOf (scene_of book now asked answer limits) None

-- the event is due at some second, with some commands and children, some answers and some limits
pub record WasDue (book : BookValue) (due : Due) : Type 0 where
  pub now : ℕ
  pub asked : List Asked
  pub answer : Ask → ℕ
  pub limits : Limits
  pub scene : IsScene (scene_of book now asked answer limits)
  pub is : IsDue (scene_of book now asked answer limits) due

-- the book once it has landed
abbrev pub after_event : Due → BookValue → BookValue
after_event due book = record book { jobs = with_event due book.jobs }

-- ---- what else an instance asks

abbrev pub r_at : List StoredJob → ℕ → Option Resources
r_at jobs id = option_and_then (λ j. j.r) (job_at jobs id)

-- why the job of an id doesn't run at this second, which no command, answer or limit decides
abbrev pub Explains : BookValue → ℕ → ℕ → Why → Type 0
Explains book now id why =
    (answer : Ask → ℕ) (limits : Limits) → IsWhy (scene_of book now [] answer limits) id why

-- a birth reads no second, no answer and no limit
abbrev pub BirthIn : BookValue → List Asked → ℕ → Type 0
BirthIn book asked id = IsBirthDue (scene_of book 0 asked (λ ask. 1) no_limits) id

abbrev pub IsFirstBirth : BookValue → List Asked → ℕ → Type 0
IsFirstBirth book asked id =
    BirthIn book asked id × ((other : ℕ) → BirthIn book asked other → id ≤ other)

abbrev pub NoBirth : BookValue → List Asked → Type 0
NoBirth book asked = (id : ℕ) → BirthIn book asked id → ⊥

-- the seconds ahead at which commands or resources end
abbrev pub seconds_left : ℕ → BookValue → List ℕ
seconds_left now book = filter (λ second. nat_lt now second) (flat_map seconds_of book.jobs)

-- what every book keeps
pub record IsKept (book : BookValue) : Type 0 where
  pub grant : IsR book.grant
  pub sets : IsGrant book.grant.nodes
  pub rising : IsStrictlyIncreasing (ids_of book.jobs)
  pub small : Each (λ j. j.id < 2 ^ 64) book.jobs
  pub specs : Each (λ j. IsSpec j.spec) book.jobs
  pub held : Each (λ j. IfSome j.r IsR) book.jobs
  pub sound : IsSound book.grant.nodes book.jobs

-- What is due of the job manager.
use Rattle.std.specs.Prelude.{◌≡◌, ◌⊎◌, ℕ, ◌≤◌, ◌<◌, ◌-◌, ◌*◌, ◌^◌, false, All, Contains, List, Option, Some, None, length}
use Rattle.instance_rules.specs.Log.{Born, Moment, child_told, replies_now}
use Rattle.job_book.specs.Value.{BookValue, scene_of}
use Rattle.job_commands.specs.Agrees.{AreDrawn}
use Rattle.job_commands.specs.Desks.{asked_of}
use Rattle.job_commands.specs.Rows.{AreMarkedBy, CommandsValue}
use Rattle.job_commands.specs.Moments.{decides_now}
use Rattle.job_commands.specs.declared.row.Row.{Row}
use Rattle.job_manager.specs.Posts.{command_of}
use Rattle.job_submissions.specs.Made.{IsMade, MakesNone}
use Rattle.job_deeds.specs.kvs_txn.declared.txn.By.{By}
use Rattle.job_deeds.specs.manager_rules.Due.{IsDue, IsEnding}
use Rattle.job_deeds.specs.manager_rules.Jobs.{StoredJob}
use Rattle.job_deeds.specs.manager_rules.Posts.{Desk, Does, IsDuePost, Post, Submits}
use Rattle.job_deeds.specs.manager_rules.Scene.{IsAsked, Scene, has_shut_child}
use Rattle.job_deeds.specs.manager_rules.declared.asked.Asked.{Asked}
use Rattle.job_deeds.specs.manager_rules.declared.due.Due.{Due}
use Rattle.job_deeds.specs.manager_rules.declared.terms.Limits.{Limits}
use Rattle.job_deeds.specs.manager_rules.declared.terms.Terms.{Terms}
use Rattle.job_deeds.specs.tap.Factors.{priority_by}

-- what the manager looks at of the jobs, which are served on these terms
abbrev pub scene_now : Terms → CommandsValue → BookValue → ℕ → Scene
scene_now terms v book now = scene_of book now (asked_of v) (priority_by terms.weights) terms.limits

-- an event that is due for a job, or nothing where none is
abbrev pub IsEventDue : Terms → CommandsValue → BookValue → ℕ → Option Due → Type 0
IsEventDue terms v book now (Some due) = IsDue (scene_now terms v book now) due
IsEventDue terms v book now None = (due : Due) → IsDue (scene_now terms v book now) due → ⊥

-- what can be looked at: the second isn't far behind the birth, and the numbers of the commands are
-- within their ranges
pub record CanLook (v : CommandsValue) (now birth : ℕ) : Type 0 where
  pub order : birth ≤ now
  pub soon : 1000 * (now - birth) < 2 ^ 40
  pub drawn : AreDrawn v birth
  pub marked : AreMarkedBy v now
  pub short : length v.issued ≤ 2 ^ 14
  pub asked : All IsAsked (asked_of v)

-- no submission that waits is accepted
abbrev pub MakeNone : Limits → CommandsValue → BookValue → Type 0
MakeNone limits v book = (row : Row) → Contains v.rows row
    → MakesNone limits v.labels book.jobs row

-- what is due of the open commands and the book: a submission that is made now or an event, or
-- nothing where there is none
abbrev pub IsFound : Terms → CommandsValue → BookValue → ℕ → ℕ → Option Post → Type 0
IsFound terms v book now birth (Some (Submits x)) =
    IsMade terms.limits v book.jobs now birth x
IsFound terms v book now birth (Some (Does due)) = IsDue (scene_now terms v book now) due
IsFound terms v book now birth None = MakeNone terms.limits v book
    × ((due : Due) → IsDue (scene_now terms v book now) due → ⊥)

-- so where nothing is posted; else nothing is looked for
abbrev pub IsFoundBeside : Terms → Option Post → CommandsValue → BookValue → ℕ → ℕ
    → Option Post → Type 0
IsFoundBeside terms (Some post) v book now birth found = found ≡ None
IsFoundBeside terms None v book now birth found = IsFound terms v book now birth found

-- the manager has nothing to post
abbrev pub OwesNothing : Desk → Type 0
OwesNothing desk = (post : Post) → IsDuePost desk post → ⊥

-- what is posted is due, and where nothing is posted what was found is, or nothing is
abbrev pub Owes : Option Post → Option Post → Desk → Type 0
Owes (Some post) found desk = IsDuePost desk post
Owes None (Some post) desk = IsDuePost desk post
Owes None None desk = OwesNothing desk

-- the moment neither answers the command, nor does a landing or a denial name it then
pub record IsOpenFor (by : By) (m : Moment) : Type 0 where
  pub unanswered : replies_now by m ≡ false
  pub undecided : decides_now by m ≡ false

-- the child of this job is as before, or it is born, no other one has shut down, and the job isn't
-- ending
abbrev pub LeavesChild : List Asked → List StoredJob → Moment → ℕ → Type 0
LeavesChild asked jobs m id = (child_told id m ≡ None)
    ⊎ ((m ≡ Born id) × (IsEnding jobs id → ⊥) × (has_shut_child asked id ≡ false))

-- so of the job of an event
abbrev pub LeavesChildOf : List Asked → List StoredJob → Moment → Post → Type 0
LeavesChildOf asked jobs m (Does due) = LeavesChild asked jobs m due.job
LeavesChildOf asked jobs m (Submits x) = Unit {0}

-- so of the command that the post carries out, if it carries out one
abbrev pub LeavesOpen : Moment → Post → Type 0
LeavesOpen m post = (by : By) → command_of post ≡ Some by → IsOpenFor by m

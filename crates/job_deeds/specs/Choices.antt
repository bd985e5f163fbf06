-- What the jobs of a book are decided by, and what is chosen for one of them.
use Rattle.std.specs.Prelude.{◌≡◌, ℕ, false, List, Option, Some, None, Ok}
use Rattle.std.specs.List.{AllByRecursion as Each}
use Rattle.std.specs.List.Sorted.{IsStrictlyIncreasing}
use Rattle.hostlist.specs.Names.{AreHostNames}
use Rattle.job_spec.specs.Sound.{IsSpec}
use Rattle.resource_set.specs.Reading.{told}
use Rattle.resource_set.specs.Units.{host_names}
use Rattle.resource_set.specs.Writing.{r_text}
use Rattle.resource_set.specs.declared.node.Resources.{Resources}
use Rattle.tap.specs.declared.Ask.{Ask}
use Rattle.manager_rules.specs.Deeds.{Deed}
use Rattle.manager_rules.specs.Due.{MayDo}
use Rattle.manager_rules.specs.Jobs.{StoredJob, ids_of}
use Rattle.manager_rules.specs.Scene.{Scene}
use Rattle.manager_rules.specs.Sound.{AreInTime, holds_of}
use Rattle.job_deeds.specs.Actions.{deed_of}
use Rattle.job_deeds.specs.Passing.{IsPasserOf}
use Rattle.job_deeds.specs.Waiting.{IsFirstOf}
use Rattle.job_deeds.specs.declared.action.Action.{Action}
use Rattle.job_deeds.specs.declared.action.Action.TheVariants.{Take}
use Rattle.job_deeds.specs.declared.decisions.Desk.{Desk}

-- a scene that is seen from there: the run resumed with none of its jobs
pub record IsSeen (desk : Desk) (s : Scene) : Type 0 where
  pub second : s.now ≡ desk.second
  pub jobs : s.jobs ≡ desk.rows.now
  pub asked : s.asked ≡ desk.asked.now
  pub policy : s.policy ≡ desk.policy
  pub old : (id : ℕ) → s.old id ≡ false
  pub graph : desk.graph.now
      ≡ record { grant = s.grant.nodes; expiration = s.grant.expiration; live = holds_of s.jobs }

-- what is known where the job that passes is looked for: the jobs in time, the first of them, and
-- what they hold of the grant, whose hosts have names
pub record IsLook (desk : Desk) (grant : Resources) : Type 0 where
  pub in_time : AreInTime desk.rows.now
  pub specs : Each (λ j. IsSpec j.spec) desk.rows.now
  pub head : IsFirstOf desk.rows.now desk.head
  pub named : AreHostNames (host_names desk.graph.now.grant)
  pub graph : desk.graph.now
      ≡ record {
        grant = grant.nodes;
        expiration = grant.expiration;
        live = holds_of desk.rows.now;
      }

-- the jobs' ids rise, the first in the queue and the one that passes it are known, and the grant's
-- hosts have names
pub record IsDesk (desk : Desk) : Type 0 where
  pub rising : IsStrictlyIncreasing (ids_of desk.rows.now)
  pub head : IsFirstOf desk.rows.now desk.head
  pub passer : (s : Scene) → IsSeen desk s → IsPasserOf s desk.passer
  pub named : AreHostNames (host_names desk.graph.now.grant)

-- the taking of units, with their text
pub record IsTaking (r : Resources) (found : Option Action) : Type 0 where
  pub text : List ℕ
  pub is : found ≡ Some (Take r text)
  pub canonical : text ≡ r_text r
  pub again : told text ≡ Ok r

-- the tap answers as the function does
abbrev pub SaysAs : (Ask → ℕ → Type 0) → (Ask → ℕ) → Type 0
SaysAs says answer = (ask : Ask) (n : ℕ) → says ask n → n ≡ answer ask

-- the action is due for the job, or nothing is
abbrev pub Chooses : Scene → StoredJob → Option Action → Type 0
Chooses s j (Some action) = MayDo s j (deed_of action)
Chooses s j None = (deed : Deed) → MayDo s j deed → ⊥

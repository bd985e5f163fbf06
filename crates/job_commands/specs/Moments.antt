-- Moments that are about no open command, and landings that carry one out.
use Rattle.std.specs.Prelude.{◌≡◌, ℕ, ◌||◌, List, [], ◌∷◌, Bool, false, IsSome, Option, Contains}
use Rattle.kvs_rules.specs.Landings.{names_of}
use Rattle.kvs_rules.specs.Log as service
use Rattle.kvs_rules.specs.Namespaces.{primary}
use Rattle.kvs_rules.specs.declared.events.KvsEvent.TheVariants as event
use Rattle.kvs_txn.specs.declared.txn.By.{By}
use Rattle.kvs_txn.specs.declared.txn.Group.{Group}
use Rattle.instance_rules.specs.Log.{Instance, Moment, Served, issues_now, replies_now}

-- whether a landing or a denial names the command now
abbrev pub decides_now : By → Moment → Bool
decides_now by (Served m) = service.lands_now by m || service.denies_now by m
decides_now by _ = false

-- the transactions that land now
abbrev pub groups_of : Moment → List Group
groups_of (Served (service.Happened (event.Landed space number authors groups))) = groups
groups_of _ = []

-- the moment neither issues nor answers the command, and no landing and no denial names it
pub record IsAside (by : By) (m : Moment) : Type 0 where
  pub issues : issues_now by m ≡ false
  pub replies : replies_now by m ≡ false
  pub decides : decides_now by m ≡ false
  pub groups : (group : Group) → Contains (groups_of m) group → Contains group.authors by → ⊥

-- so of every job command
abbrev pub IsBeside : Instance → Moment → Type 0
IsBeside inst m = (by : By) → IsSome (inst.asks by) → IsAside by m

-- these transactions land in `primary` under this number
abbrev pub landing : ℕ → List (Option By) → List Group → Moment
landing number authors groups =
    Served (service.Happened (event.Landed primary number authors groups))

-- of job commands the landing carries out this one, by this transaction
pub record CarriesOut (inst : Instance) (by : By) (group : Group) (authors : List (Option By))
    (groups : List Group) : Type 0 where
  pub names : authors ≡ names_of groups
  pub one : Contains groups group
  pub alone : group.authors ≡ by ∷ []
  pub only : (other : Group) (command : By) → Contains groups other
      → Contains other.authors command → IsSome (inst.asks command) → other ≡ group

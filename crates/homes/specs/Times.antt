-- What keeps time, and the seconds at which something happens.
use Rattle.std.specs.Prelude.{ℕ, ◌&&◌, not, List, [], Bool, false, flat_map, slice_get, if◌then◌else◌}
use Rattle.std.specs.Option.{option_map_or}
use Rattle.instance.specs.Family.{ends_left, is_due, may_end, targets_left}
use Rattle.homes.specs.declared.homes.Home.{Home}
use Rattle.homes.specs.declared.homes.Place.{Place}

-- the place of an actor, and the instance in which it stands, say this
abbrev pub at_home : List Home → (Home → Bool) → Place → Bool
at_home homes says p = option_map_or
    (λ i. option_map_or says (slice_get homes i) false) p.home false

-- whether a living child may go, by what its parent says
abbrev pub may_go : List Home → Home → Bool
may_go homes h = option_map_or
    (λ o. option_map_or
    (λ parent. not h.gone && may_end parent.instance o.job h.shuts)
    (slice_get homes o.parent) false)
    h.origin false

-- whether something is posted or due in an instance that lives
abbrev pub has_due : Home → Bool
has_due h = not h.gone && is_due h.instance

-- whether an actor waits whose instance has gone
abbrev pub is_left : List Home → Place → Bool
is_left homes p = at_home homes (λ h. p.waits && h.gone) p

-- the seconds ahead that open advances wait for, and those at which commands or resources end
abbrev pub of_living : (Home → List ℕ) → Home → List ℕ
of_living of h = if h.gone then [] else of h

abbrev pub all_targets : List Home → List ℕ
all_targets homes = flat_map (of_living (λ h. targets_left h.instance)) homes

abbrev pub all_ends : List Home → List ℕ
all_ends homes = flat_map (of_living (λ h. ends_left h.instance)) homes

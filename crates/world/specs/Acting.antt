-- Where the actor stands whose step is made.
use Rattle.std.specs.Prelude.{◌≡◌, ℕ, List, true, false, Some, option_and_then, slice_get}
use Rattle.std.specs.Option.{option_map_or}
use Rattle.homes.specs.declared.homes.Home.{Home}
use Rattle.homes.specs.declared.homes.Place.{Place}

-- the place of an actor is in the instance of this number
abbrev pub IsPlacedIn : List Place → ℕ → ℕ → Type 0
IsPlacedIn places actor number =
    option_and_then (λ p. p.home) (slice_get places actor) ≡ Some number

-- the instance of this number has gone
abbrev pub IsGoneAt : List Home → ℕ → Type 0
IsGoneAt homes number = option_map_or (λ h. h.gone) (slice_get homes number) false ≡ true

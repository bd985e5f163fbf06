-- Live jobs in order of their ids.
use Rattle.std.specs.Prelude.{ℕ, ◌==◌, nat_lt, List, [], ◌∷◌, not, map, filter, Contains, if◌then◌else◌}
use Rattle.job_rules.specs.declared.hold.Hold.{Hold}

-- the live jobs with one more, in order of id, and without one
abbrev pub with_hold : Hold → List Hold → List Hold
with_hold hold [] = hold ∷ []
with_hold hold (first ∷ holds) =
    if nat_lt hold.id first.id then hold ∷ first ∷ holds else first ∷ with_hold hold holds

abbrev pub without_hold : ℕ → List Hold → List Hold
without_hold id holds = filter (λ hold. not (hold.id == id)) holds

-- the job isn't live
abbrev pub IsNew : ℕ → List Hold → Type 0
IsNew id holds = Contains (map (λ hold. hold.id) holds) id → ⊥

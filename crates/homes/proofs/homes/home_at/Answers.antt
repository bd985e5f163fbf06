use Rattle.std.proofs.Common.{◌≡◌, ◌≤◌, ℕ, zero, suc, List, [], ◌∷◌, None, length, refl, sym, arith}
use Rattle.std.specs.Prelude.{slice_get}
use Rattle.std.proofs.lemmas.Bool.{ltb-false, ltb-true}
use Rattle.homes.proofs.Finding.{home_read}
use Rattle.homes.proofs.homes.home_at.Goals as goal

-- nothing stands past the end
past : {X : Type 0} (xs : List X) (n : ℕ) → length xs ≤ n → slice_get xs n ≡ None
past [] n far = refl
past (x ∷ xs) zero far = absurd (omega (arith, far))
past (x ∷ xs) (suc n) far = past xs n (omega (arith, far))

pub returns-in-Some : goal.returns-in-Some
returns-in-Some c = sym (home_read c.args.homes.now c.args.number c.in-Some.home.now (ltb-true _ _ (sym c.in-Some.ensures.lookup.0)) c.in-Some.ensures.lookup.1)

pub returns-in-None : goal.returns-in-None
returns-in-None c = sym (past c.args.homes.now c.args.number (ltb-false _ _ (sym c.in-None.ensures.lookup.0)))

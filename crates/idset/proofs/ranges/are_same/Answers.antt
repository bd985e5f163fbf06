use Rattle.std.proofs.Common.{◌≡◌, ℕ, true, ◌&&◌, eqb, Decides, ap, ◌∙◌, arith}
use Rattle.std.proofs.lemmas.Bool.Decides.{nat_tests}
use Rattle.std.proofs.lemmas.Slice.Eq.{slice_eq-Decides}
use Rattle.idset.specs.declared.ranges.IdRange.{IdRange}
use Rattle.idset.proofs.ranges.are_same.Goals as goal

same_ends : (a b : IdRange) → a.first ≡ b.first → a.last ≡ b.last → a ≡ b
same_ends a b e h = ap (λ (n : ℕ). let r : IdRange = record { first = n; last = a.last } in r) e ∙ ap (λ (n : ℕ). let r : IdRange = record { first = b.first; last = n } in r) h

tested : (a b c d : ℕ) → (eqb a b && eqb c d) ≡ true → (a ≡ b) × (c ≡ d)
tested a b c d h = grind (arith, nat_tests)

tests_true : (a b c d : ℕ) → a ≡ b → c ≡ d → (eqb a b && eqb c d) ≡ true
tests_true a b c d h i = grind (arith, nat_tests)

range_decides : (a b : IdRange) → Decides (eqb a.first b.first && eqb a.last b.last) (a ≡ b)
range_decides a b = (λ e. let t = tested a.first b.first a.last b.last e in same_ends a b t.0 t.1, λ e. tests_true a.first b.first a.last b.last (ap (λ r. r.first) e) (ap (λ r. r.last) e))

pub returns : goal.returns
returns c = slice_eq-Decides range_decides c.args.ranges.now c.args.others.now c.eq.result c.eq.ensures

use Rattle.std.proofs.Common.{◌≡◌, ℕ, ◌∙◌, sym, ap, List}
use Rattle.std.specs.Prelude.{Some, None, slice_get}
use Rattle.idset.specs.Ranges.{AreApart, ids_in}
use Rattle.idset.specs.declared.ranges.IdRange.{IdRange}
use Rattle.idset.proofs.Sets.{first_some, first_none}
use Rattle.idset.proofs.set.IdSet.first.Goals as goal

found : (rs slice : List IdRange) (r : IdRange) (ids : List ℕ) → AreApart 0 rs → ids_in rs ≡ ids → slice ≡ rs → Some r ≡ slice_get slice 0 → Some r.first ≡ slice_get ids 0
found rs slice r ids a v s e = sym (first_some rs r a (ap (λ xs. slice_get xs 0) (sym s) ∙ sym e)) ∙ ap (λ xs. slice_get xs 0) v

nothing : (rs slice : List IdRange) (ids : List ℕ) → ids_in rs ≡ ids → slice ≡ rs → None ≡ slice_get slice 0 → None ≡ slice_get ids 0
nothing rs slice ids v s e = sym (first_none rs (ap (λ xs. slice_get xs 0) (sym s) ∙ sym e)) ∙ ap (λ xs. slice_get xs 0) v

pub returns-in-Some : goal.returns-in-Some
returns-in-Some c = found c.self.inside.ranges.items c.deref.result.now c.in-Some.range.now c.args.self.now c.self.invariant c.self.view_is c.deref.ensures.value c.in-Some.ensures.value

pub returns-in-None : goal.returns-in-None
returns-in-None c = nothing c.self.inside.ranges.items c.deref.result.now c.args.self.now c.self.view_is c.deref.ensures.value c.in-None.ensures.value

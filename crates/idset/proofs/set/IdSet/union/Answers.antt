use Rattle.std.proofs.Common.{◌≡◌, ◌∙◌, ◌++◌, List, ap}
use Rattle.std.proofs.lemmas.List.Elements.{All-append}
use Rattle.idset.specs.Ids.{union_of}
use Rattle.idset.specs.Ranges.{IsRange, ids_in}
use Rattle.idset.specs.declared.ranges.IdRange.{IdRange}
use Rattle.idset.proofs.Sets.{ids_in-append, all_ranges}
use Rattle.idset.proofs.set.IdSet.union.Goals as goal

-- the ranges of both
both : (list xs ys slice a b : List IdRange) → list ≡ xs ++ ys → xs ≡ slice → slice ≡ a → ys ≡ b → list ≡ a ++ b
both list xs ys slice a b e f g h = e ∙ ap (λ t. t ++ ys) (f ∙ g) ∙ ap (λ t. a ++ t) h

pub of_ranges-requires : goal.of_ranges-requires
of_ranges-requires c =
    let a = c.self.inside.ranges.items in
    let b = c.other.inside.ranges.items in
    rw (both _ _ _ _ a b c.in_ok-extend_from_slice.ensures.items c.in_ok-ranges.ensures.items c.deref.ensures.value c.deref-2.ensures.value) (All-append IsRange a b (all_ranges a 0 c.self.invariant) (all_ranges b 0 c.other.invariant))

pub returns : goal.returns
returns c =
    let a = c.self.inside.ranges.items in
    let b = c.other.inside.ranges.items in
    c.in_ok-set.ensures ∙ ap ids_in (both _ _ _ _ a b c.in_ok-extend_from_slice.ensures.items c.in_ok-ranges.ensures.items c.deref.ensures.value c.deref-2.ensures.value)
    ∙ ids_in-append a b c.self.invariant c.other.invariant ∙ ap (λ x. union_of x (ids_in b)) c.self.view_is ∙ ap (λ x. union_of c.args.self.now x) c.other.view_is

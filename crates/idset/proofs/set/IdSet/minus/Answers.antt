use Rattle.std.proofs.Common.{◌∙◌, ◌++◌, not, ap}
use Rattle.std.proofs.lemmas.List.Elements.{All-append}
use Rattle.idset.specs.Ids.{minus_of}
use Rattle.idset.specs.Ranges.{IsRange, ids_in, are_in}
use Rattle.idset.proofs.Sets.{ids_in-minus, all_ranges}
use Rattle.idset.proofs.set.IdSet.minus.Goals as goal

pub joined-requires : goal.joined-requires
joined-requires c =
    let b = c.other.inside.ranges.items in
    rw (c.in_ok-extend_from_slice.ensures.items, c.deref-2.ensures.value) (All-append IsRange c.in_ok-ranges.ranges.items b (all_ranges _ 0 c.in_ok-ranges.ensures.apart) (all_ranges b 0 c.other.invariant))

pub returns : goal.returns
returns c =
    let a = c.self.inside.ranges.items in
    let b = c.other.inside.ranges.items in
    let g = c.in_ok-ranges.ranges.items in
    ids_in-minus a b g c.in_ok-joined.field-0.items c.in_ok-ranges-2.ranges.items c.self.invariant c.other.invariant
    (λ id small. c.in_ok-ranges.ensures.others id small ∙ ap (λ rs. not (are_in rs id)) c.deref.ensures.value)
    (λ id. c.in_ok-joined.ensures.same id ∙ ap (λ rs. are_in rs id) (c.in_ok-extend_from_slice.ensures.items ∙ ap (λ t. g ++ t) c.deref-2.ensures.value))
    (λ id small. c.in_ok-ranges-2.ensures.others id small ∙ ap (λ rs. not (are_in rs id)) c.deref-3.ensures.value)
    ∙ ap (λ x. minus_of x (ids_in b)) c.self.view_is ∙ ap (λ x. minus_of c.args.self.now x) c.other.view_is

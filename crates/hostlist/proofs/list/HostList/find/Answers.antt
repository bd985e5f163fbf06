use Rattle.std.proofs.Common.{◌≡◌, ◌≢◌, ◌<◌, ap, ◌∙◌, refl, sym, length, below_more, arith}
use Rattle.std.specs.Prelude.{Some, slice_get}
use Rattle.std.proofs.lemmas.Bool.{false≢true}
use Rattle.std.proofs.lemmas.Option.{slice_get_read, slice_get_within}
use Rattle.std.proofs.lemmas.Slice.Eq.{bytes_eq-Decides}
use Rattle.hostlist.proofs.list.HostList.find.Goals as goal

pub returns-then-eq-clause-found : goal.returns-then-eq-clause-found
returns-then-eq-clause-found c =
    let items = c.as_slice-own-items.result.now in
    let whole : items ≡ c.args.self.now = c.as_slice-own-items.ensures.value ∙ c.self.view_is in
    let here : slice_get items c.loop-place.place ≡ Some c.own-item.result = slice_get_read items (length items) c.loop-place.place c.own-item.result refl c.loop-place-test.true c.own-item.is in
    let same : c.as_slice.result.now ≡ c.args.name.now = (bytes_eq-Decides c.as_slice.result.now c.args.name.now).0 (sym c.eq.ensures ∙ c.if-eq.true) in
    ap (λ xs. slice_get xs c.loop-place.place) (sym whole) ∙ here ∙ ap Some (sym c.as_slice.ensures ∙ same)

pub loop-place-preserved : goal.loop-place-preserved
loop-place-preserved c =
    let items = c.as_slice-own-items.result.now in
    let here : slice_get items c.loop-place.place ≡ Some c.own-item.result = slice_get_read items (length items) c.loop-place.place c.own-item.result refl c.loop-place-test.true c.own-item.is in
    let other : slice_get items c.loop-place.place ≢ Some c.args.name.now = λ h.
    let same : c.as_slice.result.now ≡ c.args.name.now = cc (here, h, c.as_slice.ensures) in
    false≢true (sym c.if-eq.false ∙ c.eq.ensures ∙ (bytes_eq-Decides c.as_slice.result.now c.args.name.now).1 same) in
    below_more _ _ c.loop-place.invariant other

pub returns-clause-absent : goal.returns-clause-absent
returns-clause-absent c none k h =
    let items = c.as_slice-own-items.result.now in
    let whole : items ≡ c.args.self.now = c.as_slice-own-items.ensures.value ∙ c.self.view_is in
    let there : slice_get items k ≡ Some c.args.name.now = ap (λ xs. slice_get xs k) whole ∙ h in
    let within : k < length items = slice_get_within items k c.args.name.now there in
    c.loop-place.invariant k (omega arith) there

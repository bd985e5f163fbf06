use Rattle.std.proofs.Common.{◌≡◌, ◌<◌, ◌≤◌, [], length, get_or, arith, refl, sym, ap, ◌∙◌, subst}
use Rattle.std.proofs.lemmas.List.{take_all}
use Rattle.run_picture.specs.Columns.{AreColumns, ends_of}
use Rattle.run_picture.specs.Follows.{IsFollowed}
use Rattle.run_picture.proofs.Drawn.{begun, ended, entered, run_part}
use Rattle.run_picture.proofs.drawing.followed.Goals as goal

pub loop-entry-init : goal.loop-entry-init
loop-entry-init c = λ set shown subject.
    begun set c.args.chronicle.now c.args.subject.number c.args.subject.brokers c.args.places.now c.in_ok-following.following
    (run_part set c.args.chronicle.now [] c.args.chronicle.now refl shown.run) shown.start subject.size c.in_ok-following.ensures

pub loop-entry-preserved : goal.loop-entry-preserved
loop-entry-preserved c = λ set shown subject.
    let same : c.as_slice-entry-items.result.now ≡ c.args.chronicle.now = c.as_slice-entry-items.ensures in
    let here : c.loop-entry.entry-index < length c.args.chronicle.now = omega (arith, c.loop-entry-test.true, ap length same) in
    entered c.args.chronicle.now c.loop-entry.entry-index c.args.subject.number c.args.subject.brokers c.args.places.now c.entry-item.result c.loop-entry.following c.enter.new.self
    here (c.entry-item.is ∙ ap (λ l. get_or l c.loop-entry.entry-index c.entry-item.result) same) c.in_ok-enter.ensures set shown subject (c.loop-entry.invariant set shown subject)

pub returns : goal.returns
returns c = λ set shown subject.
    let same : c.as_slice-entry-items.result.now ≡ c.args.chronicle.now = c.as_slice-entry-items.ensures in
    let over : length c.args.chronicle.now ≤ c.loop-entry.entry-index = omega (arith, c.loop-entry-test.false, ap length same) in
    let at : IsFollowed set c.args.chronicle.now c.args.subject.number c.args.subject.brokers c.args.places.now c.loop-entry.following =
    subst (λ past. IsFollowed set past c.args.subject.number c.args.subject.brokers c.args.places.now c.loop-entry.following) (take_all c.loop-entry.entry-index c.args.chronicle.now over) (c.loop-entry.invariant set shown subject) in
    subst (λ f. AreColumns set c.args.subject.number c.args.places.now (ends_of set c.args.chronicle.now c.args.subject.number) f.columns) (sym (c.in_ok-end_second.ensures at.drawn))
    (ended set c.args.chronicle.now c.args.subject.number c.args.subject.brokers c.args.places.now c.loop-entry.following shown at)

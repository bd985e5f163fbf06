use Rattle.std.proofs.Common.{◌≡◌, ◌<◌, ◌≤◌, length, get_or, arith, ap, ◌∙◌, subst}
use Rattle.std.proofs.lemmas.List.{take_all}
use Rattle.hierarchy.specs.Births.{numbers}
use Rattle.run_picture.specs.Columns.{AreScenes}
use Rattle.run_picture.proofs.Drawn.{born_further}
use Rattle.run_picture.proofs.drawing.picture_of.Goals as goal

pub loop-entry-preserved : goal.loop-entry-preserved
loop-entry-preserved c = λ set shown size resources.
    let same : c.as_slice-entry-items.result.now ≡ c.args.chronicle.now = c.as_slice-entry-items.ensures in
    let here : c.loop-entry.entry-index < length c.args.chronicle.now = omega (arith, c.loop-entry-test.true, ap length same) in
    born_further c.args.chronicle.now c.args.rows c.loop-entry.entry-index c.entry-item.result c.loop-entry.picture c.add_born.new.picture
    here (c.entry-item.is ∙ ap (λ l. get_or l c.loop-entry.entry-index c.entry-item.result) same) c.in_ok-add_born.ensures set shown (c.loop-entry.invariant set shown size resources)

pub returns : goal.returns
returns c = λ set shown size resources.
    let same : c.as_slice-entry-items.result.now ≡ c.args.chronicle.now = c.as_slice-entry-items.ensures in
    let over : length c.args.chronicle.now ≤ c.loop-entry.entry-index = omega (arith, c.loop-entry-test.false, ap length same) in
    subst (λ past. AreScenes set c.args.chronicle.now c.args.rows (numbers past) c.loop-entry.picture) (take_all c.loop-entry.entry-index c.args.chronicle.now over) (c.loop-entry.invariant set shown size resources)

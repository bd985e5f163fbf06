use Rattle.std.proofs.Common.{◌≡◌, IfOk, length, sym, ap, ◌∙◌, subst}
use Rattle.std.specs.Prelude.{min}
use Rattle.hierarchy.specs.Births.{Birth, birth_in}
use Rattle.hierarchy.specs.Own.{brokers_for, most_brokers}
use Rattle.run_picture.specs.Columns.{IsScene}
use Rattle.run_picture.specs.Shown.{AddsBorn, IsSubject}
use Rattle.run_picture.proofs.Drawn.{adds_none, adds_one, no_birth}
use Rattle.run_picture.proofs.drawing.add_born.Goals as goal

pub returns-in_ok-push : goal.returns-in_ok-push
returns-in_ok-push c =
    let e = c.in-Born in
    let b : Birth = record { child = e.child; parent = e.parent; job = e.job; label = e.label; second = e.second; grant = e.grant } in
    let brokers : brokers_for b ≡ c.min.result = sym (c.min.ensures ∙ ap (λ l. min (length l) most_brokers) c.as_slice.ensures) in
    subst (λ p. AddsBorn c.args.chronicle.now c.args.rows c.args.entry.now c.args.picture.now p) (sym c.in_ok-push.ensures.added)
    (adds_one c.args.chronicle.now c.args.rows c.args.entry.now b c.args.picture.now c.in_ok-scene_of.field-0 (ap birth_in e.is) (λ set shown subject given.
    subst (λ r. IfOk r (IsScene set c.args.chronicle.now c.args.rows e.child)) c.in_ok-scene_of.was
    (c.scene_of.ensures set shown (subst (IsSubject set c.args.chronicle.now e.child) brokers subject) given)))

pub returns-in_default : goal.returns-in_default
returns-in_default c = adds_none c.args.chronicle.now c.args.rows c.args.entry.now c.args.picture.now (no_birth c.args.entry.now c.in_default.not-Born)

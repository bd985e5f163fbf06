use Rattle.std.proofs.Common.{◌≡◌, ◌∙◌, ◌<◌, ap, sym, arith}
use Rattle.std.proofs.lemmas.Bool.{lt-ltb}
use Rattle.instance.specs.kvs_keys.Walk.{nth}
use Rattle.world.specs.Choice.{losses_left}
use Rattle.world.proofs.Losing.{no_losses, some_losses}
use Rattle.world.proofs.run.World.nth_loss.Goals as goal

pub returns-then-losses_left-eq0 : goal.returns-then-losses_left-eq0
returns-then-losses_left-eq0 c =
    let v = c.args.self.now in
    let same = ap (λ v. losses_left v.order) c.self.view_is in
    sym (ap (λ xs. nth xs c.args.number) (no_losses v (omega (arith, same, c.losses_left.ensures, c.if-losses_left-eq0.true))))

pub returns-else-losses_left-eq0 : goal.returns-else-losses_left-eq0
returns-else-losses_left-eq0 c =
    let v = c.args.self.now in
    let same = ap (λ v. losses_left v.order) c.self.view_is in
    let some : 0 < losses_left v.order = omega (arith, same, c.losses_left.ensures, c.if-losses_left-eq0.false) in
    c.nth_of.ensures ∙ sym (ap (λ xs. nth xs c.args.number) (some_losses v (lt-ltb 0 (losses_left v.order) some)))

use Rattle.std.proofs.Common.{◌≡◌, ◌∙◌, ap, sym, subst, true≢false}
use Rattle.std.specs.Prelude.{Ok, Err}
use Rattle.instance.specs.kvs_keys.Walk.{nth}
use Rattle.instance.proofs.kvs_keys_proofs.Walking.{behind, within}
use Rattle.world.specs.Order.{before_end, losses}
use Rattle.world.specs.Sound.{IsRunning}
use Rattle.world.proofs.Choosing.{listed_at}
use Rattle.world.proofs.Losing.{loss_can, loss_may, unlost}
use Rattle.world.proofs.run.World.nth_with_losses.Goals.{After-nth}
use Rattle.world.proofs.run.World.nth_with_losses.Goals as goal

running : (c : After-nth) → IsRunning c.args.self.now
running c =
    let h = c.self.invariant (ap (λ v. v.spent) c.self.view_is ∙ c.requires.ready) in
    subst IsRunning c.self.view_is (h.runs (ap (λ v. v.closed) c.self.view_is ∙ c.requires.runs))

pub returns-in-Ok-clause-value : goal.returns-in-Ok-clause-value
returns-in-Ok-clause-value c =
    let v = c.args.self.now in
    sym (within (before_end v) (losses v) c.args.number c.in-Ok.step (sym c.in-Ok.ensures.value))

pub returns-in-Ok-clause-may : goal.returns-in-Ok-clause-may
returns-in-Ok-clause-may c = λ loss.
    let v = c.args.self.now in
    absurd (true≢false (sym loss ∙ unlost v c.in-Ok.step (listed_at (before_end v) c.args.number c.in-Ok.step (sym c.in-Ok.ensures.value))))

pub returns-in-Err-clause-value : goal.returns-in-Err-clause-value
returns-in-Err-clause-value c =
    let v = c.args.self.now in
    c.nth_loss.ensures ∙ sym (behind (before_end v) (losses v) c.args.number c.in-Err.left (sym c.in-Err.ensures.value))

pub returns-in-Err-clause-can : goal.returns-in-Err-clause-can
returns-in-Err-clause-can c =
    loss_can c.args.self.now c.in-Err.left c.requires.runs (running (goal.at.returns-in-Err-clause-can c).After-nth) c.nth_loss.result c.nth_loss.ensures

pub returns-in-Err-clause-may : goal.returns-in-Err-clause-may
returns-in-Err-clause-may c = loss_may c.args.self.now c.in-Err.left c.nth_loss.result c.nth_loss.ensures

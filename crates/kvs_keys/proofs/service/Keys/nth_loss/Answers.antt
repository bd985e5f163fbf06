use Rattle.std.proofs.Common.{◌∙◌, ◌++◌, sym}
use Rattle.kvs_space.specs.declared.links.Loss.TheVariants as loss
use Rattle.kvs_keys.specs.Order.{losses}
use Rattle.kvs_keys.specs.Steps.{can_step}
use Rattle.kvs_keys.proofs.Walking.{behind-all, within-all}
use Rattle.kvs_keys.proofs.service.Keys.nth_loss.Goals as goal

pub returns-in-Ok-clause-value : goal.returns-in-Ok-clause-value
returns-in-Ok-clause-value c =
    let v = c.args.self.now in
    sym (within-all (can_step v) (losses v.size loss.Lost) (losses v.size loss.Repeated ++ losses v.size loss.Swapped) c.args.number c.in-Ok.step (sym c.nth_loss_of.ensures.value ∙ c.in-Ok.is))

pub returns-in-Ok-nth_loss_of-clause-value : goal.returns-in-Ok-nth_loss_of-clause-value
returns-in-Ok-nth_loss_of-clause-value c =
    let v = c.args.self.now in
    sym (behind-all (can_step v) (losses v.size loss.Lost) (losses v.size loss.Repeated ++ losses v.size loss.Swapped) c.args.number c.in-Err.left (sym c.nth_loss_of.ensures.value ∙ c.in-Err.is)
    ∙ within-all (can_step v) (losses v.size loss.Repeated) (losses v.size loss.Swapped) c.in-Err.left c.in-Ok-nth_loss_of.step (sym c.nth_loss_of-2.ensures.value ∙ c.in-Ok-nth_loss_of.is))

pub returns-clause-value : goal.returns-clause-value
returns-clause-value c =
    let v = c.args.self.now in
    sym (behind-all (can_step v) (losses v.size loss.Lost) (losses v.size loss.Repeated ++ losses v.size loss.Swapped) c.args.number c.in-Err.left (sym c.nth_loss_of.ensures.value ∙ c.in-Err.is)
    ∙ behind-all (can_step v) (losses v.size loss.Repeated) (losses v.size loss.Swapped) c.in-Err.left c.in-Err-nth_loss_of.left (sym c.nth_loss_of-2.ensures.value ∙ c.in-Err-nth_loss_of.is)
    ∙ sym c.nth_loss_of-3.ensures.value)

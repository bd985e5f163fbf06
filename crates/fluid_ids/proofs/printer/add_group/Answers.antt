use Rattle.fluid_ids.specs.Texts.{base_16}
use Rattle.fluid_ids.proofs.Digits.{four}
use Rattle.fluid_ids.proofs.printer.add_group.Goals as goal

pub returns : goal.returns
unfolding base_16
returns c = rw (c.in_ok-push-4.ensures.items, c.in_ok-push-3.ensures.items, c.in_ok-push-2.ensures.items, c.in_ok-push.ensures.items) (four _ _ _ _ _)

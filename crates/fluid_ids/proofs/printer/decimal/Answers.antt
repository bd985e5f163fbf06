use Rattle.std.proofs.Common.{◌∙◌}
use Rattle.fluid_ids.specs.Texts.{base_10, printed}
use Rattle.fluid_ids.proofs.printer.decimal.Goals as goal

pub returns : goal.returns
unfolding printed base_10
returns c = c.reverse.ensures.items ∙ c.in_ok-text.ensures

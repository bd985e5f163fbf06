use Rattle.fluid_ids.specs.Texts.{base_16}
use Rattle.fluid_ids.proofs.reader.dotted.Goals as goal

pub returns : goal.returns
unfolding base_16
returns c = c.number.ensures

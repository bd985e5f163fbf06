use Rattle.std.proofs.Common.{refl}
use Rattle.tree_look.proofs.texts.without_names.Goals as goal

pub returns-in-NoMemory : goal.returns-in-NoMemory
returns-in-NoMemory c = λ e. refl

pub returns-in_default : goal.returns-in_default
returns-in_default c = λ e. absurd (c.in_default.not-NoMemory e)

use Rattle.answers.proofs.Never.{never_fall}
use Rattle.answers.proofs.laws.numbers_never_fall.Goals as goal

pub returns : goal.returns
returns c set chronicle past between by later given next number second root legal parts knows e there =
    never_fall set chronicle past between by later given next number second root legal parts knows e there

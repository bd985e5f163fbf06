use Rattle.answers.proofs.Carried.{unasked_uncarried}
use Rattle.answers.proofs.laws.what_never_asked_is_uncarried.Goals as goal

pub returns : goal.returns
returns c set d by legal none unasked = unasked_uncarried set by none d legal unasked

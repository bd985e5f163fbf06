use Rattle.answers.proofs.Floors.{named_seen, known_seen, knows_itself}
use Rattle.answers.proofs.laws.what_is_told_is_seen.Goals as goal

pub returns-clause-named : goal.returns-clause-named
returns-clause-named c = named_seen

pub returns-clause-told : goal.returns-clause-told
returns-clause-told c work chronicle more first actor space knows = known_seen work chronicle more first actor space knows

pub returns-clause-itself : goal.returns-clause-itself
returns-clause-itself c = knows_itself

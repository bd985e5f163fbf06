use Rattle.kvs_joined.proofs.Joining.{ended, grounds}
use Rattle.kvs_joined.proofs.laws.a_walk_that_ends_was_held.Goals as goal

pub returns-clause-held : goal.returns-clause-held
returns-clause-held c = ended

pub returns-clause-grounds : goal.returns-clause-grounds
returns-clause-grounds c = grounds

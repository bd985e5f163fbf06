use Rattle.kvs_joined.proofs.Joining.{stands-there, stores-held}
use Rattle.kvs_joined.proofs.laws.roots_are_those_of_the_log.Goals as goal

pub returns-clause-stores : goal.returns-clause-stores
returns-clause-stores c = stores-held

pub returns-clause-stands : goal.returns-clause-stands
returns-clause-stands c = stands-there

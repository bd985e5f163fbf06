use Rattle.kvs_joined.proofs.Pinned.{none-pinned, walk-begins, walk-ends, walk-goes}
use Rattle.kvs_joined.proofs.laws.pins_are_those_of_open_walks.Goals as goal

pub returns-clause-begins : goal.returns-clause-begins
returns-clause-begins c = walk-begins

pub returns-clause-goes : goal.returns-clause-goes
returns-clause-goes c = walk-goes

pub returns-clause-ends : goal.returns-clause-ends
returns-clause-ends c = walk-ends

pub returns-clause-none : goal.returns-clause-none
returns-clause-none c = none-pinned

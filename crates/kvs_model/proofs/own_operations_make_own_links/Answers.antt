use Rattle.kvs_model.proofs.OneStore.{ops_own, groups_own, landings_own}
use Rattle.kvs_model.proofs.own_operations_make_own_links.Goals as goal

pub returns-clause-operations : goal.returns-clause-operations
returns-clause-operations c who space number ops st h own = ops_own who space number ops st h own

pub returns-clause-groups : goal.returns-clause-groups
returns-clause-groups c space groups st h own = groups_own space groups st h own

pub returns-clause-landings : goal.returns-clause-landings
returns-clause-landings c space landings number st h own = landings_own space landings number st h own

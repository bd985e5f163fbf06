use Rattle.kvs_keys.proofs.Queueing.{lands-users}
use Rattle.kvs_keys.proofs.laws.users_land_where_nothing_is_posted.Goals as goal

pub returns : goal.returns
returns c = λ events left none. lands-users events left none

use Rattle.kvs_model.proofs.OneStore.{walk_is_own, none_used, resolved_is_own}
use Rattle.kvs_model.proofs.own_links_stay_in_their_store.Goals as goal

pub returns-clause-walk : goal.returns-clause-walk
returns-clause-walk c family space st asked path there own = walk_is_own family space st asked there own path

pub returns-clause-used : goal.returns-clause-used
returns-clause-used c family space st asked path there own = none_used family space st asked there own path

pub returns-clause-resolved : goal.returns-clause-resolved
returns-clause-resolved c st path own = resolved_is_own st own path

use Rattle.kvs_keys.proofs.Ordering.{leads-past}
use Rattle.kvs_keys.proofs.order.first_delivery.Goals as goal

pub returns-clause-announced : goal.returns-clause-announced
returns-clause-announced c = λ to above within h. leads-past _ _ _ to c.earlier.ensures.one (c.first_announced.ensures.first to above within h)

pub returns-clause-carried : goal.returns-clause-carried
returns-clause-carried c = λ from to h. leads-past _ _ from to c.earlier.ensures.other (c.first_message.ensures.first from to h)

use Rattle.tree_rules.proofs.Blobs.{needs_are_own, own_blob}
use Rattle.tree_rules.proofs.own_links_need_their_store.Goals as goal

pub returns-clause-needs : goal.returns-clause-needs
returns-clause-needs c hash family space st asked path there own = needs_are_own hash family space st there asked path own

pub returns-clause-blobs : goal.returns-clause-blobs
returns-clause-blobs c = own_blob

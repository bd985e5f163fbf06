use Rattle.hostlist_laws.proofs.Origins.{text_has_items, hosts_are}
use Rattle.hostlist_laws.proofs.laws.texts_without_fault_are_of_items.Goals as goal

pub returns : goal.returns
returns c = λ text h. let from = text_has_items text h in (from.items, from.valid, from.text_is, hosts_are text from)

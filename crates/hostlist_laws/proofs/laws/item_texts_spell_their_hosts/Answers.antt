use Rattle.hostlist_laws.proofs.Spelling.{items_spelled, few, many}
use Rattle.hostlist_laws.proofs.laws.item_texts_spell_their_hosts.Goals as goal

pub returns : goal.returns
returns c = record {
  clean = λ items h. (items_spelled items h).clean;
  hosts = λ items h. (items_spelled items h).hosts_are;
  few = λ items h short. few items h short;
  many = λ items h long. many items h long;
}

use Rattle.resource_set.proofs.Canonical.{some_ranks, rising_ranks, rising_firsts}
use Rattle.resource_set.proofs.laws.entries_stand_in_the_order_of_ranks.Goals as goal

pub returns : goal.returns
returns c = record { some = some_ranks; rising = rising_ranks; order = rising_firsts }

use Rattle.resource_set.proofs.Canonical.{in_one}
use Rattle.resource_set.proofs.Regroup.{ranks_again}
use Rattle.resource_set.proofs.laws.each_host_stands_in_one_entry.Goals as goal

pub returns : goal.returns
returns c = record { one = in_one; no_other = ranks_again }

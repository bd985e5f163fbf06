use Rattle.std.proofs.Common.{arith}
use Rattle.std.proofs.lemmas.List.FromFn.{length-map-range_with_len}
use Rattle.hostlist.specs.Parts.{part_hosts}
use Rattle.hostlist.proofs.parts.Part.count.Goals as goal

pub returns-in-Some : goal.returns-in-Some
unfolding part_hosts
returns-in-Some c = rw c.in-Some.is (rw length-map-range_with_len (omega (arith, c.from.ensures)))

use Rattle.std.proofs.Common.{◌≡◌, ap, length, arith}
use Rattle.std.specs.Prelude.{option_copied}
use Rattle.hostlist.specs.Reading.{hosts_in, spelled, pieces}
use Rattle.hostlist.specs.Parts.{left}
use Rattle.std.specs.Prelude.{None}
use Rattle.hostlist.proofs.PieceLemmas.{fault_begins, rest_within}
use Rattle.hostlist.proofs.reading.count_hosts.Goals as goal

pub loop-rest-init : goal.loop-rest-init
unfolding spelled
loop-rest-init c =
    let text = c.args.text.now in
    let rest = option_copied c.uncut-rest.result in
    let hosts : length (hosts_in None (left rest)) ≡ length (hosts_in None (pieces text)) = ap (λ ps. length (hosts_in None ps)) c.uncut-rest.ensures.left in
    record {
      within = rest_within text rest c.uncut-rest.ensures.whole;
      fault = fault_begins text rest c.uncut-rest.ensures.left c.uncut-rest.ensures.whole;
      count = omega (arith, hosts);
      small = omega arith;
    }

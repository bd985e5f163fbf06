use Rattle.std.proofs.Common.{sym, subst}
use Rattle.hostlist.specs.Names.{AreHostNames}
use Rattle.resource_set.specs.Units.{host_names}
use Rattle.graph_match.proofs.Named.{names_within}
use Rattle.graph_match.proofs.laws.given_units_are_an_r.Goals as goal

pub returns : goal.returns
returns c = λ g grant spec now r is same fit.
    let named = subst (λ ns. AreHostNames (host_names ns)) (sym same) is.named in
    record { hosts = fit.free.hosts; named = names_within g.grant g.live r.nodes named fit.free.inside }

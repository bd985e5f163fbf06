use Rattle.job_rules.specs.Fits.{free_of, nodes_of}
use Rattle.job_rules.proofs.Sets.{can_fit_enough, enough_can_fit, free_is}
use Rattle.job_rules.proofs.laws.units_satisfy_where_hosts_bring_enough.Goals as goal

pub returns : goal.returns
returns c = λ spec grant live s g.
    (can_fit_enough spec grant (free_of grant live) s (free_is grant (nodes_of live) g), enough_can_fit spec grant (free_of grant live) (free_is grant (nodes_of live) g) s)

use Rattle.std.proofs.Common.{◌∙◌, sym, ap}
use Rattle.idset.specs.Runs.{runs}
use Rattle.idset.proofs.Sets.{is_set, runs_in}
use Rattle.idset.proofs.set.IdSet.ranges.Goals as goal

pub returns-clause-runs : goal.returns-clause-runs
returns-clause-runs c = c.as_slice.ensures.value ∙ sym (runs_in c.self.inside.ranges.items c.self.invariant) ∙ ap runs c.self.view_is

pub returns-clause-set : goal.returns-clause-set
returns-clause-set c = is_set c.self.inside.ranges.items _ c.self.view_is

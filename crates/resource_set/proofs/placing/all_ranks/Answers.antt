use Rattle.std.proofs.Common.{◌≡◌, subst, arith}
use Rattle.std.proofs.lemmas.Grind.{common_steps}
use Rattle.idset.specs.Ids.{IsIdSet}
use Rattle.resource_set.specs.Reading.{ranks_of}
use Rattle.resource_set.proofs.Ranks.{on_ok}
use Rattle.resource_set.proofs.placing.all_ranks.Goals as goal

pub returns-clause-set : goal.returns-clause-set
returns-clause-set c =
    let same : c.in_ok-of_ids.field-0 ≡ ranks_of c.args.entries.now = grind (arith, common_steps) in
    on_ok c.ids-3.result (IsIdSet (ranks_of c.args.entries.now)) (subst IsIdSet same c.ids-3.ensures.set)

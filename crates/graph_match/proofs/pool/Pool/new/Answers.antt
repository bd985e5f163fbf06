use Rattle.std.proofs.Common.{◌∙◌, ap, sym, length}
use Rattle.graph_match.specs.Spots.{free_ids}
use Rattle.graph_match.proofs.Spots.{free_fresh}
use Rattle.graph_match.proofs.pool.Pool.new.Goals as goal

pub invariant_of-result : goal.invariant_of-result
invariant_of-result c = c.count-free.ensures.count ∙ sym (ap length (ap free_ids c.in_ok-spots.ensures ∙ free_fresh _ ∙ c.deref.ensures.value ∙ c.in_ok-ids.ensures.ids))

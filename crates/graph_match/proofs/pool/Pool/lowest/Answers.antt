use Rattle.std.proofs.Common.{◌∙◌, ap, take}
use Rattle.graph_match.specs.Spots.{free_ids}
use Rattle.graph_match.proofs.Spots.{lowest_small, lowest_told}
use Rattle.graph_match.proofs.pool.Pool.lowest.Goals as goal

pub of_ids-requires : goal.of_ids-requires
of_ids-requires c = lowest_small c.args.count c.args.self.now _ c.requires (c.deref-2.ensures.value ∙ c.in_ok-ids.ensures ∙ ap (λ xs. take c.args.count (free_ids xs)) (c.deref.ensures.value ∙ c.self.view_is))

pub returns : goal.returns
returns c = c.in_ok-set.ensures ∙ lowest_told c.args.count c.args.self.now _ c.requires (c.deref-2.ensures.value ∙ c.in_ok-ids.ensures ∙ ap (λ xs. take c.args.count (free_ids xs)) (c.deref.ensures.value ∙ c.self.view_is))

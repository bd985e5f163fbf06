use Rattle.std.proofs.Common.{◌≡◌, ◌<◌, map, sym, ap, ◌∙◌, subst, arith}
use Rattle.std.specs.Prelude.{All}
use Rattle.std.proofs.lemmas.List.{take_all}
use Rattle.idset.specs.Ids.{list_of}
use Rattle.idset.specs.Runs.{printed}
use Rattle.resource_set.proofs.Rising.{list_of_rising}
use Rattle.job_texts.proofs.Small.{ranks_small}
use Rattle.job_texts.proofs.texts.ranks.Goals.{After-deref}
use Rattle.job_texts.proofs.texts.ranks.Goals as goal

ranks_are : (c : After-deref) → c.deref.result.now ≡ map (λ node. node.rank) c.args.r.now.nodes
ranks_are c = c.deref.ensures.value ∙ c.loop-node.invariant ∙ ap (map (λ node. node.rank)) (take_all c.loop-node.node-index c.as_slice-node-items.result.now (omega arith) ∙ c.as_slice-node-items.ensures)

pub of_ids-requires : goal.of_ids-requires
of_ids-requires c = subst (All (λ id. id < 65536)) (sym (ranks_are c)) (ranks_small c.args.r.now.nodes c.requires.small)

pub returns : goal.returns
returns c =
    let ranks = ranks_are (goal.at.returns c).After-deref in
    let small = ranks_small c.args.r.now.nodes c.requires.small in
    c.from_vec.ensures ∙ c.in_ok-print.ensures.text
    ∙ ap printed (c.in_ok-ranks.ensures ∙ ap list_of ranks ∙ list_of_rising (map (λ node. node.rank) c.args.r.now.nodes) c.requires.rising small)

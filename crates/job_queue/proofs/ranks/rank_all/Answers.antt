use Rattle.std.proofs.Common.{◌∷◌, heap_items, rules, arith}
use Rattle.std.specs.List.Sorted.{IsPermutation}
use Rattle.std.proofs.lemmas.Result.{IfOk-at_ok}
use Rattle.job_queue.specs.Ranks.{rank_of}
use Rattle.job_queue.proofs.Ranking.{one_less_left, none_left}
use Rattle.job_queue.proofs.ranks.rank_all.Goals as goal

pub loop-id-preserved : goal.loop-id-preserved
loop-id-preserved c =
    let perm : IsPermutation (rank_of c.in-Some.id.now c.in-Some.priority.now ∷ heap_items c.loop-id.ranks) (heap_items c.push.new.self) = IfOk-at_ok (λ _. IsPermutation (rank_of c.in-Some.id.now c.in-Some.priority.now ∷ heap_items c.loop-id.ranks) (heap_items c.push.new.self)) c.unwrap.ensures c.push.ensures.permutation in
    let ranked = one_less_left c.args.priorities.now.entries c.loop-id.id-iterator c.next.new.self (c.in-Some.id.now, c.in-Some.priority.now) (heap_items c.loop-id.ranks) (heap_items c.push.new.self) c.in-Some.ensures.steps perm c.loop-id.invariant.3 in
    (search rules, search (rules, arith), search (rules, arith), ranked)

pub returns-clause-ranked : goal.returns-clause-ranked
returns-clause-ranked c = none_left c.args.priorities.now c.loop-id.id-iterator (heap_items c.loop-id.ranks) c.in-None.ensures.steps.0 c.loop-id.invariant.3

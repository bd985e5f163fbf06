use Rattle.std.proofs.Common.{◌∷◌, heap_items, subst, sym}
use Rattle.std.specs.List.Sorted.{IsPermutation}
use Rattle.std.proofs.lemmas.Result.{IfOk-at_ok}
use Rattle.job_queue.specs.Ranks.{IsRanked, rank_of}
use Rattle.job_queue.proofs.Ranking.{ranked_with}
use Rattle.job_queue.proofs.ranks.rank.Goals as goal
use Rattle.job_queue.proofs.ranks.rank.Goals.{then-len-capacity, else-len-capacity}

pub drop_outdated-requires-clause-ranked : goal.drop_outdated-requires-clause-ranked
drop_outdated-requires-clause-ranked c =
    elim c.if-len-capacity.branch [
      | then-len-capacity w ↦
          let perm = IfOk-at_ok (λ _. IsPermutation (rank_of c.args.id c.args.priority ∷ heap_items c.args.ranks.now) (heap_items w.push.new.self)) w.unwrap.ensures w.push.ensures.permutation in
          let ranked : IsRanked c.args.priorities.now (heap_items w.push.new.self) = ranked_with c.args.priorities.now (heap_items c.args.ranks.now) (heap_items w.push.new.self) c.args.id c.args.priority perm c.requires.new c.requires.ranked in
          subst (λ r. IsRanked c.args.priorities.now (heap_items r)) (sym w.ranks-is) ranked
      | else-len-capacity w ↦ subst (λ r. IsRanked c.args.priorities.now (heap_items r)) (sym w.ranks-is) w.rank_all.ensures.ranked
    ]

use Rattle.std.proofs.Common.{rules}
use Rattle.std.proofs.lemmas.Result.{on_ok_weaker}
use Rattle.std.proofs.lemmas.List.Sorted.{IsNonDecreasingBy-from_sort_by_key}
use Rattle.job_queue.proofs.Sorting.{arrival_kept}
use Rattle.job_queue.proofs.dependencies.sort_by_id.Goals as goal

pub returns : goal.returns
returns c = on_ok_weaker c.sort_by_key.result (λ sorted. record {
  same = c.sort_by_key.ensures.permutation;
  by_id = IsNonDecreasingBy-from_sort_by_key (λ s. s.id) _ sorted (λ a r q k. search rules);
  arrival = arrival_kept _ _ c.sort_by_key.ensures.stable (λ a r q k. search rules);
}) c.sort_by_key.ensures.sorted

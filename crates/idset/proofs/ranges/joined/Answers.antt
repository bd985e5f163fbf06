use Rattle.std.proofs.Common.{sym, ◌∙◌, arith, rules}
use Rattle.std.proofs.lemmas.List.Sorted.{IsNonDecreasingBy-from_sort_by_key, All-permutation, list_any-IsPermutation}
use Rattle.idset.specs.Ranges.{IsRange, is_in}
use Rattle.idset.proofs.Joins.{sorted_from}
use Rattle.idset.proofs.ranges.joined.Goals as goal

pub join_sorted-requires : goal.join_sorted-requires
join_sorted-requires c =
    rw c.deref.ensures.value (sorted_from _ 0 (λ _. omega arith)
    (IsNonDecreasingBy-from_sort_by_key (λ r. r.first) _ c.sort_unstable_by_key.ensures.sorted (λ a r q k. search rules))
    (All-permutation IsRange _ _ c.sort_unstable_by_key.ensures.permutation c.requires))

pub returns-clause-same : goal.returns-clause-same
returns-clause-same c = λ id. c.in_ok-joined.ensures.same id ∙ rw c.deref.ensures.value (sym (list_any-IsPermutation (λ r. is_in r id) _ _ c.sort_unstable_by_key.ensures.permutation))

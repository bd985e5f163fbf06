use Rattle.std.proofs.Common.{◌≡◌, ℕ, ◌<◌, ◌≤◌, true, false, cond, ltb, List, ap, ◌∙◌, sym, subst, arith, rules}
use Rattle.std.specs.Prelude.{◌⊎◌, All, Contains}
use Rattle.std.specs.List.{insert}
use Rattle.std.specs.List.Sorted.{IsPartitionPoint, IsStrictlyIncreasing}
use Rattle.std.proofs.lemmas.Bool.{ltb-true, ltb-false}
use Rattle.std.proofs.lemmas.List.Sorted.{IsPartitionPoint-from_clause, IsPartitionedBy-ltb}
use Rattle.job_book.specs.Active.{ids_in}
use Rattle.job_book.specs.declared.active.Active.{Active}
use Rattle.job_book.proofs.Actives.{inserted_from, placed}
use Rattle.job_deeds.proofs.Finding.{is_ok_then}
use Rattle.job_deeds.proofs.Places.{each_after, each_before, rise_by}
use Rattle.job_book.proofs.active.enter.Goals as goal

abbrev Parts : List Active → ℕ → ℕ → Type 0
Parts list id at = IsPartitionPoint (λ y. ltb y.id id ≡ true) (λ y. ltb y.id id ≡ false) list at

pub returns-clause-ids : goal.returns-clause-ids
returns-clause-ids c = λ jobs j is named.
    let read = c.deref.ensures.value in
    let list = c.deref.result.now in
    let at = c.partition_point-at.result in
    let id = c.args.entry.id in
    let rising = subst (λ xs. IsStrictlyIncreasing (ids_in xs)) (sym read) c.requires.rising in
    let parts : Parts list id at = IsPartitionPoint-from_clause (λ a. ltb a.id id) list at c.partition_point-at.ensures.partitioned (IsPartitionedBy-ltb (λ a. a.id) list id (λ i k d h w. rise_by (λ a. a.id) list rising i k d h w)) (λ a r q k. search rules) in
    ap ids_in (c.insert.ensures.items ∙ ap (λ b. cond b (insert c.args.active.now.items at c.args.entry) c.args.active.now.items) (is_ok_then c.insert.result (sym c.if-is_err.ensures.value)) ∙ ap (λ xs. insert xs at c.args.entry) (sym read))
    ∙ placed list c.args.entry at jobs j (ap ids_in read ∙ is) named
    (each_before (λ a. a.id < id) at list c.partition_point-at.ensures.bound (λ k d h. ltb-true _ _ (parts.0 k d (omega (arith, h, c.partition_point-at.ensures.bound)) h)))
    (each_after (λ a. id ≤ a.id) at list (λ k d h w. ltb-false _ _ (parts.1 k d h w)))

pub returns-clause-from : goal.returns-clause-from
returns-clause-from c =
    let old = c.args.active.now.items in
    let at = c.partition_point-at.result in
    subst (All (λ a. (a ≡ c.args.entry) ⊎ Contains old a))
    (sym (c.insert.ensures.items ∙ ap (λ b. cond b (insert old at c.args.entry) old) (is_ok_then c.insert.result (sym c.if-is_err.ensures.value))))
    (inserted_from old c.args.entry at)

use Rattle.std.proofs.Common.{◌≡◌, ◌<◌, ◌≤◌, ℕ, true, false, ltb, drop, take, List, ap, ◌∙◌, sym, subst, arith, rules}
use Rattle.std.specs.List.{AllByRecursion as Each}
use Rattle.std.specs.List.Sorted.{IsPartitionPoint, IsStrictlyIncreasing}
use Rattle.std.proofs.lemmas.List.{get_or_default}
use Rattle.std.proofs.lemmas.Bool.{ltb-true, ltb-false}
use Rattle.std.proofs.lemmas.List.Sorted.{IsPartitionPoint-from_clause, IsPartitionedBy-ltb}
use Rattle.job_book.specs.Active.{ids_in}
use Rattle.job_book.specs.declared.active.Active.{Active}
use Rattle.job_book.proofs.Actives.{left_there, set_there}
use Rattle.job_deeds.proofs.Places.{each_after, each_before, rise_by}
use Rattle.job_book.proofs.active.exchange.Goals.{After-partition_point-at, else-at-len-via-then-at-len+else-index-entry, else-at-len-via-else-at-len}
use Rattle.job_book.proofs.active.exchange.Goals as goal

abbrev Parts : List Active → ℕ → ℕ → Type 0
Parts list id at = IsPartitionPoint (λ y. ltb y.id id ≡ true) (λ y. ltb y.id id ≡ false) list at

rising : (c : After-partition_point-at) → IsStrictlyIncreasing (ids_in c.deref.result.now)
rising c = subst (λ xs. IsStrictlyIncreasing (ids_in xs)) (sym c.deref.ensures.value) c.requires

parts : (c : After-partition_point-at) → Parts c.deref.result.now c.args.entry.id c.partition_point-at.result
parts c =
    let list = c.deref.result.now in
    IsPartitionPoint-from_clause (λ a. ltb a.id c.args.entry.id) list c.partition_point-at.result c.partition_point-at.ensures.partitioned (IsPartitionedBy-ltb (λ a. a.id) list c.args.entry.id (λ i k d h w. rise_by (λ a. a.id) list (rising c) i k d h w)) (λ a r q k. search rules)

before : (c : After-partition_point-at) → Each (λ a. a.id < c.args.entry.id) (take c.partition_point-at.result c.args.active.now.items)
before c = subst (λ xs. Each (λ a. a.id < c.args.entry.id) (take c.partition_point-at.result xs)) c.deref.ensures.value
    (each_before (λ a. a.id < c.args.entry.id) c.partition_point-at.result c.deref.result.now c.partition_point-at.ensures.bound (λ k d h. ltb-true _ _ ((parts c).0 k d (omega (arith, h, c.partition_point-at.ensures.bound)) h)))

after : (c : After-partition_point-at) → Each (λ a. c.args.entry.id ≤ a.id) (drop c.partition_point-at.result c.args.active.now.items)
after c = subst (λ xs. Each (λ a. c.args.entry.id ≤ a.id) (drop c.partition_point-at.result xs)) c.deref.ensures.value
    (each_after (λ a. c.args.entry.id ≤ a.id) c.partition_point-at.result c.deref.result.now (λ k d h w. ltb-false _ _ ((parts c).1 k d h w)))

pub returns-then-index-entry : goal.returns-then-index-entry
returns-then-index-entry c =
    let at = (goal.at.returns-then-index-entry c).After-partition_point-at in
    set_there c.args.entry c.args.active.now.items c.partition_point-at.result c.index.result.now c.requires (before at) (omega (arith, c.if-at-len.true, c.len.ensures)) (ap (λ x. x.id) (sym c.index.ensures) ∙ c.if-index-entry.true)

pub returns-else-at-len : goal.returns-else-at-len
returns-else-at-len c =
    let at = (goal.at.returns-else-at-len c).After-partition_point-at in
    sym (left_there c.args.entry c.args.active.now.items c.partition_point-at.result c.requires (before at) (after at)
    (elim c.else-at-len.branch [
      | else-at-len-via-then-at-len+else-index-entry w ↦ λ d within named.
          w.if-index-entry.false (ap (λ x. x.id) (w.index.ensures ∙ get_or_default c.args.active.now.items c.partition_point-at.result w.index.result.now d within) ∙ named)
      | else-at-len-via-else-at-len w ↦ λ d within named. let no : ⊥ = omega (arith, within, w.if-at-len.false, c.len.ensures) in absurd no
    ]))

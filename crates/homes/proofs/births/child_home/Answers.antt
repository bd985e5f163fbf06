use Rattle.std.proofs.Common.{◌≡◌, ◌<◌, ◌≤◌, ℕ, All, List, Some, ap, arith, length, map, refl, subst, sym}
use Rattle.std.specs.Prelude.{min, slice_index_or}
use Rattle.std.proofs.lemmas.List.Elements.{All-map}
use Rattle.std.proofs.lemmas.Nat.{mod_below}
use Rattle.instance.specs.workload.Laws.{HasOwnLabels, IsBuilt, IsWithin, KeepsTallies}
use Rattle.instance.specs.workload.declared.work.Actor.{Actor}
use Rattle.instance.specs.resource_set.Writing.{r_text}
use Rattle.hierarchy.specs.Own.{child_setup, placed}
use Rattle.hierarchy.proofs.Within.{built, own_labels, tallies, within}
use Rattle.homes.proofs.Bearing.{child_is}
use Rattle.homes.proofs.births.child_home.Goals as goal

-- actors that are placed among so many brokers have their ranks
all_placed : (size : ℕ) (actors : List Actor) → 1 ≤ size → All (λ a. a.rank < size) (map (placed size) actors)
all_placed size actors some = All-map (λ a. a.rank < size) (placed size) actors (λ k d low. mod_below (slice_index_or actors k d).rank size some)

pub new-requires-clause-within : goal.new-requires-clause-within
new-requires-clause-within c =
    let long = ap length c.as_slice.ensures in
    let some : 1 ≤ c.min-size.result = omega arith in
    subst (IsWithin c.min-size.result) (sym c.in_ok-own.ensures) (within c.args.work.now (Some c.args.origin.label) c.min-size.result c.args.setting.size some c.requires.within)

pub new-requires-clause-ranks : goal.new-requires-clause-ranks
new-requires-clause-ranks c =
    let long = ap length c.as_slice.ensures in
    let some : 1 ≤ c.min-size.result = omega arith in
    subst (λ work. All (λ a. a.rank < c.min-size.result) work.actors) (sym c.in_ok-own.ensures) (all_placed c.min-size.result c.args.work.now.actors some)

pub new-requires-clause-built : goal.new-requires-clause-built
new-requires-clause-built c =
    subst (λ work. All (λ l. IsBuilt l.command) work.lines) (sym c.in_ok-own.ensures) (built c.args.work.now (Some c.args.origin.label) c.min-size.result c.requires.built)

pub new-requires-clause-labels : goal.new-requires-clause-labels
new-requires-clause-labels c =
    subst (λ work. HasOwnLabels work.lines) (sym c.in_ok-own.ensures) (own_labels c.args.work.now (Some c.args.origin.label) c.min-size.result c.requires.labels)

pub new-requires-clause-few : goal.new-requires-clause-few
new-requires-clause-few c =
    subst (λ work. KeepsTallies work.lines) (sym c.in_ok-own.ensures) (tallies c.args.work.now (Some c.args.origin.label) c.min-size.result c.requires.few)

pub returns : goal.returns
returns c = λ set b fanout hash terms work parent job label second grant.
    let long : length c.as_slice.result.now ≡ length c.args.grant.now.nodes = ap length c.as_slice.ensures in
    let size : c.min-size.result ≡ min (length c.args.grant.now.nodes) 32 = omega arith in
    child_is set b c.args.origin c.args.work.now c.args.grant.now c.min-size.result c.in_ok-own.own c.in_ok-instance.instance work parent job label grant size c.in_ok-own.ensures c.in_ok-instance.ensures.ready
    (λ size given. c.in_ok-instance.ensures.agrees (child_setup set b) size fanout hash (ap r_text grant) grant refl terms second given)

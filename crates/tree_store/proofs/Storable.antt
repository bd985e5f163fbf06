-- What an operation leaves can be told by texts again.
use Rattle.std.proofs.Common.{◌≡◌, ℕ, zero, suc, Bool, true, false, cond, List, [], ◌∷◌, ◌++◌, map, Option, Some, None, Ok, refl, subst, Less, Equal, Greater}
use Rattle.std.specs.Prelude.{fold, not}
use Rattle.std.specs.List.{AllByRecursion}
use Rattle.std.specs.Ordering.{eq_by_cmp}
use Rattle.std.specs.FinMap.Entries as finite
use Rattle.kvs_txn.specs.Keys.{IsComponent, IsKey}
use Rattle.kvs_model.specs.Store.{Name, Path, Node, Value, Directory, Link, Store, path_cmp, node_at, with_node, without, is_within}
use Rattle.kvs_txn.specs.declared.words.Target.{Target}
use Rattle.kvs_model.specs.Walk.{Stop, go_on, stop_from, stop, behind_inner_link, past_inner_link, at_end, follow, inside, most_links, next_inside, path_at, path_inside, resolved, unless_outside}
use Rattle.kvs_model.specs.Operation.{places_above, with_places_above, placed}
use Rattle.tree_rules.specs.Held.{IsStorable, IsStorableNode}

abbrev pub IsNamed : Path → Type 0
IsNamed path = AllByRecursion IsComponent path

abbrev pub IsGood : Path × Node → Type 0
IsGood e = AllByRecursion IsComponent e.0 × IsStorableNode e.1

-- ---- changes of a store

pub put_good : (p : Path) (node : Node) (st : Store) → AllByRecursion IsGood st → IsNamed p → IsStorableNode node → AllByRecursion IsGood (finite.put path_cmp p node st)
put_good p node [] all named small = ((named, small), tt)
put_good p node (e ∷ st) all named small =
    let rest = put_good p node st all.1 named small in
    elim (path_cmp p e.0) as (λ r. AllByRecursion IsGood (finite.by_order r ((p, node) ∷ e ∷ st) ((e.0, node) ∷ st) (e ∷ finite.put path_cmp p node st))) [
      | Less ↦ ((named, small), all)
      | Equal ↦ ((all.0.0, small), all.1)
      | Greater ↦ (all.0, rest)
    ]

pub filter_good : (test : Path → Bool) (st : Store) → AllByRecursion IsGood st → AllByRecursion IsGood (finite.where_key path_cmp test st)
filter_good test [] all = tt
filter_good test (e ∷ st) all =
    let rest = filter_good test st all.1 in
    elim (test e.0) as (λ b. AllByRecursion IsGood (cond b (e ∷ finite.where_key path_cmp test st) (finite.where_key path_cmp test st))) [ true ↦ (all.0, rest) | false ↦ rest ]

places_good : (places : List Path) (st : Store) → AllByRecursion IsNamed places → AllByRecursion IsGood st → AllByRecursion IsGood (fold (λ made place. with_node made place Directory) st places)
places_good [] st named all = all
places_good (q ∷ qs) st named all = places_good qs (with_node st q Directory) named.1 (put_good q Directory st all named.0 tt)

map_named : (n : Name) (qs : List Path) → IsComponent n → AllByRecursion IsNamed qs → AllByRecursion IsNamed (map (λ place. n ∷ place) qs)
map_named n [] is named = tt
map_named n (q ∷ qs) is named = ((is, named.0), map_named n qs is named.1)

above_named : (p : Path) → IsNamed p → AllByRecursion IsNamed (places_above p)
above_named [] named = tt
above_named (n ∷ p) named = (tt, map_named n (places_above p) named.0 (above_named p named.1))

pub placed_good : (st : Store) (p : Path) (node : Node) → AllByRecursion IsGood st → IsNamed p → IsStorableNode node → AllByRecursion IsGood (placed st p node)
placed_good st p node all named small =
    put_good p node (without (with_places_above st p) p) (filter_good (λ other. not (is_within p other)) (with_places_above st p) (places_good (places_above p) st (above_named p named) all)) named small

found_good : (st : Store) (q : Path) (node : Node) → AllByRecursion IsGood st → node_at st q ≡ Some node → IsStorableNode node
found_good [] q node all found = absurd (cc)
found_good (e ∷ st) q node all found =
    elim (eq_by_cmp path_cmp q e.0) as (λ b. cond b (Some e.1) (node_at st q) ≡ Some node → IsStorableNode node) [
      | true ↦ λ f. subst IsStorableNode (let same : e.1 ≡ node = cc in same) all.0.1
      | false ↦ λ f. found_good st q node all.1 f
    ] found

-- ---- the path where an operation works

go_named : (o : Option Node) (here further : Stop) → IsNamed here.rest → IsNamed further.rest → IsNamed (go_on o here further).rest
go_named None here further a b = a
go_named (Some (Value bytes)) here further a b = a
go_named (Some Directory) here further a b = b
go_named (Some (Link target)) here further a b = a

stop_named : (st : Store) (place rest : Path) → IsNamed rest → IsNamed (stop_from st place rest).rest
stop_named st place [] named = tt
stop_named st place (n ∷ rest) named = go_named (node_at st place) (record { place = place; rest = n ∷ rest }) (stop_from st (place ++ n ∷ []) rest) named (stop_named st (place ++ n ∷ []) rest named.1)

both_named : (p q : Path) → IsNamed p → IsNamed q → IsNamed (p ++ q)
both_named [] q a b = b
both_named (n ∷ p) q a b = (a.0, both_named p q a.1 b)

same_target : (t u : Target) → Some t ≡ Some u → t ≡ u
same_target t u e = cc

behind_named : (o : Option Node) (rest : Path) (next : Target) → ((node : Node) → o ≡ Some node → IsStorableNode node) → IsNamed rest → behind_inner_link o rest ≡ Some next → IsNamed next.path
behind_named o [] next good named e = absurd (cc)
behind_named None (n ∷ rest) next good named e = absurd (cc)
behind_named (Some (Value bytes)) (n ∷ rest) next good named e = absurd (cc)
behind_named (Some Directory) (n ∷ rest) next good named e = absurd (cc)
behind_named (Some (Link target)) (n ∷ rest) next good named e =
    let key : IsKey target.path = (good (Link target) refl).0 in
    subst (λ (t : Target). IsNamed t.path) (same_target (record { path = target.path ++ n ∷ rest; namespace = target.namespace }) next e) (both_named target.path (n ∷ rest) key.named named)

-- a walk that goes on does so past a link
past_inside : (space : Option Name) (o : Option Target) (next : Target) → unless_outside space o ≡ Some next → o ≡ Some next
past_inside None o next e = e
past_inside (Some name) o next e = absurd (cc)

past_named : (st : Store) (at next : Target) → IsStorable st → IsNamed at.path → next_inside st at ≡ Some next → IsNamed next.path
past_named st at next all named e =
    let path = at.path in
    behind_named (node_at st (stop st path).place) (stop st path).rest next (λ node f. found_good st (stop st path).place node all f) (stop_named st [] path named) (past_inside at.namespace (past_inner_link st path) next e)

follow_named : (st : Store) (n : ℕ) (at end : Target) → IsStorable st → IsNamed at.path → follow (next_inside st) n at ≡ Some end → IsNamed end.path
follow_named st zero at end all named e =
    elim (next_inside st at) as (λ o. at_end at o (λ _. None) ≡ Some end → IsNamed end.path) [
      | None ↦ λ f. subst (λ (t : Target). IsNamed t.path) (same_target at end f) named
      | Some further ↦ λ f. absurd (cc)
    ] e
follow_named st (suc n) at end all named e =
    elim (next_inside st at) as (λ o. next_inside st at ≡ o → at_end at o (λ further. follow (next_inside st) n further) ≡ Some end → IsNamed end.path) [
      | None ↦ λ is f. subst (λ (t : Target). IsNamed t.path) (same_target at end f) named
      | Some further ↦ λ is f. follow_named st n further end all (past_named st at further all named is) f
    ] refl e

pub resolved_named : (st : Store) (key at : Path) → IsStorable st → IsNamed key → resolved st key ≡ Ok at → IsNamed at
unfolding resolved
resolved_named st key at all named e = by (follow (next_inside st) most_links (inside key)) refl e
  where
    from_place : (space : Option Name) (p : Path) → path_inside space p ≡ Ok at → IsNamed p → IsNamed at
    from_place None p e h = let same : p ≡ at = cc in subst IsNamed same h
    from_place (Some name) p e h = absurd (cc)

    by : (o : Option Target) → follow (next_inside st) most_links (inside key) ≡ o → path_at o ≡ Ok at → IsNamed at
    by None is e = absurd (cc)
    by (Some t) is e = from_place t.namespace t.path e (follow_named st most_links (inside key) t all named is)

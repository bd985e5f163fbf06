-- Walks and operations in a store none of whose links names a namespace.
use Rattle.std.proofs.Common.{◌≡◌, ℕ, zero, suc, ◌+◌, List, [], ◌∷◌, map, filter, Bool, true, false, cond, not, ◌&&◌, Option, Some, None, is_some, IfSome, IfOk, option_map, option_and_then, ok_or, unwrap_or, Result, Ok, Err, refl, sym, ap, ◌∙◌, subst, bytes_eq}
use Rattle.std.specs.List.{AllByRecursion as Each}
use Rattle.std.specs.Option.{option_map_or}
use Rattle.std.specs.Ordering.{eq_by_cmp}
use Rattle.std.specs.Cmp.Lexicographic.{bytes_decides}
use Rattle.kvs_txn.specs.declared.answers.Query.{Query}
use Rattle.kvs_txn.specs.declared.answers.Query.TheVariants as query
use Rattle.kvs_txn.specs.declared.answers.Found.TheVariants as found
use Rattle.kvs_txn.specs.declared.answers.Cause.{Cause}
use Rattle.kvs_txn.specs.declared.answers.Cause.TheVariants as cause
use Rattle.kvs_txn.specs.declared.answers.Refusal.{Refusal}
use Rattle.kvs_txn.specs.declared.txn.Author.{Author}
use Rattle.kvs_txn.specs.declared.txn.Scope.{Scope}
use Rattle.kvs_txn.specs.declared.txn.Op.{Op}
use Rattle.kvs_txn.specs.declared.txn.Op.TheVariants as op
use Rattle.kvs_txn.specs.declared.txn.Group.{Group}
use Rattle.kvs_txn.specs.declared.words.Target.{Target}
use Rattle.kvs_model.specs.Store.{Name, Path, Node, Value, Directory, Link, Store, path_cmp, node_at, without, is_within}
use Rattle.kvs_model.specs.Walk.{stop, behind_link, behind_inner_link, past_inner_link, at_end, follow, followed, most_links, inside, next_inside, path_at, resolved, Family, Route, route_to, next_link, next_route, found_in, found_along, walk, each_once, used}
use Rattle.kvs_model.specs.Operation.{placed, changed, is_directory, unless_refused, effect_at, effect_from_key, op_effect, key_of, ops_effect, then_rest, effect}
use Rattle.kvs_model.specs.History.{after, after_groups, landed_on}
use Rattle.kvs_model.specs.OneStore.{HasOwnLinks, IsOwnOp, AreOwn, own_next, own_end, own_walk, own_resolved}
use Rattle.kvs_model.proofs.Paths.{is_above, node_at-without}
use Rattle.kvs_model.proofs.Sound.{node_at-placed}

-- ---- a link that names no namespace leads on in its store

LeadsInside : Target → Type 0
LeadsInside at = at.namespace ≡ None

behind_own : (node : Option Node) (rest : Path) → ((target : Target) → node ≡ Some (Link target) → target.namespace ≡ None) → IfSome (behind_link node rest) LeadsInside
unfolding LeadsInside
behind_own None rest h = tt
behind_own (Some (Value bytes)) rest h = tt
behind_own (Some Directory) rest h = tt
behind_own (Some (Link target)) rest h = h target refl

behind_inner_own : (node : Option Node) (rest : Path) → ((target : Target) → node ≡ Some (Link target) → target.namespace ≡ None) → IfSome (behind_inner_link node rest) LeadsInside
behind_inner_own at [] h = tt
behind_inner_own at (name ∷ rest) h = behind_own at (name ∷ rest) h

next_own : (st : Store) (asked : Query) (path : Path) → HasOwnLinks st → IfSome (next_link asked st path) LeadsInside
next_own st query.Get path h = behind_own _ _ (h (stop st path).place)
next_own st query.List path h = behind_own _ _ (h (stop st path).place)
next_own st query.Link path h = behind_inner_own _ _ (h (stop st path).place)

-- the routes in one namespace
unfoldable pub route : Name → Path → Route
route space path = record { space = space; path = path }

route_of : (space : Name) (o : Option Target) → IfSome o LeadsInside → option_map (route_to space) o ≡ option_map (route space) (option_map (λ at. at.path) o)
unfolding LeadsInside route
route_of space None h = refl
route_of space (Some at) h = ap (λ n. Some (route (unwrap_or n space) at.path)) h

module _ (family : Family) (space : Name) (st : Store) (asked : Query) (there : family space ≡ Some st) (own : HasOwnLinks st) where
  step : (path : Path) → next_route asked family (route space path) ≡ option_map (route space) (own_next asked st path)
  unfolding route
  step path = ap (option_and_then (λ s. option_map (route_to space) (next_link asked s path))) there ∙ route_of space (next_link asked st path) (next_own st asked path own)

  ended : (path : Path) (o : Option Path) (further : Route → Option Route) (further' : Path → Option Path) → ((q : Path) → further (route space q) ≡ option_map (route space) (further' q))
      → at_end (route space path) (option_map (route space) o) further ≡ option_map (route space) (at_end path o further')
  ended path None further further' same = refl
  ended path (Some q) further further' same = same q

  pub same_end : (n : ℕ) (path : Path) → follow (next_route asked family) n (route space path) ≡ option_map (route space) (follow (own_next asked st) n path)
  same_end zero path = ap (λ o. at_end (route space path) o (λ _. None)) (step path) ∙ ended path (own_next asked st path) (λ _. None) (λ _. None) (λ q. refl)
  same_end (suc n) path = ap (λ o. at_end (route space path) o (λ further. follow (next_route asked family) n further)) (step path) ∙ ended path (own_next asked st path) _ _ (λ q. same_end n q)

  found_there : (o : Option Path) → found_along family asked (option_map (route space) o) ≡ Ok (option_map_or (found_in st asked) o found.Loop)
  unfolding route
  found_there None = refl
  found_there (Some path) = ap (λ o. ok_or (option_map (λ s. found_in s asked path) o) space) there

  pub walk_is_own : (path : Path) → walk family space asked path ≡ Ok (own_walk st asked path)
  unfolding walk own_walk route
  walk_is_own path = ap (found_along family asked) (same_end most_links path) ∙ found_there (own_end st asked path)

  routed : (path : Path) (o : Option Path) (further : Route → List Route) (further' : Path → List Path) → ((q : Path) → further (route space q) ≡ map (route space) (further' q))
      → option_map_or further (option_map (route space) o) [] ≡ map (route space) (option_map_or further' o [])
  routed path None further further' same = refl
  routed path (Some q) further further' same = same q

  pub same_routes : (n : ℕ) (path : Path) → followed (next_route asked family) n (route space path) ≡ map (route space) (followed (own_next asked st) n path)
  same_routes zero path = refl
  same_routes (suc n) path = ap (λ (rs : List Route). route space path ∷ rs)
      (ap (λ o. option_map_or (λ further. followed (next_route asked family) n further) o []) (step path) ∙ routed path (own_next asked st path) _ _ (λ q. same_routes n q))

  -- all that the walk passes lies in this namespace
  IsHere : Name → Type 0
  IsHere name = name ≡ space

  here_on : (o : Option Path) (further : Route → List Route) → ((q : Path) → Each IsHere (map (λ (r : Route). r.space) (further (route space q)))) → Each IsHere (map (λ (r : Route). r.space) (option_map_or further (option_map (route space) o) []))
  here_on None further h = tt
  here_on (Some q) further h = h q

  all_here : (n : ℕ) (path : Path) → Each IsHere (map (λ (r : Route). r.space) (followed (next_route asked family) n (route space path)))
  unfolding route IsHere
  all_here zero path = (refl, tt)
  all_here (suc n) path = (refl, subst (λ o. Each IsHere (map (λ (r : Route). r.space) (option_map_or (λ further. followed (next_route asked family) n further) o []))) (sym (step path)) (here_on (own_next asked st path) _ (λ q. all_here n q)))

  each_filter : (test : Name → Bool) (names : List Name) → Each IsHere names → Each IsHere (filter test names)
  each_filter test [] h = tt
  each_filter test (name ∷ names) h = elim (test name) as (λ b. Each IsHere (cond b (name ∷ filter test names) (filter test names))) [ true ↦ (h.0, each_filter test names h.1) | false ↦ each_filter test names h.1 ]

  each_each_once : (names : List Name) → Each IsHere names → Each IsHere (each_once names)
  each_each_once [] h = tt
  each_each_once (name ∷ names) h = (h.0, each_filter (λ other. not (bytes_eq name other)) (each_once names) (each_each_once names h.1))

  none_further : (names : List Name) → Each IsHere names → filter (λ name. not (bytes_eq space name) && is_some (family name)) names ≡ []
  unfolding IsHere
  none_further [] h = refl
  none_further (name ∷ names) h =
      ap (λ b. cond (not b && is_some (family name)) (name ∷ filter (λ name. not (bytes_eq space name) && is_some (family name)) names) (filter (λ name. not (bytes_eq space name) && is_some (family name)) names)) ((bytes_decides space name).1 (sym h.0))
      ∙ none_further names h.1

  pub none_used : (path : Path) → used family space asked path ≡ []
  unfolding used route
  none_used path =
      let names : List Name = map (λ (r : Route). r.space) (followed (next_route asked family) most_links (route space path)) in
      none_further (each_once names) (each_each_once names (all_here most_links path))

-- ---- where operations work

inside_is : (at : Target) → at.namespace ≡ None → inside at.path ≡ at
inside_is at e = ap (λ n. record { path = at.path; namespace = n }) (sym e)

on_inside : (o : Option Target) → IfSome o LeadsInside → o ≡ option_map inside (option_map (λ at. at.path) o)
unfolding LeadsInside
on_inside None h = refl
on_inside (Some at) h = ap Some (sym (inside_is at h))

module _ (st : Store) (own : HasOwnLinks st) where
  next_path : Path → Option Path
  next_path path = option_map (λ at. at.path) (past_inner_link st path)

  inner_step : (path : Path) → next_inside st (inside path) ≡ option_map inside (next_path path)
  unfolding next_path
  inner_step path = on_inside (past_inner_link st path) (next_own st query.Link path own)

  inner_ended : (path : Path) (o : Option Path) (further : Target → Option Target) (further' : Path → Option Path) → ((q : Path) → further (inside q) ≡ option_map inside (further' q))
      → at_end (inside path) (option_map inside o) further ≡ option_map inside (at_end path o further')
  inner_ended path None further further' same = refl
  inner_ended path (Some q) further further' same = same q

  inner_end : (n : ℕ) (path : Path) → follow (next_inside st) n (inside path) ≡ option_map inside (follow next_path n path)
  inner_end zero path = ap (λ o. at_end (inside path) o (λ _. None)) (inner_step path) ∙ inner_ended path (next_path path) (λ _. None) (λ _. None) (λ q. refl)
  inner_end (suc n) path = ap (λ o. at_end (inside path) o (λ further. follow (next_inside st) n further)) (inner_step path) ∙ inner_ended path (next_path path) _ _ (λ q. inner_end n q)

  path_of : (o : Option Path) → path_at (option_map inside o) ≡ ok_or o cause.Loop
  path_of None = refl
  path_of (Some path) = refl

  pub resolved_is_own : (path : Path) → resolved st path ≡ own_resolved st path
  unfolding resolved own_resolved next_path
  resolved_is_own path = ap path_at (inner_end most_links path) ∙ path_of (follow next_path most_links path)

-- ---- operations that make no other links

LinksOwn : Node → Type 0
LinksOwn node = (target : Target) → node ≡ Link target → target.namespace ≡ None

some_node : (x y : Node) → Some x ≡ Some y → x ≡ y
some_node x y e = cc

placed_own : (st : Store) (path : Path) (node : Node) → HasOwnLinks st → LinksOwn node → HasOwnLinks (placed st path node)
unfolding LinksOwn
placed_own st path node h g q target e = by (eq_by_cmp path_cmp q path) (not (is_within path q)) (is_above q path) (sym (node_at-placed st path node q) ∙ e)
  where
    by : (a b c : Bool) → cond a (Some node) (cond b (cond c (Some Directory) (node_at st q)) None) ≡ Some (Link target) → target.namespace ≡ None
    by true b c e = g target (some_node node (Link target) e)
    by false true true e = cc
    by false true false e = h q target e
    by false false c e = cc

without_own : (st : Store) (path : Path) → HasOwnLinks st → HasOwnLinks (without st path)
without_own st path h q target e = by (not (is_within path q)) (sym (node_at-without st path q) ∙ e)
  where
    by : (b : Bool) → cond b (node_at st q) None ≡ Some (Link target) → target.namespace ≡ None
    by true e = h q target e
    by false e = cc

changed_own : (st : Store) (operation : Op) (path : Path) → HasOwnLinks st → IsOwnOp operation → HasOwnLinks (changed st operation path)
unfolding LinksOwn
changed_own st (op.Put key bytes) path h own = placed_own st path _ h (λ target e. cc)
changed_own st (op.Append key bytes) path h own = placed_own st path _ h (λ target e. cc)
changed_own st (op.Unlink key) path h own = without_own st path h
changed_own st (op.Mkdir key) path h own = elim (is_directory (node_at st path)) as (λ b. HasOwnLinks (cond b st (placed st path Directory))) [ true ↦ h | false ↦ placed_own st path Directory h (λ target e. cc) ]
changed_own st (op.Link key target) path h own = placed_own st path (Link target) h (λ other e. (let same : target ≡ other = cc in subst (λ t. t.namespace ≡ None) same own))

unless_own : (why : Option Cause) (st : Store) → HasOwnLinks st → IfOk (unless_refused why st) HasOwnLinks
unless_own None st h = h
unless_own (Some why) st h = tt

at_own : (st : Store) (who : Author) (space : Scope) (operation : Op) (at : Result Path Cause) → HasOwnLinks st → IsOwnOp operation → IfOk (effect_at st who space operation at) HasOwnLinks
at_own st who space operation (Err why) h own = tt
at_own st who space operation (Ok path) h own = unless_own _ _ (changed_own st operation path h own)

key_own : (st : Store) (who : Author) (space : Scope) (operation : Op) (key : Path) → HasOwnLinks st → IsOwnOp operation → IfOk (effect_from_key st who space operation key) HasOwnLinks
key_own st who space operation [] h own = tt
key_own st who space operation (name ∷ rest) h own = at_own st who space operation _ h own

op_own : (st : Store) (who : Author) (space : Scope) (operation : Op) → HasOwnLinks st → IsOwnOp operation → IfOk (op_effect st who space operation) HasOwnLinks
unfolding op_effect
op_own st who space operation h own = key_own st who space operation (key_of operation) h own

then_own : (number : ℕ) (made : Result Store Cause) (rest : Store → Result Store Refusal) → IfOk made HasOwnLinks → ((st : Store) → HasOwnLinks st → IfOk (rest st) HasOwnLinks) → IfOk (then_rest number made rest) HasOwnLinks
then_own number (Ok st) rest h g = g st h
then_own number (Err why) rest h g = tt

pub ops_own : (who : Author) (space : Scope) (number : ℕ) (ops : List Op) (st : Store) → HasOwnLinks st → Each IsOwnOp ops → IfOk (ops_effect who space number ops st) HasOwnLinks
ops_own who space number [] st h own = h
ops_own who space number (operation ∷ ops) st h own = then_own number _ _ (op_own st who space operation h own.0) (λ new g. ops_own who space (number + 1) ops new g own.1)

pub groups_own : (space : Scope) (groups : List Group) (st : Store) → HasOwnLinks st → Each AreOwn groups → IfSome (after_groups space groups st) HasOwnLinks
groups_own space [] st h own = h
groups_own space (group ∷ groups) st h own = on (λ new g. groups_own space groups new g own.1) (effect st group.txn space) (ops_own group.txn.author space 1 group.txn.ops st h own.0)
  where
    on : ((new : Store) → HasOwnLinks new → IfSome (after_groups space groups new) HasOwnLinks) → (made : Result Store Refusal) → IfOk made HasOwnLinks → IfSome (option_and_then (λ new. after_groups space groups new) (landed_on made)) HasOwnLinks
    on again (Ok new) g = again new g
    on again (Err refusal) g = tt

pub landings_own : (space : Scope) (landings : List (List Group)) (number : ℕ) (st : Store) → HasOwnLinks st → Each (Each AreOwn) landings → IfSome (after space landings number st) HasOwnLinks
landings_own space landings zero st h own = h
landings_own space [] (suc number) st h own = tt
landings_own space (groups ∷ landings) (suc number) st h own = on (λ new g. landings_own space landings number new g own.1) (after_groups space groups st) (groups_own space groups st h own.0)
  where
    on : ((new : Store) → HasOwnLinks new → IfSome (after space landings number new) HasOwnLinks) → (made : Option Store) → IfSome made HasOwnLinks → IfSome (option_and_then (λ new. after space landings number new) made) HasOwnLinks
    on again (Some new) g = again new g
    on again None g = tt

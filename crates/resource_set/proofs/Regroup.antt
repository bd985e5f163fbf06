-- What the entries of hosts tell of the hosts.
use Rattle.std.proofs.Common.{◌≡◌, ℕ, suc, ◌+◌, ◌<◌, ◌≤◌, Bool, true, false, cond, ◌||◌, eqb, List, [], ◌∷◌, ◌++◌, length, get_or, map, Some, None, unwrap_or, ◌⊎◌, inl, inr, refl, sym, ap, ap₂, subst, ◌∙◌, arith, length-append}
use Rattle.std.specs.Prelude.{flat_map}
use Rattle.std.specs.List.{All, AllPairs, AllByRecursion, find, fold, list_any}
use Rattle.std.specs.List.Sorted.{IsStrictlyIncreasing}
use Rattle.std.specs.Str.{bytes_eq}
use Rattle.std.proofs.Math.Bool.{or-true, or-false, or_assoc, or_comm}
use Rattle.std.proofs.lemmas.Bool.Decides.{nat_tests}
use Rattle.std.proofs.lemmas.List.{get_or_append_left}
use Rattle.std.proofs.lemmas.List.Folds.{list_any-append, list_any_none}
use Rattle.std.proofs.lemmas.List.Elements.{All-head, All-tail, All-nil, All-cons, All-push, All-map, All-weaker}
use Rattle.std.proofs.lemmas.List.Kept.{AllPairs-from_increasing}
use Rattle.outcomes.specs.Outcomes.{or_else}
use Rattle.idset.specs.Ids.{has, list_of}
use Rattle.idset.proofs.Members.{same_ids}
use Rattle.resource_set.specs.declared.entries.Entry.{Entry}
use Rattle.resource_set.specs.declared.node.Node.{Node}
use Rattle.resource_set.specs.Units.{AreHosts}
use Rattle.resource_set.specs.Reading.{has_rank, twice_behind, ranks_of, node_at, node_with, nodes_with, no_entry}
use Rattle.resource_set.specs.Canonical.{first_rank}
use Rattle.resource_set.specs.Writing.{fits_in, single, added, with_node, entries_of}
use Rattle.resource_set.proofs.Grouping.{all-with_node}
use Rattle.resource_set.proofs.Rising.{list_of_rising, rising_push}
use Rattle.resource_set.proofs.Booleans.{both, neither, no_or, false_of, itself, same_name}

-- ---- ranks that rise

-- the ranks rise, from a number on
abbrev pub Climbs : ℕ → List Node → Type 0
Climbs m [] = Unit {0}
Climbs m (n ∷ ns) = (m ≤ n.rank) × (n.rank < 65536) × Climbs (n.rank + 1) ns

abbrev ranks : List Node → List ℕ
ranks nodes = map (λ node. node.rank) nodes

climbs : (nodes : List Node) (m : ℕ) → ((k d : ℕ) → k < length (ranks nodes) → m ≤ get_or (ranks nodes) k d) → AllPairs (λ x y. x < y) (ranks nodes) → All (λ node. node.rank < 65536) nodes → Climbs m nodes
climbs [] m low pairs small = tt
climbs (n ∷ ns) m low pairs small = (
  low 0 0 (omega arith),
  All-head (λ node. node.rank < 65536) n ns small,
  climbs ns (n.rank + 1) (λ k d h. let less : n.rank < get_or (ranks ns) k d = pairs 0 (suc k) d (omega arith) (omega arith) in omega arith) (λ i j d h g. pairs (suc i) (suc j) d (omega arith) (omega arith)) (All-tail (λ node. node.rank < 65536) n ns small),
)

pub climbing : (nodes : List Node) → AreHosts nodes → Climbs 0 nodes
climbing nodes a = climbs nodes 0 (λ k d h. omega arith) (AllPairs-from_increasing (ranks nodes) a.rising) a.small

-- ---- entries so far

-- the ranks of an entry rise, below a number
pub record IsUp (m : ℕ) (entry : Entry) : Type 0 where
  pub rising : IsStrictlyIncreasing entry.ranks
  pub below : All (λ rank. rank < m) entry.ranks
  pub small : All (λ rank. rank < 65536) entry.ranks
  pub some : 0 < length entry.ranks

-- no rank is in two entries
abbrev pub Once : List Entry → Type 0
Once [] = Unit {0}
Once (e ∷ more) = ((rank : ℕ) → has e.ranks rank ≡ true → list_any (has_rank rank) more ≡ false) × Once more

unmet : (xs : List ℕ) (m q : ℕ) → All (λ x. x < m) xs → m ≤ q → has xs q ≡ false
unmet xs m q a h = list_any_none (λ x. eqb x q) xs (λ k d g. let less : get_or xs k d < m = a k d g in grind (arith, nat_tests))

not_in : (entries : List Entry) (m q : ℕ) → AllByRecursion (IsUp m) entries → m ≤ q → list_any (has_rank q) entries ≡ false
not_in [] m q a h = refl
not_in (e ∷ more) m q a h = ap₂ (λ x y. x || y) (unmet e.ranks m q a.0.below h) (not_in more m q a.1 h)

has-push : (xs : List ℕ) (r q : ℕ) → has (xs ++ r ∷ []) q ≡ (has xs q || eqb r q)
has-push xs r q = list_any-append (λ x. eqb x q) xs (r ∷ []) ∙ ap (λ b. has xs q || b) (or-false (eqb r q))

or_move : (a b c : Bool) → ((a || c) || b) ≡ ((a || b) || c)
or_move a b c = or_assoc a c b ∙ ap (λ x. a || x) (or_comm c b) ∙ sym (or_assoc a b c)

any_step : (b : Bool) (node : Node) (e : Entry) (more rest : List Entry) (q : ℕ) → list_any (has_rank q) rest ≡ (list_any (has_rank q) more || eqb node.rank q)
    → list_any (has_rank q) (cond b (added node e ∷ more) (e ∷ rest)) ≡ ((has e.ranks q || list_any (has_rank q) more) || eqb node.rank q)
any_step true node e more rest q h = ap (λ b. b || list_any (has_rank q) more) (has-push e.ranks node.rank q) ∙ or_move (has e.ranks q) (list_any (has_rank q) more) (eqb node.rank q)
any_step false node e more rest q h = ap (λ b. has e.ranks q || b) h ∙ sym (or_assoc (has e.ranks q) (list_any (has_rank q) more) (eqb node.rank q))

any-with_node : (entries : List Entry) (node : Node) (q : ℕ) → list_any (has_rank q) (with_node entries node) ≡ (list_any (has_rank q) entries || eqb node.rank q)
any-with_node [] node q = or-false (eqb node.rank q || false) ∙ or-false (eqb node.rank q)
any-with_node (e ∷ more) node q = any_step (fits_in node e) node e more (with_node more node) q (any-with_node more node q)

up_more : (m n : ℕ) (e : Entry) → m ≤ n → IsUp m e → IsUp n e
up_more m n e h u = record { rising = u.rising; below = All-weaker (λ x. x < m) (λ x. x < n) (λ x l. omega arith) e.ranks u.below; small = u.small; some = u.some }

up_added : (m : ℕ) (node : Node) (e : Entry) → IsUp m e → m ≤ node.rank → node.rank < 65536 → IsUp (node.rank + 1) (added node e)
up_added m node e u h s = record {
  rising = rising_push e.ranks node.rank u.rising (up_more m node.rank e h u).below;
  below = All-push (λ x. x < node.rank + 1) e.ranks node.rank (up_more m (node.rank + 1) e (omega arith) u).below (omega arith);
  small = All-push (λ x. x < 65536) e.ranks node.rank u.small s;
  some = omega (arith, length-append e.ranks (node.rank ∷ []));
}

up_alone : (node : Node) → node.rank < 65536 → IsUp (node.rank + 1) (single node)
up_alone node s = record {
  rising = λ k h. absurd (omega arith);
  below = All-cons (λ x. x < node.rank + 1) node.rank [] (omega arith) (All-nil (λ x. x < node.rank + 1));
  small = All-cons (λ x. x < 65536) node.rank [] s (All-nil (λ x. x < 65536));
  some = omega arith;
}

up-with_node : (entries : List Entry) (m : ℕ) (node : Node) → AllByRecursion (IsUp m) entries → m ≤ node.rank → node.rank < 65536 → AllByRecursion (IsUp (node.rank + 1)) (with_node entries node)
up-with_node entries m node a h s = all-with_node (IsUp m) (IsUp (node.rank + 1)) node (λ e u. up_more m (node.rank + 1) e (omega arith) u) (λ e u. up_added m node e u h s) (up_alone node s) entries a

other_rank : (xs : List ℕ) (r q : ℕ) → has xs r ≡ false → has xs q ≡ true → eqb r q ≡ false
other_rank xs r q n t = false_of (eqb r q) (λ e. let is : r ≡ q = grind (arith, nat_tests) in let clash : false ≡ true = sym n ∙ ap (has xs) is ∙ t in cc)

once_step : (b : Bool) (node : Node) (e : Entry) (more : List Entry) → Once (e ∷ more) → list_any (has_rank node.rank) (e ∷ more) ≡ false → Once (with_node more node) → Once (cond b (added node e ∷ more) (e ∷ with_node more node))
once_step true node e more o n r = ((λ q t. go q (has e.ranks q) refl (sym (has-push e.ranks node.rank q) ∙ t)), o.1)
  where
    go : (q : ℕ) (b : Bool) → has e.ranks q ≡ b → (has e.ranks q || eqb node.rank q) ≡ true → list_any (has_rank q) more ≡ false
    go q true e t = o.0 q e
    go q false f t =
        let met : eqb node.rank q ≡ true = sym (ap (λ b. b || eqb node.rank q) f) ∙ t in
        let is : node.rank ≡ q = grind (arith, nat_tests) in
        ap (λ k. list_any (has_rank k) more) (sym is) ∙ (neither (has e.ranks node.rank) (list_any (has_rank node.rank) more) n).1
once_step false node e more o n r = ((λ q t. any-with_node more node q ∙ no_or (list_any (has_rank q) more) (eqb node.rank q) (o.0 q t) (other_rank e.ranks node.rank q (neither (has e.ranks node.rank) (list_any (has_rank node.rank) more) n).0 t)), r)

once-with_node : (entries : List Entry) (node : Node) → Once entries → list_any (has_rank node.rank) entries ≡ false → Once (with_node entries node)
once-with_node [] node o n = ((λ q t. refl), tt)
once-with_node (e ∷ more) node o n = once_step (fits_in node e) node e more o n (once-with_node more node o.1 (neither (has e.ranks node.rank) (list_any (has_rank node.rank) more) n).1)

-- ---- what an entry tells of a host

-- the first entry that has the host's rank has its cores and GPUs
pub record Tells (entries : List Entry) (node : Node) : Type 0 where
  pub entry : Entry
  pub found : find (has_rank node.rank) entries ≡ Some entry
  pub cores : entry.cores ≡ node.cores
  pub gpus : entry.gpus ≡ node.gpus

tells_behind : (e : Entry) (more : List Entry) (node : Node) → has e.ranks node.rank ≡ false → Tells more node → Tells (e ∷ more) node
tells_behind e more node n t = record { entry = t.entry; found = ap (λ b. cond b (Some e) (find (has_rank node.rank) more)) n ∙ t.found; cores = t.cores; gpus = t.gpus }

tells_first : (e : Entry) (more : List Entry) (node : Node) → has e.ranks node.rank ≡ true → e.cores ≡ node.cores → e.gpus ≡ node.gpus → Tells (e ∷ more) node
tells_first e more node h c g = record { entry = e; found = ap (λ b. cond b (Some e) (find (has_rank node.rank) more)) h; cores = c; gpus = g }

tells_step : (b : Bool) (node : Node) (e : Entry) (more : List Entry) → fits_in node e ≡ b → has e.ranks node.rank ≡ false → Tells (with_node more node) node → Tells (cond b (added node e ∷ more) (e ∷ with_node more node)) node
tells_step true node e more f n t =
    let m = both (bytes_eq node.cores e.cores) (bytes_eq node.gpus e.gpus) f in
    tells_first (added node e) more node (has-push e.ranks node.rank node.rank ∙ ap (λ b. has e.ranks node.rank || b) (itself node.rank) ∙ or-true (has e.ranks node.rank))
    (sym (same_name node.cores e.cores m.0)) (sym (same_name node.gpus e.gpus m.1))
tells_step false node e more f n t = tells_behind e (with_node more node) node n t

tells_new : (entries : List Entry) (node : Node) → list_any (has_rank node.rank) entries ≡ false → Tells (with_node entries node) node
tells_new [] node n = tells_first (single node) [] node (ap (λ b. b || false) (itself node.rank)) refl refl
tells_new (e ∷ more) node n = let m = neither (has e.ranks node.rank) (list_any (has_rank node.rank) more) n in tells_step (fits_in node e) node e more refl m.0 (tells_new more node m.1)

find_other : (b : Bool) (c : Bool) (node other : Node) (e : Entry) (more : List Entry) → has e.ranks other.rank ≡ c → eqb node.rank other.rank ≡ false → Tells (e ∷ more) other → (Tells more other → Tells (with_node more node) other) → Tells (cond b (added node e ∷ more) (e ∷ with_node more node)) other
find_other true true node other e more h n t f =
    let is : e ≡ t.entry = let s : Some e ≡ Some t.entry = sym (ap (λ b. cond b (Some e) (find (has_rank other.rank) more)) h) ∙ t.found in cc in
    tells_first (added node e) more other (has-push e.ranks node.rank other.rank ∙ ap (λ b. b || eqb node.rank other.rank) h) (ap (λ (x : Entry). x.cores) is ∙ t.cores) (ap (λ (x : Entry). x.gpus) is ∙ t.gpus)
find_other true false node other e more h n t f = tells_behind (added node e) more other (has-push e.ranks node.rank other.rank ∙ no_or (has e.ranks other.rank) (eqb node.rank other.rank) h n)
    (record { entry = t.entry; found = sym (ap (λ b. cond b (Some e) (find (has_rank other.rank) more)) h) ∙ t.found; cores = t.cores; gpus = t.gpus })
find_other false true node other e more h n t f =
    let is : e ≡ t.entry = let s : Some e ≡ Some t.entry = sym (ap (λ b. cond b (Some e) (find (has_rank other.rank) more)) h) ∙ t.found in cc in
    tells_first e (with_node more node) other h (ap (λ (x : Entry). x.cores) is ∙ t.cores) (ap (λ (x : Entry). x.gpus) is ∙ t.gpus)
find_other false false node other e more h n t f = tells_behind e (with_node more node) other h
    (f (record { entry = t.entry; found = sym (ap (λ b. cond b (Some e) (find (has_rank other.rank) more)) h) ∙ t.found; cores = t.cores; gpus = t.gpus }))

tells_kept : (entries : List Entry) (node other : Node) → eqb node.rank other.rank ≡ false → Tells entries other → Tells (with_node entries node) other
tells_kept [] node other n t = let no : None ≡ Some t.entry = t.found in cc
tells_kept (e ∷ more) node other n t = find_other (fits_in node e) (has e.ranks other.rank) node other e more refl n t (λ s. tells_kept more node other n s)

-- ---- first ranks

first_kept : (e : Entry) (node : Node) → 0 < length e.ranks → first_rank (added node e) ≡ first_rank e
first_kept e node h = get_or_append_left e.ranks (node.rank ∷ []) 0 0 h

-- they stay, or the host's rank comes last
firsts-with_node : (entries : List Entry) (m : ℕ) (node : Node) → AllByRecursion (IsUp m) entries
    → (map first_rank (with_node entries node) ≡ map first_rank entries) ⊎ (map first_rank (with_node entries node) ≡ map first_rank entries ++ node.rank ∷ [])
firsts-with_node [] m node a = inr refl
firsts-with_node (e ∷ more) m node a = go (fits_in node e) (firsts-with_node more m node a.1)
  where
    go : (b : Bool) → (map first_rank (with_node more node) ≡ map first_rank more) ⊎ (map first_rank (with_node more node) ≡ map first_rank more ++ node.rank ∷ [])
        → (map first_rank (cond b (added node e ∷ more) (e ∷ with_node more node)) ≡ map first_rank (e ∷ more)) ⊎ (map first_rank (cond b (added node e ∷ more) (e ∷ with_node more node)) ≡ map first_rank (e ∷ more) ++ node.rank ∷ [])
    go true r = inl (ap (λ n. n ∷ map first_rank more) (first_kept e node a.0.some))
    go false (inl same) = inl (ap (λ l. first_rank e ∷ l) same)
    go false (inr last) = inr (ap (λ l. first_rank e ∷ l) last)

firsts_below : (entries : List Entry) (m : ℕ) → AllByRecursion (IsUp m) entries → All (λ rank. rank < m) (map first_rank entries)
firsts_below [] m a = All-nil (λ rank. rank < m)
firsts_below (e ∷ more) m a = All-cons (λ rank. rank < m) (first_rank e) (map first_rank more) (a.0.below 0 0 a.0.some) (firsts_below more m a.1)

firsts_rise : (entries : List Entry) (m : ℕ) (node : Node) → AllByRecursion (IsUp m) entries → IsStrictlyIncreasing (map first_rank entries) → m ≤ node.rank → IsStrictlyIncreasing (map first_rank (with_node entries node))
firsts_rise entries m node a up h = elim (firsts-with_node entries m node a) [
  | inl same ↦ subst IsStrictlyIncreasing (sym same) up
  | inr last ↦ subst IsStrictlyIncreasing (sym last) (rising_push (map first_rank entries) node.rank up
      (All-weaker (λ x. x < m) (λ x. x < node.rank) (λ x l. omega arith) (map first_rank entries) (firsts_below entries m a)))
]

-- ---- all hosts

-- what holds of entries whose ranks are below a number
pub record AreUp (m : ℕ) (entries : List Entry) : Type 0 where
  pub up : AllByRecursion (IsUp m) entries
  pub once : Once entries
  pub firsts : IsStrictlyIncreasing (map first_rank entries)

up_next : (m : ℕ) (entries : List Entry) (node : Node) → AreUp m entries → m ≤ node.rank → node.rank < 65536 → AreUp (node.rank + 1) (with_node entries node)
up_next m entries node a h s = record {
  up = up-with_node entries m node a.up h s;
  once = once-with_node entries node a.once (not_in entries m node.rank a.up h);
  firsts = firsts_rise entries m node a.up a.firsts h;
}

pub record AreEntriesOf (entries : List Entry) : Type 0 where
  pub bound : ℕ
  pub up : AreUp bound entries

up_all : (nodes : List Node) (m : ℕ) (entries : List Entry) → Climbs m nodes → AreUp m entries → AreEntriesOf (fold with_node entries nodes)
up_all [] m entries c a = record { bound = m; up = a }
up_all (n ∷ ns) m entries c a = up_all ns (n.rank + 1) (with_node entries n) c.2 (up_next m entries n a c.0 c.1)

any_all : (nodes : List Node) (entries : List Entry) (q : ℕ) → list_any (has_rank q) (fold with_node entries nodes) ≡ (list_any (has_rank q) entries || has (ranks nodes) q)
any_all [] entries q = sym (or-false (list_any (has_rank q) entries))
any_all (n ∷ ns) entries q = any_all ns (with_node entries n) q ∙ ap (λ b. b || has (ranks ns) q) (any-with_node entries n q) ∙ or_assoc (list_any (has_rank q) entries) (eqb n.rank q) (has (ranks ns) q)

keep_all : (nodes : List Node) (m : ℕ) (entries : List Entry) (other : Node) → Climbs m nodes → other.rank < m → Tells entries other → Tells (fold with_node entries nodes) other
keep_all [] m entries other c l t = t
keep_all (n ∷ ns) m entries other c l t =
    let low : m ≤ n.rank = c.0 in
    keep_all ns (n.rank + 1) (with_node entries n) other c.2 (omega arith) (tells_kept entries n other (grind (arith, nat_tests)) t)

tell_all : (nodes : List Node) (m : ℕ) (entries : List Entry) → Climbs m nodes → AreUp m entries → AllByRecursion (Tells (fold with_node entries nodes)) nodes
tell_all [] m entries c a = tt
tell_all (n ∷ ns) m entries c a = (
  keep_all ns (n.rank + 1) (with_node entries n) n c.2 (omega arith) (tells_new entries n (not_in entries m n.rank a.up c.0)),
  tell_all ns (n.rank + 1) (with_node entries n) c.2 (up_next m entries n a c.0 c.1),
)

none_up : AreUp 0 []
none_up = record { up = tt; once = tt; firsts = λ k h. absurd (omega arith) }

pub are_up : (nodes : List Node) → AreHosts nodes → AreEntriesOf (entries_of nodes)
are_up nodes a = up_all nodes 0 [] (climbing nodes a) none_up

pub are_told : (nodes : List Node) → AreHosts nodes → AllByRecursion (Tells (entries_of nodes)) nodes
are_told nodes a = tell_all nodes 0 [] (climbing nodes a) none_up

-- ---- in the words of the reader

has-flat_map : (entries : List Entry) (q : ℕ) → has (flat_map (λ entry. entry.ranks) entries) q ≡ list_any (has_rank q) entries
has-flat_map [] q = refl
has-flat_map (e ∷ more) q = list_any-append (λ x. eqb x q) e.ranks (flat_map (λ entry. entry.ranks) more) ∙ ap (λ b. has e.ranks q || b) (has-flat_map more q)

-- the entries have the ranks of the hosts
pub ranks_again : (nodes : List Node) → AreHosts nodes → ranks_of (entries_of nodes) ≡ map (λ node. node.rank) nodes
ranks_again nodes a =
    same_ids (has (flat_map (λ entry. entry.ranks) (entries_of nodes))) (has (ranks nodes)) (λ q s. has-flat_map (entries_of nodes) q ∙ any_all nodes [] q)
    ∙ list_of_rising (ranks nodes) a.rising (All-map (λ id. id < 65536) (λ (n : Node). n.rank) nodes a.small)

node_again : (entries : List Entry) (node : Node) → Tells entries node → node_at entries node.rank node.host ≡ node
node_again entries node t = ap (λ o. node_with (unwrap_or o no_entry) node.rank node.host) t.found
    ∙ ap₂ (λ cs gs. let n : Node = record { rank = node.rank; host = node.host; cores = cs; gpus = gs } in n) t.cores t.gpus

nodes_told : (entries : List Entry) (nodes : List Node) → AllByRecursion (Tells entries) nodes → nodes_with entries (map (λ node. node.rank) nodes) (map (λ node. node.host) nodes) ≡ nodes
nodes_told entries [] a = refl
nodes_told entries (n ∷ ns) a = ap₂ (λ x l. x ∷ l) (node_again entries n a.0) (nodes_told entries ns a.1)

-- and tell the hosts again
pub nodes_again : (nodes : List Node) → AreHosts nodes → nodes_with (entries_of nodes) (map (λ node. node.rank) nodes) (map (λ node. node.host) nodes) ≡ nodes
nodes_again nodes a = nodes_told (entries_of nodes) nodes (are_told nodes a)

find_none : (p : ℕ → Bool) (xs : List ℕ) → ((x : ℕ) → has xs x ≡ true → p x ≡ false) → find p xs ≡ None
find_none p [] f = refl
find_none p (x ∷ xs) f = ap (λ b. cond b (Some x) (find p xs)) (f x (ap (λ b. b || has xs x) (itself x))) ∙ find_none p xs (λ y t. f y (ap (λ b. eqb x y || b) t ∙ or-true (eqb x y)))

apart : (q : ℕ) (e : Entry) (before more : List Entry) → (list_any (has_rank q) (e ∷ more) ≡ true → list_any (has_rank q) before ≡ false) → ((r : ℕ) → has e.ranks r ≡ true → list_any (has_rank r) more ≡ false) → list_any (has_rank q) more ≡ true → list_any (has_rank q) (before ++ e ∷ []) ≡ false
apart q e before more f o t = list_any-append (has_rank q) before (e ∷ []) ∙ no_or (list_any (has_rank q) before) (has e.ranks q || false) (f (ap (λ b. has e.ranks q || b) t ∙ or-true (has e.ranks q))) (no_or (has e.ranks q) false (false_of (has e.ranks q) (λ h. let clash : true ≡ false = sym t ∙ o q h in cc)) refl)

once_told : (before entries : List Entry) → Once entries → ((q : ℕ) → list_any (has_rank q) entries ≡ true → list_any (has_rank q) before ≡ false) → twice_behind before entries ≡ None
once_told before [] o f = refl
once_told before (e ∷ more) o f =
    ap (λ x. or_else x (twice_behind (before ++ e ∷ []) more)) (find_none (λ r. list_any (has_rank r) before) e.ranks (λ r t. f r (ap (λ b. b || list_any (has_rank r) more) t)))
    ∙ once_told (before ++ e ∷ []) more o.1 (λ q t. apart q e before more (f q) o.0 t)

-- no rank stands twice
pub once_again : (nodes : List Node) → AreHosts nodes → twice_behind [] (entries_of nodes) ≡ None
once_again nodes a = once_told [] (entries_of nodes) (are_up nodes a).up.once (λ q t. refl)

-- the ranks of an entry are small and stand in order
pub record IsRisen (entry : Entry) : Type 0 where
  pub told : list_of entry.ranks ≡ entry.ranks
  pub small : All (λ rank. rank < 65536) entry.ranks

small_up : (m : ℕ) (entries : List Entry) → AllByRecursion (IsUp m) entries → AllByRecursion IsRisen entries
small_up m [] a = tt
small_up m (e ∷ more) a = (record { told = list_of_rising e.ranks a.0.rising a.0.small; small = a.0.small }, small_up m more a.1)

pub entries_rise : (nodes : List Node) → AreHosts nodes → AllByRecursion IsRisen (entries_of nodes)
entries_rise nodes a = let all = are_up nodes a in small_up all.bound (entries_of nodes) all.up.up

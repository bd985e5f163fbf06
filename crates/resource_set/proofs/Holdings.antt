-- Units of hosts, by tests.
use Rattle.std.proofs.Common.{◌≡◌, ◌≢◌, ℕ, zero, suc, ◌+◌, ◌<◌, ◌≤◌, Bool, true, false, cond, ◌&&◌, ◌||◌, List, [], ◌∷◌, ◌++◌, length, take, drop, get_or, filter, Option, Some, None, refl, sym, ap, ap₂, ◌∙◌, arith, append-nil, is_some, take-append-drop, length-take-le}
use Rattle.std.specs.Prelude.{flat_map, MatchOption, IfSome}
use Rattle.std.specs.List.{list_any, find, All, HoldsAt}
use Rattle.std.specs.Str.{bytes_eq}
use Rattle.std.proofs.Math.Bool.{or-false}
use Rattle.std.proofs.lemmas.List.Folds.{list_any-append}
use Rattle.std.proofs.lemmas.List.{get_or-take, get_or-drop, take_more}
use Rattle.std.proofs.lemmas.List.Elements.{All-head, All-tail}
use Rattle.resource_set.specs.declared.node.Node.{Node}
use Rattle.resource_set.specs.Places.{place_of}
use Rattle.resource_set.specs.Units.{AreDistinct, host_names, is_named, without_ids, without_node, without_nodes}
use Rattle.resource_set.proofs.Places.{is_some-place_of, place_of-true, place_of-push, or_place}
use Rattle.resource_set.proofs.Placed.{All-unmap}
use Rattle.resource_set.proofs.Spans.{without_none}
use Rattle.resource_set.proofs.Booleans.{false_of, same_name, placed_anew}

-- ---- a host among different ones

-- no host further on has the name of the first one
none_behind : (name : List ℕ) (nodes : List Node) → All (λ y. name ≢ y) (host_names nodes) → list_any (is_named name) nodes ≡ false
none_behind name [] a = refl
none_behind name (n ∷ ns) a =
    let here : bytes_eq n.host name ≡ false = false_of (bytes_eq n.host name) (λ t. All-head (λ y. name ≢ y) n.host (host_names ns) a (sym (same_name n.host name t))) in
    let rest : list_any (is_named name) ns ≡ false = none_behind name ns (All-tail (λ y. name ≢ y) n.host (host_names ns) a) in
    ap₂ (λ p q. p || q) here rest

pub none_so : (name : List ℕ) (q : Node → Bool) (nodes : List Node) → list_any (is_named name) nodes ≡ false → list_any (λ n. bytes_eq n.host name && q n) nodes ≡ false
none_so name q [] h = refl
none_so name q (n ∷ ns) h = go (bytes_eq n.host name) (list_any (is_named name) ns) h (λ e. none_so name q ns e)
  where
    go : (a b : Bool) → (a || b) ≡ false → (b ≡ false → list_any (λ m. bytes_eq m.host name && q m) ns ≡ false) → ((a && q n) || list_any (λ m. bytes_eq m.host name && q m) ns) ≡ false
    go true b e f = cc
    go false b e f = f e

-- the test of what stands at a host is the test of that host
pub only_there : (name : List ℕ) (q : Node → Bool) (nodes : List Node) (i : ℕ) (d : Node) → AreDistinct (host_names nodes) → i < length nodes → bytes_eq (get_or nodes i d).host name ≡ true
    → list_any (λ n. bytes_eq n.host name && q n) nodes ≡ q (get_or nodes i d)
only_there name q [] i d a h t = absurd (omega arith)
only_there name q (n ∷ ns) zero d a h t =
    let other : list_any (is_named n.host) ns ≡ false = none_behind n.host ns a.0 in
    let rest : list_any (λ m. bytes_eq m.host name && q m) ns ≡ false = none_so name q ns (ap (λ l. list_any (is_named l) ns) (sym (same_name n.host name t)) ∙ other) in
    ap₂ (λ x y. (x && q n) || y) t rest ∙ or-false (q n)
only_there name q (n ∷ ns) (suc i) d a h t =
    let here : bytes_eq n.host name ≡ false = false_of (bytes_eq n.host name) (λ e. apart n ns i d a.0 (omega arith) (same_name n.host name e ∙ sym (same_name (get_or ns i d).host name t))) in
    ap (λ b. (b && q n) || list_any (λ m. bytes_eq m.host name && q m) ns) here ∙ only_there name q ns i d a.1 (omega arith) t
  where
    apart : (n : Node) (ns : List Node) (i : ℕ) (d : Node) → All (λ y. n.host ≢ y) (host_names ns) → i < length ns → n.host ≢ (get_or ns i d).host
    apart n ns i d all h e = All-unmap (λ y. n.host ≢ y) (λ (m : Node). m.host) ns all i d h e

-- the host at a place stands at no earlier one
pub no_earlier : (nodes : List Node) (i : ℕ) (d : Node) → AreDistinct (host_names nodes) → i < length nodes → list_any (is_named (get_or nodes i d).host) (take i nodes) ≡ false
no_earlier [] i d a h = absurd (omega arith)
no_earlier (n ∷ ns) zero d a h = refl
no_earlier (n ∷ ns) (suc i) d a h =
    let here : bytes_eq n.host (get_or ns i d).host ≡ false = false_of (bytes_eq n.host (get_or ns i d).host) (λ e. All-unmap (λ y. n.host ≢ y) (λ (m : Node). m.host) ns a.0 i d (omega arith) (same_name n.host (get_or ns i d).host e)) in
    ap₂ (λ x y. x || y) here (no_earlier ns i d a.1 (omega arith))

-- ---- a host without others

pub filter_none : {A : Type 0} (p : A → Bool) (xs : List A) → list_any p xs ≡ false → filter p xs ≡ []
filter_none p [] h = refl
filter_none p (x ∷ xs) h = go (p x) (list_any p xs) h (λ e. filter_none p xs e)
  where
    go : (a b : Bool) → (a || b) ≡ false → (b ≡ false → filter p xs ≡ []) → cond a (x ∷ filter p xs) (filter p xs) ≡ []
    go true b e f = cc
    go false b e f = f e

one_host_filter : (name : List ℕ) (nodes : List Node) (t : Node) → AreDistinct (host_names nodes) → find (is_named name) nodes ≡ Some t → filter (is_named name) nodes ≡ t ∷ []
one_host_filter name [] t a h = cc
one_host_filter name (n ∷ ns) t a h = go (bytes_eq n.host name) refl h (λ e. one_host_filter name ns t a.1 e)
  where
    go : (b : Bool) → bytes_eq n.host name ≡ b → cond b (Some n) (find (is_named name) ns) ≡ Some t → (find (is_named name) ns ≡ Some t → filter (is_named name) ns ≡ t ∷ []) → cond b (n ∷ filter (is_named name) ns) (filter (is_named name) ns) ≡ t ∷ []
    go true e h f =
        let is : n ≡ t = cc in
        let none : filter (is_named name) ns ≡ [] = filter_none (is_named name) ns (ap (λ l. list_any (is_named l) ns) (sym (same_name n.host name e)) ∙ none_behind n.host ns a.0) in
        ap₂ (λ x l. x ∷ l) is none
    go false e h f = f h

find_none_any : (p : Node → Bool) (nodes : List Node) → find p nodes ≡ None → list_any p nodes ≡ false
find_none_any p [] h = refl
find_none_any p (n ∷ ns) h = go (p n) h (λ e. find_none_any p ns e)
  where
    go : (b : Bool) → cond b (Some n) (find p ns) ≡ None → (find p ns ≡ None → list_any p ns ≡ false) → (b || list_any p ns) ≡ false
    go true h f = cc
    go false h f = f h

pub left_here : (taken : List Node) (node there : Node) → AreDistinct (host_names taken) → find (is_named node.host) taken ≡ Some there
    → without_node there node ≡ without_nodes taken node
left_here taken node there a h =
    let one : filter (is_named node.host) taken ≡ there ∷ [] = one_host_filter node.host taken there a h in
    sym (ap (λ (ts : List Node). let left : Node = record node { cores = without_ids node.cores (flat_map (λ t. t.cores) ts); gpus = without_ids node.gpus (flat_map (λ t. t.gpus) ts) } in left) one
    ∙ ap₂ (λ cs gs. let left : Node = record node { cores = without_ids node.cores cs; gpus = without_ids node.gpus gs } in left) (append-nil there.cores) (append-nil there.gpus))

pub left_whole : (taken : List Node) (node : Node) → find (is_named node.host) taken ≡ None → node ≡ without_nodes taken node
left_whole taken node h =
    let none : filter (is_named node.host) taken ≡ [] = filter_none (is_named node.host) taken (find_none_any (is_named node.host) taken h) in
    sym (ap (λ (ts : List Node). let left : Node = record node { cores = without_ids node.cores (flat_map (λ t. t.cores) ts); gpus = without_ids node.gpus (flat_map (λ t. t.gpus) ts) } in left) none
    ∙ ap₂ (λ cs gs. let left : Node = record node { cores = cs; gpus = gs } in left) (without_none node.cores [] refl) (without_none node.gpus [] refl))

-- ---- a walk around

pub around_some : (name : List ℕ) (nodes : List Node) (from k : ℕ) → place_of (is_named name) (drop from nodes) ≡ Some k → HoldsAt (λ node. bytes_eq node.host name ≡ true) nodes (from + k)
around_some name nodes from k h d = ap (λ (n : Node). bytes_eq n.host name) (sym (get_or-drop from nodes k d)) ∙ place_of-true (is_named name) (drop from nodes) k d h

pub around_none : (name : List ℕ) (nodes : List Node) (from : ℕ) (r : Option ℕ) → from ≤ length nodes → place_of (is_named name) (drop from nodes) ≡ None → r ≡ place_of (is_named name) (take from nodes) → IfSome r (λ place. place < length (take from nodes))
    → MatchOption r (list_any (is_named name) nodes ≡ false) (λ place. (place < length nodes) × HoldsAt (λ node. bytes_eq node.host name ≡ true) nodes place)
around_none name nodes from None f b h i =
    ap (list_any (is_named name)) (sym (take-append-drop from nodes)) ∙ list_any-append (is_named name) (take from nodes) (drop from nodes)
    ∙ ap₂ (λ x y. x || y) (sym (is_some-place_of (is_named name) (take from nodes)) ∙ ap is_some (sym h)) (sym (is_some-place_of (is_named name) (drop from nodes)) ∙ ap is_some b)
around_none name nodes from (Some k) f b h i =
    let len : length (take from nodes) ≡ from = length-take-le from nodes f in
    let below : k < from = omega (arith, i) in
    (omega arith, λ d. ap (λ (n : Node). bytes_eq n.host name) (sym (get_or-take from nodes k d below)) ∙ place_of-true (is_named name) (take from nodes) k d (sym h))

-- one host more is written down
pub host_placed : (nodes : List Node) (i : ℕ) (node : Node) (name : List ℕ) → AreDistinct (host_names nodes) → i < length nodes → node ≡ get_or nodes i node
    → cond (bytes_eq node.host name) (Some i) (place_of (is_named name) (take i nodes)) ≡ place_of (is_named name) (take (i + 1) nodes)
host_placed nodes i node name a h is =
    let len : length (take i nodes) ≡ i = length-take-le i nodes (omega arith) in
    placed_anew (bytes_eq node.host name) (place_of (is_named name) (take i nodes)) i (λ t. is_some-place_of (is_named name) (take i nodes)
    ∙ (ap (λ l. list_any (is_named l) (take i nodes)) (sym (same_name node.host name t) ∙ ap (λ (n : Node). n.host) is) ∙ no_earlier nodes i node a h))
    ∙ ap (λ n. or_place (place_of (is_named name) (take i nodes)) (cond (bytes_eq node.host name) (Some n) None)) (sym len)
    ∙ sym (place_of-push (is_named name) (take i nodes) node)
    ∙ ap (λ n. place_of (is_named name) (take i nodes ++ n ∷ [])) is
    ∙ ap (place_of (is_named name)) (sym (take_more nodes i node h))

-- The units of hosts as a test, and what inclusion and difference mean by it.
use Rattle.std.proofs.Common.{◌≡◌, ℕ, zero, suc, ◌<◌, Bool, true, false, cond, ◌&&◌, ◌||◌, not, eqb, List, [], ◌∷◌, length, get_or, map, filter, Option, Some, None, inl, inr, is_some, refl, sym, ap, ap₂, subst, ◌∙◌, arith}
use Rattle.std.specs.Prelude.{flat_map, Contains}
use Rattle.std.specs.List.{list_any, list_all}
use Rattle.std.specs.Str.{bytes_eq}
use Rattle.std.proofs.Math.Bool.{or-true, and-false}
use Rattle.std.proofs.lemmas.Bool.Decides.{nat_tests}
use Rattle.std.proofs.lemmas.Slice.Eq.{bytes_eq-Decides}
use Rattle.std.proofs.lemmas.List.Folds.{list_any-append}
use Rattle.std.proofs.lemmas.List.Elements.{Contains-append_left, Contains-append_right, Contains-append_cases}
use Rattle.idset.specs.Ids.{has}
use Rattle.resource_set.specs.declared.node.Node.{Node}
use Rattle.resource_set.specs.Places.{place_of}
use Rattle.resource_set.specs.Units.{ResourceUnit, host_names, is_named, core_of, gpu_of, units_of_node, units_of, LiesIn, AreDistinct, without_ids, without_nodes, has_ids_of, has_units_of, lies_on}
use Rattle.resource_set.proofs.Places.{is_some-place_of, place_of-true, place_of-inside}
use Rattle.resource_set.proofs.Holdings.{only_there, none_so}
use Rattle.resource_set.proofs.Booleans.{both, either, false_of, itself, same_name}

-- a unit of a host, by its kind
abbrev made : Bool → Node → ℕ → ResourceUnit
made gpu node id = record { host = node.host; is_gpu = gpu; id = id }

-- the GPUs of a host, or its cores
abbrev kind : Bool → Node → List ℕ
kind gpu node = cond gpu node.gpus node.cores

-- whether a host has a unit, and whether one of several has
abbrev pub node_has : ResourceUnit → Node → Bool
node_has unit node = bytes_eq node.host unit.host && has (kind unit.is_gpu node) unit.id

abbrev pub has_unit : List Node → ResourceUnit → Bool
has_unit nodes unit = list_any (node_has unit) nodes

host_is : (a b : List ℕ) → a ≡ b → bytes_eq a b ≡ true
host_is a b e = (bytes_eq-Decides a b).1 e

in_made : (gpu : Bool) (n : Node) (ids : List ℕ) (u : ResourceUnit) (k : ℕ) → k < length (map (made gpu n) ids) → get_or (map (made gpu n) ids) k u ≡ u → (n.host ≡ u.host) × (gpu ≡ u.is_gpu) × (has ids u.id ≡ true)
in_made gpu n [] u k h e = absurd (omega arith)
in_made gpu n (x ∷ xs) u zero h e =
    let id : x ≡ u.id = ap (λ (v : ResourceUnit). v.id) e in
    let met : eqb x u.id ≡ true = grind (arith, nat_tests) in
    (ap (λ (v : ResourceUnit). v.host) e, ap (λ (v : ResourceUnit). v.is_gpu) e, ap (λ b. b || has xs u.id) met)
in_made gpu n (x ∷ xs) u (suc k) h e =
    let rest = in_made gpu n xs u k (omega arith) e in
    (rest.0, rest.1, ap (λ b. eqb x u.id || b) rest.2 ∙ or-true (eqb x u.id))

made_step : (gpu : Bool) (n : Node) (x id : ℕ) (xs : List ℕ) (b : Bool) → eqb x id ≡ b → (b || has xs id) ≡ true → (has xs id ≡ true → Contains (map (made gpu n) xs) (made gpu n id)) → Contains (map (made gpu n) (x ∷ xs)) (made gpu n id)
made_step gpu n x id xs true e h f = let is : x ≡ id = grind (arith, nat_tests) in (0, omega arith, ap (made gpu n) is)
made_step gpu n x id xs false e h f = Contains-append_right (made gpu n x ∷ []) (map (made gpu n) xs) (made gpu n id) (f h)

made_there : (gpu : Bool) (n : Node) (ids : List ℕ) (id : ℕ) → has ids id ≡ true → Contains (map (made gpu n) ids) (made gpu n id)
made_there gpu n [] id h = cc
made_there gpu n (x ∷ xs) id h = made_step gpu n x id xs (eqb x id) refl h (λ t. made_there gpu n xs id t)

node_told : (n : Node) (u : ResourceUnit) → Contains (units_of_node n) u → node_has u n ≡ true
node_told n u h = elim (Contains-append_cases (map (core_of n) n.cores) (map (gpu_of n) n.gpus) u h) [
  | inl c ↦ let m = in_made false n n.cores u c.0 c.1 c.2 in ap₂ (λ a b. a && has (kind b n) u.id) (host_is n.host u.host m.0) (sym m.1) ∙ m.2
  | inr c ↦ let m = in_made true n n.gpus u c.0 c.1 c.2 in ap₂ (λ a b. a && has (kind b n) u.id) (host_is n.host u.host m.0) (sym m.1) ∙ m.2
]

unit_is : (gpu : Bool) (n : Node) (u : ResourceUnit) → n.host ≡ u.host → gpu ≡ u.is_gpu → made gpu n u.id ≡ u
unit_is gpu n u h g = ap₂ (λ a b. let v : ResourceUnit = record { host = a; is_gpu = b; id = u.id } in v) h g

node_there : (n : Node) (u : ResourceUnit) → node_has u n ≡ true → Contains (units_of_node n) u
node_there n u h = go u.is_gpu refl (both (bytes_eq n.host u.host) (has (kind u.is_gpu n) u.id) h)
  where
    go : (g : Bool) → u.is_gpu ≡ g → (bytes_eq n.host u.host ≡ true) × (has (kind u.is_gpu n) u.id ≡ true) → Contains (units_of_node n) u
    go false e m = Contains-append_left (map (core_of n) n.cores) (map (gpu_of n) n.gpus) u
        (subst (Contains (map (core_of n) n.cores)) (unit_is false n u (same_name n.host u.host m.0) (sym e)) (made_there false n n.cores u.id (ap (λ b. has (kind b n) u.id) (sym e) ∙ m.1)))
    go true e m = Contains-append_right (map (core_of n) n.cores) (map (gpu_of n) n.gpus) u
        (subst (Contains (map (gpu_of n) n.gpus)) (unit_is true n u (same_name n.host u.host m.0) (sym e)) (made_there true n n.gpus u.id (ap (λ b. has (kind b n) u.id) (sym e) ∙ m.1)))

nothing_in : {A : Type 0} (x : A) → Contains [] x → ⊥
nothing_in x h = let lt : h.0 < 0 = h.1 in omega arith

-- a unit that stands there is told, and the other way round
pub units_told : (nodes : List Node) (u : ResourceUnit) → Contains (units_of nodes) u → has_unit nodes u ≡ true
units_told [] u h = absurd (nothing_in u h)
units_told (n ∷ ns) u h = elim (Contains-append_cases (units_of_node n) (units_of ns) u h) [
  | inl c ↦ ap (λ b. b || has_unit ns u) (node_told n u c)
  | inr c ↦ ap (λ b. node_has u n || b) (units_told ns u c) ∙ or-true (node_has u n)
]

pub units_there : (nodes : List Node) (u : ResourceUnit) → has_unit nodes u ≡ true → Contains (units_of nodes) u
units_there [] u h = cc
units_there (n ∷ ns) u h = elim (either (node_has u n) (has_unit ns u) h) [
  | inl t ↦ Contains-append_left (units_of_node n) (units_of ns) u (node_there n u t)
  | inr t ↦ Contains-append_right (units_of_node n) (units_of ns) u (units_there ns u t)
]

-- ---- inclusion

all_has : (p : ℕ → Bool) (xs : List ℕ) (id : ℕ) → list_all p xs ≡ true → has xs id ≡ true → p id ≡ true
all_has p [] id a h = cc
all_has p (x ∷ xs) id a h = go (eqb x id) refl h (both (p x) (list_all p xs) a) (λ e t. all_has p xs id e t)
  where
    go : (b : Bool) → eqb x id ≡ b → (b || has xs id) ≡ true → (p x ≡ true) × (list_all p xs ≡ true) → (list_all p xs ≡ true → has xs id ≡ true → p id ≡ true) → p id ≡ true
    go true e t m f = let is : x ≡ id = grind (arith, nat_tests) in sym (ap p is) ∙ m.0
    go false e t m f = f m.1 t

all_if : (p : ℕ → Bool) (xs : List ℕ) → ((id : ℕ) → has xs id ≡ true → p id ≡ true) → list_all p xs ≡ true
all_if p [] f = refl
all_if p (x ∷ xs) f =
    ap₂ (λ a b. a && b) (f x (ap (λ b. b || has xs x) (itself x))) (all_if p xs (λ id t. f id (ap (λ b. eqb x id || b) t ∙ or-true (eqb x id))))

kind_has : (part there : Node) (u : ResourceUnit) → has_ids_of there part ≡ true → has (kind u.is_gpu part) u.id ≡ true → has (kind u.is_gpu there) u.id ≡ true
kind_has part there u a h = go u.is_gpu h (both (list_all (has there.cores) part.cores) (list_all (has there.gpus) part.gpus) a)
  where
    go : (g : Bool) → has (kind g part) u.id ≡ true → (list_all (has there.cores) part.cores ≡ true) × (list_all (has there.gpus) part.gpus ≡ true) → has (kind g there) u.id ≡ true
    go true t m = all_has (has there.gpus) part.gpus u.id m.1 t
    go false t m = all_has (has there.cores) part.cores u.id m.0 t

there_has : (part there : Node) (u : ResourceUnit) → has_units_of there part ≡ true → node_has u part ≡ true → node_has u there ≡ true
there_has part there u a h =
    let m = both (bytes_eq there.host part.host) (has_ids_of there part) a in
    let k = both (bytes_eq part.host u.host) (has (kind u.is_gpu part) u.id) h in
    ap₂ (λ x y. x && y) (host_is there.host u.host (same_name there.host part.host m.0 ∙ same_name part.host u.host k.0)) (kind_has part there u m.1 k.1)

some_has : (whole : List Node) (part : Node) (u : ResourceUnit) → list_any (λ n. has_units_of n part) whole ≡ true → node_has u part ≡ true → has_unit whole u ≡ true
some_has [] part u a h = cc
some_has (n ∷ ns) part u a h = elim (either (has_units_of n part) (list_any (λ m. has_units_of m part) ns) a) [
  | inl t ↦ ap (λ b. b || has_unit ns u) (there_has part n u t h)
  | inr t ↦ ap (λ b. node_has u n || b) (some_has ns part u t h) ∙ or-true (node_has u n)
]

no_ids : (part : Node) (u : ResourceUnit) → (eqb (length part.cores) 0 && eqb (length part.gpus) 0) ≡ true → has (kind u.is_gpu part) u.id ≡ true → ⊥
no_ids part u a h = go u.is_gpu h (both (eqb (length part.cores) 0) (eqb (length part.gpus) 0) a)
  where
    none : (ids : List ℕ) → eqb (length ids) 0 ≡ true → has ids u.id ≡ true → ⊥
    none [] e t = cc
    none (x ∷ xs) e t = let is : suc (length xs) ≡ 0 = grind (arith, nat_tests) in omega arith

    go : (g : Bool) → has (kind g part) u.id ≡ true → (eqb (length part.cores) 0 ≡ true) × (eqb (length part.gpus) 0 ≡ true) → ⊥
    go true t m = none part.gpus m.1 t
    go false t m = none part.cores m.0 t

lies_node : (whole : List Node) (part : Node) (u : ResourceUnit) → lies_on whole part ≡ true → node_has u part ≡ true → has_unit whole u ≡ true
lies_node whole part u a h = elim (either (eqb (length part.cores) 0 && eqb (length part.gpus) 0) (list_any (λ n. has_units_of n part) whole) a) [
  | inl t ↦ absurd (no_ids part u t (both (bytes_eq part.host u.host) (has (kind u.is_gpu part) u.id) h).1)
  | inr t ↦ some_has whole part u t h
]

lies_units : (whole part : List Node) (u : ResourceUnit) → list_all (lies_on whole) part ≡ true → has_unit part u ≡ true → has_unit whole u ≡ true
lies_units whole [] u a h = cc
lies_units whole (n ∷ ns) u a h =
    let m = both (lies_on whole n) (list_all (lies_on whole) ns) a in
    elim (either (node_has u n) (has_unit ns u) h) [
      | inl t ↦ lies_node whole n u m.0 t
      | inr t ↦ lies_units whole ns u m.1 t
    ]

own_unit : (gpu : Bool) (n : Node) (id : ℕ) → has (kind gpu n) id ≡ true → node_has (made gpu n id) n ≡ true
own_unit gpu n id h = ap₂ (λ a b. a && b) (host_is n.host n.host refl) h

lies_at : (whole : List Node) (n : Node) (o : Option ℕ) → AreDistinct (host_names whole) → place_of (is_named n.host) whole ≡ o → ((u : ResourceUnit) → node_has u n ≡ true → has_unit whole u ≡ true) → lies_on whole n ≡ true
lies_at whole n None a e f = ap₂ (λ x y. (x && y) || list_any (λ m. has_units_of m n) whole) (empty false n.cores (λ id t. f (made false n id) (own_unit false n id t))) (empty true n.gpus (λ id t. f (made true n id) (own_unit true n id t)))
  where
    nowhere : (gpu : Bool) (id : ℕ) → has_unit whole (made gpu n id) ≡ false
    nowhere gpu id = none_so n.host (λ m. has (kind gpu m) id) whole (sym (is_some-place_of (is_named n.host) whole) ∙ ap is_some e)

    empty : (gpu : Bool) (ids : List ℕ) → ((id : ℕ) → has ids id ≡ true → has_unit whole (made gpu n id) ≡ true) → eqb (length ids) 0 ≡ true
    empty gpu [] g = refl
    empty gpu (x ∷ xs) g =
        let clash : true ≡ false = sym (g x (ap (λ b. b || has xs x) (itself x))) ∙ nowhere gpu x in
        cc
lies_at whole n (Some i) a e f =
    let inside = place_of-inside (is_named n.host) whole i e in
    let at = place_of-true (is_named n.host) whole i n e in
    let there = get_or whole i n in
    let cores : list_all (has there.cores) n.cores ≡ true = all_if (has there.cores) n.cores (λ id t. sym (only_there n.host (λ m. has m.cores id) whole i n a inside at) ∙ f (made false n id) (own_unit false n id t)) in
    let gpus : list_all (has there.gpus) n.gpus ≡ true = all_if (has there.gpus) n.gpus (λ id t. sym (only_there n.host (λ m. has m.gpus id) whole i n a inside at) ∙ f (made true n id) (own_unit true n id t)) in
    let some : list_any (λ m. has_units_of m n) whole ≡ true = only_there n.host (λ m. has_ids_of m n) whole i n a inside at ∙ ap₂ (λ x y. x && y) cores gpus in
    ap (λ b. (eqb (length n.cores) 0 && eqb (length n.gpus) 0) || b) some ∙ or-true (eqb (length n.cores) 0 && eqb (length n.gpus) 0)

lies_from : (whole part : List Node) → AreDistinct (host_names whole) → ((u : ResourceUnit) → has_unit part u ≡ true → has_unit whole u ≡ true) → list_all (lies_on whole) part ≡ true
lies_from whole [] a f = refl
lies_from whole (n ∷ ns) a f = ap₂ (λ x y. x && y)
    (lies_at whole n (place_of (is_named n.host) whole) a refl (λ u t. f u (ap (λ b. b || has_unit ns u) t)))
    (lies_from whole ns a (λ u t. f u (ap (λ b. node_has u n || b) t ∙ or-true (node_has u n))))

-- hosts lie in others just where their units do
pub lies_in : (whole part : List Node) → list_all (lies_on whole) part ≡ true → LiesIn part whole
lies_in whole part a u h = units_there whole u (lies_units whole part u a (units_told part u h))

pub lies_in_back : (whole part : List Node) → AreDistinct (host_names whole) → LiesIn part whole → list_all (lies_on whole) part ≡ true
lies_in_back whole part a f = lies_from whole part a (λ u t. units_told whole u (f u (units_there part u t)))

-- ---- difference

has_without : (ids taken : List ℕ) (id : ℕ) → has (without_ids ids taken) id ≡ (has ids id && not (has taken id))
has_without [] taken id = refl
has_without (x ∷ xs) taken id = go (has taken x) (eqb x id) refl refl (has_without xs taken id)
  where
    go : (a b : Bool) → has taken x ≡ a → eqb x id ≡ b → has (without_ids xs taken) id ≡ (has xs id && not (has taken id)) → has (cond (not a) (x ∷ without_ids xs taken) (without_ids xs taken)) id ≡ ((b || has xs id) && not (has taken id))
    go true true ae be h =
        let is : x ≡ id = grind (arith, nat_tests) in
        let gone : has taken id ≡ true = sym (ap (has taken) is) ∙ ae in
        h ∙ ap (λ c. has xs id && not c) gone ∙ and-false (has xs id) ∙ sym (ap not gone)
    go true false ae be h = h
    go false true ae be h =
        let is : x ≡ id = grind (arith, nat_tests) in
        let kept : has taken id ≡ false = sym (ap (has taken) is) ∙ ae in
        ap (λ c. c || has (without_ids xs taken) id) be ∙ sym (ap not kept)
    go false false ae be h = ap (λ c. c || has (without_ids xs taken) id) be ∙ h

has_flat : (f : Node → List ℕ) (name : List ℕ) (taken : List Node) (id : ℕ) → has (flat_map f (filter (is_named name) taken)) id ≡ list_any (λ t. bytes_eq t.host name && has (f t) id) taken
has_flat f name [] id = refl
has_flat f name (t ∷ ts) id = go (bytes_eq t.host name) (has_flat f name ts id)
  where
    go : (b : Bool) → has (flat_map f (filter (is_named name) ts)) id ≡ list_any (λ m. bytes_eq m.host name && has (f m) id) ts → has (flat_map f (cond b (t ∷ filter (is_named name) ts) (filter (is_named name) ts))) id ≡ ((b && has (f t) id) || list_any (λ m. bytes_eq m.host name && has (f m) id) ts)
    go true h = list_any-append (λ i. eqb i id) (f t) (flat_map f (filter (is_named name) ts)) ∙ ap (λ b. has (f t) id || b) h
    go false h = h

kind_without : (gpu : Bool) (taken : List Node) (n : Node) → kind gpu (without_nodes taken n) ≡ without_ids (kind gpu n) (flat_map (kind gpu) (filter (is_named n.host) taken))
kind_without true taken n = refl
kind_without false taken n = refl

node_without : (taken : List Node) (n : Node) (u : ResourceUnit) → node_has u (without_nodes taken n) ≡ (node_has u n && not (has_unit taken u))
node_without taken n u = go (bytes_eq n.host u.host) refl
  where
    go : (b : Bool) → bytes_eq n.host u.host ≡ b → node_has u (without_nodes taken n) ≡ (node_has u n && not (has_unit taken u))
    go false e = ap (λ b. b && has (kind u.is_gpu (without_nodes taken n)) u.id) e ∙ sym (ap (λ b. (b && has (kind u.is_gpu n) u.id) && not (has_unit taken u)) e)
    go true e =
        ap₂ (λ b ids. b && has ids u.id) e (kind_without u.is_gpu taken n)
        ∙ has_without (kind u.is_gpu n) (flat_map (kind u.is_gpu) (filter (is_named n.host) taken)) u.id
        ∙ ap (λ b. has (kind u.is_gpu n) u.id && not b) (has_flat (kind u.is_gpu) n.host taken u.id ∙ ap (λ h. list_any (λ t. bytes_eq t.host h && has (kind u.is_gpu t) u.id) taken) (same_name n.host u.host e))
        ∙ sym (ap (λ b. (b && has (kind u.is_gpu n) u.id) && not (has_unit taken u)) e)

apart_or : (a b c : Bool) → ((a && c) || (b && c)) ≡ ((a || b) && c)
apart_or true true true = refl
apart_or true true false = refl
apart_or true false true = refl
apart_or true false false = refl
apart_or false b c = refl

left_units : (taken nodes : List Node) (u : ResourceUnit) → has_unit (map (without_nodes taken) nodes) u ≡ (has_unit nodes u && not (has_unit taken u))
left_units taken [] u = refl
left_units taken (n ∷ ns) u = ap₂ (λ a b. a || b) (node_without taken n u) (left_units taken ns u) ∙ apart_or (node_has u n) (has_unit ns u) (not (has_unit taken u))

-- what is left has the units that were there and aren't taken
pub units_left : (taken nodes : List Node) (u : ResourceUnit) → Contains (units_of (map (without_nodes taken) nodes)) u → Contains (units_of nodes) u × (Contains (units_of taken) u → ⊥)
units_left taken nodes u h =
    let m = both (has_unit nodes u) (not (has_unit taken u)) (sym (left_units taken nodes u) ∙ units_told (map (without_nodes taken) nodes) u h) in
    (units_there nodes u m.0, λ k. let t : has_unit taken u ≡ true = units_told taken u k in let clash : false ≡ true = sym (ap not t) ∙ m.1 in cc)

pub units_left_back : (taken nodes : List Node) (u : ResourceUnit) → Contains (units_of nodes) u × (Contains (units_of taken) u → ⊥) → Contains (units_of (map (without_nodes taken) nodes)) u
units_left_back taken nodes u h =
    let none : has_unit taken u ≡ false = false_of (has_unit taken u) (λ t. h.1 (units_there taken u t)) in
    units_there (map (without_nodes taken) nodes) u (left_units taken nodes u ∙ ap₂ (λ a b. a && not b) (units_told nodes u h.0) none)

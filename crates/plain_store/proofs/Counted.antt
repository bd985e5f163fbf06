-- On the counts of the names in each place, and on the slots from a path on.
use Rattle.std.proofs.Common.{◌≡◌, ℕ, ◌+◌, ◌<◌, ◌≤◌, ◌^◌, List, [], ◌∷◌, ◌++◌, Bool, true, false, cond, not, ◌&&◌, ◌||◌, T, Option, Some, None, option_map, is_some, IsTrue, IsSome, length, refl, sym, ap, ◌∙◌, subst, true≢false, arith, bytes_eq, Bor, Ordering, Less, Equal, Greater, is_eq}
use Rattle.std.specs.Ordering.{eq_by_cmp, is_lt, ordering_then, nat_cmp}
use Rattle.std.specs.Option.{unwrap_or, option_flatten, option_copied}
use Rattle.std.specs.List.{cons_option, list_any}
use Rattle.std.specs.List.Sorted.{IsStrictlySortedBy}
use Rattle.std.specs.Cmp.Lexicographic.{slice_cmp, texts_ties}
use Rattle.std.specs.FinMap.Entries as entries
use Rattle.std.specs.Map.{lookup, keys_of, remove_entry, set_value}
use Rattle.std.specs.BTreeMap.{insert_entry}
use Rattle.std.specs.Global.{Vec}
use Rattle.kvs_txn.specs.declared.answers.Listed.{Listed}
use Rattle.kvs_model.specs.Store.{Name, Path, Node, Store, path_cmp, node_at, child_name, listed, names_in}
use Rattle.kvs_model.proofs.Paths.{path_total, path_from_test, path_self}
use Rattle.plain_store.specs.declared.slots.Item.{Item}
use Rattle.plain_store.specs.declared.slots.Change.{Change}
use Rattle.plain_store.specs.Held.{Slots, keyed, store_of, slot_at, node_of, written}
use Rattle.plain_store.specs.Counted.{Counts, kept_at, count_at, weight, times, AreCounts, IsCountable, AreCountable}
use Rattle.plain_store.proofs.Held.{first, second, both, to_T, absent, sorted_keyed, keyed_insert, lookup_keyed, by_path, store_of-insert, names_few, node_at_slot}

name_tie : (x y : Name) → is_eq (slice_cmp nat_cmp x y) ≡ bytes_eq x y
name_tie x y = sym (texts_ties x y)

tie_of_then : (r s : Ordering) → is_eq (ordering_then r s) ≡ (is_eq r && is_eq s)
tie_of_then Less s = refl
tie_of_then Equal s = refl
tie_of_then Greater s = refl

none_either : {A : Type 0} (b : Bool) (o : Option A) → o ≡ None → cond b o None ≡ None
none_either true o e = e
none_either false o e = refl

cond_and : {A : Type 0} (a b : Bool) (o : Option A) → cond a (cond b o None) None ≡ cond (a && b) o None
cond_and true b o = refl
cond_and false b o = refl

-- a path lies directly in the place before its last component, and in no other
child_of : (q p : Path) (n : Name) → child_name q (p ++ n ∷ []) ≡ cond (eq_by_cmp path_cmp q p) (Some n) None
child_of [] [] n = refl
child_of [] (y ∷ []) n = refl
child_of [] (y ∷ z ∷ p) n = refl
child_of (x ∷ []) [] n = none_either (bytes_eq x n) None refl
child_of (x ∷ w ∷ q) [] n = none_either (bytes_eq x n) None refl
child_of (x ∷ q) (y ∷ p) n =
    ap (λ o. cond (bytes_eq x y) o None) (child_of q p n)
    ∙ cond_and (bytes_eq x y) (eq_by_cmp path_cmp q p) (Some n)
    ∙ ap (λ b. cond b (Some n) None) (ap (λ b. b && eq_by_cmp path_cmp q p) (sym (name_tie x y)) ∙ sym (tie_of_then (slice_cmp nat_cmp x y) (path_cmp q p)))

weight_cond : (b : Bool) (n : Name) → times (is_some (cond b (Some n) None)) 1 ≡ times b 1
weight_cond true n = refl
weight_cond false n = refl

pub weight_of : (q p path : Path) (n : Name) → path ≡ p ++ n ∷ [] → weight q path ≡ times (eq_by_cmp path_cmp q p) 1
weight_of q p path n is = ap (weight q) is ∙ ap (λ o. times (is_some o) 1) (child_of q p n) ∙ weight_cond (eq_by_cmp path_cmp q p) n

child_root : (q : Path) → child_name q [] ≡ None
child_root [] = refl
child_root (x ∷ q) = refl

empty_is : (p : Path) → length p ≡ 0 → p ≡ []
empty_is [] e = refl
empty_is (n ∷ p) e = absurd (omega arith)

pub weight_root : (q path : Path) → length path ≡ 0 → weight q path ≡ 0
weight_root q path e = ap (weight q) (empty_is path e) ∙ ap (λ o. times (is_some o) 1) (child_root q)

countable_root : (counts : Counts) (q path : Path) → length path ≡ 0 → IsSome (child_name q path) → IsSome (kept_at counts q)
countable_root counts q path e some = absurd (true≢false (sym some ∙ ap is_some (ap (child_name q) (empty_is path e) ∙ child_root q)))

pub countable-root : (counts : Counts) (path : Path) → length path ≡ 0 → IsCountable counts path
countable-root counts path e = λ q some. countable_root counts q path e some

some_where : (b : Bool) (n : Name) → IsSome (cond b (Some n) None) → b ≡ true
some_where true n e = refl
some_where false n e = absurd (true≢false (sym e))

pub countable-child : (counts : Counts) (path p : Path) (n : Name) → path ≡ p ++ n ∷ [] → IsSome (kept_at counts p) → IsCountable counts path
countable-child counts path p n is kept = λ q some.
    let same : eq_by_cmp path_cmp q p ≡ true = some_where _ n (sym (ap is_some (ap (child_name q) is ∙ child_of q p n)) ∙ some) in
    ap (λ r. is_some (kept_at counts r)) (path_from_test q p same) ∙ kept

pub countable_place : (counts : Counts) (path p : Path) (n : Name) → path ≡ p ++ n ∷ [] → IsCountable counts path → IsSome (kept_at counts p)
countable_place counts path p n is h = h p (ap is_some (ap (child_name p) is ∙ child_of p p n ∙ ap (λ b. cond b (Some n) None) (path_self p)))

-- a look-up among entries, after one was rewritten
tied_set : {V : Type 0} (a u : Bool) (x w : V) (f : Option V) → a ≡ u → cond u (Some w) f ≡ cond a (option_map (λ _. w) (cond u (Some x) f)) (cond u (Some x) f)
tied_set true true x w f e = refl
tied_set true false x w f e = absurd (true≢false e)
tied_set false true x w f e = absurd (true≢false (sym e))
tied_set false false x w f e = refl

other_set : {V : Type 0} (a u : Bool) (x w : V) (f r : Option V) → ¬ ((a ≡ true) × (u ≡ true)) → r ≡ cond a (option_map (λ _. w) f) f → cond u (Some x) r ≡ cond a (option_map (λ _. w) (cond u (Some x) f)) (cond u (Some x) f)
other_set true true x w f r apart e = absurd (apart (refl, refl))
other_set true false x w f r apart e = e
other_set false true x w f r apart e = refl
other_set false false x w f r apart e = e

pub find-set_value : {V : Type 0} (q p : Path) (w : V) (es : List (Vec Name × V)) → entries.find path_cmp q (keyed (set_value (λ k. is_eq (path_cmp p k.items)) es w)) ≡ cond (eq_by_cmp path_cmp q p) (option_map (λ _. w) (entries.find path_cmp q (keyed es))) (entries.find path_cmp q (keyed es))
find-set_value {V} q p w [] = none_of (eq_by_cmp path_cmp q p) None refl
  where
    none_of : (b : Bool) (o : Option V) → o ≡ None → None ≡ cond b (option_map (λ _. w) o) o
    none_of true None e = refl
    none_of true (Some x) e = cc
    none_of false o e = sym e
find-set_value {V} q p w (e ∷ es) =
    let at_q = eq_by_cmp path_cmp q e.0.items in
    let rest = set_value (λ k. is_eq (path_cmp p k.items)) es w in
    let f = entries.find path_cmp q (keyed es) in
    elim (eq_by_cmp path_cmp p e.0.items) as (λ t. eq_by_cmp path_cmp p e.0.items ≡ t → entries.find path_cmp q (keyed (cond t ((e.0, w) ∷ es) (e ∷ rest))) ≡ cond (eq_by_cmp path_cmp q p) (option_map (λ _. w) (cond at_q (Some e.1) f)) (cond at_q (Some e.1) f)) [
      | true ↦ λ t. tied_set (eq_by_cmp path_cmp q p) at_q e.1 w f (ap (eq_by_cmp path_cmp q) (path_from_test p e.0.items t))
      | false ↦ λ t. other_set (eq_by_cmp path_cmp q p) at_q e.1 w f (entries.find path_cmp q (keyed rest)) (λ both. absurd (true≢false (sym (path_self p) ∙ ap (eq_by_cmp path_cmp p) (sym (path_from_test q p both.0) ∙ path_from_test q e.0.items both.1) ∙ t))) (find-set_value q p w es)
    ] refl

some_set : (b : Bool) (w : ℕ) (f : Option ℕ) → is_some (cond b (option_map (λ _. w) f) f) ≡ is_some f
some_set true w None = refl
some_set true w (Some x) = refl
some_set false w f = refl

-- the counts after one was rewritten
pub stays-set_value : (counts new : Counts) (p : Path) (w : ℕ) → new ≡ set_value (λ k. is_eq (path_cmp p k.items)) counts w → (q : Path) → IsSome (kept_at counts q) → IsSome (kept_at new q)
unfolding kept_at
stays-set_value counts new p w is q some =
    ap (λ es. is_some (entries.find path_cmp q (keyed es))) is
    ∙ ap is_some (find-set_value q p w counts)
    ∙ some_set (eq_by_cmp path_cmp q p) w (entries.find path_cmp q (keyed counts))
    ∙ some

count_step : (b stood stands : Bool) (f : Option ℕ) (old w : ℕ) → (b ≡ true → f ≡ Some old) → w + times stood 1 ≡ old + times stands 1 → unwrap_or (cond b (option_map (λ _. w) f) f) 0 + times stood (times b 1) ≡ unwrap_or f 0 + times stands (times b 1)
count_step true stood stands f old w e h = ap (λ o. unwrap_or (option_map (λ _. w) o) 0 + times stood 1) (e refl) ∙ h ∙ ap (λ o. unwrap_or o 0 + times stands 1) (sym (e refl))
count_step false true true f old w e h = refl
count_step false true false f old w e h = refl
count_step false false true f old w e h = refl
count_step false false false f old w e h = refl

pub counted-set_value : (counts new : Counts) (path p : Path) (n : Name) (old w : ℕ) (stood stands : Bool) → path ≡ p ++ n ∷ [] → kept_at counts p ≡ Some old → new ≡ set_value (λ k. is_eq (path_cmp p k.items)) counts w → w + times stood 1 ≡ old + times stands 1 → (q : Path) → count_at new q + times stood (weight q path) ≡ count_at counts q + times stands (weight q path)
unfolding kept_at
counted-set_value counts new path p n old w stood stands at found is h q =
    let f = entries.find path_cmp q (keyed counts) in
    ap (λ es. unwrap_or (entries.find path_cmp q (keyed es)) 0 + times stood (weight q path)) is
    ∙ ap (λ o. unwrap_or o 0 + times stood (weight q path)) (find-set_value q p w counts)
    ∙ ap (λ x. unwrap_or (cond (eq_by_cmp path_cmp q p) (option_map (λ _. w) f) f) 0 + times stood x) (weight_of q p path n at)
    ∙ count_step (eq_by_cmp path_cmp q p) stood stands f old w (λ e. ap (λ r. entries.find path_cmp r (keyed counts)) (path_from_test q p e) ∙ found) h
    ∙ ap (λ x. unwrap_or f 0 + times stands x) (sym (weight_of q p path n at))

times_none : (b : Bool) → times b 0 ≡ 0
times_none true = refl
times_none false = refl

-- the root lies in no place
pub counted-root : (counts : Counts) (path : Path) (stood stands : Bool) → length path ≡ 0 → (q : Path) → count_at counts q + times stood (weight q path) ≡ count_at counts q + times stands (weight q path)
counted-root counts path stood stands e q =
    ap (λ x. count_at counts q + times stood x) (weight_root q path e)
    ∙ ap (λ x. count_at counts q + x) (times_none stood ∙ sym (times_none stands))
    ∙ ap (λ x. count_at counts q + times stands x) (sym (weight_root q path e))

-- a new count of 0
none_new : (b : Bool) (f : Option ℕ) → (b ≡ true → f ≡ None) → unwrap_or (cond b (Some 0) f) 0 ≡ unwrap_or f 0
none_new true f e = ap (λ o. unwrap_or o 0) (sym (e refl))
none_new false f e = refl

find-insert : (counts : Counts) (k : Vec Name) (q : Path) → entries.find path_cmp q (keyed (insert_entry by_path counts k 0)) ≡ cond (eq_by_cmp path_cmp q k.items) (Some 0) (entries.find path_cmp q (keyed counts))
find-insert counts k q = ap (entries.find path_cmp q) (keyed_insert counts k 0) ∙ entries.find-put path_cmp path_total q k.items 0 (keyed counts)

pub same-new_count : (counts new : Counts) (k : Vec Name) → new ≡ insert_entry by_path counts k 0 → is_some (kept_at counts k.items) ≡ false → (q : Path) → count_at new q ≡ count_at counts q
unfolding kept_at
same-new_count counts new k is absent q =
    ap (λ es. unwrap_or (entries.find path_cmp q (keyed es)) 0) is
    ∙ ap (λ o. unwrap_or o 0) (find-insert counts k q)
    ∙ none_new (eq_by_cmp path_cmp q k.items) (entries.find path_cmp q (keyed counts)) (λ e. none_of _ (ap (λ r. is_some (entries.find path_cmp r (keyed counts))) (path_from_test q k.items e) ∙ absent))
  where
    none_of : (o : Option ℕ) → is_some o ≡ false → o ≡ None
    none_of None e = refl
    none_of (Some x) e = absurd (true≢false e)

some_new : (b : Bool) (f : Option ℕ) → IsSome f → IsSome (cond b (Some 0) f)
some_new true f h = refl
some_new false f h = h

pub stays-new_count : (counts new : Counts) (k : Vec Name) → new ≡ insert_entry by_path counts k 0 → (q : Path) → IsSome (kept_at counts q) → IsSome (kept_at new q)
unfolding kept_at
stays-new_count counts new k is q some = ap (λ es. is_some (entries.find path_cmp q (keyed es))) is ∙ ap is_some (find-insert counts k q) ∙ some_new (eq_by_cmp path_cmp q k.items) (entries.find path_cmp q (keyed counts)) some

pub there-new_count : (counts new : Counts) (k : Vec Name) → new ≡ insert_entry by_path counts k 0 → IsSome (kept_at new k.items)
unfolding kept_at
there-new_count counts new k is = ap (λ es. is_some (entries.find path_cmp k.items (keyed es))) is ∙ ap is_some (find-insert counts k k.items) ∙ ap (λ b. is_some (cond b (Some 0) (entries.find path_cmp k.items (keyed counts)))) (path_self k.items)

-- a count of 0 may go
gone_here : (u : Bool) (x : ℕ) (f : Option ℕ) → x ≡ 0 → (u ≡ true → f ≡ None) → unwrap_or f 0 ≡ unwrap_or (cond u (Some x) f) 0
gone_here true x f e none = ap (λ o. unwrap_or o 0) (none refl) ∙ sym e
gone_here false x f e none = refl

pub same-remove : (q p : Path) (counts : Counts) → T (entries.is_sorted path_cmp (keyed counts)) → unwrap_or (entries.find path_cmp p (keyed counts)) 0 ≡ 0 → unwrap_or (entries.find path_cmp q (keyed (remove_entry (λ k. is_eq (path_cmp p k.items)) counts))) 0 ≡ unwrap_or (entries.find path_cmp q (keyed counts)) 0
same-remove q p [] h e = refl
same-remove q p (e ∷ es) h zero =
    let u = eq_by_cmp path_cmp q e.0.items in
    let f = entries.find path_cmp q (keyed es) in
    let rest = remove_entry (λ k. is_eq (path_cmp p k.items)) es in
    elim (eq_by_cmp path_cmp p e.0.items) as (λ t. unwrap_or (cond t (Some e.1) (entries.find path_cmp p (keyed es))) 0 ≡ 0 → unwrap_or (entries.find path_cmp q (keyed (cond t es (e ∷ rest)))) 0 ≡ unwrap_or (cond u (Some e.1) f) 0) [
      | true ↦ λ zero. gone_here u e.1 f zero (λ here. ap (λ r. entries.find path_cmp r (keyed es)) (path_from_test q e.0.items here) ∙ absent e.0.items (keyed es) (first _ _ h))
      | false ↦ λ zero. elim u as (λ u. unwrap_or (cond u (Some e.1) (entries.find path_cmp q (keyed rest))) 0 ≡ unwrap_or (cond u (Some e.1) f) 0) [ true ↦ refl | false ↦ same-remove q p es (second _ _ h) zero ]
    ] zero

pub same-forgotten : (counts new : Counts) (p : Path) → new ≡ remove_entry (λ k. is_eq (path_cmp p k.items)) counts → IsStrictlySortedBy by_path (keys_of counts) → count_at counts p ≡ 0 → (q : Path) → count_at new q ≡ count_at counts q
unfolding kept_at
same-forgotten counts new p is h zero q = ap (λ es. unwrap_or (entries.find path_cmp q (keyed es)) 0) is ∙ same-remove q p counts (sorted_keyed counts h) zero

pub kept_lookup : (counts : Counts) (p : Path) → lookup (λ k. is_eq (path_cmp p k.items)) counts ≡ kept_at counts p
unfolding kept_at
kept_lookup counts p = lookup_keyed p counts

-- how many names a store has in a place, after something is written
line_length : (name : Option Name) (node : Node) (lines : List Listed) → length (cons_option (listed name node) lines) ≡ times (is_some name) 1 + length lines
line_length None node lines = omega arith
line_length (Some x) node lines = omega arith

is_equal : (r : Ordering) → is_eq r ≡ true → r ≡ Equal
is_equal Less e = absurd (true≢false (sym e))
is_equal Equal e = refl
is_equal Greater e = absurd (true≢false (sym e))

less_of : (r : Ordering) → T (is_lt r) → r ≡ Less
less_of Less h = refl
less_of Equal h = absurd h
less_of Greater h = absurd h

below_more : (p x : Path) (st : Store) → path_cmp p x ≡ Less → T (entries.below_all path_cmp x st) → T (entries.below_all path_cmp p st)
below_more p x [] e h = tt
below_more p x (y ∷ st) e h = both _ _ (subst (λ r. T (is_lt r)) (sym (path_total.trans p x y.0 e (less_of _ (first _ _ h)))) tt) (below_more p x st e (second _ _ h))

names_put : (q p : Path) (node : Node) (st : Store) → T (entries.is_sorted path_cmp st) → length (names_in (entries.put path_cmp p node st) q) + times (is_some (node_at st p)) (weight q p) ≡ length (names_in st q) + weight q p
names_put q p node [] h = let line = line_length (child_name q p) node [] in omega (arith, line)
names_put q p node (e ∷ st) h =
    let rest = entries.put path_cmp p node st in
    elim (path_cmp p e.0) as (λ r. path_cmp p e.0 ≡ r → length (names_in (entries.by_order r ((p, node) ∷ e ∷ st) ((e.0, node) ∷ st) (e ∷ rest)) q) + times (is_some (cond (is_eq r) (Some e.1) (node_at st p))) (weight q p) ≡ length (names_in (e ∷ st) q) + weight q p) [
      | Less ↦ λ r.
          let none : node_at st p ≡ None = absent p st (below_more p e.0 st r (first _ _ h)) in
          let line = line_length (child_name q p) node (names_in (e ∷ st) q) in
          let zero : times (is_some (node_at st p)) (weight q p) ≡ 0 = ap (λ o. times (is_some o) (weight q p)) none in
          omega (arith, line, zero)
      | Equal ↦ λ r.
          let old = line_length (child_name q e.0) e.1 (names_in st q) in
          let new = line_length (child_name q e.0) node (names_in st q) in
          omega (arith, old, new)
      | Greater ↦ λ r.
          let later = second (entries.below_all path_cmp e.0 st) (entries.is_sorted path_cmp st) h in
          let more = names_put q p node st later in
          let old = line_length (child_name q e.0) e.1 (names_in st q) in
          let new = line_length (child_name q e.0) e.1 (names_in rest q) in
          omega (arith, more, old, new)
    ] refl

names_left : (q p : Path) (st : Store) → T (entries.is_sorted path_cmp st) → length (names_in (entries.where_key path_cmp (λ x. not (eq_by_cmp path_cmp p x)) st) q) + times (is_some (node_at st p)) (weight q p) ≡ length (names_in st q)
names_left q p [] h = refl
names_left q p (e ∷ st) h =
    let later = second (entries.below_all path_cmp e.0 st) (entries.is_sorted path_cmp st) h in
    let left = entries.where_key path_cmp (λ x. not (eq_by_cmp path_cmp p x)) st in
    elim (eq_by_cmp path_cmp p e.0) as (λ t. eq_by_cmp path_cmp p e.0 ≡ t → length (names_in (cond (not t) (e ∷ left) left) q) + times (is_some (cond t (Some e.1) (node_at st p))) (weight q p) ≡ length (names_in (e ∷ st) q)) [
      | true ↦ λ t.
          let same : p ≡ e.0 = path_from_test p e.0 t in
          let none : node_at st p ≡ None = ap (node_at st) same ∙ absent e.0 st (first _ _ h) in
          let zero : times (is_some (node_at st p)) (weight q p) ≡ 0 = ap (λ o. times (is_some o) (weight q p)) none in
          let here : weight q p ≡ weight q e.0 = ap (weight q) same in
          let more = names_left q p st later in
          let old = line_length (child_name q e.0) e.1 (names_in st q) in
          omega (arith, more, old, zero, here)
      | false ↦ λ t.
          let more = names_left q p st later in
          let old = line_length (child_name q e.0) e.1 (names_in st q) in
          let new = line_length (child_name q e.0) e.1 (names_in left q) in
          omega (arith, more, old, new)
    ] refl

pub names_written : (st : Store) (p : Path) (o : Option Node) (q : Path) → IsTrue (entries.is_sorted path_cmp st) → length (names_in (written st p o) q) + times (is_some (node_at st p)) (weight q p) ≡ length (names_in st q) + times (is_some o) (weight q p)
unfolding written
names_written st p (Some node) q h = names_put q p node st (to_T _ h)
names_written st p None q h = let left = names_left q p st (to_T _ h) in omega (arith, left)

-- the counts after a slot is written
counts_follow : (a b n m x y : ℕ) → a + x ≡ b + y → n + x ≡ m + y → b ≡ m → a ≡ n
counts_follow a b n m x y e f g = omega arith

pub some_map : {A B : Type 0} (f : A → B) (o : Option A) → is_some (option_map f o) ≡ is_some o
some_map f None = refl
some_map f (Some x) = refl

-- whether something stands at the path of a slot
pub stands_in : (slots : Slots) (path : Path) → IsStrictlySortedBy by_path (keys_of slots) → is_some (option_flatten (slot_at slots path)) ≡ is_some (node_at (store_of slots) path)
stands_in slots path h = sym (ap is_some (node_at_slot path slots h) ∙ some_map node_of (option_flatten (slot_at slots path)))

pub counts_after : (slots new : Slots) (old now : Counts) (path : Path) (o : Option Node) (stood stands : Bool) → IsTrue (entries.is_sorted path_cmp (store_of slots)) → AreCounts slots old → store_of new ≡ written (store_of slots) path o → stood ≡ is_some (node_at (store_of slots) path) → stands ≡ is_some o → ((q : Path) → count_at now q + times stood (weight q path) ≡ count_at old q + times stands (weight q path)) → AreCounts new now
counts_after slots new old now path o stood stands h counts is was here change = λ q.
    let st = store_of slots in
    let n = length (names_in (written st path o) q) in
    let m = length (names_in st q) in
    let w = weight q path in
    let names : n + times stood w ≡ m + times stands w = ap (λ b. n + times b w) was ∙ names_written st path o q h ∙ ap (λ b. m + times b w) (sym here) in
    counts_follow (count_at now q) (count_at old q) n m (times stood w) (times stands w) (change q) names (counts q)
    ∙ ap (λ s. length (names_in s q)) (sym is)

-- what stands in a place is counted
pub counted_once : (slots : Slots) (counts : Counts) (path : Path) (stood : Bool) → IsTrue (entries.is_sorted path_cmp (store_of slots)) → AreCounts slots counts → stood ≡ is_some (node_at (store_of slots) path) → (q : Path) → times stood (weight q path) ≤ count_at counts q
counted_once slots counts path stood h are was q =
    let left = names_written (store_of slots) path None q h in
    let here : times stood (weight q path) ≡ times (is_some (node_at (store_of slots) path)) (weight q path) = ap (λ b. times b (weight q path)) was in
    omega (arith, left, here, are q)

pub counts_bound : (slots : Slots) (counts : Counts) → AreCounts slots counts → length slots < 2 ^ 63 → (q : Path) → count_at counts q < 2 ^ 63
counts_bound slots counts are few q = omega (arith, are q, few, names_few q slots)

-- the log of a table whose counts stay
pub countable-more : (log : List Change) (old new : Counts) → ((q : Path) → IsSome (kept_at old q) → IsSome (kept_at new q)) → AreCountable log old → AreCountable log new
countable-more log old new stays h = λ q any. stays q (h q any)

-- a test that an item of a list passes, or the one behind it
any_push : (f : Change → Bool) (log : List Change) (change : Change) → list_any f (log ++ change ∷ []) ≡ (list_any f log || f change)
any_push f [] change = or_none (f change)
  where
    or_none : (b : Bool) → (b || false) ≡ b
    or_none true = refl
    or_none false = refl
any_push f (c ∷ log) change = ap (λ b. f c || b) (any_push f log change) ∙ grouped (f c) (list_any f log) (f change)
  where
    grouped : (a b c : Bool) → (a || (b || c)) ≡ ((a || b) || c)
    grouped true b c = refl
    grouped false b c = refl

either : {A : Type 0} (a b : Bool) → (a ≡ true → A) → (b ≡ true → A) → (a || b) ≡ true → A
either true b f g e = f refl
either false b f g e = g e

left_of : (a b : Bool) → a ≡ true → (a || b) ≡ true
left_of true b e = refl
left_of false b e = absurd (true≢false (sym e))

right_of : (a b : Bool) → b ≡ true → (a || b) ≡ true
right_of true b e = refl
right_of false b e = e

pub countable-push : (log : List Change) (change : Change) (counts : Counts) → AreCountable log counts → IsCountable counts change.path.items → AreCountable (log ++ change ∷ []) counts
countable-push log change counts h one = λ q any.
    let f = λ (c : Change). is_some (child_name q c.path.items) in
    either (list_any f log) (f change) (h q) (one q) (sym (any_push f log change) ∙ any)

pub countable-pop : (log : List Change) (change : Change) (counts : Counts) → AreCountable (log ++ change ∷ []) counts → AreCountable log counts × IsCountable counts change.path.items
countable-pop log change counts h = (
  (λ q any. let f = λ (c : Change). is_some (child_name q c.path.items) in h q (any_push f log change ∙ left_of (list_any f log) (f change) any)),
  (λ q one. let f = λ (c : Change). is_some (child_name q c.path.items) in h q (any_push f log change ∙ right_of (list_any f log) (f change) one)),
)

pub countable-none : (log : List Change) (counts : Counts) → log ≡ [] → AreCountable log counts
countable-none [] counts e = λ q any. absurd (true≢false (sym any))
countable-none (c ∷ log) counts e = cc

-- a table in which nothing stands
pub counts-none : (slots : Slots) (counts : Counts) → slots ≡ [] → counts ≡ [] → AreCounts slots counts
unfolding store_of kept_at
counts-none [] [] e f = λ q. refl
counts-none [] (x ∷ counts) e f = cc
counts-none (x ∷ slots) counts e f = cc

pub stored_at : (slots new : Slots) (key : Vec Name) (path : Path) (o : Option Item) → IsStrictlySortedBy by_path (keys_of slots) → new ≡ insert_entry by_path slots key o → key.items ≡ path → store_of new ≡ written (store_of slots) path (option_map node_of o)
stored_at slots new key path o h is same = ap store_of is ∙ store_of-insert slots key o h ∙ ap (λ p. written (store_of slots) p (option_map node_of o)) same

pub stood_at : (slots : Slots) (key : Vec Name) (path : Path) (was : Option (Option Item)) (flat : Option Item) (stood : Bool) → IsStrictlySortedBy by_path (keys_of slots) → stood ≡ is_some flat → flat ≡ option_flatten was → was ≡ slot_at slots key.items → key.items ≡ path → stood ≡ is_some (node_at (store_of slots) path)
stood_at slots key path was flat stood h some is found same = some ∙ ap is_some (is ∙ ap option_flatten found) ∙ stands_in slots key.items h ∙ ap (λ p. is_some (node_at (store_of slots) p)) same

pub some_copied : (o : Option (Bor Item)) → is_some o ≡ is_some (option_map node_of (option_copied o))
some_copied None = refl
some_copied (Some x) = refl

-- The map of open directories, as the list by their paths that contracts see.
use Rattle.std.proofs.Common.{◌≡◌, Bool, true, false, cond, List, [], ◌∷◌, ◌++◌, filter, Some, None, refl, sym, ap, ap₂, ◌∙◌, true≢false, Ordering, Less, Equal, Greater}
use Rattle.std.specs.Prelude.{IsSome, IsTrue, ◌&&◌}
use Rattle.std.specs.BTreeMap.{insert_entry}
use Rattle.std.specs.FinMap.Entries as finite
use Rattle.std.specs.Global.{Vec}
use Rattle.std.specs.List.{AllByRecursion, All}
use Rattle.std.specs.List.Sorted.{IsStrictlySortedBy}
use Rattle.std.specs.Map.{lookup, keys_of, set_value}
use Rattle.std.specs.Ordering.{is_eq, is_lt, eq_by_cmp, match_ordering}
use Rattle.std.proofs.lemmas.List.Elements.{All-head, All-tail}
use Rattle.kvs_model.specs.Store.{Name, Path, path_cmp}
use Rattle.kvs_model.proofs.Paths.{path_total, path_from_test}
use Rattle.tree_rules.specs.Objects.{Entries}
use Rattle.tree_store.specs.Shown.{Directories, keyed, opened_at, IsBefore}
use Rattle.tree_store.proofs.Opening.{not_both}

abbrev pub Rows : Type 0
Rows = List (Vec Name × Entries)

-- the order of the map's keys
abbrev pub by_path : Vec Name → Vec Name → Ordering
by_path x y = path_cmp x.items y.items

pub find_keyed : (q : Path) (rows : Rows) → lookup (λ k. is_eq (path_cmp q k.items)) rows ≡ opened_at (keyed rows) q
find_keyed q [] = refl
find_keyed q (e ∷ rows) = ap (cond (is_eq (path_cmp q e.0.items)) (Some e.1)) (find_keyed q rows)

pub put_keyed : (rows : Rows) (k : Vec Name) (es : Entries) → keyed (insert_entry by_path rows k es) ≡ finite.put path_cmp k.items es (keyed rows)
put_keyed [] k es = refl
put_keyed (e ∷ rows) k es =
    elim (path_cmp k.items e.0.items) as (λ r. keyed (match_ordering r ((k, es) ∷ e ∷ rows) ((e.0, es) ∷ rows) (e ∷ insert_entry by_path rows k es)) ≡ finite.by_order r ((k.items, es) ∷ keyed (e ∷ rows)) ((e.0.items, es) ∷ keyed rows) ((e.0.items, e.1) ∷ finite.put path_cmp k.items es (keyed rows))) [
      | Less ↦ refl
      | Equal ↦ refl
      | Greater ↦ ap (λ (more : Directories). (e.0.items, e.1) ∷ more) (put_keyed rows k es)
    ]

-- ---- a value is written where one stands

none_before : (q : Path) (rows : Rows) → AllByRecursion (λ k. path_cmp q k.items ≡ Less) (keys_of rows) → opened_at (keyed rows) q ≡ None
none_before q [] before = refl
none_before q (e ∷ rows) before = ap (λ r. cond (is_eq r) (Some e.1) (opened_at (keyed rows) q)) before.0 ∙ none_before q rows before.1

before_more : (q p : Path) (rows : Rows) → path_cmp q p ≡ Less → AllByRecursion (λ k. path_cmp p k.items ≡ Less) (keys_of rows) → AllByRecursion (λ k. path_cmp q k.items ≡ Less) (keys_of rows)
before_more q p [] less before = tt
before_more q p (e ∷ rows) less before = (path_total.trans q p e.0.items less before.0, before_more q p rows less before.1)

pub set_keyed : (q : Path) (rows : Rows) (es : Entries) → IsStrictlySortedBy by_path (keys_of rows) → IsSome (opened_at (keyed rows) q)
    → keyed (set_value (λ k. is_eq (path_cmp q k.items)) rows es) ≡ finite.put path_cmp q es (keyed rows)
unfolding IsStrictlySortedBy
set_keyed q [] es sorted some = absurd (true≢false (sym some))
set_keyed q (e ∷ rows) es sorted some =
    elim (path_cmp q e.0.items) as (λ r. path_cmp q e.0.items ≡ r → IsSome (cond (is_eq r) (Some e.1) (opened_at (keyed rows) q))
    → keyed (cond (is_eq r) ((e.0, es) ∷ rows) (e ∷ set_value (λ k. is_eq (path_cmp q k.items)) rows es))
    ≡ finite.by_order r ((q, es) ∷ keyed (e ∷ rows)) ((e.0.items, es) ∷ keyed rows) ((e.0.items, e.1) ∷ finite.put path_cmp q es (keyed rows))) [
      | Less ↦ λ is found. absurd (not_both (opened_at (keyed rows) q) found (none_before q rows (before_more q e.0.items rows is sorted.0)))
      | Equal ↦ λ is found. refl
      | Greater ↦ λ is found. ap (λ (more : Directories). (e.0.items, e.1) ∷ more) (set_keyed q rows es sorted.1 found)
    ] refl some

-- ---- the rows that pass a test, and the last one

pub where_keyed : (test : Path → Bool) (rows : Rows) → keyed (filter (λ e. test e.0.items) rows) ≡ finite.where_key path_cmp test (keyed rows)
where_keyed test [] = refl
where_keyed test (e ∷ rows) =
    elim (test e.0.items) as (λ b. keyed (cond b (e ∷ filter (λ e. test e.0.items) rows) (filter (λ e. test e.0.items) rows)) ≡ cond b ((e.0.items, e.1) ∷ finite.where_key path_cmp test (keyed rows)) (finite.where_key path_cmp test (keyed rows))) [
      | true ↦ ap (λ (more : Directories). (e.0.items, e.1) ∷ more) (where_keyed test rows)
      | false ↦ where_keyed test rows
    ]

pub last_keyed : (rows : Rows) (e : Vec Name × Entries) → keyed (rows ++ e ∷ []) ≡ keyed rows ++ (e.0.items, e.1) ∷ []
last_keyed [] e = refl
last_keyed (d ∷ rows) e = ap (λ (more : Directories). (d.0.items, d.1) ∷ more) (last_keyed rows e)

-- each row comes before one that all keys are below
pub before_last : (rows : Rows) (k : Vec Name) → All (λ q. by_path q k ≡ Less) (keys_of rows) → (place : Path) → IsSome (opened_at (keyed rows) place) → IsBefore place k.items
before_last [] k before place some = absurd (true≢false (sym some))
before_last (e ∷ rows) k before place some =
    elim (eq_by_cmp path_cmp place e.0.items) as (λ b. eq_by_cmp path_cmp place e.0.items ≡ b → IsSome (cond b (Some e.1) (opened_at (keyed rows) place)) → IsBefore place k.items) [
      | true ↦ λ is found. ap is_lt (ap (λ (p : Path). path_cmp p k.items) (path_from_test place e.0.items is) ∙ All-head (λ q. by_path q k ≡ Less) e.0 (keys_of rows) before)
      | false ↦ λ is found. before_last rows k (All-tail (λ q. by_path q k ≡ Less) e.0 (keys_of rows) before) place found
    ] refl some

-- ---- the order of the rows

less_before : (p : Path) (rows : Rows) → AllByRecursion (λ k. path_cmp p k.items ≡ Less) (keys_of rows) → finite.below_all path_cmp p (keyed rows) ≡ true
less_before p [] before = refl
less_before p (e ∷ rows) before = ap₂ (λ a b. a && b) (ap is_lt before.0) (less_before p rows before.1)

pub sorted_keyed : (rows : Rows) → IsStrictlySortedBy by_path (keys_of rows) → IsTrue (finite.is_sorted path_cmp (keyed rows))
unfolding IsStrictlySortedBy
sorted_keyed [] sorted = refl
sorted_keyed (e ∷ rows) sorted = ap₂ (λ a b. a && b) (less_before e.0.items rows sorted.0) (sorted_keyed rows sorted.1)

-- Where nothing stands at a path or below, taking it away changes nothing.
use Rattle.std.proofs.Common.{◌≡◌, ◌≢◌, Bool, true, false, cond, not, [], ◌∷◌, ◌++◌, Option, Some, None, refl, sym, ap, ◌∙◌, subst, append-nil, append_assoc}
use Rattle.std.specs.Prelude.{IsSome}
use Rattle.std.specs.FinMap.Entries as finite
use Rattle.std.specs.Option.{option_map_or}
use Rattle.std.specs.Ordering.{eq_by_cmp}
use Rattle.fl_digest.specs.declared.Hash.{Hash}
use Rattle.kvs_model.specs.Store.{Name, Path, Node, Directory, Store, IsStore, path_cmp, node_at, without, is_within}
use Rattle.kvs_model.proofs.Paths.{path_self, node_at-without, sorted-without, same_store}
use Rattle.tree_rules.specs.Held.{Table}
use Rattle.tree_rules.specs.Objects.{Entries}
use Rattle.tree_store.specs.Shown.{Directories, opened_at, Shows, without_object, take_from, closed_within}
use Rattle.tree_store.proofs.Opening.{above_child, is_some, not_both}
use Rattle.tree_store.proofs.Replacing.{within_rest}

all_kept : (test : Path → Bool) (ds : Directories) → ((q : Path) → IsSome (opened_at ds q) → test q ≡ true) → finite.where_key path_cmp test ds ≡ ds
all_kept test [] h = refl
all_kept test (e ∷ ds) h =
    let first : test e.0 ≡ true = h e.0 (subst (λ b. IsSome (cond b (Some e.1) (opened_at ds e.0))) (sym (path_self e.0)) refl) in
    let more : (q : Path) → IsSome (opened_at ds q) → test q ≡ true =
    λ q some. h q (elim (eq_by_cmp path_cmp q e.0) as (λ b. IsSome (cond b (Some e.1) (opened_at ds q))) [ true ↦ refl | false ↦ some ]) in
    ap (λ b. cond b (e ∷ finite.where_key path_cmp test ds) (finite.where_key path_cmp test ds)) first ∙ ap (λ (more : Directories). e ∷ more) (all_kept test ds more)

-- no directory is closed where none is open
pub closed_none : (ds : Directories) (whole : Path) → ((q : Path) → is_within whole q ≡ true → opened_at ds q ≡ None) → closed_within ds whole ≡ ds
closed_none ds whole none =
    all_kept (λ place. not (is_within whole place)) ds (λ q some.
    elim (is_within whole q) as (λ b. is_within whole q ≡ b → not b ≡ true) [ true ↦ λ e. absurd (not_both (opened_at ds q) some (none q e)) | false ↦ λ e. refl ] refl)

-- nothing stands at the path or below, where no directory stands above
none_under : (st : Store) → IsStore st → (p : Path) (n : Name) → (node_at st p ≢ Some Directory) → (r : Path) → node_at st ((p ++ n ∷ []) ++ r) ≡ None
none_under st is p n unlike r = nothing r (node_at st ((p ++ n ∷ []) ++ r)) refl
  where
    up : (q : Path) (s : Path) → IsSome (node_at st (q ++ s)) → IsSome (node_at st q)
    up q [] some = subst (λ (x : Path). IsSome (node_at st x)) (append-nil q) some
    up q (m ∷ s) some = is_some (node_at st q) Directory (is.parents q m (up (q ++ m ∷ []) s (subst (λ (x : Path). IsSome (node_at st x)) (sym (append_assoc q (m ∷ []) s)) some)))

    nothing : (r : Path) (o : Option Node) → node_at st ((p ++ n ∷ []) ++ r) ≡ o → o ≡ None
    nothing r None e = refl
    nothing r (Some node) e = absurd (unlike (is.parents p n (up (p ++ n ∷ []) r (is_some (node_at st ((p ++ n ∷ []) ++ r)) node e))))

none_within : (st : Store) → IsStore st → (p : Path) (n : Name) → (node_at st p ≢ Some Directory) → (q : Path) → is_within (p ++ n ∷ []) q ≡ true → node_at st q ≡ None
none_within st is p n unlike q w = let rest = within_rest (p ++ n ∷ []) q w in ap (node_at st) rest.1 ∙ none_under st is p n unlike rest.0

without_none : (st : Store) → IsStore st → (p : Path) (n : Name) → (node_at st p ≢ Some Directory) → without st (p ++ n ∷ []) ≡ st
without_none st is p n unlike =
    same_store (without st (p ++ n ∷ [])) st (sorted-without st (p ++ n ∷ []) is.sorted) is.sorted (λ q.
    node_at-without st (p ++ n ∷ []) q
    ∙ elim (is_within (p ++ n ∷ []) q) as (λ b. is_within (p ++ n ∷ []) q ≡ b → cond (not b) (node_at st q) None ≡ node_at st q) [
      | true ↦ λ e. sym (none_within st is p n unlike q e)
      | false ↦ λ e. refl
    ] refl)

none_open : (o : Option Entries) → (IsSome o → ⊥) → o ≡ None
none_open None unlike = refl
none_open (Some es) unlike = absurd (unlike refl)

pub shows_uncut : (h : Hash) (table : Table) (ds : Directories) (st : Store) (p : Path) (n : Name) → Shows h table ds st → (node_at st p ≢ Some Directory)
    → Shows h table (closed_within (without_object ds (p ++ n ∷ [])) (p ++ n ∷ [])) (without st (p ++ n ∷ []))
shows_uncut h table ds st p n shows unlike =
    let parent : opened_at ds p ≡ None = none_open (opened_at ds p) (λ some. unlike (shows.places p some)) in
    let kept : without_object ds (p ++ n ∷ []) ≡ ds = ap (λ (o : Option (Path × Name)). option_map_or (λ at. take_from ds at (opened_at ds at.0)) o ds) (above_child p n) ∙ ap (take_from ds (p, n)) parent in
    let closed : closed_within ds (p ++ n ∷ []) ≡ ds =
    closed_none ds (p ++ n ∷ []) (λ q w. none_open (opened_at ds q) (λ some. (let e : Some Directory ≡ None = sym (shows.places q some) ∙ none_within st shows.store p n unlike q w in cc))) in
    subst (λ (d : Directories). Shows h table d (without st (p ++ n ∷ []))) (sym (ap (λ (d : Directories). closed_within d (p ++ n ∷ [])) kept ∙ closed))
    (subst (Shows h table ds) (sym (without_none st shows.store p n unlike)) shows)

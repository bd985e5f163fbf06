-- Lists of entries: what is taken out, and what stays.
use Rattle.std.proofs.Common.{◌≡◌, ◌-◌, ◌≤◌, length, take, reverse, Bool, true, false, cond, not, List, [], ◌∷◌, ◌++◌, Option, Some, None, refl, sym, ap, ◌∙◌, subst, filter}
use Rattle.std.specs.Cmp.{IsEquivalence}
use Rattle.std.specs.List.{AllByRecursion, IsDistinct}
use Rattle.std.specs.Map.{keys_of, lookup, lookup_entry, remove_entry, set_value}
use Rattle.std.specs.Option.{option_map_or}
use Rattle.std.proofs.lemmas.List.{reverse-append, take_all}
use Rattle.lru.specs.LruCache.{LruCache, put_entries}
use Rattle.std.proofs.lemmas.Map.{lookup-remove_entry}

module _ {K X : Type 0} where
  -- where a look-up finds nothing, the first entry doesn't pass
  pub none_head : (test : K → Bool) (e : K × X) (es : List (K × X)) → lookup test (e ∷ es) ≡ None → (test e.0 ≡ false) × (lookup test es ≡ None)
  none_head test e es h = (elim (test e.0) as (λ b. test e.0 ≡ b → (test e.0 ≡ false) × (lookup test es ≡ None)) [
    | true ↦ λ t. let h' = rw t at h in let bad : ⊥ = cc in absurd bad
    | false ↦ λ t. (t, rw t at h)
  ]) refl

  pub remove-none : (test : K → Bool) (es : List (K × X)) → lookup test es ≡ None → remove_entry test es ≡ es
  remove-none test [] h = refl
  remove-none test (e ∷ es) h = let at = none_head test e es h in rw at.0 (ap (λ l. e ∷ l) (remove-none test es at.1))

  pub set-none : (test : K → Bool) (es : List (K × X)) (w : X) → lookup test es ≡ None → set_value test es w ≡ es
  set-none test [] w h = refl
  set-none test (e ∷ es) w h = let at = none_head test e es h in rw at.0 (ap (λ l. e ∷ l) (set-none test es w at.1))

  -- a write over a write
  pub set-set : (test : K → Bool) (es : List (K × X)) (v w : X) → set_value test (set_value test es v) w ≡ set_value test es w
  set-set test [] v w = refl
  set-set test (e ∷ es) v w = (elim (test e.0) as (λ b. test e.0 ≡ b → set_value test (set_value test (e ∷ es) v) w ≡ set_value test (e ∷ es) w) [
    | true ↦ λ t. rw t (rw t refl)
    | false ↦ λ t. rw t (rw t (ap (λ l. e ∷ l) (set-set test es v w)))
  ]) refl

  -- what isn't there isn't there after something was taken out
  pub lookup-remove-none : (found test : K → Bool) (es : List (K × X)) → lookup found es ≡ None → lookup found (remove_entry test es) ≡ None
  lookup-remove-none found test [] h = refl
  lookup-remove-none found test (e ∷ es) h = let at = none_head found e es h in (elim (test e.0) as (λ b. test e.0 ≡ b → lookup found (remove_entry test (e ∷ es)) ≡ None) [
    | true ↦ λ t. rw t at.1
    | false ↦ λ t. rw t (rw at.0 (lookup-remove-none found test es at.1))
  ]) refl

  pub all-remove : (P : K × X → Type 0) (test : K → Bool) (es : List (K × X)) → AllByRecursion P es → AllByRecursion P (remove_entry test es)
  all-remove P test [] h = tt
  all-remove P test (e ∷ es) h = (elim (test e.0) as (λ b. test e.0 ≡ b → AllByRecursion P (remove_entry test (e ∷ es))) [
    | true ↦ λ t. rw t h.1
    | false ↦ λ t. rw t (h.0, all-remove P test es h.1)
  ]) refl

  -- what holds of each entry and of the one with its value changed
  pub all-set : (P : K × X → Type 0) (test : K → Bool) (es : List (K × X)) (v w : X) → lookup test es ≡ Some v → ((k : K) → P (k, v) → P (k, w)) → AllByRecursion P es → AllByRecursion P (set_value test es w)
  all-set P test [] v w h change all = tt
  all-set P test (e ∷ es) v w h change all = (elim (test e.0) as (λ b. test e.0 ≡ b → AllByRecursion P (set_value test (e ∷ es) w)) [
    | true ↦ λ t. let h' = rw t at h in let same : e.1 ≡ v = cc in rw t (change e.0 (subst (λ (x : X). P (e.0, x)) same all.0), all.1)
    | false ↦ λ t. rw t (all.0, all-set P test es v w (rw t at h) change all.1)
  ]) refl

  -- what holds of each entry holds of the one that a look-up finds, under some key that passes
  pub all-lookup : (P : K × X → Type 0) (test : K → Bool) (es : List (K × X)) (v : X) → lookup test es ≡ Some v → AllByRecursion P es → (k : K) × (test k ≡ true) × P (k, v)
  all-lookup P test [] v h all = let bad : ⊥ = cc in absurd bad
  all-lookup P test (e ∷ es) v h all = (elim (test e.0) as (λ b. test e.0 ≡ b → (k : K) × (test k ≡ true) × P (k, v)) [
    | true ↦ λ t. let h' = rw t at h in let same : e.1 ≡ v = cc in (e.0, t, subst (λ (x : X). P (e.0, x)) same all.0)
    | false ↦ λ t. all-lookup P test es v (rw t at h) all.1
  ]) refl

  all_keys-remove : (Q : K → Type 0) (test : K → Bool) (es : List (K × X)) → AllByRecursion Q (keys_of es) → AllByRecursion Q (keys_of (remove_entry test es))
  all_keys-remove Q test [] h = tt
  all_keys-remove Q test (e ∷ es) h = (elim (test e.0) as (λ b. test e.0 ≡ b → AllByRecursion Q (keys_of (remove_entry test (e ∷ es)))) [
    | true ↦ λ t. rw t h.1
    | false ↦ λ t. rw t (h.0, all_keys-remove Q test es h.1)
  ]) refl

  pub once-remove : (eq : K → K → Bool) (test : K → Bool) (es : List (K × X)) → IsDistinct eq (keys_of es) → IsDistinct eq (keys_of (remove_entry test es))
  unfolding IsDistinct
  once-remove eq test [] d = tt
  once-remove eq test (e ∷ es) d = (elim (test e.0) as (λ b. test e.0 ≡ b → IsDistinct eq (keys_of (remove_entry test (e ∷ es)))) [
    | true ↦ λ t. rw t d.1
    | false ↦ λ t. rw t (all_keys-remove (λ y. eq e.0 y ≡ false) test es d.0, once-remove eq test es d.1)
  ]) refl

  differs : (eq : K → K → Bool) (k : K) (es : List (K × X)) → lookup (eq k) es ≡ None → AllByRecursion (λ y. eq k y ≡ false) (keys_of es)
  differs eq k [] h = tt
  differs eq k (e ∷ es) h = let at = none_head (eq k) e es h in (at.0, differs eq k es at.1)

  absent : (eq : K → K → Bool) (k : K) (es : List (K × X)) → AllByRecursion (λ y. eq k y ≡ false) (keys_of es) → lookup (eq k) es ≡ None
  absent eq k [] h = refl
  absent eq k (e ∷ es) h = rw h.0 (absent eq k es h.1)

  pub once-cons : (eq : K → K → Bool) (k : K) (v : X) (es : List (K × X)) → lookup (eq k) es ≡ None → IsDistinct eq (keys_of es) → IsDistinct eq (keys_of ((k, v) ∷ es))
  unfolding IsDistinct
  once-cons eq k v es h d = (differs eq k es h, d)

  -- what was taken out under its key is there no more
  pub lookup-remove-same : {eq : K → K → Bool} → IsEquivalence eq → (k : K) (es : List (K × X)) → IsDistinct eq (keys_of es) → lookup (eq k) (remove_entry (eq k) es) ≡ None
  lookup-remove-same {eq} laws k es d =
      lookup-remove_entry laws (eq k) (λ x y. laws.congr k x y) k es d ∙ ap (λ b. cond b None (lookup (eq k) es)) (laws.refl k)

  other : {eq : K → K → Bool} → IsEquivalence eq → (k j : K) → eq k j ≡ true → (es : List (K × X)) → AllByRecursion (λ y. eq j y ≡ false) (keys_of es) → AllByRecursion (λ y. eq k y ≡ false) (keys_of es)
  other laws k j h [] all = tt
  other laws k j h (e ∷ es) all = (laws.congr k j e.0 h ∙ all.0, other laws k j h es all.1)

  first_absent : {eq : K → K → Bool} → IsEquivalence eq → (k : K) (e : K × X) (es : List (K × X)) → IsDistinct eq (keys_of (e ∷ es)) → eq k e.0 ≡ true → lookup (eq k) es ≡ None
  unfolding IsDistinct
  first_absent {eq} laws k e es d h =
      absent eq k es (other laws k e.0 h es d.0)

  filter-none : (test : K → Bool) (es : List (K × X)) → lookup test es ≡ None → filter (λ e. not (test e.0)) es ≡ es
  filter-none test [] h = refl
  filter-none test (e ∷ es) h = let at = none_head test e es h in rw at.0 (ap (λ l. e ∷ l) (filter-none test es at.1))

  -- under distinct keys, taking one out leaves the others
  pub remove-filter : {eq : K → K → Bool} → IsEquivalence eq → (k : K) (es : List (K × X)) → IsDistinct eq (keys_of es) → remove_entry (eq k) es ≡ filter (λ e. not (eq k e.0)) es
  unfolding IsDistinct
  remove-filter laws k [] d = refl
  remove-filter {eq} laws k (e ∷ es) d = (elim (eq k e.0) as (λ b. eq k e.0 ≡ b → remove_entry (eq k) (e ∷ es) ≡ filter (λ e. not (eq k e.0)) (e ∷ es)) [
    | true ↦ λ t. rw t (sym (filter-none (eq k) es (first_absent laws k e es d t)))
    | false ↦ λ t. rw t (ap (λ l. e ∷ l) (remove-filter laws k es d.1))
  ]) refl

  -- an entry in the middle, whose key none before it has
  pub remove-middle : (test : K → Bool) (xs : List (K × X)) (e : K × X) (ys : List (K × X)) → AllByRecursion (λ x. test x.0 ≡ false) xs → test e.0 ≡ true → remove_entry test (xs ++ e ∷ ys) ≡ xs ++ ys
  remove-middle test [] e ys all h = rw h refl
  remove-middle test (x ∷ xs) e ys all h = rw all.0 (ap (λ l. x ∷ l) (remove-middle test xs e ys all.1 h))

  pub entry-none : (test : K → Bool) (es : List (K × X)) → lookup test es ≡ None → lookup_entry test es ≡ None
  entry-none test [] h = refl
  entry-none test (e ∷ es) h = let at = none_head test e es h in rw at.0 (entry-none test es at.1)

  -- a put of a new entry in a cache with room
  pub put-new : (eq : K → K → Bool) (c : LruCache K X) (k : K) (v : X) → lookup (eq k) c.entries ≡ None → length c.entries ≤ c.cap - 1 → put_entries eq c k v ≡ (k, v) ∷ c.entries
  put-new eq c k v h room =
      ap (λ (o : Option (K × X)). option_map_or (λ (e : K × X). (e.0, v) ∷ remove_entry (eq k) c.entries) o ((k, v) ∷ take (c.cap - 1) c.entries)) (entry-none (eq k) c.entries h)
      ∙ ap (λ (l : List (K × X)). (k, v) ∷ l) (take_all (c.cap - 1) c.entries room)

  -- a write leaves the keys
  pub lookup-set-none : (found test : K → Bool) (es : List (K × X)) (w : X) → lookup found es ≡ None → lookup found (set_value test es w) ≡ None
  lookup-set-none found test [] w h = refl
  lookup-set-none found test (e ∷ es) w h = let at = none_head found e es h in (elim (test e.0) as (λ b. test e.0 ≡ b → lookup found (set_value test (e ∷ es) w) ≡ None) [
    | true ↦ λ t. rw t (rw at.0 at.1)
    | false ↦ λ t. rw t (rw at.0 (lookup-set-none found test es w at.1))
  ]) refl

  pub lookup-append-none : (found : K → Bool) (xs ys : List (K × X)) → lookup found xs ≡ None → lookup found ys ≡ None → lookup found (xs ++ ys) ≡ None
  lookup-append-none found [] ys h g = g
  lookup-append-none found (x ∷ xs) ys h g = let at = none_head found x xs h in rw at.0 (lookup-append-none found xs ys at.1 g)

  pub lookup-reverse-none : (found : K → Bool) (es : List (K × X)) → lookup found es ≡ None → lookup found (reverse es) ≡ None
  lookup-reverse-none found [] h = refl
  lookup-reverse-none found (e ∷ es) h =
      let at = none_head found e es h in
      let alone : lookup found (e ∷ []) ≡ None = rw at.0 refl in
      ap (lookup found) (reverse-append (e ∷ []) es) ∙ lookup-append-none found (reverse es) (e ∷ []) (lookup-reverse-none found es at.1) alone

  pub lookup-filter-none : (found : K → Bool) (p : K × X → Bool) (es : List (K × X)) → lookup found es ≡ None → lookup found (filter p es) ≡ None
  lookup-filter-none found p [] h = refl
  lookup-filter-none found p (e ∷ es) h = let at = none_head found e es h in (elim (p e) as (λ b. p e ≡ b → lookup found (filter p (e ∷ es)) ≡ None) [
    | true ↦ λ t. rw t (rw at.0 (lookup-filter-none found p es at.1))
    | false ↦ λ t. rw t (lookup-filter-none found p es at.1)
  ]) refl

  -- a write at what is then taken out
  pub remove-set : (test : K → Bool) (es : List (K × X)) (w : X) → remove_entry test (set_value test es w) ≡ remove_entry test es
  remove-set test [] w = refl
  remove-set test (e ∷ es) w = (elim (test e.0) as (λ b. test e.0 ≡ b → remove_entry test (set_value test (e ∷ es) w) ≡ remove_entry test (e ∷ es)) [
    | true ↦ λ t. rw t (rw t refl)
    | false ↦ λ t. rw t (rw t (ap (λ l. e ∷ l) (remove-set test es w)))
  ]) refl

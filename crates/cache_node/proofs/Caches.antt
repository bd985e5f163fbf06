-- Dirty contents beside clean ones, after each change.
use Rattle.std.proofs.Common.{◌≡◌, ℕ, ◌-◌, ◌^◌, ◌<◌, ◌≤◌, length, is_some, arith, Bool, true, false, List, [], ◌∷◌, Option, Some, None, refl, sym, ap, ◌∙◌, subst, reverse, filter, option_map, Bor, Result, Ok, Err, OnOk, OnErr}
use Rattle.std.specs.Prelude.{IsSome, IfSome, option_copied}
use Rattle.std.specs.List.{AllByRecursion, IsDistinct}
use Rattle.std.specs.Option.{option_map_or}
use Rattle.std.specs.Map.{keys_of, lookup, remove_entry, set_value}
use Rattle.fl_digest.specs.declared.BlobRef.{BlobRef}
use Rattle.fl_digest.specs.Reference.{same_reference}
use Rattle.cache_node.specs.declared.content.Held.{Held}
use Rattle.cache_node.specs.Order.{Names, is_pinned, unpinned, pinned, released, used, filled, staying, remaining}
use Rattle.std.proofs.lemmas.Map.Steps.{set_value_same}
use Rattle.lru.specs.LruCache.{LruCache, lru_cache, put_entries}
use Rattle.cache_node.specs.Cache.{Cache, IsSound, dirty_at, held_at, any_at, stored, acknowledged}
use Rattle.cache_node.proofs.Entries.{none_head, put-new, set-none, set-set, remove-set, lookup-remove-none, lookup-remove-same, lookup-reverse-none, lookup-set-none, lookup-filter-none, once-remove, once-cons, all-remove, all-lookup}
use Rattle.cache_node.proofs.Same.{same_laws, same_true}

some_or_none : {X : Type 0} (o : Option X) → IsSome o → o ≡ None → ⊥
some_or_none None h e = let bad : ⊥ = cc in bad
some_or_none (Some x) h e = cc

-- what is there after something was taken out was there before
was_there : {X : Type 0} (q : BlobRef) (test : BlobRef → Bool) (es : List (BlobRef × X)) → IsSome (lookup (same_reference q) (remove_entry test es)) → IsSome (lookup (same_reference q) es)
was_there {X} q test es h = (elim (lookup (same_reference q) es) as (λ o. lookup (same_reference q) es ≡ o → IsSome o) [
  | None ↦ λ e. absurd (some_or_none (lookup (same_reference q) (remove_entry test es)) h (lookup-remove-none (same_reference q) test es e))
  | Some x ↦ λ e. refl
]) refl

-- and it isn't what was taken out
other_than : {X : Type 0} (q r : BlobRef) (es : List (BlobRef × X)) → IsDistinct same_reference (keys_of es) → IsSome (lookup (same_reference q) (remove_entry (same_reference r) es)) → same_reference q r ≡ false
other_than {X} q r es d h = (elim (same_reference q r) as (λ b. same_reference q r ≡ b → b ≡ false) [
  | true ↦ λ t.
      let gone : lookup (same_reference q) (remove_entry (same_reference r) es) ≡ None = subst (λ (s : BlobRef). lookup (same_reference s) (remove_entry (same_reference r) es) ≡ None) (sym (same_true q r t)) (lookup-remove-same same_laws r es d) in
      absurd (some_or_none (lookup (same_reference q) (remove_entry (same_reference r) es)) h gone)
  | false ↦ λ t. refl
]) refl

pub sound_none : IsSound [] []
unfolding IsDistinct
sound_none = record { once = tt; named = tt; apart = λ q h. refl }

pub sound_refused : (ds : List (BlobRef × List ℕ)) (cs : List (BlobRef × Held)) (r : BlobRef) → IsSound ds cs → IsSound (remove_entry (same_reference r) ds) cs
sound_refused ds cs r s = record {
  once = once-remove same_reference (same_reference r) ds s.once;
  named = all-remove (λ e. Names e.0 e.1) (same_reference r) ds s.named;
  apart = λ q h. s.apart q (was_there q (same_reference r) ds h);
}

-- clean contents that have no new reference
pub sound_clean : (ds : List (BlobRef × List ℕ)) (cs next : List (BlobRef × Held)) → IsSound ds cs → ((q : BlobRef) → lookup (same_reference q) cs ≡ None → lookup (same_reference q) next ≡ None) → IsSound ds next
sound_clean ds cs next s fewer = record { once = s.once; named = s.named; apart = λ q h. fewer q (s.apart q h) }

stored_apart : (ds : List (BlobRef × List ℕ)) (cs : List (BlobRef × Held)) (r : BlobRef) (bytes : List ℕ) → IsSound ds cs → lookup (same_reference r) cs ≡ None
    → (q : BlobRef) → IsSome (lookup (same_reference q) ((r, bytes) ∷ ds)) → lookup (same_reference q) cs ≡ None
stored_apart ds cs r bytes s no_clean q h = (elim (same_reference q r) as (λ b. same_reference q r ≡ b → lookup (same_reference q) cs ≡ None) [
  | true ↦ λ t. subst (λ (p : BlobRef). lookup (same_reference p) cs ≡ None) (sym (same_true q r t)) no_clean
  | false ↦ λ t. s.apart q (rw t at h)
]) refl

pub sound_stored : (ds : List (BlobRef × List ℕ)) (cs : List (BlobRef × Held)) (r : BlobRef) (bytes : List ℕ) → IsSound ds cs → lookup (same_reference r) ds ≡ None → lookup (same_reference r) cs ≡ None → Names r bytes
    → IsSound ((r, bytes) ∷ ds) cs
sound_stored ds cs r bytes s no_dirty no_clean named = record {
  once = once-cons same_reference r bytes ds no_dirty s.once;
  named = (named, s.named);
  apart = λ q h. stored_apart ds cs r bytes s no_clean q h;
}

-- one reference more among the clean ones, which is no longer dirty
pub sound_moved : (ds : List (BlobRef × List ℕ)) (cs next : List (BlobRef × Held)) (r : BlobRef) → IsSound ds cs
    → ((q : BlobRef) → same_reference q r ≡ false → lookup (same_reference q) cs ≡ None → lookup (same_reference q) next ≡ None) → IsSound (remove_entry (same_reference r) ds) next
sound_moved ds cs next r s fewer = record {
  once = once-remove same_reference (same_reference r) ds s.once;
  named = all-remove (λ e. Names e.0 e.1) (same_reference r) ds s.named;
  apart = λ q h. fewer q (other_than q r ds s.once h) (s.apart q (was_there q (same_reference r) ds h));
}

pub absent-cons : (q r : BlobRef) (held : Held) (cs : List (BlobRef × Held)) → same_reference q r ≡ false → lookup (same_reference q) cs ≡ None → lookup (same_reference q) ((r, held) ∷ cs) ≡ None
absent-cons q r held cs apart h = rw apart h

absent-used : (q r : BlobRef) (held : Held) (cs : List (BlobRef × Held)) → same_reference q r ≡ false → lookup (same_reference q) cs ≡ None → lookup (same_reference q) (used r held cs) ≡ None
absent-used q r held cs apart h = absent-cons q r held (remove_entry (same_reference r) cs) apart (lookup-remove-none (same_reference q) (same_reference r) cs h)

-- a content that is there was used
pub absent-used-there : (q r : BlobRef) (held next : Held) (cs : List (BlobRef × Held)) → lookup (same_reference r) cs ≡ Some held → lookup (same_reference q) cs ≡ None → lookup (same_reference q) (used r next cs) ≡ None
absent-used-there q r held next cs there h = (elim (same_reference q r) as (λ b. same_reference q r ≡ b → lookup (same_reference q) (used r next cs) ≡ None) [
  | true ↦ λ t. let found = ap (λ (p : BlobRef). lookup (same_reference p) cs) (same_true q r t) in let bad : ⊥ = cc in absurd bad
  | false ↦ λ t. absent-used q r next cs t h
]) refl

absent-staying : (test : BlobRef × Held → List (BlobRef × Held) → Bool) (q : BlobRef) (es : List (BlobRef × Held)) → lookup (same_reference q) es ≡ None → lookup (same_reference q) (staying test es) ≡ None
unfolding staying
absent-staying test q [] h = refl
absent-staying test q (e ∷ es) h = let at = none_head (same_reference q) e es h in (elim (test e es) as (λ b. test e es ≡ b → lookup (same_reference q) (staying test (e ∷ es)) ≡ None) [
  | true ↦ λ t. rw t (rw at.0 (absent-staying test q es at.1))
  | false ↦ λ t. rw t (absent-staying test q es at.1)
]) refl

-- what isn't among the entries isn't among what stays of them
pub absent-filled : (test : BlobRef × Held → List (BlobRef × Held) → Bool) (q r : BlobRef) (bytes : List ℕ) (cs : List (BlobRef × Held)) → same_reference q r ≡ false → lookup (same_reference q) cs ≡ None
    → lookup (same_reference q) (remaining test (filled r bytes cs)) ≡ None
absent-filled test q r bytes cs apart h =
    lookup-reverse-none (same_reference q) (staying test (reverse (filled r bytes cs)))
    (absent-staying test q (reverse (filled r bytes cs)) (lookup-reverse-none (same_reference q) (filled r bytes cs) (absent-used q r _ cs apart h)))

pub found_dirty : (ds : List (BlobRef × List ℕ)) (r : BlobRef) (o : Option (Bor (List ℕ))) → AllByRecursion (λ e. Names e.0 e.1) ds → option_copied o ≡ lookup (same_reference r) ds → IfSome o (λ bytes. Names r bytes.now)
found_dirty ds r None all h = tt
found_dirty ds r (Some bytes) all h =
    let at = all-lookup (λ e. Names e.0 e.1) (same_reference r) ds bytes.now (sym h) all in
    subst (λ (q : BlobRef). Names q bytes.now) (sym (same_true r at.0 at.1)) at.2

pub named_dirty : (ds : List (BlobRef × List ℕ)) (r : BlobRef) (bytes : List ℕ) → AllByRecursion (λ e. Names e.0 e.1) ds → lookup (same_reference r) ds ≡ Some bytes → Names r bytes
named_dirty ds r bytes all h =
    let at = all-lookup (λ e. Names e.0 e.1) (same_reference r) ds bytes h all in
    subst (λ (q : BlobRef). Names q bytes) (sym (same_true r at.0 at.1)) at.2

pinned_cases : (ds : List (BlobRef × List ℕ)) (cs : List (BlobRef × Held)) (r : BlobRef) (o : Option Held) → IsSound ds cs → lookup (same_reference r) cs ≡ o → IsSound ds (option_map_or (λ held. used r (pinned held) cs) o cs)
pinned_cases ds cs r None s h = s
pinned_cases ds cs r (Some held) s h = sound_clean ds cs (used r (pinned held) cs) s (λ q absent. absent-used-there q r held (pinned held) cs h absent)

pub sound_pinned : (ds : List (BlobRef × List ℕ)) (cs next : List (BlobRef × Held)) (r : BlobRef) → IsSound ds cs
    → next ≡ option_map_or (λ held. used r (pinned held) cs) (lookup (same_reference r) cs) cs → IsSound ds next
sound_pinned ds cs next r s e = rw e (pinned_cases ds cs r (lookup (same_reference r) cs) s refl)

released_cases : (ds : List (BlobRef × List ℕ)) (cs : List (BlobRef × Held)) (r : BlobRef) (o : Option Held) → IsSound ds cs → IsSound ds (option_map_or (λ held. set_value (same_reference r) cs (released held)) o cs)
released_cases ds cs r None s = s
released_cases ds cs r (Some held) s = sound_clean ds cs (set_value (same_reference r) cs (released held)) s (λ q absent. lookup-set-none (same_reference q) (same_reference r) cs (released held) absent)

pub sound_released : (ds : List (BlobRef × List ℕ)) (cs next : List (BlobRef × Held)) (r : BlobRef) → IsSound ds cs
    → next ≡ option_map_or (λ held. set_value (same_reference r) cs (released held)) (lookup (same_reference r) cs) cs → IsSound ds next
sound_released ds cs next r s e = rw e (released_cases ds cs r (lookup (same_reference r) cs) s)

-- a dirty map without a bound of its own beside clean contents
abbrev pub IsOpen : LruCache BlobRef (List ℕ) → List (BlobRef × Held) → Type 0
IsOpen c cs = IsSound c.entries cs × (c.cap ≡ 2 ^ 64 - 1)

pub open_put : (c n : LruCache BlobRef (List ℕ)) (cs : List (BlobRef × Held)) (r : BlobRef) (bytes : List ℕ) → IsOpen c cs → lookup (same_reference r) c.entries ≡ None → lookup (same_reference r) cs ≡ None → Names r bytes
    → length c.entries < 2 ^ 63 → n ≡ lru_cache (put_entries same_reference c r bytes) c.cap → IsOpen n cs × (n.entries ≡ (r, bytes) ∷ c.entries)
open_put c n cs r bytes o no_dirty no_clean named room put =
    let fits : length c.entries ≤ c.cap - 1 = let cap = o.1 in omega arith in
    let entries : n.entries ≡ (r, bytes) ∷ c.entries = ap (λ (m : LruCache BlobRef (List ℕ)). m.entries) put ∙ put-new same_reference c r bytes no_dirty fits in
    ((rw entries (sound_stored c.entries cs r bytes o.0 no_dirty no_clean named), ap (λ (m : LruCache BlobRef (List ℕ)). m.cap) put ∙ o.1), entries)

-- where no content is under a reference, neither a dirty nor a clean one is
both_none : (clean : Option Held) (dirty : Option (List ℕ)) → option_map_or (λ (b : List ℕ). Some b) (option_map (λ (h : Held). h.bytes) clean) dirty ≡ None → (dirty ≡ None) × (clean ≡ None)
both_none None dirty h = (h, refl)
both_none (Some held) dirty h = let bad : ⊥ = cc in absurd bad

copied_none : {X : Type 0} (o : Option (Bor X)) → is_some o ≡ false → option_copied o ≡ None
copied_none None h = refl
copied_none (Some x) h = let bad : ⊥ = cc in absurd bad

pub neither : (r : BlobRef) (cache : Cache) (o : Option (Bor (List ℕ))) → is_some o ≡ false → option_copied o ≡ any_at r cache → (dirty_at r cache ≡ None) × (held_at r cache ≡ None) × (any_at r cache ≡ None)
neither r cache o none found =
    let absent : any_at r cache ≡ None = sym found ∙ copied_none o none in
    let both = both_none (held_at r cache) (dirty_at r cache) absent in
    (both.0, both.1, absent)

pub stored_is : (ds : List (BlobRef × List ℕ)) (cs : List (BlobRef × Held)) (now : Cache) (es : List (BlobRef × List ℕ)) (r : BlobRef) (bytes : List ℕ) → record { dirty = ds; clean = cs } ≡ now → any_at r now ≡ None → es ≡ (r, bytes) ∷ ds
    → record { dirty = es; clean = cs } ≡ stored r bytes now
stored_is ds cs now es r bytes same absent entries =
    let made : Cache = record { dirty = (r, bytes) ∷ ds; clean = cs } in
    ap (λ (l : List (BlobRef × List ℕ)). record { dirty = l; clean = cs }) entries
    ∙ ap (λ (c : Cache). record { dirty = (r, bytes) ∷ c.dirty; clean = c.clean }) same
    ∙ ap (λ (o : Option (List ℕ)). option_map_or (λ kept. now) o (record { dirty = (r, bytes) ∷ now.dirty; clean = now.clean })) (sym absent)

module _ (c e : LruCache BlobRef (List ℕ)) (cs : List (BlobRef × Held)) (r : BlobRef) (blank : List ℕ) (o : IsOpen c cs) (cut : e ≡ lru_cache (set_value (same_reference r) c.entries blank) c.cap) where
  -- nothing was exchanged where nothing was there
  pub unchanged : lookup (same_reference r) c.entries ≡ None → e ≡ c
  unchanged absent = cut ∙ ap (λ (l : List (BlobRef × List ℕ)). lru_cache l c.cap) (set-none (same_reference r) c.entries blank absent)

  pub still_open : lookup (same_reference r) c.entries ≡ None → IsOpen e cs
  still_open absent = rw (unchanged absent) o

  module _ (bytes : List ℕ) (found : lookup (same_reference r) c.entries ≡ Some bytes) where
    pub acked_dirty : (p : LruCache BlobRef (List ℕ)) → p ≡ lru_cache (remove_entry (same_reference r) e.entries) e.cap → p ≡ lru_cache (remove_entry (same_reference r) c.entries) c.cap
    acked_dirty p out = out ∙ ap (λ (m : LruCache BlobRef (List ℕ)). lru_cache (remove_entry (same_reference r) m.entries) m.cap) cut
        ∙ ap (λ (l : List (BlobRef × List ℕ)). lru_cache l c.cap) (remove-set (same_reference r) c.entries blank)

    pub acked_open : (p : LruCache BlobRef (List ℕ)) (next : List (BlobRef × Held)) → p ≡ lru_cache (remove_entry (same_reference r) e.entries) e.cap → next ≡ (r, unpinned bytes) ∷ cs → IsOpen p next
    acked_open p next out added =
        rw (acked_dirty p out, added)
        (sound_moved c.entries cs ((r, unpinned bytes) ∷ cs) r o.0 (λ q apart absent. absent-cons q r (unpinned bytes) cs apart absent), o.1)

    pub taken_back : (b : LruCache BlobRef (List ℕ)) (back : List ℕ) → back ≡ bytes → b ≡ lru_cache (set_value (same_reference r) e.entries back) e.cap → b ≡ c
    taken_back b back same again =
        again ∙ ap (λ (m : LruCache BlobRef (List ℕ)). lru_cache (set_value (same_reference r) m.entries back) m.cap) cut
        ∙ ap (λ (l : List (BlobRef × List ℕ)). lru_cache l c.cap)
        (set-set (same_reference r) c.entries blank back ∙ ap (set_value (same_reference r) c.entries) same ∙ set_value_same (same_reference r) c.entries bytes found)

pub acknowledged_none : (r : BlobRef) (cache : Cache) → dirty_at r cache ≡ None → cache ≡ acknowledged r cache
acknowledged_none r cache absent = ap (λ (o : Option (List ℕ)). option_map_or (λ bytes. record { dirty = remove_entry (same_reference r) cache.dirty; clean = (r, unpinned bytes) ∷ cache.clean }) o cache) (sym absent)

pub acknowledged_some : (r : BlobRef) (cache : Cache) (bytes : List ℕ) → dirty_at r cache ≡ Some bytes → record { dirty = remove_entry (same_reference r) cache.dirty; clean = (r, unpinned bytes) ∷ cache.clean } ≡ acknowledged r cache
acknowledged_some r cache bytes found = ap (λ (o : Option (List ℕ)). option_map_or (λ bytes. record { dirty = remove_entry (same_reference r) cache.dirty; clean = (r, unpinned bytes) ∷ cache.clean }) o cache) (sym found)

-- clean contents of which only the pinned are left, or all
pub sound_dropped : {T E : Type 0} (ds : List (BlobRef × List ℕ)) (cs next : List (BlobRef × Held)) (result : Result T E) → IsSound ds cs → OnOk result (next ≡ filter (λ e. is_pinned e.1) cs) → OnErr result (next ≡ cs) → IsSound ds next
sound_dropped ds cs next (Ok gone) s rest kept = rw rest (sound_clean ds cs (filter (λ e. is_pinned e.1) cs) s (λ q absent. lookup-filter-none (same_reference q) (λ e. is_pinned e.1) cs absent))
sound_dropped ds cs next (Err e) s rest kept = rw kept s

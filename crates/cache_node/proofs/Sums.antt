-- The sums beside the clean contents, after each change.
use Rattle.std.proofs.Common.{◌≡◌, ℕ, ◌+◌, ◌-◌, ◌<◌, ◌≤◌, ◌^◌, min, Bool, true, false, cond, List, [], ◌∷◌, length, Option, Some, None, refl, sym, ap, ◌∙◌, subst, sum_by, arith, Bor, option_map, unwrap_or}
use Rattle.std.specs.Prelude.{IfSome, option_copied}
use Rattle.std.specs.Option.{option_map_or}
use Rattle.std.specs.List.{AllByRecursion, IsDistinct}
use Rattle.std.specs.Map.{keys_of, values_of, lookup, lookup_entry, remove_entry, set_value}
use Rattle.std.proofs.lemmas.Map.{keys-set_value}
use Rattle.std.proofs.lemmas.List.Sums.{sum_by-cons}
use Rattle.std.proofs.lemmas.Map.Entries.{sum_by-remove_entry, sum_by-set_value}
use Rattle.lru.specs.LruCache.{LruCache, lru_cache, promoted, put_entries}
use Rattle.fl_digest.specs.declared.BlobRef.{BlobRef}
use Rattle.fl_digest.specs.Reference.{same_reference}
use Rattle.cache_node.specs.declared.content.Held.{Held}
use Rattle.cache_node.specs.Order.{Names, is_pinned, unpinned, pinned, released, filled, dropped, remaining, without, unpinned_size, unpinned_bytes, used}
use Rattle.cache_node.specs.Kept.{IsKept}
use Rattle.std.proofs.lemmas.Bool.{lt-ltb}
use Rattle.cache_node.proofs.Entries.{remove-none, put-new, entry-none, all-remove, all-set, all-lookup, once-remove, once-cons, lookup-remove-same}
use Rattle.cache_node.proofs.Orders.{without-dropped}
use Rattle.fl_digest.specs.contracts.BlobRefPartialEq.TheImpl.{eq-value as derived}
use Rattle.cache_node.proofs.Same.{same_laws, same_true, same_refl, derived_is}

abbrev pub size : Held → ℕ
size held = length held.bytes

pub size_bound : (held : Held) → unpinned_size held ≤ size held
size_bound held = (elim (is_pinned held) as (λ b. is_pinned held ≡ b → unpinned_size held ≤ size held) [
  | true ↦ λ t. rw t (omega arith)
  | false ↦ λ t. rw t (omega arith)
]) refl

-- the unpinned bytes are among all bytes
pub unpinned_bound : (es : List (BlobRef × Held)) → unpinned_bytes es ≤ sum_by size (values_of es)
unpinned_bound [] = omega arith
unpinned_bound (e ∷ es) =
    let one = sum_by-cons unpinned_size e.1 (values_of es) in
    let other = sum_by-cons size e.1 (values_of es) in
    let first = size_bound e.1 in
    let rest = unpinned_bound es in
    omega arith

pub kept_none : IsKept [] 0 0
unfolding IsDistinct
kept_none = record { once = tt; named = tt; total_sum = refl; loose_sum = refl }

pub kept_added : (es : List (BlobRef × Held)) (b u : ℕ) (r : BlobRef) (held : Held) → IsKept es b u → lookup (same_reference r) es ≡ None → Names r held.bytes
    → IsKept ((r, held) ∷ es) (b + size held) (u + unpinned_size held)
kept_added es b u r held k absent named = record {
  once = once-cons same_reference r held es absent k.once;
  named = (named, k.named);
  total_sum = let one = sum_by-cons size held (values_of es) in let was = k.total_sum in omega arith;
  loose_sum = let one = sum_by-cons unpinned_size held (values_of es) in let was = k.loose_sum in omega arith;
}

-- what one entry counts in a sum
pub counts : (f : Held → ℕ) (r : BlobRef) (es : List (BlobRef × Held)) (held : Held) → lookup (same_reference r) es ≡ Some held
    → sum_by f (values_of (remove_entry (same_reference r) es)) + f held ≡ sum_by f (values_of es)
counts f r es held h =
    ap (λ (o : Option Held). sum_by f (values_of (remove_entry (same_reference r) es)) + unwrap_or (option_map f o) 0) (sym h) ∙ sum_by-remove_entry f (same_reference r) es

pub kept_removed : (es : List (BlobRef × Held)) (b u : ℕ) (r : BlobRef) (held : Held) → IsKept es b u → lookup (same_reference r) es ≡ Some held
    → IsKept (remove_entry (same_reference r) es) (b - size held) (u - unpinned_size held)
kept_removed es b u r held k h = record {
  once = once-remove same_reference (same_reference r) es k.once;
  named = all-remove (λ e. Names e.0 e.1.bytes) (same_reference r) es k.named;
  total_sum = let one = counts size r es held h in let was = k.total_sum in omega arith;
  loose_sum = let one = counts unpinned_size r es held h in let was = k.loose_sum in omega arith;
}

-- the bytes of a content are those of its reference
pub named_at : (es : List (BlobRef × Held)) (r : BlobRef) (held : Held) → AllByRecursion (λ e. Names e.0 e.1.bytes) es → lookup (same_reference r) es ≡ Some held → Names r held.bytes
named_at es r held all h =
    let at = all-lookup (λ e. Names e.0 e.1.bytes) (same_reference r) es held h all in
    subst (λ (q : BlobRef). Names q held.bytes) (sym (same_true r at.0 at.1)) at.2

-- a content was used, and has other pins then
pub kept_used : (es : List (BlobRef × Held)) (b u : ℕ) (r : BlobRef) (held next : Held) → IsKept es b u → lookup (same_reference r) es ≡ Some held → next.bytes ≡ held.bytes
    → IsKept (used r next es) b ((u - unpinned_size held) + unpinned_size next)
kept_used es b u r held next k h same =
    let out = kept_removed es b u r held k h in
    let whole = counts size r es held h in
    let alike : size next ≡ size held = ap length same in
    let one = sum_by-cons size next (values_of (remove_entry (same_reference r) es)) in
    let other = sum_by-cons unpinned_size next (values_of (remove_entry (same_reference r) es)) in
    let was = k.total_sum in
    let left = out.loose_sum in
    record {
      once = once-cons same_reference r next (remove_entry (same_reference r) es) (lookup-remove-same same_laws r es k.once) out.once;
      named = (subst (λ (bs : List ℕ). Names r bs) (sym same) (named_at es r held k.named h), out.named);
      total_sum = omega arith;
      loose_sum = omega arith;
    }

-- a content has other pins, and wasn't used
pub kept_set : (es : List (BlobRef × Held)) (b u : ℕ) (r : BlobRef) (held next : Held) → IsKept es b u → lookup (same_reference r) es ≡ Some held → next.bytes ≡ held.bytes
    → IsKept (set_value (same_reference r) es next) b ((u - unpinned_size held) + unpinned_size next)
kept_set es b u r held next k h same =
    let alike : size next ≡ size held = ap length same in
    let one = sum_by-set_value size (same_reference r) es held next h in
    let other = sum_by-set_value unpinned_size (same_reference r) es held next h in
    let part = counts unpinned_size r es held h in
    let was = k.total_sum in
    let left = k.loose_sum in
    record {
      once = subst (λ (ks : List BlobRef). IsDistinct same_reference ks) (sym (keys-set_value (same_reference r) es next)) k.once;
      named = all-set (λ e. Names e.0 e.1.bytes) (same_reference r) es held next h (λ q n. subst (λ (bs : List ℕ). Names q bs) (sym same) n) k.named;
      total_sum = omega arith;
      loose_sum = omega arith;
    }

-- what a content counts is within the sum
pub within_sum : (f : Held → ℕ) (r : BlobRef) (es : List (BlobRef × Held)) (held : Held) (n : ℕ) → n ≡ sum_by f (values_of es) → lookup (same_reference r) es ≡ Some held → f held ≤ n
within_sum f r es held n whole h = let part = counts f r es held h in omega arith

pub found_named : (es : List (BlobRef × Held)) (r : BlobRef) (o : Option (Bor Held)) → AllByRecursion (λ e. Names e.0 e.1.bytes) es → option_copied o ≡ lookup (same_reference r) es → IfSome o (λ held. Names r held.now.bytes)
found_named es r None all h = tt
found_named es r (Some held) all h = named_at es r held.now all (sym h)

-- what is kept beside a cache without a bound of its own
abbrev pub IsOpen : LruCache BlobRef Held → ℕ → ℕ → Type 0
IsOpen c total loose = IsKept c.entries total loose × (c.cap ≡ 2 ^ 64 - 1)

pub open_put : (c n : LruCache BlobRef Held) (total loose t l : ℕ) (r : BlobRef) (held : Held) → IsOpen c total loose → lookup (same_reference r) c.entries ≡ None → Names r held.bytes
    → length c.entries < 2 ^ 63 → n ≡ lru_cache (put_entries same_reference c r held) c.cap → t ≡ total + size held → l ≡ loose + unpinned_size held
    → IsOpen n t l × (n.entries ≡ (r, held) ∷ c.entries)
open_put c n total loose t l r held o absent named room put t_is l_is =
    let fits : length c.entries ≤ c.cap - 1 = let cap = o.1 in omega arith in
    let entries : n.entries ≡ (r, held) ∷ c.entries = ap (λ (m : LruCache BlobRef Held). m.entries) put ∙ put-new same_reference c r held absent fits in
    ((rw entries (rw t_is (rw l_is (kept_added c.entries total loose r held o.0 absent named))), ap (λ (m : LruCache BlobRef Held). m.cap) put ∙ o.1), entries)

pub open_removed : (c n : LruCache BlobRef Held) (total loose : ℕ) (r : BlobRef) (held : Held) → IsOpen c total loose → lookup (same_reference r) c.entries ≡ Some held
    → n ≡ lru_cache (remove_entry (same_reference r) c.entries) c.cap → IsOpen n (total - size held) (loose - unpinned_size held)
open_removed c n total loose r held o h out =
    (rw (ap (λ (m : LruCache BlobRef Held). m.entries) out) (kept_removed c.entries total loose r held o.0 h), ap (λ (m : LruCache BlobRef Held). m.cap) out ∙ o.1)

pub open_unremoved : (c n : LruCache BlobRef Held) (total loose : ℕ) (r : BlobRef) → IsOpen c total loose → lookup (same_reference r) c.entries ≡ None
    → n ≡ lru_cache (remove_entry (same_reference r) c.entries) c.cap → IsOpen n total loose
open_unremoved c n total loose r o h out =
    (rw (ap (λ (m : LruCache BlobRef Held). m.entries) out ∙ remove-none (same_reference r) c.entries h) o.0, ap (λ (m : LruCache BlobRef Held). m.cap) out ∙ o.1)

entry-some : (r : BlobRef) (es : List (BlobRef × Held)) (held : Held) → lookup (same_reference r) es ≡ Some held → lookup_entry (same_reference r) es ≡ Some (r, held)
entry-some r [] held h = cc
entry-some r (e ∷ es) held h = (elim (same_reference r e.0) as (λ b. same_reference r e.0 ≡ b → lookup_entry (same_reference r) (e ∷ es) ≡ Some (r, held)) [
  | true ↦ λ t.
      let h' = rw t at h in
      let value : e.1 ≡ held = cc in
      let key : e.0 ≡ r = sym (same_true r e.0 t) in
      rw t (λ i. Some (key i, value i))
  | false ↦ λ t. rw t (entry-some r es held (rw t at h))
]) refl

-- a promotion is a use
pub promoted-used : (r : BlobRef) (es : List (BlobRef × Held)) (held : Held) → lookup (same_reference r) es ≡ Some held → promoted (same_reference r) es ≡ used r held es
promoted-used r es held h = ap (λ (o : Option (BlobRef × Held)). option_map_or (λ (e : BlobRef × Held). e ∷ remove_entry (same_reference r) es) o es) (entry-some r es held h)

pub promoted-none : (r : BlobRef) (es : List (BlobRef × Held)) → lookup (same_reference r) es ≡ None → promoted (same_reference r) es ≡ es
promoted-none r es h = ap (λ (o : Option (BlobRef × Held)). option_map_or (λ (e : BlobRef × Held). e ∷ remove_entry (same_reference r) es) o es) (entry-none (same_reference r) es h)

abbrev pub touched : BlobRef → List (BlobRef × Held) → Option Held → List (BlobRef × Held)
touched r es found = option_map_or (λ held. used r held es) found es

promoted-touched : (r : BlobRef) (es : List (BlobRef × Held)) (o : Option Held) → lookup (same_reference r) es ≡ o → promoted (same_reference r) es ≡ touched r es o
promoted-touched r es None h = promoted-none r es h
promoted-touched r es (Some held) h = promoted-used r es held h

pub promoted_is : (r : BlobRef) (es : List (BlobRef × Held)) → promoted (same_reference r) es ≡ touched r es (lookup (same_reference r) es)
promoted_is r es = promoted-touched r es (lookup (same_reference r) es) refl

kept_promoted : (es : List (BlobRef × Held)) (total loose : ℕ) (r : BlobRef) (o : Option Held) → IsKept es total loose → lookup (same_reference r) es ≡ o → IsKept (promoted (same_reference r) es) total loose
kept_promoted es total loose r None k h = rw (promoted-none r es h) k
kept_promoted es total loose r (Some held) k h =
    let part = within_sum unpinned_size r es held loose k.loose_sum h in
    let same : (loose - unpinned_size held) + unpinned_size held ≡ loose = omega arith in
    rw (promoted-used r es held h) (subst (λ (n : ℕ). IsKept (used r held es) total n) same (kept_used es total loose r held held k h refl))

pub open_promoted : (c n : LruCache BlobRef Held) (total loose : ℕ) (r : BlobRef) → IsOpen c total loose
    → n ≡ lru_cache (promoted (same_reference r) c.entries) c.cap → IsOpen n total loose
open_promoted c n total loose r o out =
    (rw (ap (λ (m : LruCache BlobRef Held). m.entries) out) (kept_promoted c.entries total loose r (lookup (same_reference r) c.entries) o.0 refl), ap (λ (m : LruCache BlobRef Held). m.cap) out ∙ o.1)

-- a pinned content counts nothing
size_of_pin : (held : Held) → unpinned_size (pinned held) ≡ 0
size_of_pin held =
    let more : 0 < min (held.pins + 1) (2 ^ 64 - 1) = omega arith in
    ap (λ b. cond b 0 (length held.bytes)) (lt-ltb 0 (min (held.pins + 1) (2 ^ 64 - 1)) more)

-- a write behind a promotion is a use
written-promoted : (r : BlobRef) (es : List (BlobRef × Held)) (held next : Held) → lookup (same_reference r) es ≡ Some held → set_value (same_reference r) (promoted (same_reference r) es) next ≡ used r next es
written-promoted r es held next h = rw (promoted-used r es held h) (rw (same_refl r) refl)

pub kept_pinned : (es : List (BlobRef × Held)) (total loose : ℕ) (r : BlobRef) (held next : Held) (n : ℕ) → IsKept es total loose → lookup (same_reference r) es ≡ Some held → next ≡ pinned held → n ≡ unpinned_size held
    → IsKept (set_value (derived.it r) (promoted (derived.it r) es) next) total (loose - n)
kept_pinned es total loose r held next n k h next_is n_is =
    let none : (loose - unpinned_size held) + unpinned_size (pinned held) ≡ loose - n = rw (size_of_pin held) (omega arith) in
    let kept : IsKept (used r next es) total (loose - n) =
    rw next_is (subst (λ (m : ℕ). IsKept (used r (pinned held) es) total m) none (kept_used es total loose r held (pinned held) k h refl)) in
    subst (λ (eq : BlobRef → BlobRef → Bool). IsKept (set_value (eq r) (promoted (eq r) es) next) total (loose - n)) (sym derived_is)
    (rw (written-promoted r es held next h) kept)

pub pinned_is : (es now : List (BlobRef × Held)) (r : BlobRef) (held next : Held) → es ≡ now → lookup (same_reference r) es ≡ Some held → next ≡ pinned held
    → set_value (derived.it r) (promoted (derived.it r) es) next ≡ option_map_or (λ h. used r (pinned h) now) (lookup (same_reference r) now) now
pinned_is es now r held next same h next_is =
    let found : lookup (same_reference r) now ≡ Some held = ap (lookup (same_reference r)) (sym same) ∙ h in
    ap (λ (eq : BlobRef → BlobRef → Bool). set_value (eq r) (promoted (eq r) es) next) derived_is
    ∙ written-promoted r es held next h ∙ ap (λ (x : Held). used r x es) next_is ∙ ap (used r (pinned held)) same
    ∙ ap (λ (o : Option Held). option_map_or (λ h. used r (pinned h) now) o now) (sym found)

pub kept_released : (es : List (BlobRef × Held)) (total loose : ℕ) (r : BlobRef) (held next : Held) (n m : ℕ) → IsKept es total loose → lookup (same_reference r) es ≡ Some held → next ≡ released held → n ≡ unpinned_size held → m ≡ unpinned_size next
    → IsKept (set_value (derived.it r) es next) total ((loose - n) + m)
kept_released es total loose r held next n m k h next_is n_is m_is =
    subst (λ (eq : BlobRef → BlobRef → Bool). IsKept (set_value (eq r) es next) total ((loose - n) + m)) (sym derived_is)
    (rw (n_is, m_is) (kept_set es total loose r held next k h (ap (λ (x : Held). x.bytes) next_is)))

-- the count after a pin was taken back fits
pub released_fits : (es : List (BlobRef × Held)) (total loose : ℕ) (r : BlobRef) (held next : Held) → IsKept es total loose → lookup (same_reference r) es ≡ Some held → next ≡ released held
    → (loose - unpinned_size held) + unpinned_size next ≤ total
released_fits es total loose r held next k h next_is =
    let kept = kept_set es total loose r held next k h (ap (λ (x : Held). x.bytes) next_is) in
    let bound = unpinned_bound (set_value (same_reference r) es next) in
    let all = kept.total_sum in
    let part = kept.loose_sum in
    omega arith

-- the unpinned bytes after a content that is there was used
pub used_sum : (es now : List (BlobRef × Held)) (total loose : ℕ) (r : BlobRef) (held : Held) → IsKept es total loose → es ≡ now → lookup (same_reference r) es ≡ Some held → loose ≡ unpinned_bytes (used r held now)
used_sum es now total loose r held k same h =
    let one = sum_by-cons unpinned_size held (values_of (remove_entry (same_reference r) es)) in
    let part = counts unpinned_size r es held h in
    let whole = k.loose_sum in
    let sum : loose ≡ unpinned_bytes (used r held es) = omega arith in
    sum ∙ ap (λ (l : List (BlobRef × Held)). unpinned_bytes (used r held l)) same

-- and after a new one was
pub new_sum : (es now : List (BlobRef × Held)) (total loose l n : ℕ) (r : BlobRef) (held : Held) (bytes : List ℕ) → IsKept es total loose → es ≡ now → lookup (same_reference r) es ≡ None → held ≡ unpinned bytes
    → l ≡ loose + n → n ≡ length held.bytes → l ≡ unpinned_bytes (used r held now)
new_sum es now total loose l n r held bytes k same h fresh l_is n_is =
    let one = sum_by-cons unpinned_size held (values_of es) in
    let counted : unpinned_size held ≡ length held.bytes = rw fresh refl in
    let whole = k.loose_sum in
    let sum : l ≡ unpinned_bytes ((r, held) ∷ es) = omega arith in
    sum ∙ ap (λ (x : List (BlobRef × Held)). unpinned_bytes ((r, held) ∷ x)) (sym (remove-none (same_reference r) es h)) ∙ ap (λ (x : List (BlobRef × Held)). unpinned_bytes (used r held x)) same

once_used : (es now : List (BlobRef × Held)) (total loose : ℕ) (r : BlobRef) (held : Held) → IsKept es total loose → es ≡ now → IsDistinct same_reference (keys_of (used r held now))
once_used es now total loose r held k same =
    subst (λ (l : List (BlobRef × Held)). IsDistinct same_reference (keys_of (used r held l))) same
    (once-cons same_reference r held (remove_entry (same_reference r) es) (lookup-remove-same same_laws r es k.once) (once-remove same_reference (same_reference r) es k.once))

module _ (test : BlobRef × Held → List (BlobRef × Held) → Bool) (es now touched new : List (BlobRef × Held)) (total loose : ℕ) (gone : List BlobRef) (r : BlobRef) (bytes : List ℕ) where
  -- what is left once those over the limit were taken out
  pub refilled_rest : (held : Held) → IsKept es total loose → es ≡ now → lookup (same_reference r) es ≡ Some held
      → touched ≡ option_map_or (λ h. used r h now) (lookup (same_reference r) now) now → gone ≡ dropped test (used r held now) → new ≡ without gone touched → new ≡ remaining test (filled r bytes now)
  refilled_rest held k same h touch gone_is out =
      let found : lookup (same_reference r) now ≡ Some held = ap (lookup (same_reference r)) (sym same) ∙ h in
      let touched_is : touched ≡ used r held now = touch ∙ ap (λ (o : Option Held). option_map_or (λ h. used r h now) o now) found in
      out ∙ ap (λ (g : List BlobRef). without g touched) gone_is ∙ ap (without (dropped test (used r held now))) touched_is
      ∙ without-dropped test (used r held now) (once_used es now total loose r held k same)
      ∙ ap (λ (o : Option Held). remaining test (used r (unwrap_or o (unpinned bytes)) now)) (sym found)

  pub filled_rest : IsKept es total loose → es ≡ now → lookup (same_reference r) es ≡ None
      → touched ≡ (r, unpinned bytes) ∷ now → gone ≡ dropped test (used r (unpinned bytes) now) → new ≡ without gone touched → new ≡ remaining test (filled r bytes now)
  filled_rest k same h added gone_is out =
      let absent : lookup (same_reference r) now ≡ None = ap (lookup (same_reference r)) (sym same) ∙ h in
      let touched_is : touched ≡ used r (unpinned bytes) now = added ∙ ap (λ (l : List (BlobRef × Held)). (r, unpinned bytes) ∷ l) (sym (remove-none (same_reference r) now absent)) in
      out ∙ ap (λ (g : List BlobRef). without g touched) gone_is ∙ ap (without (dropped test (used r (unpinned bytes) now))) touched_is
      ∙ without-dropped test (used r (unpinned bytes) now) (once_used es now total loose r (unpinned bytes) k same)
      ∙ ap (λ (o : Option Held). remaining test (used r (unwrap_or o (unpinned bytes)) now)) (sym absent)

-- What stays of an order of use and what doesn't.
use Rattle.std.proofs.Common.{inl, inr, ◌≡◌, ℕ, ◌+◌, ◌<◌, ◌≤◌, Bool, true, false, cond, not, List, [], ◌∷◌, ◌++◌, length, reverse, refl, sym, ap, ◌∙◌, subst, filter, arith, append_assoc, append-nil, zero-add, nat_le}
use Rattle.std.specs.List.{IsDistinct}
use Rattle.std.specs.Map.{keys_of, values_of, remove_entry}
use Rattle.std.proofs.lemmas.List.{reverse-append}
use Rattle.std.proofs.lemmas.List.Elements.{filter-append}
use Rattle.std.proofs.lemmas.List.Sums.{sum_by-cons}
use Rattle.std.proofs.lemmas.Bool.{leb-true, le-leb}
use Rattle.std.proofs.lemmas.Bool.Decides.{leb_tells}
use Rattle.lru.proofs.Splits.{distinct_without, distinct_differs, all_left}
use Rattle.fl_digest.specs.declared.BlobRef.{BlobRef}
use Rattle.fl_digest.specs.Reference.{same_reference}
use Rattle.cache_node.specs.declared.content.Held.{Held}
use Rattle.cache_node.specs.Order.{is_pinned, unpinned_size, unpinned_bytes, stays_within, staying, leaving, remaining, dropped, without, used}
use Rattle.cache_node.proofs.Entries.{remove-filter, remove-middle}
use Rattle.cache_node.proofs.Same.{same_laws, same_refl}

-- the first entry goes last
reverse-cons : (e : BlobRef × Held) (es : List (BlobRef × Held)) → reverse (e ∷ es) ≡ reverse es ++ e ∷ []
reverse-cons e es = reverse-append (e ∷ []) es

-- the bytes of one more entry
pub unpinned-cons : (e : BlobRef × Held) (es : List (BlobRef × Held)) → unpinned_bytes (e ∷ es) ≡ unpinned_size e.1 + unpinned_bytes es
unpinned-cons e es = sum_by-cons unpinned_size e.1 (values_of es)

pub size_of_pinned : (held : Held) → is_pinned held ≡ true → unpinned_size held ≡ 0
size_of_pinned held h = ap (λ b. cond b 0 (length held.bytes)) h

pub size_of_unpinned : (held : Held) → is_pinned held ≡ false → unpinned_size held ≡ length held.bytes
size_of_unpinned held h = ap (λ b. cond b 0 (length held.bytes)) h

-- a pinned entry stays, and its bytes don't count
pub pinned_stays : (limit : ℕ) (e : BlobRef × Held) (later : List (BlobRef × Held)) → is_pinned e.1 ≡ true
    → (leaving (stays_within limit) (e ∷ later) ≡ leaving (stays_within limit) later) × (unpinned_bytes (e ∷ later) ≡ unpinned_bytes later)
unfolding leaving
pinned_stays limit e later h =
    (rw h refl, unpinned-cons e later ∙ ap (λ n. n + unpinned_bytes later) (size_of_pinned e.1 h) ∙ zero-add (unpinned_bytes later))

over : (limit n : ℕ) → limit < n → nat_le n limit ≡ false
over limit n h = elim (leb_tells n limit) [ inl t ↦ let a = t.1 in absurd (omega arith) | inr t ↦ t.0 ]

-- an entry that isn't pinned goes where it and those after it are over the limit
pub unpinned_goes : (limit : ℕ) (e : BlobRef × Held) (later : List (BlobRef × Held)) → is_pinned e.1 ≡ false
    → limit < unpinned_bytes (e ∷ later) → leaving (stays_within limit) (e ∷ later) ≡ e ∷ leaving (stays_within limit) later
unfolding leaving
unpinned_goes limit e later h above =
    let whole : unpinned_bytes (e ∷ later) ≡ length e.1.bytes + unpinned_bytes later =
    unpinned-cons e later ∙ ap (λ n. n + unpinned_bytes later) (size_of_unpinned e.1 h) in
    let beyond_it : nat_le (length e.1.bytes + unpinned_bytes later) limit ≡ false = over limit _ (rw whole at above) in
    rw h (rw beyond_it refl)

kept : (limit : ℕ) (e : BlobRef × Held) (later : List (BlobRef × Held)) → unpinned_bytes (e ∷ later) ≤ limit → stays_within limit e later ≡ true
kept limit e later h = (elim (is_pinned e.1) as (λ b. is_pinned e.1 ≡ b → stays_within limit e later ≡ true) [
  | true ↦ λ t. rw t refl
  | false ↦ λ t.
      let whole : unpinned_bytes (e ∷ later) ≡ length e.1.bytes + unpinned_bytes later =
      unpinned-cons e later ∙ ap (λ n. n + unpinned_bytes later) (size_of_unpinned e.1 t) in
      rw t (le-leb _ _ (rw whole at h))
]) refl

-- within the limit nothing goes
pub nothing_goes : (limit : ℕ) (es : List (BlobRef × Held)) → unpinned_bytes es ≤ limit → leaving (stays_within limit) es ≡ []
unfolding leaving
nothing_goes limit [] h = refl
nothing_goes limit (e ∷ es) h =
    let whole = unpinned-cons e es in
    let rest : unpinned_bytes es ≤ limit = omega arith in
    rw (kept limit e es h) (nothing_goes limit es rest)

-- and all stays
everything_stays : (limit : ℕ) (es : List (BlobRef × Held)) → unpinned_bytes es ≤ limit → staying (stays_within limit) es ≡ es
unfolding staying
everything_stays limit [] h = refl
everything_stays limit (e ∷ es) h =
    let whole = unpinned-cons e es in
    let rest : unpinned_bytes es ≤ limit = omega arith in
    rw (kept limit e es h) (ap (λ l. e ∷ l) (everything_stays limit es rest))

-- what stays is within the limit
staying_within : (limit : ℕ) (es : List (BlobRef × Held)) → unpinned_bytes (staying (stays_within limit) es) ≤ limit
unfolding staying
staying_within limit [] = omega arith
staying_within limit (e ∷ later) = (elim (is_pinned e.1) as (λ b. is_pinned e.1 ≡ b → unpinned_bytes (staying (stays_within limit) (e ∷ later)) ≤ limit) [
  | true ↦ λ t. rw t (rw (unpinned-cons e (staying (stays_within limit) later)) (rw (size_of_pinned e.1 t) (rw zero-add (staying_within limit later))))
  | false ↦ λ t. (elim (nat_le (length e.1.bytes + unpinned_bytes later) limit) as (λ b. nat_le (length e.1.bytes + unpinned_bytes later) limit ≡ b → unpinned_bytes (staying (stays_within limit) (e ∷ later)) ≤ limit) [
    | true ↦ λ u.
        let fits : length e.1.bytes + unpinned_bytes later ≤ limit = leb-true _ _ u in
        let rest : unpinned_bytes later ≤ limit = omega arith in
        rw t (rw u (rw (everything_stays limit later rest) (rw (unpinned-cons e later) (rw (size_of_unpinned e.1 t) fits))))
    | false ↦ λ u. rw t (rw u (staying_within limit later))
  ]) refl
]) refl

unpinned-append : (xs ys : List (BlobRef × Held)) → unpinned_bytes (xs ++ ys) ≡ unpinned_bytes xs + unpinned_bytes ys
unpinned-append [] ys = sym (zero-add (unpinned_bytes ys))
unpinned-append (x ∷ xs) ys =
    let one = unpinned-cons x (xs ++ ys) in
    let other = unpinned-cons x xs in
    let rest = unpinned-append xs ys in
    omega arith

pub unpinned-reverse : (es : List (BlobRef × Held)) → unpinned_bytes (reverse es) ≡ unpinned_bytes es
unpinned-reverse [] = refl
unpinned-reverse (e ∷ es) =
    let one = ap unpinned_bytes (reverse-cons e es) ∙ unpinned-append (reverse es) (e ∷ []) in
    let alone = unpinned-cons e [] in
    let whole = unpinned-cons e es in
    let rest = unpinned-reverse es in
    omega arith

-- after the entries over the limit went, the others are within it
pub within_limit : (limit : ℕ) (es : List (BlobRef × Held)) → unpinned_bytes (remaining (stays_within limit) es) ≤ limit
within_limit limit es = rw (unpinned-reverse (staying (stays_within limit) (reverse es))) (staying_within limit (reverse es))

-- taking out each that goes leaves what stays: later ones in front of those that were passed already
taken_out : (test : BlobRef × Held → List (BlobRef × Held) → Bool) (rest passed : List (BlobRef × Held)) → IsDistinct same_reference (keys_of (reverse rest ++ passed))
    → without (keys_of (leaving test rest)) (reverse rest ++ passed) ≡ reverse (staying test rest) ++ passed
unfolding staying leaving
taken_out test [] passed d = refl
taken_out test (e ∷ later) passed d =
    let turned : reverse (e ∷ later) ++ passed ≡ reverse later ++ e ∷ passed = ap (λ l. l ++ passed) (reverse-cons e later) ∙ append_assoc (reverse later) (e ∷ []) passed in
    let d' = rw turned at d in
    (elim (test e later) as (λ b. test e later ≡ b → without (keys_of (leaving test (e ∷ later))) (reverse (e ∷ later) ++ passed) ≡ reverse (staying test (e ∷ later)) ++ passed) [
      | true ↦ λ t.
          rw turned (rw t (taken_out test later (e ∷ passed) d' ∙ sym (append_assoc (reverse (staying test later)) (e ∷ []) passed) ∙ ap (λ l. l ++ passed) (sym (reverse-cons e (staying test later)))))
      | false ↦ λ t.
          let apart = distinct_differs (λ (x : BlobRef × Held). x.0) same_reference same_laws.symm (reverse later) e passed d' in
          let before = all_left (λ (x : BlobRef × Held). same_reference e.0 x.0 ≡ false) (reverse later) passed apart in
          let out : remove_entry (same_reference e.0) (reverse later ++ e ∷ passed) ≡ reverse later ++ passed =
          remove-middle (same_reference e.0) (reverse later) e passed before (same_refl e.0) in
          let d'' = distinct_without (λ (x : BlobRef × Held). x.0) same_reference (reverse later) e passed d' in
          rw turned (rw t (ap (λ (l : List (BlobRef × Held)). without (keys_of (leaving test later)) l) out ∙ taken_out test later passed d''))
    ]) refl

pub reverse-reverse : (es : List (BlobRef × Held)) → reverse (reverse es) ≡ es
reverse-reverse [] = refl
reverse-reverse (e ∷ es) = ap reverse (reverse-cons e es) ∙ reverse-append (reverse es) (e ∷ []) ∙ ap (λ l. e ∷ l) (reverse-reverse es)

-- without the entries that go, those that stay are left
pub without-dropped : (test : BlobRef × Held → List (BlobRef × Held) → Bool) (es : List (BlobRef × Held)) → IsDistinct same_reference (keys_of es)
    → without (dropped test es) es ≡ remaining test es
without-dropped test es d =
    let turned : reverse (reverse es) ++ [] ≡ es = append-nil (reverse (reverse es)) ∙ reverse-reverse es in
    let d' = subst (λ (l : List (BlobRef × Held)). IsDistinct same_reference (keys_of l)) (sym turned) d in
    ap (λ (l : List (BlobRef × Held)). without (dropped test es) l) (sym turned)
    ∙ taken_out test (reverse es) [] d' ∙ append-nil (reverse (staying test (reverse es)))

-- the entries under other references
unfoldable pub others : BlobRef → List (BlobRef × Held) → List (BlobRef × Held)
others r es = filter (λ e. not (same_reference r e.0)) es

-- a front of the entries, the least recently used first, before the entry that is used last
unfoldable pub ahead : BlobRef × Held → List (BlobRef × Held) → List (BlobRef × Held)
ahead last front = reverse (others last.0 front) ++ last ∷ []

pub ahead-same : (last : BlobRef × Held) (front : List (BlobRef × Held)) (e : BlobRef × Held) → same_reference last.0 e.0 ≡ true → ahead last (front ++ e ∷ []) ≡ ahead last front
unfolding ahead others
ahead-same last front e h =
    rw (filter-append (λ (x : BlobRef × Held). not (same_reference last.0 x.0)) front (e ∷ [])) (rw h (rw append-nil refl))

pub ahead-other : (last : BlobRef × Held) (front : List (BlobRef × Held)) (e : BlobRef × Held) → same_reference last.0 e.0 ≡ false → ahead last (front ++ e ∷ []) ≡ e ∷ ahead last front
unfolding ahead others
ahead-other last front e h =
    rw (filter-append (λ (x : BlobRef × Held). not (same_reference last.0 x.0)) front (e ∷ []))
    (rw h (rw (reverse-append (filter (λ (x : BlobRef × Held). not (same_reference last.0 x.0)) front) (e ∷ [])) refl))

pub ahead-none : (last : BlobRef × Held) → ahead last [] ≡ last ∷ []
unfolding ahead others
ahead-none last = refl

-- all of them are the entries after the use
pub ahead-all : (r : BlobRef) (held : Held) (es : List (BlobRef × Held)) → IsDistinct same_reference (keys_of es) → ahead (r, held) es ≡ reverse (used r held es)
unfolding ahead others
ahead-all r held es d =
    ap (λ (l : List (BlobRef × Held)). reverse l ++ (r, held) ∷ []) (sym (remove-filter same_laws r es d))
    ∙ sym (reverse-cons (r, held) (remove_entry (same_reference r) es))

pub unpinned-last : (last : BlobRef × Held) (front : List (BlobRef × Held)) → unpinned_size last.1 ≤ unpinned_bytes (ahead last front)
unfolding ahead
unpinned-last last front =
    let whole = unpinned-append (reverse (others last.0 front)) (last ∷ []) in
    let alone = unpinned-cons last [] in
    omega arith

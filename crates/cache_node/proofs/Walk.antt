-- The walk from the least recently used entry, which lists what goes.
use Rattle.std.proofs.Common.{◌≡◌, ℕ, ◌+◌, ◌-◌, ◌<◌, ◌≤◌, Bool, true, false, List, [], ◌∷◌, ◌++◌, length, reverse, not, refl, sym, ap, ◌∙◌, subst, filter, arith, append_assoc, append-nil}
use Rattle.std.specs.List.{IsDistinct}
use Rattle.std.specs.Map.{keys_of}
use Rattle.std.proofs.lemmas.List.Elements.{filter-append}
use Rattle.std.proofs.lemmas.List.{reverse-append}
use Rattle.fl_digest.specs.declared.BlobRef.{BlobRef}
use Rattle.fl_digest.specs.Reference.{same_reference}
use Rattle.cache_node.specs.declared.content.Held.{Held}
use Rattle.cache_node.specs.Order.{is_pinned, unpinned_bytes, used, stays_within, staying, leaving, dropped, remaining, without}
use Rattle.cache_node.proofs.Orders.{ahead, ahead-same, ahead-other, ahead-none, ahead-all, unpinned-cons, unpinned-reverse, size_of_pinned, size_of_unpinned, pinned_stays, unpinned_goes, nothing_goes, without-dropped, reverse-reverse}

-- so many unpinned bytes are left in front of the walk, and what goes is what was listed and what goes of these
pub record IsListed (limit : ℕ) (last : BlobRef × Held) (all walk : List (BlobRef × Held)) (left : ℕ) (gone : List BlobRef) : Type 0 where
  pub left_is : left ≡ unpinned_bytes (ahead last walk)
  pub listed : gone ++ keys_of (leaving (stays_within limit) (ahead last walk)) ≡ keys_of (leaving (stays_within limit) (ahead last all))

module _ (limit : ℕ) (r : BlobRef) (held : Held) (all : List (BlobRef × Held)) where
  pub begun : (entries walk : List (BlobRef × Held)) (loose : ℕ) → IsDistinct same_reference (keys_of entries) → walk ≡ entries → entries ≡ all → loose ≡ unpinned_bytes (used r held all)
      → IsListed limit (r, held) all walk loose []
  begun entries walk loose d walk_is all_is sum =
      let d' = subst (λ (es : List (BlobRef × Held)). IsDistinct same_reference (keys_of es)) all_is d in
      let whole = walk_is ∙ all_is in
      record {
        left_is = sum ∙ sym (unpinned-reverse (used r held all)) ∙ ap unpinned_bytes (sym (ahead-all r held all d')) ∙ ap (λ (es : List (BlobRef × Held)). unpinned_bytes (ahead (r, held) es)) (sym whole);
        listed = ap (λ (es : List (BlobRef × Held)). keys_of (leaving (stays_within limit) (ahead (r, held) es))) whole;
      }

  module _ (walk front : List (BlobRef × Held)) (left : ℕ) (gone : List BlobRef) (key : BlobRef) (other : Held) (state : IsListed limit (r, held) all walk left gone) (step : walk ≡ front ++ (key, other) ∷ []) where
    same_ahead : same_reference r key ≡ true → ahead (r, held) walk ≡ ahead (r, held) front
    same_ahead same = ap (ahead (r, held)) step ∙ ahead-same (r, held) front (key, other) same

    other_ahead : same_reference r key ≡ false → ahead (r, held) walk ≡ (key, other) ∷ ahead (r, held) front
    other_ahead apart = ap (ahead (r, held)) step ∙ ahead-other (r, held) front (key, other) apart

    -- the content that is used counts as the last
    pub passed_same : same_reference r key ≡ true → IsListed limit (r, held) all front left gone
    passed_same same = record {
      left_is = state.left_is ∙ ap unpinned_bytes (same_ahead same);
      listed = ap (λ (es : List (BlobRef × Held)). gone ++ keys_of (leaving (stays_within limit) es)) (sym (same_ahead same)) ∙ state.listed;
    }

    pub passed_pinned : same_reference r key ≡ false → is_pinned other ≡ true → IsListed limit (r, held) all front left gone
    passed_pinned apart h =
        let stays = pinned_stays limit (key, other) (ahead (r, held) front) h in
        record {
          left_is = state.left_is ∙ ap unpinned_bytes (other_ahead apart) ∙ stays.1;
          listed = ap (λ (es : List (BlobRef × Held)). gone ++ keys_of es) (sym (ap (leaving (stays_within limit)) (other_ahead apart) ∙ stays.0)) ∙ state.listed;
        }

    left_with : same_reference r key ≡ false → is_pinned other ≡ false → left ≡ length other.bytes + unpinned_bytes (ahead (r, held) front)
    left_with apart h =
        state.left_is ∙ ap unpinned_bytes (other_ahead apart) ∙ unpinned-cons (key, other) (ahead (r, held) front)
        ∙ ap (λ n. n + unpinned_bytes (ahead (r, held) front)) (size_of_unpinned other h)

    pub size_left : same_reference r key ≡ false → is_pinned other ≡ false → length other.bytes ≤ left
    size_left apart h = let whole = left_with apart h in omega arith

    pub passed_gone : same_reference r key ≡ false → is_pinned other ≡ false → limit < left → IsListed limit (r, held) all front (left - length other.bytes) (gone ++ key ∷ [])
    passed_gone apart h above =
        let whole = left_with apart h in
        let over : limit < unpinned_bytes ((key, other) ∷ ahead (r, held) front) = rw (state.left_is ∙ ap unpinned_bytes (other_ahead apart)) at above in
        let goes = ap (leaving (stays_within limit)) (other_ahead apart) ∙ unpinned_goes limit (key, other) (ahead (r, held) front) h over in
        record {
          left_is = omega arith;
          listed = append_assoc gone (key ∷ []) (keys_of (leaving (stays_within limit) (ahead (r, held) front)))
              ∙ ap (λ (es : List (BlobRef × Held)). gone ++ keys_of es) (sym goes) ∙ state.listed;
        }

  pub all_listed : (entries walk : List (BlobRef × Held)) (left : ℕ) (gone : List BlobRef) → IsDistinct same_reference (keys_of entries) → entries ≡ all → IsListed limit (r, held) all walk left gone → left ≤ limit
      → gone ≡ dropped (stays_within limit) (used r held all)
  all_listed entries walk left gone d all_is state small =
      let d' = subst (λ (es : List (BlobRef × Held)). IsDistinct same_reference (keys_of es)) all_is d in
      let nothing = nothing_goes limit (ahead (r, held) walk) (rw state.left_is at small) in
      sym (append-nil gone) ∙ ap (λ (es : List (BlobRef × Held)). gone ++ keys_of es) (sym nothing) ∙ state.listed
      ∙ ap (λ (es : List (BlobRef × Held)). keys_of (leaving (stays_within limit) es)) (ahead-all r held all d')

  last_goes : limit < unpinned_bytes ((r, held) ∷ []) → leaving (stays_within limit) ((r, held) ∷ []) ≡ (r, held) ∷ []
  unfolding leaving
  last_goes above = (elim (is_pinned held) as (λ b. is_pinned held ≡ b → leaving (stays_within limit) ((r, held) ∷ []) ≡ (r, held) ∷ []) [
    | true ↦ λ t.
        let one = unpinned-cons (r, held) [] in
        let none = size_of_pinned held t in
        absurd (omega arith)
    | false ↦ λ t. unpinned_goes limit (r, held) [] t above
  ]) refl

  pub last_listed : (entries walk : List (BlobRef × Held)) (left : ℕ) (gone : List BlobRef) → IsDistinct same_reference (keys_of entries) → entries ≡ all → IsListed limit (r, held) all walk left gone → walk ≡ [] → limit < left
      → gone ++ r ∷ [] ≡ dropped (stays_within limit) (used r held all)
  last_listed entries walk left gone d all_is state end above =
      let d' = subst (λ (es : List (BlobRef × Held)). IsDistinct same_reference (keys_of es)) all_is d in
      let alone : ahead (r, held) walk ≡ (r, held) ∷ [] = ap (ahead (r, held)) end ∙ ahead-none (r, held) in
      let over : limit < unpinned_bytes ((r, held) ∷ []) = rw (state.left_is ∙ ap unpinned_bytes alone) at above in
      let goes = ap (leaving (stays_within limit)) alone ∙ last_goes over in
      ap (λ (es : List (BlobRef × Held)). gone ++ keys_of es) (sym goes) ∙ state.listed
      ∙ ap (λ (es : List (BlobRef × Held)). keys_of (leaving (stays_within limit) es)) (ahead-all r held all d')

staying-pinned : (es : List (BlobRef × Held)) → staying (λ e later. is_pinned e.1) es ≡ filter (λ e. is_pinned e.1) es
unfolding staying
staying-pinned [] = refl
staying-pinned (e ∷ es) = (elim (is_pinned e.1) as (λ b. is_pinned e.1 ≡ b → staying (λ e later. is_pinned e.1) (e ∷ es) ≡ filter (λ e. is_pinned e.1) (e ∷ es)) [
  | true ↦ λ t. rw t (ap (λ l. e ∷ l) (staying-pinned es))
  | false ↦ λ t. rw t (staying-pinned es)
]) refl

leaving-unpinned : (es : List (BlobRef × Held)) → leaving (λ e later. is_pinned e.1) es ≡ filter (λ e. not (is_pinned e.1)) es
unfolding leaving
leaving-unpinned [] = refl
leaving-unpinned (e ∷ es) = (elim (is_pinned e.1) as (λ b. is_pinned e.1 ≡ b → leaving (λ e later. is_pinned e.1) (e ∷ es) ≡ filter (λ e. not (is_pinned e.1)) (e ∷ es)) [
  | true ↦ λ t. rw t (leaving-unpinned es)
  | false ↦ λ t. rw t (ap (λ l. e ∷ l) (leaving-unpinned es))
]) refl

filter-reverse : (p : BlobRef × Held → Bool) (es : List (BlobRef × Held)) → filter p (reverse es) ≡ reverse (filter p es)
filter-reverse p [] = refl
filter-reverse p (e ∷ es) =
    ap (filter p) (reverse-append (e ∷ []) es) ∙ filter-append p (reverse es) (e ∷ []) ∙ ap (λ l. l ++ filter p (e ∷ [])) (filter-reverse p es)
    ∙ (elim (p e) as (λ b. p e ≡ b → reverse (filter p es) ++ filter p (e ∷ []) ≡ reverse (filter p (e ∷ es))) [
      | true ↦ λ t. rw t (sym (reverse-append (e ∷ []) (filter p es)))
      | false ↦ λ t. rw t (append-nil (reverse (filter p es)))
    ]) refl

-- without the entries that aren't pinned, the pinned ones are left
pub without-unpinned : (es : List (BlobRef × Held)) → IsDistinct same_reference (keys_of es)
    → without (keys_of (filter (λ e. not (is_pinned e.1)) (reverse es))) es ≡ filter (λ e. is_pinned e.1) es
without-unpinned es d =
    ap (λ (l : List (BlobRef × Held)). without (keys_of l) es) (sym (leaving-unpinned (reverse es)))
    ∙ without-dropped (λ e later. is_pinned e.1) es d
    ∙ ap reverse (staying-pinned (reverse es) ∙ filter-reverse (λ e. is_pinned e.1) es) ∙ reverse-reverse (filter (λ e. is_pinned e.1) es)

-- the pinned entries are those that stay where only pinned ones do
pub remaining-pinned : (es : List (BlobRef × Held)) → remaining (λ e later. is_pinned e.1) es ≡ filter (λ e. is_pinned e.1) es
remaining-pinned es = ap reverse (staying-pinned (reverse es) ∙ filter-reverse (λ e. is_pinned e.1) es) ∙ reverse-reverse (filter (λ e. is_pinned e.1) es)

-- and the others go
pub dropped-unpinned : (es : List (BlobRef × Held)) → dropped (λ e later. is_pinned e.1) es ≡ keys_of (filter (λ e. not (is_pinned e.1)) (reverse es))
dropped-unpinned es = ap (λ (l : List (BlobRef × Held)). keys_of l) (leaving-unpinned (reverse es))

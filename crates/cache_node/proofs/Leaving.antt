-- What is left of clean contents after some went.
use Rattle.std.proofs.Common.{◌≡◌, Bool, true, false, cond, ◌||◌, List, [], ◌∷◌, ◌++◌, reverse, Option, None, IsSome, Result, Ok, Err, refl, sym, ap, ◌∙◌, subst, filter, not, true≢false}
use Rattle.std.specs.Prelude.{IfOk, OnOk}
use Rattle.std.specs.List.{AllByRecursion, IsDistinct, list_any}
use Rattle.std.specs.Map.{keys_of, lookup, remove_entry}
use Rattle.std.proofs.lemmas.List.{reverse-append}
use Rattle.std.proofs.lemmas.List.Folds.{list_any-append}
use Rattle.std.proofs.lemmas.Map.{lookup-remove_entry}
use Rattle.std.proofs.lemmas.Map.Made.{is_some-lookup}
use Rattle.fl_digest.specs.declared.BlobRef.{BlobRef}
use Rattle.fl_digest.specs.Reference.{same_reference}
use Rattle.cache_node.specs.declared.content.Held.{Held}
use Rattle.cache_node.specs.Order.{is_pinned, leaving, dropped, remaining, used, without}
use Rattle.cache_node.specs.Cache.{HasDropped}
use Rattle.cache_node.proofs.Entries.{once-cons, once-remove, lookup-remove-same}
use Rattle.cache_node.proofs.Orders.{without-dropped}
use Rattle.cache_node.proofs.Same.{same_laws}
use Rattle.cache_node.proofs.Walk.{dropped-unpinned, remaining-pinned}

once-out : (a b : Bool) (o : Option Held) → cond b None (cond a None o) ≡ cond (a || b) None o
once-out true true o = refl
once-out true false o = refl
once-out false b o = refl

-- a look-up behind those that were taken out
pub lookup-without : (r : BlobRef) (gone : List BlobRef) (es : List (BlobRef × Held)) → IsDistinct same_reference (keys_of es)
    → lookup (same_reference r) (without gone es) ≡ cond (list_any (same_reference r) gone) None (lookup (same_reference r) es)
lookup-without r [] es d = refl
lookup-without r (g ∷ gs) es d =
    lookup-without r gs (remove_entry (same_reference g) es) (once-remove same_reference (same_reference g) es d)
    ∙ ap (λ (o : Option Held). cond (list_any (same_reference r) gs) None o)
    (lookup-remove_entry same_laws (same_reference g) (λ x y. same_laws.congr g x y) r es d ∙ ap (λ b. cond b None (lookup (same_reference r) es)) (same_laws.symm g r))
    ∙ once-out (same_reference r g) (list_any (same_reference r) gs) (lookup (same_reference r) es)

either-true : (a b : Bool) → b ≡ true → (a || b) ≡ true
either-true true b h = refl
either-true false b h = h

module _ (test : BlobRef × Held → List (BlobRef × Held) → Bool) where
  -- what goes was there
  goes-there : (r : BlobRef) (es : List (BlobRef × Held)) → list_any (same_reference r) (keys_of (leaving test es)) ≡ true → list_any (same_reference r) (keys_of es) ≡ true
  unfolding leaving
  goes-there r [] h = h
  goes-there r (e ∷ es) h = (elim (test e es) as (λ b. test e es ≡ b → list_any (same_reference r) (keys_of (e ∷ es)) ≡ true) [
    | true ↦ λ t. either-true (same_reference r e.0) _ (goes-there r es (rw t at h))
    | false ↦ λ t. let h' : list_any (same_reference r) (keys_of (e ∷ leaving test es)) ≡ true = rw t at h in by (λ g. goes-there r es g) (same_reference r e.0) refl h'
  ]) refl
    where
      by : (list_any (same_reference r) (keys_of (leaving test es)) ≡ true → list_any (same_reference r) (keys_of es) ≡ true)
          → (b : Bool) → same_reference r e.0 ≡ b → list_any (same_reference r) (keys_of (e ∷ leaving test es)) ≡ true → list_any (same_reference r) (keys_of (e ∷ es)) ≡ true
      by rest true s g = rw s refl
      by rest false s g = rw s (rest (rw s at g))

  -- what is apart from all is apart from what goes
  apart-goes : (r : BlobRef) (es : List (BlobRef × Held)) → AllByRecursion (λ y. same_reference r y ≡ false) (keys_of es) → AllByRecursion (λ y. same_reference r y ≡ false) (keys_of (leaving test es))
  unfolding leaving
  apart-goes r [] all = tt
  apart-goes r (e ∷ es) all = (elim (test e es) as (λ b. test e es ≡ b → AllByRecursion (λ y. same_reference r y ≡ false) (keys_of (leaving test (e ∷ es)))) [
    | true ↦ λ t. rw t (apart-goes r es all.1)
    | false ↦ λ t. rw t (all.0, apart-goes r es all.1)
  ]) refl

  goes-once : (es : List (BlobRef × Held)) → IsDistinct same_reference (keys_of es) → IsDistinct same_reference (keys_of (leaving test es))
  unfolding leaving IsDistinct
  goes-once [] d = tt
  goes-once (e ∷ es) d = (elim (test e es) as (λ b. test e es ≡ b → IsDistinct same_reference (keys_of (leaving test (e ∷ es)))) [
    | true ↦ λ t. rw t (goes-once es d.1)
    | false ↦ λ t. rw t (apart-goes e.0 es d.0, goes-once es d.1)
  ]) refl

keys-append : (xs ys : List (BlobRef × Held)) → keys_of (xs ++ ys) ≡ keys_of xs ++ keys_of ys
keys-append [] ys = refl
keys-append (x ∷ xs) ys = ap (λ l. x.0 ∷ l) (keys-append xs ys)

reverse-cons : (e : BlobRef × Held) (es : List (BlobRef × Held)) → reverse (e ∷ es) ≡ reverse es ++ e ∷ []
reverse-cons e es = reverse-append (e ∷ []) es

or-swap : (a b : Bool) → (a || b) ≡ (b || (a || false))
or-swap true true = refl
or-swap true false = refl
or-swap false true = refl
or-swap false false = refl

any-reversed : (r : BlobRef) (es : List (BlobRef × Held)) → list_any (same_reference r) (keys_of (reverse es)) ≡ list_any (same_reference r) (keys_of es)
any-reversed r [] = refl
any-reversed r (e ∷ es) =
    ap (λ l. list_any (same_reference r) (keys_of l)) (reverse-cons e es) ∙ ap (list_any (same_reference r)) (keys-append (reverse es) (e ∷ []))
    ∙ list_any-append (same_reference r) (keys_of (reverse es)) (e.0 ∷ [])
    ∙ ap (λ b. b || (same_reference r e.0 || false)) (any-reversed r es)
    ∙ sym (or-swap (same_reference r e.0) (list_any (same_reference r) (keys_of es)))

-- one more at the end, from which all are apart
once-end : (es : List (BlobRef × Held)) (e : BlobRef × Held) → IsDistinct same_reference (keys_of es) → list_any (same_reference e.0) (keys_of es) ≡ false → IsDistinct same_reference (keys_of (es ++ e ∷ []))
unfolding IsDistinct
once-end [] e d h = (tt, tt)
once-end (x ∷ xs) e d h = (apart xs d.0, once-end xs e d.1 (tail (same_reference e.0 x.0) _ h))
  where
    tail : (a b : Bool) → (a || b) ≡ false → b ≡ false
    tail true b g = absurd (true≢false g)
    tail false b g = g

    head : (a b : Bool) → (a || b) ≡ false → a ≡ false
    head true b g = g
    head false b g = refl

    apart : (ys : List (BlobRef × Held)) → AllByRecursion (λ y. same_reference x.0 y ≡ false) (keys_of ys) → AllByRecursion (λ y. same_reference x.0 y ≡ false) (keys_of (ys ++ e ∷ []))
    apart [] all = (same_laws.symm x.0 e.0 ∙ head _ _ h, tt)
    apart (y ∷ ys) all = (all.0, apart ys all.1)

none-of : (r : BlobRef) (ks : List BlobRef) → AllByRecursion (λ y. same_reference r y ≡ false) ks → list_any (same_reference r) ks ≡ false
none-of r [] all = refl
none-of r (k ∷ ks) all = rw all.0 (none-of r ks all.1)

once-reversed : (es : List (BlobRef × Held)) → IsDistinct same_reference (keys_of es) → IsDistinct same_reference (keys_of (reverse es))
unfolding IsDistinct
once-reversed [] d = tt
once-reversed (e ∷ es) d =
    subst (λ l. IsDistinct same_reference (keys_of l)) (sym (reverse-cons e es))
    (once-end (reverse es) e (once-reversed es d.1) (any-reversed e.0 es ∙ none-of e.0 (keys_of es) d.0))

pub some-there : (r : BlobRef) (es : List (BlobRef × Held)) → list_any (same_reference r) (keys_of es) ≡ true → IsSome (lookup (same_reference r) es)
some-there r es h = is_some-lookup (same_reference r) es ∙ h

-- of contents, each once, those went that don't stay
pub has-dropped : (test : BlobRef × Held → List (BlobRef × Held) → Bool) (es : List (BlobRef × Held)) → IsDistinct same_reference (keys_of es) → HasDropped es (remaining test es) (dropped test es)
has-dropped test es d = record {
  once = goes-once test (reverse es) (once-reversed es d);
  there = λ r h. some-there r es (sym (any-reversed r es) ∙ goes-there test r (reverse es) h);
  left = λ r. ap (lookup (same_reference r)) (sym (without-dropped test es d)) ∙ lookup-without r (dropped test es) es d;
}

-- after a use each is there once
pub used-once : (r : BlobRef) (held : Held) (es : List (BlobRef × Held)) → IsDistinct same_reference (keys_of es) → IsDistinct same_reference (keys_of (used r held es))
used-once r held es d = once-cons same_reference r held (remove_entry (same_reference r) es) (lookup-remove-same same_laws r es d) (once-remove same_reference (same_reference r) es d)

-- a drop of all that isn't pinned
pub left-dropped : {E : Type 0} (old new : List (BlobRef × Held)) (result : Result (List BlobRef) E) → IfOk result (λ gone. gone ≡ keys_of (filter (λ e. not (is_pinned e.1)) (reverse old)))
    → OnOk result (new ≡ filter (λ e. is_pinned e.1) old) → IsDistinct same_reference (keys_of old) → IfOk result (λ gone. HasDropped old new gone)
left-dropped old new (Ok gone) listed rest d =
    subst (λ (n : List (BlobRef × Held)). HasDropped old n gone) (remaining-pinned old ∙ sym rest)
    (subst (λ (g : List BlobRef). HasDropped old (remaining (λ e later. is_pinned e.1) old) g) (dropped-unpinned old ∙ sym listed) (has-dropped (λ e later. is_pinned e.1) old d))
left-dropped old new (Err e) listed rest d = tt

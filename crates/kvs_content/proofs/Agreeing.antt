-- What the log says of the brokers once one of them has got and dropped contents.
use Rattle.std.proofs.Common.{◌≡◌, ◌≢◌, ℕ, ◌<◌, ◌==◌, inl, inr, List, [], ◌∷◌, ◌++◌, length, Bool, true, false, ◌||◌, ◌&&◌, not, cond, Option, Some, None, unwrap_or, option_map, map, refl, sym, ap, ◌∙◌, subst, arith, true≢false, get_or, set as put}
use Rattle.std.specs.Prelude.{is_some}
use Rattle.std.specs.List.{AllByRecursion as Each, list_any}
use Rattle.std.specs.Map.{lookup, remove_entry}
use Rattle.std.proofs.lemmas.Bool.{cases_eq}
use Rattle.std.proofs.lemmas.Bool.Decides.{nat_tests}
use Rattle.std.proofs.lemmas.List.{length-set, get_or-set_same, get_or-set_other}
use Rattle.fl_digest.specs.declared.BlobRef.{BlobRef}
use Rattle.fl_digest.specs.Reference.{same_reference}
use Rattle.cache_node.specs.declared.content.Held.{Held}
use Rattle.cache_node.specs.Cache.{clean_at}
use Rattle.cache_node.specs.Order.{filled, is_pinned, unpinned}
use Rattle.cache_node.proofs.Entries.{all-remove}
use Rattle.cache_node.proofs.Same.{same_true}
use Rattle.kvs_rules.specs.declared.events.KvsEvent.{KvsEvent}
use Rattle.kvs_rules.specs.Log.{Happened, Log}
use Rattle.kvs_rules.specs.Namespaces.{Setting}
use Rattle.kvs_rules.specs.Brokers.{holds}
use Rattle.kvs_content.specs.Node.{IsGetting, NodeValue}
use Rattle.kvs_content.specs.Agrees.{IsBlob, IsRefused, NodeAgrees}
use Rattle.kvs_content.proofs.Events.{coming, held-after}
use Rattle.kvs_content.proofs.Later.{blob-later, refused-later}
use Rattle.kvs_content.proofs.Lists.{equal-itself}

pub each-map : {X : Type 0} (P Q : X → Type 0) → ((x : X) → P x → Q x) → (xs : List X) → Each P xs → Each Q xs
each-map P Q f [] h = tt
each-map P Q f (x ∷ xs) h = (f x h.0, each-map P Q f xs h.1)

-- taking an entry out leaves those under other references
pub lookup-other : {X : Type 0} (x r : BlobRef) → same_reference x r ≡ false → (es : List (BlobRef × X)) → lookup (same_reference x) (remove_entry (same_reference r) es) ≡ lookup (same_reference x) es
lookup-other x r ne [] = refl
lookup-other {X = X} x r ne (e ∷ es) = by (lookup-other x r ne es) (same_reference r e.0) refl
  where
    by : lookup (same_reference x) (remove_entry (same_reference r) es) ≡ lookup (same_reference x) es
        → (b : Bool) → same_reference r e.0 ≡ b → lookup (same_reference x) (remove_entry (same_reference r) (e ∷ es)) ≡ lookup (same_reference x) (e ∷ es)
    by rest true t = rw t (rw (sym (ap (same_reference x) (same_true r e.0 t)) ∙ ne) refl)
    by rest false t = rw t (ap (λ (o : Option X). cond (same_reference x e.0) (Some e.1) o) rest)

-- the log after a broker got a reference, where it did, and dropped others
abbrev pub after : Log → ℕ → BlobRef → Bool → List BlobRef → Log
after log broker r does gone = log ++ map Happened (coming broker r does gone)

elsewhere : (t d s n h : Bool) → t ≡ false → cond (t && n) false ((d && (t && s)) || h) ≡ h
elsewhere true d s n h e = absurd (true≢false e)
elsewhere false true s n h e = refl
elsewhere false false s n h e = refl

pub other-number : (a b : ℕ) → a ≢ b → (a == b) ≡ false
other-number a b ne = grind (arith, nat_tests)

module _ (set : Setting) (log : Log) (broker : ℕ) (r : BlobRef) (does : Bool) (gone : List BlobRef) where
  -- the other brokers hold what they held
  pub node-other : (b : ℕ) (node : NodeValue) → b ≢ broker → NodeAgrees set log b node → NodeAgrees set (after log broker r does gone) b node
  node-other b node ne h = record {
    held = λ x. held-after log broker r does gone b x ∙ elsewhere (b == broker) does (same_reference x r) (list_any (same_reference x) gone) (holds log b x) (other-number b broker ne) ∙ h.held x;
    clean = λ x bytes e. blob-later log (map Happened (coming broker r does gone)) set x bytes (h.clean x bytes e);
    dirty = each-map (λ e. IsBlob set log e.0 e.1) (λ e. IsBlob set (after log broker r does gone) e.0 e.1) (λ e b. blob-later log (map Happened (coming broker r does gone)) set e.0 e.1 b) node.cache.dirty h.dirty;
    refused = each-map (IsRefused set log) (IsRefused set (after log broker r does gone)) (λ x b. refused-later log (map Happened (coming broker r does gone)) set x b) node.refused h.refused;
    unpinned = h.unpinned;
  }

  -- what one node says of its broker, and the others of theirs
  pub nodes-then : (nodes : List NodeValue) (d new : NodeValue) → broker < length nodes → ((b : ℕ) → b < length nodes → NodeAgrees set log b (get_or nodes b d))
      → NodeAgrees set (after log broker r does gone) broker new → (b : ℕ) → b < length (put nodes broker new) → NodeAgrees set (after log broker r does gone) b (get_or (put nodes broker new) b d)
  nodes-then nodes d new within all here b l =
      let l₀ : b < length nodes = subst (λ n. b < n) (length-set nodes broker new) l in
      elim (cases_eq b broker) [
        | inl e ↦ subst (λ k. NodeAgrees set (after log broker r does gone) k (get_or (put nodes broker new) k d)) (sym e)
            (subst (NodeAgrees set (after log broker r does gone) broker) (sym (get_or-set_same nodes broker new d within)) here)
        | inr ne ↦ subst (NodeAgrees set (after log broker r does gone) b) (sym (get_or-set_other nodes broker b new d ne)) (node-other b (get_or nodes b d) ne (all b l₀))
      ]

gone-held : (t d s h : Bool) → t ≡ true → cond (t && true) false ((d && (t && s)) || h) ≡ false
gone-held true d s h e = refl
gone-held false d s h e = absurd (true≢false (sym e))

here-held : (t d h : Bool) → t ≡ true → d ≡ not h → cond (t && false) false ((d && (t && true)) || h) ≡ true
here-held true d true e f = ap (λ x. (x && true) || true) f
here-held true d false e f = ap (λ x. (x && true) || false) f
here-held false d h e f = absurd (true≢false (sym e))

stays-held : (t d h : Bool) → cond (t && false) false ((d && (t && false)) || h) ≡ h
stays-held true true h = refl
stays-held true false h = refl
stays-held false true h = refl
stays-held false false h = refl

bytes-of : Option Held → Option (List ℕ)
bytes-of o = option_map (λ held. held.bytes) o

-- whether a broker gets a reference that comes: it hasn't it clean
abbrev pub fresh : BlobRef → NodeValue → Bool
fresh r node = not (is_some (clean_at r node.cache))

module _ (broker : ℕ) (r : BlobRef) (bytes : List ℕ) (old new : NodeValue) (events : List KvsEvent) (h : IsGetting broker r bytes old new events) where
  -- a look-up among the clean contents now
  found-now : (x : BlobRef) → clean_at x new.cache ≡ option_map (λ held. held.bytes) (cond (list_any (same_reference x) h.gone) None (lookup (same_reference x) (filled r bytes old.cache.clean)))
  found-now x = ap (option_map (λ held. held.bytes)) (h.rest.left x)

  filled-is : (x : BlobRef) (s : Bool) → same_reference x r ≡ s → option_map (λ held. held.bytes) (lookup (same_reference x) (filled r bytes old.cache.clean)) ≡ cond s (Some (unwrap_or (lookup (same_reference r) old.cache.clean) (unpinned bytes)).bytes) (clean_at x old.cache)
  filled-is x true s = ap (λ b. option_map (λ (held : Held). held.bytes) (cond b (Some (unwrap_or (lookup (same_reference r) old.cache.clean) (unpinned bytes))) (lookup (same_reference x) (remove_entry (same_reference r) old.cache.clean)))) s
  filled-is x false s =
      ap (λ b. option_map (λ (held : Held). held.bytes) (cond b (Some (unwrap_or (lookup (same_reference r) old.cache.clean) (unpinned bytes))) (lookup (same_reference x) (remove_entry (same_reference r) old.cache.clean)))) s
      ∙ ap (option_map (λ (held : Held). held.bytes)) (lookup-other x r s old.cache.clean)

  -- the same look-up, where it is known whether the reference went
  found-at : (x : BlobRef) (n : Bool) → list_any (same_reference x) h.gone ≡ n → option_map (λ held. held.bytes) (cond (list_any (same_reference x) h.gone) None (lookup (same_reference x) (filled r bytes old.cache.clean)))
      ≡ option_map (λ held. held.bytes) (cond n None (lookup (same_reference x) (filled r bytes old.cache.clean)))
  found-at x n e = ap (λ m. option_map (λ (held : Held). held.bytes) (cond m None (lookup (same_reference x) (filled r bytes old.cache.clean)))) e

  -- what is clean then was so, or is the content
  pub got-clean : (P : BlobRef → List ℕ → Type 0) → P r bytes → ((x : BlobRef) (found : List ℕ) → clean_at x old.cache ≡ Some found → P x found) → (x : BlobRef) (found : List ℕ) → clean_at x new.cache ≡ Some found → P x found
  got-clean P here there x found e = by (list_any (same_reference x) h.gone) (same_reference x r) refl refl (sym (found-now x) ∙ e)
    where
      own : (o : Option Held) → lookup (same_reference r) old.cache.clean ≡ o → Some (unwrap_or o (unpinned bytes)).bytes ≡ Some found → P r found
      own None g same = subst (P r) (let same₁ : bytes ≡ found = cc in same₁) here
      own (Some kept) g same = there r found (ap (option_map (λ (held : Held). held.bytes)) g ∙ same)

      by : (n s : Bool) → list_any (same_reference x) h.gone ≡ n → same_reference x r ≡ s
          → option_map (λ held. held.bytes) (cond (list_any (same_reference x) h.gone) None (lookup (same_reference x) (filled r bytes old.cache.clean))) ≡ Some found → P x found
      by true s n t g = let bad : None ≡ Some found = sym (found-at x true n) ∙ g in absurd (let no : ⊥ = cc in no)
      by false true n t g =
          subst (λ y. P y found) (sym (same_true x r t)) (own (lookup (same_reference r) old.cache.clean) refl (sym (found-at x false n ∙ filled-is x true t) ∙ g))
      by false false n t g = there x found (sym (found-at x false n ∙ filled-is x false t) ∙ g)

  module _ (set : Setting) (log : Log) (agrees : NodeAgrees set log broker old) (blob : IsBlob set log r bytes) where
    -- the broker that got a content holds it, and not what it dropped
    pub node-got : NodeAgrees set (after log broker r (fresh r old) h.gone) broker new
    node-got = record {
      held = held;
      clean = λ x found e. blob-later log (map Happened (coming broker r (fresh r old) h.gone)) set x found (got-clean (IsBlob set log) blob agrees.clean x found e);
      dirty = subst (Each (λ e. IsBlob set (after log broker r (fresh r old) h.gone) e.0 e.1)) (sym h.dirty)
          (all-remove (λ e. IsBlob set (after log broker r (fresh r old) h.gone) e.0 e.1) (same_reference r) old.cache.dirty
          (each-map (λ e. IsBlob set log e.0 e.1) (λ e. IsBlob set (after log broker r (fresh r old) h.gone) e.0 e.1) (λ e b. blob-later log (map Happened (coming broker r (fresh r old) h.gone)) set e.0 e.1 b) old.cache.dirty agrees.dirty));
      refused = subst (Each (IsRefused set (after log broker r (fresh r old) h.gone))) (sym h.refused)
          (each-map (IsRefused set log) (IsRefused set (after log broker r (fresh r old) h.gone)) (λ x b. refused-later log (map Happened (coming broker r (fresh r old) h.gone)) set x b) old.refused agrees.refused);
      unpinned = λ x kept e. free x kept (list_any (same_reference x) h.gone) (same_reference x r) refl refl (sym (h.rest.left x) ∙ e);
    } where
      lhs-at : (x : BlobRef) (n s : Bool) → list_any (same_reference x) h.gone ≡ n → same_reference x r ≡ s
          → cond ((broker == broker) && list_any (same_reference x) h.gone) false ((fresh r old && ((broker == broker) && same_reference x r)) || holds log broker x)
          ≡ cond ((broker == broker) && n) false ((fresh r old && ((broker == broker) && s)) || holds log broker x)
      lhs-at x n s e f =
          ap (λ m. cond ((broker == broker) && m) false ((fresh r old && ((broker == broker) && same_reference x r)) || holds log broker x)) e
          ∙ ap (λ q. cond ((broker == broker) && n) false ((fresh r old && ((broker == broker) && q)) || holds log broker x)) f

      held : (x : BlobRef) → holds (after log broker r (fresh r old) h.gone) broker x ≡ is_some (clean_at x new.cache)
      held x = held-after log broker r (fresh r old) h.gone broker x ∙ by (list_any (same_reference x) h.gone) (same_reference x r) refl refl ∙ ap is_some (sym (found-now x))
        where
          by : (n s : Bool) → list_any (same_reference x) h.gone ≡ n → same_reference x r ≡ s
              → cond ((broker == broker) && list_any (same_reference x) h.gone) false ((fresh r old && ((broker == broker) && same_reference x r)) || holds log broker x)
              ≡ is_some (option_map (λ held. held.bytes) (cond (list_any (same_reference x) h.gone) None (lookup (same_reference x) (filled r bytes old.cache.clean))))
          by true s n e = lhs-at x true s n e ∙ gone-held (broker == broker) (fresh r old) s (holds log broker x) (equal-itself broker) ∙ sym (ap is_some (found-at x true n))
          by false true n e =
              lhs-at x false true n e
              ∙ here-held (broker == broker) (fresh r old) (holds log broker x) (equal-itself broker) (ap (λ y. not (is_some (clean_at y old.cache))) (sym (same_true x r e)) ∙ ap not (sym (agrees.held x)))
              ∙ sym (ap is_some (found-at x false n ∙ filled-is x true e))
          by false false n e =
              lhs-at x false false n e ∙ stays-held (broker == broker) (fresh r old) (holds log broker x) ∙ agrees.held x
              ∙ sym (ap is_some (found-at x false n ∙ filled-is x false e))

      free : (x : BlobRef) (kept : Held) (n s : Bool) → list_any (same_reference x) h.gone ≡ n → same_reference x r ≡ s
          → cond (list_any (same_reference x) h.gone) None (lookup (same_reference x) (filled r bytes old.cache.clean)) ≡ Some kept → is_pinned kept ≡ false
      free x kept true s n t e = let bad : None ≡ Some kept = rw n at e in absurd (let no : ⊥ = cc in no)
      free x kept false true n t e = own (lookup (same_reference r) old.cache.clean) refl (let found : Some (unwrap_or (lookup (same_reference r) old.cache.clean) (unpinned bytes)) ≡ Some kept = rw t at (rw n at e) in found)
        where
          own : (o : Option Held) → lookup (same_reference r) old.cache.clean ≡ o → Some (unwrap_or (lookup (same_reference r) old.cache.clean) (unpinned bytes)) ≡ Some kept → is_pinned kept ≡ false
          own None g same = let same₁ : unpinned bytes ≡ kept = let found : Some (unpinned bytes) ≡ Some kept = rw g at same in cc in ap is_pinned (sym same₁)
          own (Some before) g same = let same₁ : before ≡ kept = let found : Some before ≡ Some kept = rw g at same in cc in ap is_pinned (sym same₁) ∙ agrees.unpinned r before g
      free x kept false false n t e = agrees.unpinned x kept (sym (lookup-other x r t old.cache.clean) ∙ (let found : lookup (same_reference x) (remove_entry (same_reference r) old.cache.clean) ≡ Some kept = rw t at (rw n at e) in found))

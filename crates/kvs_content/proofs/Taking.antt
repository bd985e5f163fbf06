-- Rank 0 takes a content up into its store and its cache, or refuses it.
use Rattle.std.proofs.Common.{◌≡◌, ℕ, ◌<◌, ◌==◌, ◌⊎◌, inl, inr, List, [], ◌∷◌, ◌++◌, Bool, true, false, ◌||◌, ◌&&◌, not, cond, Option, Some, None, refl, sym, ap, ◌∙◌, subst, true≢false, set as put}
use Rattle.std.specs.Prelude.{is_some}
use Rattle.std.specs.Option.{option_map_or}
use Rattle.std.specs.List.{AllByRecursion as Each}
use Rattle.std.specs.Map.{lookup}
use Rattle.fl_digest.specs.declared.BlobRef.{BlobRef}
use Rattle.fl_digest.specs.Reference.{same_reference}
use Rattle.blob_store.specs.Blobs.{HasOther, blob_at, stored}
use Rattle.cache_node.specs.Cache.{clean_at}
use Rattle.cache_node.specs.Order.{Names}
use Rattle.cache_node.proofs.Same.{same_refl, same_true}
use Rattle.kvs_rules.specs.declared.events.KvsEvent.{KvsEvent}
use Rattle.kvs_rules.specs.Log.{Log}
use Rattle.kvs_rules.specs.Namespaces.{Setting}
use Rattle.kvs_rules.specs.Brokers.{has_got}
use Rattle.kvs_content.specs.Agrees.{AgreesContent, Follows, IsBlob, IsRefused}
use Rattle.kvs_content.specs.Messages.{AreSettled, same_bytes}
use Rattle.kvs_content.specs.Node.{IsGetting, NodeValue}
use Rattle.kvs_content.specs.Value.{ContentValue, node_at, size_of}
use Rattle.kvs_content.proofs.Agreeing.{after, fresh}
use Rattle.kvs_content.proofs.Events.{got-after}
use Rattle.kvs_content.proofs.Getting.{got-follows}
use Rattle.kvs_content.proofs.Later.{held-got}
use Rattle.kvs_content.proofs.Lists.{each-push, either-left, or-nothing, other-bytes, bytes-same}

lookup-end : (x r : BlobRef) (bytes : List ℕ) (es : List (BlobRef × List ℕ))
    → lookup (same_reference x) (es ++ (r, bytes) ∷ []) ≡ option_map_or (λ kept. Some kept) (lookup (same_reference x) es) (cond (same_reference x r) (Some bytes) None)
lookup-end x r bytes [] = refl
lookup-end x r bytes (e ∷ es) = by (lookup-end x r bytes es) (same_reference x e.0) refl
  where
    by : lookup (same_reference x) (es ++ (r, bytes) ∷ []) ≡ option_map_or (λ kept. Some kept) (lookup (same_reference x) es) (cond (same_reference x r) (Some bytes) None)
        → (b : Bool) → same_reference x e.0 ≡ b
        → lookup (same_reference x) ((e ∷ es) ++ (r, bytes) ∷ []) ≡ option_map_or (λ kept. Some kept) (lookup (same_reference x) (e ∷ es)) (cond (same_reference x r) (Some bytes) None)
    by rest true t = rw t refl
    by rest false t = rw t rest

module _ (store : List (BlobRef × List ℕ)) (r : BlobRef) (bytes : List ℕ) where
  -- what is there stays
  pub stored-old : (kept : List ℕ) → blob_at r store ≡ Some kept → stored store r bytes ≡ store
  stored-old kept e = ap (λ o. option_map_or (λ k. store) o (store ++ (r, bytes) ∷ [])) e

  stored-new : blob_at r store ≡ None → stored store r bytes ≡ store ++ (r, bytes) ∷ []
  stored-new e = ap (λ o. option_map_or (λ k. store) o (store ++ (r, bytes) ∷ [])) e

  -- a reference is there where it was, and the content's is
  pub stored-some : (x : BlobRef) → is_some (blob_at x (stored store r bytes)) ≡ (is_some (blob_at x store) || same_reference x r)
  stored-some x = by (blob_at r store) refl
    where
      there : (kept : List ℕ) → blob_at r store ≡ Some kept → (s : Bool) → same_reference x r ≡ s → is_some (blob_at x store) ≡ (is_some (blob_at x store) || s)
      there kept e false t = sym (or-nothing (is_some (blob_at x store)))
      there kept e true t =
          let same : is_some (blob_at x store) ≡ true = ap (λ y. is_some (blob_at y store)) (same_true x r t) ∙ ap is_some e in
          same ∙ sym (either-left (is_some (blob_at x store)) true same)

      more : (o : Option (List ℕ)) (b : Bool) → is_some (option_map_or (λ kept. Some kept) o (cond b (Some bytes) None)) ≡ (is_some o || b)
      more (Some kept) b = refl
      more None true = refl
      more None false = refl

      by : (o : Option (List ℕ)) → blob_at r store ≡ o → is_some (blob_at x (stored store r bytes)) ≡ (is_some (blob_at x store) || same_reference x r)
      by (Some kept) e = ap (λ s. is_some (blob_at x s)) (stored-old kept e) ∙ there kept e (same_reference x r) refl
      by None e = ap (λ s. is_some (blob_at x s)) (stored-new e) ∙ ap is_some (lookup-end x r bytes store) ∙ more (blob_at x store) (same_reference x r)

  -- and what is under it was, or is the content
  pub stored-is : (x : BlobRef) (found : List ℕ) → blob_at x (stored store r bytes) ≡ Some found → (blob_at x store ≡ Some found) ⊎ ((x ≡ r) × (bytes ≡ found))
  stored-is x found h = by (blob_at r store) refl
    where
      more : (o : Option (List ℕ)) (b : Bool) → same_reference x r ≡ b → option_map_or (λ kept. Some kept) o (cond b (Some bytes) None) ≡ Some found → (o ≡ Some found) ⊎ ((x ≡ r) × (bytes ≡ found))
      more (Some kept) b t e = inl e
      more None true t e = inr (same_true x r t, (let same : bytes ≡ found = cc in same))
      more None false t e = absurd (let no : ⊥ = cc in no)

      by : (o : Option (List ℕ)) → blob_at r store ≡ o → (blob_at x store ≡ Some found) ⊎ ((x ≡ r) × (bytes ≡ found))
      by (Some kept) e = inl (ap (blob_at x) (sym (stored-old kept e)) ∙ h)
      by None e = more (blob_at x store) (same_reference x r) refl (sym (lookup-end x r bytes store) ∙ ap (blob_at x) (sym (stored-new e)) ∙ h)

  -- what was put is there, unless others were
  pub stored-there : (HasOther store r bytes → ⊥) → blob_at r (stored store r bytes) ≡ Some bytes
  stored-there none = by (blob_at r store) refl
    where
      same : (kept : List ℕ) → blob_at r store ≡ Some kept → (b : Bool) → same_bytes kept bytes ≡ b → blob_at r (stored store r bytes) ≡ Some bytes
      same kept e true t = ap (blob_at r) (stored-old kept e) ∙ e ∙ ap (λ (bs : List ℕ). Some bs) (bytes-same kept bytes t)
      same kept e false t = absurd (none (kept, e, other-bytes kept bytes t))

      by : (o : Option (List ℕ)) → blob_at r store ≡ o → blob_at r (stored store r bytes) ≡ Some bytes
      by (Some kept) e = same kept e (same_bytes kept bytes) refl
      by None e =
          ap (blob_at r) (stored-new e) ∙ lookup-end r r bytes store ∙ ap (λ o. option_map_or (λ (kept : List ℕ). Some kept) o (cond (same_reference r r) (Some bytes) None)) e
          ∙ ap (λ b. cond b (Some bytes) None) (same_refl r)

  -- and what was there stays
  pub stored-keeps : (x : BlobRef) (found : List ℕ) → blob_at x store ≡ Some found → blob_at x (stored store r bytes) ≡ Some found
  stored-keeps x found e = by (blob_at r store) refl
    where
      by : (o : Option (List ℕ)) → blob_at r store ≡ o → blob_at x (stored store r bytes) ≡ Some found
      by (Some kept) g = ap (blob_at x) (stored-old kept g) ∙ e
      by None g = ap (blob_at x) (stored-new g) ∙ lookup-end x r bytes store ∙ ap (λ o. option_map_or (λ (kept : List ℕ). Some kept) o (cond (same_reference x r) (Some bytes) None)) e

  -- bytes under their references stay so
  pub stored-named : Names r bytes → Each (λ e. Names e.0 e.1) store → Each (λ e. Names e.0 e.1) (stored store r bytes)
  stored-named named all = by (blob_at r store) refl
    where
      by : (o : Option (List ℕ)) → blob_at r store ≡ o → Each (λ e. Names e.0 e.1) (stored store r bytes)
      by (Some kept) e = subst (Each (λ e. Names e.0 e.1)) (sym (stored-old kept e)) all
      by None e = subst (Each (λ e. Names e.0 e.1)) (sym (stored-new e)) (each-push (λ e. Names e.0 e.1) store (r, bytes) all named)

-- what a broker holds it has got
pub not-fresh : (v : ContentValue) (set : Setting) (log : Log) → AgreesContent v set log → (broker : ℕ) → broker < size_of v → (r : BlobRef) → fresh r (node_at v broker) ≡ false → has_got log broker r ≡ true
not-fresh v set log a broker within r e = held-got log broker r ((a.nodes broker within).held r ∙ by (is_some (clean_at r (node_at v broker).cache)) e)
  where
    by : (b : Bool) → not b ≡ false → b ≡ true
    by true t = refl
    by false t = absurd (true≢false t)

module _ (v : ContentValue) (set : Setting) (log : Log) (a : AgreesContent v set log) (some : 0 < size_of v) (r : BlobRef) (bytes : List ℕ) (gone : List BlobRef) where
  pub root-stored : (x : BlobRef) → has_got (after log 0 r (fresh r (node_at v 0)) gone) 0 x ≡ is_some (blob_at x (stored v.store r bytes))
  root-stored x =
      got-after log 0 r (fresh r (node_at v 0)) gone 0 x ∙ by (fresh r (node_at v 0)) (same_reference x r) refl refl
      ∙ ap (λ t. t || same_reference x r) (a.root x) ∙ sym (stored-some v.store r bytes x)
    where
      by : (f s : Bool) → fresh r (node_at v 0) ≡ f → same_reference x r ≡ s → (has_got log 0 x || (fresh r (node_at v 0) && ((0 == 0) && same_reference x r))) ≡ (has_got log 0 x || same_reference x r)
      by true s e t = ap (λ f. has_got log 0 x || (f && ((0 == 0) && same_reference x r))) e
      by false true e t =
          let same : has_got log 0 x ≡ true = ap (has_got log 0) (same_true x r t) ∙ not-fresh v set log a 0 some r e in
          either-left (has_got log 0 x) _ same ∙ sym (either-left (has_got log 0 x) _ same)
      by false false e t = ap (λ f. has_got log 0 x || (f && ((0 == 0) && same_reference x r))) e ∙ sym (ap (λ s. has_got log 0 x || s) t)

module _ (v w : ContentValue) (set : Setting) (log : Log) (a : AgreesContent v set log) (some : 0 < size_of v) (r : BlobRef) (bytes : List ℕ) (blob : IsBlob set log r bytes) (new : NodeValue) (events : List KvsEvent)
    (h : IsGetting 0 r bytes (node_at v 0) new events) (store : w.store ≡ stored v.store r bytes)
    (nodes : w.nodes ≡ put v.nodes 0 new) (fanout : w.fanout ≡ v.fanout) (hash : w.hash ≡ v.hash) (wants : w.wants ≡ v.wants) (sent : AreSettled v.fanout 0 r (Some bytes) v.offers w.offers) where
  -- rank 0 keeps the content in its store and gets it
  pub taken-follows : blob_at r w.store ≡ Some bytes → Follows v w events set log
  taken-follows there = got-follows v w set log a 0 some r bytes new events h blob (inl (refl, (bytes, blob.1, blob.0))) nodes fanout hash wants sent root kept (inl refl) there
    where
      root : (x : BlobRef) → has_got (after log 0 r (fresh r (node_at v 0)) h.gone) 0 x ≡ is_some (blob_at x w.store)
      root x = root-stored v set log a some r bytes h.gone x ∙ ap (λ s. is_some (blob_at x s)) (sym store)

      kept : (x : BlobRef) (found : List ℕ) → blob_at x w.store ≡ Some found → IsBlob set log x found
      kept x found e = elim (stored-is v.store r bytes x found (ap (blob_at x) (sym store) ∙ e)) [
        | inl was ↦ a.store x found was
        | inr same ↦ subst (λ y. IsBlob set log y found) (sym same.0) (subst (IsBlob set log r) same.1 blob)
      ]

-- other bytes stand in the store
pub clash-refused : (v : ContentValue) (set : Setting) (log : Log) → AgreesContent v set log → (r : BlobRef) (bytes : List ℕ) → IsBlob set log r bytes → HasOther v.store r bytes → IsRefused set log r
clash-refused v set log a r bytes blob h =
    let kept = a.store r h.0 h.1 in
    (record { one = h.0; other = bytes; differ = h.2; first = kept.1; second = blob.1; named = sym kept.0; shared = sym blob.0 }, a.root r ∙ ap is_some h.1)

-- A broker below rank 0 keeps a content as dirty, and offers it to the one above.
use Rattle.std.proofs.Common.{◌≡◌, ◌≢◌, ℕ, ◌<◌, ◌⊎◌, inl, inr, List, [], ◌∷◌, ◌++◌, Bool, true, false, cond, Option, Some, None, IsSome, refl, sym, ap, ◌∙◌, subst, arith, true≢false, get_or, set as put, append-nil}
use Rattle.std.specs.List.{list_any}
use Rattle.std.specs.Option.{option_map_or}
use Rattle.std.proofs.lemmas.Bool.{cases_eq}
use Rattle.std.proofs.lemmas.List.{length-set, get_or-set_same, get_or-set_other}
use Rattle.fl_digest.specs.declared.BlobRef.{BlobRef}
use Rattle.fl_digest.specs.Reference.{same_reference}
use Rattle.cache_node.specs.Cache.{Cache, any_at, clean_at, dirty_at, stored}
use Rattle.cache_node.specs.Order.{Names}
use Rattle.cache_node.proofs.Same.{same_refl, same_true}
use Rattle.kvs_rules.specs.Log.{Log}
use Rattle.kvs_rules.specs.Namespaces.{Setting}
use Rattle.kvs_rules.specs.Brokers.{parent}
use Rattle.kvs_content.specs.declared.offers.Offer.{Offer}
use Rattle.kvs_content.specs.declared.offers.OfferStage.TheVariants as offered
use Rattle.kvs_content.specs.Agrees.{AgreesContent, Follows, IsBlob, IsKept, NodeAgrees, OfferAgrees}
use Rattle.kvs_content.specs.Messages.{is_offer_of}
use Rattle.kvs_content.specs.Node.{NodeValue, empty_node, with_cache}
use Rattle.kvs_content.specs.Sound.{ArePlaced, IsCarried, IsDirty, IsOfferPlaced}
use Rattle.kvs_content.specs.Value.{ContentValue, node_at, size_of}
use Rattle.kvs_content.proofs.Sending.{push-all, push-any, push-own}

-- a cache with one dirty content more
abbrev pub with-dirty : BlobRef → List ℕ → Cache → Cache
with-dirty r bytes cache = record { dirty = (r, bytes) ∷ cache.dirty; clean = cache.clean }

-- the contents with a dirty content more, which its broker offers to the one above
abbrev pub with-offered : ContentValue → ℕ → BlobRef → List ℕ → List ℕ → ContentValue
with-offered v broker r bytes sent = record v {
  nodes = put v.nodes broker (with_cache (with-dirty r bytes (node_at v broker).cache) (node_at v broker));
  offers = v.offers ++ (record { child = broker; reference = r; bytes = sent; stage = offered.Rising }) ∷ [];
}

pub offered-then : {u v : ContentValue} (e : u ≡ v) (broker : ℕ) (r : BlobRef) (bytes sent : List ℕ) (node new : NodeValue) → node ≡ node_at u broker → any_at r node.cache ≡ None → new ≡ with_cache (stored r bytes node.cache) node
    → (offers : List Offer) → offers ≡ u.offers ++ (record { child = broker; reference = r; bytes = sent; stage = offered.Rising }) ∷ []
    → ◌≡◌ {A = ContentValue} (record u { nodes = put u.nodes broker new; offers = offers }) (with-offered v broker r bytes sent)
offered-then {u} {v} e broker r bytes sent node new read none is offers pushed =
    ap (λ (n : NodeValue). record u { nodes = put u.nodes broker n; offers = offers })
    (is ∙ ap (λ o. with_cache (option_map_or (λ kept. node.cache) o (with-dirty r bytes node.cache)) node) none ∙ ap (λ (n : NodeValue). with_cache (with-dirty r bytes n.cache) n) read)
    ∙ ap (λ (os : List Offer). record u { nodes = put u.nodes broker (with_cache (with-dirty r bytes (node_at u broker).cache) (node_at u broker)); offers = os }) pushed
    ∙ ap (λ (w : ContentValue). with-offered w broker r bytes sent) e

module _ (v : ContentValue) (broker : ℕ) (within : broker < size_of v) (r : BlobRef) (bytes sent : List ℕ) where
  abbrev pub own : Offer
  own = record { child = broker; reference = r; bytes = sent; stage = offered.Rising }

  abbrev pub node-dirty : NodeValue
  node-dirty = with_cache (with-dirty r bytes (node_at v broker).cache) (node_at v broker)

  abbrev pub offering : ContentValue
  offering = record v { nodes = put v.nodes broker node-dirty; offers = v.offers ++ own ∷ [] }

  node-here : node_at offering broker ≡ node-dirty
  node-here = get_or-set_same v.nodes broker node-dirty empty_node within

  node-there : (b : ℕ) → b ≢ broker → node_at offering b ≡ node_at v b
  node-there b ne = get_or-set_other v.nodes broker b node-dirty empty_node ne

  size-same : size_of offering ≡ size_of v
  size-same = length-set v.nodes broker node-dirty

  more : (b : Bool) (o : Option (List ℕ)) → IsSome o → IsSome (cond b (Some bytes) o)
  more true o h = refl
  more false o h = h

  -- what was dirty is, and so is the content
  pub dirty-still : (b : ℕ) (x : BlobRef) → IsDirty v b x → IsDirty offering b x
  dirty-still b x d = elim (cases_eq b broker) [
    | inl e ↦ subst (λ k. IsDirty offering k x) (sym e) (subst (λ n. IsSome (dirty_at x n.cache)) (sym node-here)
        (more (same_reference x r) (dirty_at x (node_at v broker).cache) (subst (λ k. IsDirty v k x) e d)))
    | inr ne ↦ subst (λ n. IsSome (dirty_at x n.cache)) (sym (node-there b ne)) d
  ]

  -- and nothing else is
  dirty-was : (b : ℕ) (x : BlobRef) (found : List ℕ) → dirty_at x (node_at offering b).cache ≡ Some found → ((b ≡ broker) × (x ≡ r) × (found ≡ bytes)) ⊎ (dirty_at x (node_at v b).cache ≡ Some found)
  dirty-was b x found d = elim (cases_eq b broker) [
    | inl e ↦ by (same_reference x r) refl e (ap (λ n. dirty_at x n.cache) (sym node-here) ∙ ap (λ k. dirty_at x (node_at offering k).cache) (sym e) ∙ d)
    | inr ne ↦ inr (ap (λ n. dirty_at x n.cache) (sym (node-there b ne)) ∙ d)
  ]
    where
      at : (s : Bool) → same_reference x r ≡ s → b ≡ broker → cond s (Some bytes) (dirty_at x (node_at v broker).cache) ≡ Some found → ((b ≡ broker) × (x ≡ r) × (found ≡ bytes)) ⊎ (dirty_at x (node_at v b).cache ≡ Some found)
      at true s e h = inl (e, same_true x r s, (let same : found ≡ bytes = cc in same))
      at false s e h = inr (ap (λ k. dirty_at x (node_at v k).cache) e ∙ h)

      by : (s : Bool) → same_reference x r ≡ s → b ≡ broker → dirty_at x node-dirty.cache ≡ Some found → ((b ≡ broker) × (x ≡ r) × (found ≡ bytes)) ⊎ (dirty_at x (node_at v b).cache ≡ Some found)
      by s t e h = at s t e (sym (ap (λ u. cond u (Some bytes) (dirty_at x (node_at v broker).cache)) t) ∙ h)

  clean-same : (b : ℕ) (x : BlobRef) → clean_at x (node_at offering b).cache ≡ clean_at x (node_at v b).cache
  clean-same b x = elim (cases_eq b broker) [
    | inl e ↦ ap (λ k. clean_at x (node_at offering k).cache) e ∙ ap (λ n. clean_at x n.cache) node-here ∙ ap (λ k. clean_at x (node_at v k).cache) (sym e)
    | inr ne ↦ ap (λ n. clean_at x n.cache) (node-there b ne)
  ]

  module _ (below : 0 < broker) (p : ArePlaced v) (named : Names r sent) where
    pub offering-placed : ArePlaced offering
    offering-placed = record {
      fanout = p.fanout;
      some = subst (λ n. 0 < n) (sym size-same) p.some;
      root = ap (λ n. n.cache.dirty) (node-there 0 (λ e. omega arith)) ∙ p.root;
      store = p.store;
      same = λ b x found l e. p.same b x found (subst (λ n. b < n) size-same l) (sym (clean-same b x) ∙ e);
      offers = push-all (IsOfferPlaced offering) v.offers own (λ k d l. moved _ (p.offers k d l)) fresh;
      wants = λ k d l. let w = p.wants k d l in record { below = w.below; within = subst (λ n. (get_or v.wants k d).broker < n) (sym size-same) w.within; way = w.way; named = w.named; same = w.same };
    } where
      moved : (o : Offer) → IsOfferPlaced v o → IsOfferPlaced offering o
      moved o q = record {
        below = q.below;
        within = subst (λ n. o.child < n) (sym size-same) q.within;
        waits = λ h. dirty-still (parent v.fanout o.child) o.reference (q.waits h);
        named = q.named;
        same = q.same;
      }

      fresh : IsOfferPlaced offering own
      fresh = record { below = below; within = subst (λ n. broker < n) (sym size-same) within; waits = λ h. absurd (true≢false (sym h)); named = named; same = tt }

  -- what was offered is, and so is the content
  pub offering-carried : sent ≡ bytes → (b : ℕ) (x : BlobRef) (found : List ℕ) → IsCarried v b x found → IsCarried offering b x found
  offering-carried copied b x found carried d = by (dirty-was b x found d)
    where
      by : ((b ≡ broker) × (x ≡ r) × (found ≡ bytes)) ⊎ (dirty_at x (node_at v b).cache ≡ Some found) → list_any (is_offer_of b x found) (v.offers ++ own ∷ []) ≡ true
      by (inl same) =
          ap (λ k. list_any (is_offer_of k x found) (v.offers ++ own ∷ [])) same.0 ∙ ap (λ y. list_any (is_offer_of broker y found) (v.offers ++ own ∷ [])) same.1
          ∙ ap (λ bs. list_any (is_offer_of broker r bs) (v.offers ++ own ∷ [])) (same.2 ∙ sym copied) ∙ push-own v.offers own
      by (inr was) = push-any b x found v.offers own (carried was)

  -- the content is dirty at the broker
  pub offering-dirty : IsDirty offering broker r
  offering-dirty = subst (λ n. IsSome (dirty_at r n.cache)) (sym node-here) (rw (same_refl r) refl)

  module _ (set : Setting) (log : Log) (a : AgreesContent v set log) (blob : IsBlob set log r bytes) (blob-sent : IsBlob set log r sent) where
    pub offering-agrees : AgreesContent offering set log
    offering-agrees = record {
      size = a.size ∙ sym size-same;
      fanout = a.fanout;
      hash = a.hash;
      root = a.root;
      above = λ c x pos l. a.above c x pos (subst (λ n. c < n) size-same l);
      store = a.store;
      nodes = λ b l. node b (subst (λ n. b < n) size-same l);
      offers = push-all (λ o. OfferAgrees set log v.fanout o.child o.reference o.bytes o.stage) v.offers own a.offers (blob-sent, tt);
      wants = a.wants;
    } where
      here : NodeAgrees set log broker node-dirty
      here = let n = a.nodes broker within in record { held = n.held; clean = n.clean; dirty = (blob, n.dirty); refused = n.refused; unpinned = n.unpinned }

      node : (b : ℕ) → b < size_of v → NodeAgrees set log b (node_at offering b)
      node b l = elim (cases_eq b broker) [
        | inl e ↦ subst (λ k. NodeAgrees set log k (node_at offering k)) (sym e) (subst (NodeAgrees set log broker) (sym node-here) here)
        | inr ne ↦ subst (NodeAgrees set log b) (sym (node-there b ne)) (a.nodes b l)
      ]

    pub offering-follows : Follows v offering [] set log
    offering-follows = record {
      legal = tt;
      agrees = subst (AgreesContent offering set) (sym (append-nil log)) offering-agrees;
      kept = λ b x l k. subst (λ ms. IsKept offering set ms b x) (sym (append-nil log)) (by b x k);
    } where
      by : (b : ℕ) (x : BlobRef) → IsKept v set log b x → IsKept offering set log b x
      by b x (inl d) = inl (dirty-still b x d)
      by b x (inr rest) = inr rest

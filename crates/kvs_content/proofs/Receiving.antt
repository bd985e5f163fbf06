-- A broker takes what a child offers, and answers it.
use Rattle.std.proofs.Common.{◌≡◌, ℕ, ◌+◌, ◌<◌, List, [], ◌∷◌, ◌++◌, Bool, true, false, Option, Some, None, option_map, map, refl, sym, ap, ◌∙◌, subst, true≢false, append-nil}
use Rattle.std.specs.Prelude.{is_some}
use Rattle.std.specs.List.{sum_by}
use Rattle.std.proofs.lemmas.List.Sums.{sum_by_push}
use Rattle.fl_digest.specs.declared.BlobRef.{BlobRef}
use Rattle.blob_store.specs.Blobs.{blob_at}
use Rattle.cache_node.specs.Cache.{clean_at}
use Rattle.cache_node.specs.Order.{Names}
use Rattle.kvs_rules.specs.declared.events.KvsEvent.{KvsEvent}
use Rattle.kvs_rules.specs.Log.{Happened, Log}
use Rattle.kvs_rules.specs.Namespaces.{Setting}
use Rattle.kvs_rules.specs.Brokers.{has_got, parent}
use Rattle.kvs_content.specs.declared.offers.Offer.{Offer}
use Rattle.kvs_content.specs.declared.offers.OfferStage.TheVariants as offered
use Rattle.kvs_content.specs.Agrees.{AgreesContent, Follows, IsBlob, IsRuled, OfferAgrees, OfferStageAgrees}
use Rattle.kvs_content.specs.Messages.{offer_of, offers_left, outcome, same_bytes}
use Rattle.kvs_content.specs.Sound.{ArePlaced, IsDirty, IsOfferPlaced, IsSoundBut, IsSoundContent}
use Rattle.kvs_content.specs.Value.{ContentValue, node_at, size_of}
use Rattle.kvs_content.proofs.Counting.{outcome-left}
use Rattle.kvs_content.proofs.Getting.{kept-agrees}
use Rattle.kvs_content.proofs.Later.{blob-later, held-got}
use Rattle.kvs_content.proofs.Refusing.{nothing-follows}
use Rattle.kvs_content.proofs.Sending.{put-follows, put-sound, with-offers}

-- what a child is told of its offer
abbrev pub told-offer : ℕ → BlobRef → List ℕ → Bool → Offer
told-offer child r bytes accepted = offer_of child r bytes (outcome accepted)

-- an offer that waits for what becomes of the content at the broker above
abbrev pub waiting-offer : ℕ → BlobRef → List ℕ → Offer
waiting-offer child r bytes = offer_of child r bytes offered.Waiting

module _ (v : ContentValue) (child : ℕ) (r : BlobRef) (bytes : List ℕ) (but : IsSoundBut child r bytes v) (below : 0 < child) (within : child < size_of v) (named : Names r bytes) where
  pub told-sound : (accepted : Bool) → (accepted ≡ true → blob_at r v.store ≡ Some bytes) → IsSoundContent (with-offers v (v.offers ++ told-offer child r bytes accepted ∷ []))
  told-sound accepted same = put-sound v (told-offer child r bytes accepted) but (placed accepted same)
    where
      placed : (b : Bool) → (b ≡ true → blob_at r v.store ≡ Some bytes) → IsOfferPlaced v (told-offer child r bytes b)
      placed true there = record { below = below; within = within; waits = λ h. absurd (true≢false (sym h)); named = named; same = there refl }
      placed false there = record { below = below; within = within; waits = λ h. absurd (true≢false (sym h)); named = named; same = tt }

  pub waiting-sound : IsDirty v (parent v.fanout child) r → IsSoundContent (with-offers v (v.offers ++ waiting-offer child r bytes ∷ []))
  waiting-sound dirty = put-sound v (waiting-offer child r bytes) but (record { below = below; within = within; waits = λ h. dirty; named = named; same = tt })

pub told-left : (offers : List Offer) (child : ℕ) (r : BlobRef) (bytes : List ℕ) (accepted : Bool) → sum_by offers_left (offers ++ told-offer child r bytes accepted ∷ []) ≡ sum_by offers_left offers + 1
told-left offers child r bytes accepted = sum_by_push offers_left offers (told-offer child r bytes accepted) ∙ ap (λ n. sum_by offers_left offers + n) (outcome-left child accepted)

pub waiting-left : (offers : List Offer) (child : ℕ) (r : BlobRef) (bytes : List ℕ) → sum_by offers_left (offers ++ waiting-offer child r bytes ∷ []) ≡ sum_by offers_left offers + 1
waiting-left offers child r bytes = sum_by_push offers_left offers (waiting-offer child r bytes)

-- what rank 0 has ruled agrees for its child
ruled-agrees : (set : Setting) (log : Log) (fanout child : ℕ) (r : BlobRef) (accepted : Bool) → parent fanout child ≡ 0 → IsRuled set log r accepted → OfferStageAgrees set log fanout child r (outcome accepted)
ruled-agrees set log fanout child r true up h = subst (λ b. has_got log b r ≡ true) (sym up) h
ruled-agrees set log fanout child r false up h = h

pub ruled-follows : (v u : ContentValue) (child : ℕ) (r : BlobRef) (bytes : List ℕ) (accepted : Bool) (events : List KvsEvent) (set : Setting) (log : Log) → parent u.fanout child ≡ 0 → IsBlob set log r bytes
    → Follows v u events set log → IsRuled set (log ++ map Happened events) r accepted → Follows v (with-offers u (u.offers ++ told-offer child r bytes accepted ∷ [])) events set log
ruled-follows v u child r bytes accepted events set log up blob f ruled =
    put-follows v u (told-offer child r bytes accepted) events set log f (blob-later log (map Happened events) set r bytes blob, ruled-agrees set (log ++ map Happened events) u.fanout child r accepted up ruled)

-- a broker has got what it has clean
pub clean-got : (v : ContentValue) (set : Setting) (log : Log) → AgreesContent v set log → (broker : ℕ) → broker < size_of v → (r : BlobRef) → is_some (clean_at r (node_at v broker).cache) ≡ true → has_got log broker r ≡ true
clean-got v set log a broker within r h = held-got log broker r ((a.nodes broker within).held r ∙ h)

-- a broker that has a content clean under the reference tells whether it has these bytes
pub clean-follows : (v : ContentValue) (child : ℕ) (r : BlobRef) (kept bytes : List ℕ) (set : Setting) (log : Log) → AgreesContent v set log → ArePlaced v → parent v.fanout child < size_of v
    → clean_at r (node_at v (parent v.fanout child)).cache ≡ Some kept → IsBlob set log r bytes
    → Follows v (with-offers v (v.offers ++ told-offer child r bytes (same_bytes kept bytes) ∷ [])) [] set log
clean-follows v child r kept bytes set log a placed within h blob =
    put-follows v v (told-offer child r bytes (same_bytes kept bytes)) [] set log (nothing-follows v set log a)
    (subst (λ ms. OfferAgrees set ms v.fanout child r bytes (outcome (same_bytes kept bytes))) (sym (append-nil log)) (blob, told))
  where
    told : OfferStageAgrees set log v.fanout child r (outcome (same_bytes kept bytes))
    told = kept-agrees set log v.fanout child r kept bytes ((a.nodes (parent v.fanout child) within).clean r kept h) blob
        (clean-got v set log a (parent v.fanout child) within r (ap is_some h)) (a.root r ∙ ap is_some (placed.same (parent v.fanout child) r kept within h))

pub waiting-follows : (v u : ContentValue) (child : ℕ) (r : BlobRef) (bytes : List ℕ) (set : Setting) (log : Log) → IsBlob set log r bytes → Follows v u [] set log → Follows v (with-offers u (u.offers ++ waiting-offer child r bytes ∷ [])) [] set log
waiting-follows v u child r bytes set log blob f = put-follows v u (waiting-offer child r bytes) [] set log f (blob-later log [] set r bytes blob, tt)

-- what a broker tells of the bytes that it has clean under a reference, if it has some
pub told-clean : (o : Option (List ℕ)) (bytes : List ℕ) (accepted : Bool) → Some accepted ≡ option_map (λ kept. same_bytes kept bytes) o → (kept : List ℕ) × (o ≡ Some kept) × (accepted ≡ same_bytes kept bytes)
told-clean (Some kept) bytes accepted e = (kept, refl, (let same : accepted ≡ same_bytes kept bytes = cc in same))
told-clean None bytes accepted e = absurd (let no : ⊥ = cc in no)

pub none-clean : (o : Option (List ℕ)) (bytes : List ℕ) → None ≡ option_map (λ kept. same_bytes kept bytes) o → is_some o ≡ false
none-clean None bytes e = refl
none-clean (Some kept) bytes e = absurd (let no : ⊥ = cc in no)

-- an offer is put at the end of those that there are
pub offer-pushed : {u v : ContentValue} (e : u ≡ v) (o p : Offer) → o ≡ p → (offers : List Offer) → offers ≡ u.offers ++ o ∷ [] → with-offers u offers ≡ with-offers v (v.offers ++ p ∷ [])
offer-pushed {u} {v} e o p same offers is = ap (with-offers u) (is ∙ ap (λ x. u.offers ++ x ∷ []) same) ∙ ap (λ (w : ContentValue). with-offers w (w.offers ++ p ∷ [])) e

-- Where no message is on any link, nothing is left to do.
use Rattle.std.proofs.Common.{◌≡◌, ℕ, zero, suc, ◌<◌, List, [], ◌∷◌, length, Bool, true, false, ◌||◌, ◌&&◌, ◌==◌, Option, Some, None, IsSome, refl, sym, ap, ◌∙◌, arith, true≢false, get_or}
use Rattle.std.specs.List.{list_any}
use Rattle.std.specs.Map.{lookup}
use Rattle.fl_digest.specs.declared.BlobRef.{BlobRef}
use Rattle.fl_digest.specs.Reference.{same_reference}
use Rattle.cache_node.proofs.Same.{same_refl}
use Rattle.cache_node.specs.Cache.{dirty_at}
use Rattle.kvs_rules.specs.Brokers.{parent}
use Rattle.kvs_content.specs.declared.offers.Offer.{Offer}
use Rattle.kvs_content.specs.declared.offers.OfferStage.{OfferStage}
use Rattle.kvs_content.specs.declared.offers.OfferStage.TheVariants as offered
use Rattle.kvs_content.specs.declared.wants.Want.{Want}
use Rattle.kvs_content.specs.declared.wants.WantStage.{WantStage}
use Rattle.kvs_content.specs.declared.wants.WantStage.TheVariants as wanted
use Rattle.kvs_content.specs.Messages.{is_offer_of, is_offer_on, is_offered_so, is_wanted_so, is_want_on, is_waiting_stage}
use Rattle.kvs_content.specs.Sound.{IsDirty, IsOfferPlaced, IsSoundContent}
use Rattle.kvs_content.specs.Steps.{AreLinksEmpty}
use Rattle.kvs_content.specs.Value.{ContentValue, node_at, size_of}
use Rattle.kvs_content.proofs.Lists.{PassesAt, passes-at, and-left, same-number, equal-itself}

pub parent-below : (fanout b : ℕ) → 0 < b → parent fanout b < b
parent-below fanout b h = grind arith

both-same : (a b : ℕ) → ((a == a) && (b == b)) ≡ true
both-same a b = ap (λ t. t && (b == b)) (equal-itself a) ∙ equal-itself b

or-none : (a b : Bool) → (a || b) ≡ false → (a ≡ false) × (b ≡ false)
or-none true b h = absurd (true≢false h)
or-none false b h = (refl, h)

some-at : {X : Type 0} (p : X → Bool) (xs : List X) (k : ℕ) (d : X) → k < length xs → p (get_or xs k d) ≡ true → list_any p xs ≡ false → ⊥
some-at p [] k d l h none = absurd (omega arith)
some-at p (x ∷ xs) zero d l h none = true≢false (sym h ∙ (or-none (p x) (list_any p xs) none).0)
some-at p (x ∷ xs) (suc k) d l h none = some-at p xs k d (omega arith) h (or-none (p x) (list_any p xs) none).1

module _ (v : ContentValue) (sound : IsSoundContent v) (still : AreLinksEmpty v) where
  -- an offer that is on no link waits
  waits-there : (k : ℕ) (d : Offer) → k < length v.offers → is_waiting_stage (get_or v.offers k d).stage ≡ true
  waits-there k d l = by (get_or v.offers k d).stage refl
    where
      on : (from to : ℕ) → is_offer_on v.fanout from to (get_or v.offers k d) ≡ true → ⊥
      on from to h = some-at (is_offer_on v.fanout from to) v.offers k d l h (or-none _ _ (still from to)).0

      by : (stage : OfferStage) → (get_or v.offers k d).stage ≡ stage → is_waiting_stage (get_or v.offers k d).stage ≡ true
      by offered.Rising e = absurd (on (get_or v.offers k d).child (parent v.fanout (get_or v.offers k d).child)
          (ap (is_offered_so v.fanout (get_or v.offers k d).child (parent v.fanout (get_or v.offers k d).child) (get_or v.offers k d).child) e ∙ both-same (get_or v.offers k d).child (parent v.fanout (get_or v.offers k d).child)))
      by offered.Waiting e = ap is_waiting_stage e
      by offered.Accepted e = absurd (on (parent v.fanout (get_or v.offers k d).child) (get_or v.offers k d).child
          (ap (is_offered_so v.fanout (parent v.fanout (get_or v.offers k d).child) (get_or v.offers k d).child (get_or v.offers k d).child) e ∙ both-same (get_or v.offers k d).child (parent v.fanout (get_or v.offers k d).child)))
      by offered.Refused e = absurd (on (parent v.fanout (get_or v.offers k d).child) (get_or v.offers k d).child
          (ap (is_offered_so v.fanout (parent v.fanout (get_or v.offers k d).child) (get_or v.offers k d).child (get_or v.offers k d).child) e ∙ both-same (get_or v.offers k d).child (parent v.fanout (get_or v.offers k d).child)))

  -- up to each rank nothing is dirty
  clean-below : (fuel broker : ℕ) (r : BlobRef) → broker < fuel → broker < size_of v → IsDirty v broker r → ⊥
  clean-below zero broker r f l dirty = absurd (omega arith)
  clean-below (suc fuel) broker r f l dirty = seen (λ b x g m. clean-below fuel b x g m) (dirty_at r (node_at v broker).cache) refl dirty
    where
      at : ((b : ℕ) (x : BlobRef) → b < fuel → b < size_of v → IsDirty v b x → ⊥)
          → (offers : List Offer) → ((k : ℕ) (d : Offer) → k < length offers → is_waiting_stage (get_or offers k d).stage ≡ true) → ((k : ℕ) (d : Offer) → k < length offers → IsOfferPlaced v (get_or offers k d))
          → (bytes : List ℕ) → PassesAt (is_offer_of broker r bytes) offers → ⊥
      at above [] waits placed bytes some = absurd (let w = some.within in omega arith)
      at above (o ∷ os) waits placed bytes some =
          let here = placed some.place o some.within in
          let passes = some.passes o in
          let child : (get_or (o ∷ os) some.place o).child ≡ broker = same-number _ _ (and-left _ _ (and-left _ _ passes)) in
          let up : parent v.fanout (get_or (o ∷ os) some.place o).child < (get_or (o ∷ os) some.place o).child = parent-below v.fanout _ here.below in
          above (parent v.fanout (get_or (o ∷ os) some.place o).child) (get_or (o ∷ os) some.place o).reference (omega arith) (let w = here.within in omega arith)
          (here.waits (waits some.place o some.within))

      seen : ((b : ℕ) (x : BlobRef) → b < fuel → b < size_of v → IsDirty v b x → ⊥) → (o : Option (List ℕ)) → dirty_at r (node_at v broker).cache ≡ o → IsSome o → ⊥
      seen above (Some bytes) e t =
          at above v.offers (λ k d. waits-there k d) (λ k d. sound.placed.offers k d) bytes (passes-at (is_offer_of broker r bytes) v.offers (sound.carried broker r bytes l e))
      seen above None e t = true≢false (sym t)

  pub no-dirty : (broker : ℕ) (r : BlobRef) → broker < size_of v → IsDirty v broker r → ⊥
  no-dirty broker r l dirty = clean-below (suc broker) broker r (omega arith) l dirty

  pub no-offers : v.offers ≡ []
  no-offers = by v.offers (λ k d. waits-there k d) (λ k d. sound.placed.offers k d)
    where
      by : (offers : List Offer) → ((k : ℕ) (d : Offer) → k < length offers → is_waiting_stage (get_or offers k d).stage ≡ true) → ((k : ℕ) (d : Offer) → k < length offers → IsOfferPlaced v (get_or offers k d)) → offers ≡ []
      by [] waits placed = refl
      by (o ∷ os) waits placed =
          let here = placed zero o (omega arith) in
          let up = parent-below v.fanout o.child here.below in
          absurd (no-dirty (parent v.fanout o.child) o.reference (let w = here.within in omega arith) (here.waits (waits zero o (omega arith))))

  pub no-wants : v.wants ≡ []
  no-wants = by v.wants (λ from to. (or-none _ _ (still from to)).1)
    where
      by : (wants : List Want) → ((from to : ℕ) → list_any (is_want_on v.fanout from to) wants ≡ false) → wants ≡ []
      by [] none = refl
      by (w ∷ ws) none = at w.stage refl
        where
          on : (from to : ℕ) → is_want_on v.fanout from to w ≡ true → ⊥
          on from to h = true≢false (sym h ∙ (or-none (is_want_on v.fanout from to w) _ (none from to)).0)

          at : (stage : WantStage) → w.stage ≡ stage → (w ∷ ws) ≡ []
          at wanted.Rising e = absurd (on w.child (parent v.fanout w.child) (ap (is_wanted_so v.fanout w.child (parent v.fanout w.child) w.child) e ∙ both-same w.child (parent v.fanout w.child)))
          at (wanted.Falling gift) e = absurd (on (parent v.fanout w.child) w.child (ap (is_wanted_so v.fanout (parent v.fanout w.child) w.child w.child) e ∙ both-same w.child (parent v.fanout w.child)))

  pub all-clean : (broker : ℕ) → broker < size_of v → (node_at v broker).cache.dirty ≡ []
  all-clean broker l = by (node_at v broker).cache.dirty (λ r. no-dirty broker r l)
    where
      by : (dirty : List (BlobRef × List ℕ)) → ((r : BlobRef) → IsSome (lookup (same_reference r) dirty) → ⊥) → dirty ≡ []
      by [] none = refl
      by (e ∷ es) none = absurd (none e.0 (rw (same_refl e.0) refl))

-- What is offered and what is dirty once what became of a content is sent to those that wait for it.
use Rattle.std.proofs.Common.{◌≡◌, ◌≢◌, ℕ, zero, suc, ◌<◌, ◌==◌, ◌⊎◌, inl, inr, List, [], ◌∷◌, length, Bool, true, false, ◌||◌, ◌&&◌, cond, Option, Some, None, IsSome, option_map, refl, sym, ap, ap₂, ◌∙◌, subst, arith, true≢false, get_or, set as put}
use Rattle.std.specs.List.{AllByRecursion as Each, IsDistinct, list_any}
use Rattle.std.specs.Map.{keys_of, lookup, remove_entry}
use Rattle.std.proofs.lemmas.Bool.{cases_eq}
use Rattle.std.proofs.lemmas.List.{length-set, get_or-set_same, get_or-set_other}
use Rattle.fl_digest.specs.declared.BlobRef.{BlobRef}
use Rattle.fl_digest.specs.Reference.{same_reference}
use Rattle.blob_store.specs.Blobs.{blob_at}
use Rattle.cache_node.specs.Cache.{Cache, acknowledged, clean_at, dirty_at, refused}
use Rattle.cache_node.specs.declared.content.Held.{Held}
use Rattle.cache_node.specs.Order.{Names, unpinned}
use Rattle.cache_node.proofs.Entries.{lookup-remove-same}
use Rattle.cache_node.proofs.Same.{same_laws, same_refl, same_true}
use Rattle.kvs_rules.specs.declared.events.KvsEvent.{KvsEvent}
use Rattle.kvs_rules.specs.Brokers.{parent}
use Rattle.kvs_content.specs.declared.offers.Offer.{Offer}
use Rattle.kvs_content.specs.declared.wants.Want.{Want}
use Rattle.kvs_content.specs.Messages.{AreSettled, IsAbove, is_kept, is_offer_of, is_waiting_stage, outcome, same_bytes, settled, staged, waits_at}
use Rattle.kvs_content.specs.Node.{IsGetting, NodeValue, empty_node}
use Rattle.kvs_content.specs.Sound.{ArePlaced, IsCarried, IsDirty, IsOfferPlaced, IsOfferSame, IsSoundBut, IsSoundContent, IsWantPlaced, IsWantSame}
use Rattle.kvs_content.specs.Steps.{IsLighter}
use Rattle.kvs_content.specs.Value.{ContentValue, node_at, size_of}
use Rattle.kvs_content.proofs.Agreeing.{got-clean, lookup-other}
use Rattle.kvs_content.proofs.Lists.{and-right, equal-itself, bytes-same}

-- two lists whose elements pass alike
pub any-alike : {X : Type 0} (p : X → Bool) (xs ys : List X) → length ys ≡ length xs → ((k : ℕ) (d : X) → k < length xs → p (get_or ys k d) ≡ p (get_or xs k d)) → list_any p ys ≡ list_any p xs
any-alike p [] [] l same = refl
any-alike p [] (y ∷ ys) l same = absurd (omega arith)
any-alike p (x ∷ xs) [] l same = absurd (omega arith)
any-alike p (x ∷ xs) (y ∷ ys) l same =
    ap₂ (λ a b. a || b) (same zero x (omega arith)) (any-alike p xs ys (omega arith) (λ k d m. same (suc k) d (omega arith)))

settled-offer : (fanout broker : ℕ) (r : BlobRef) (kept : Option (List ℕ)) (b : ℕ) (x : BlobRef) (bytes : List ℕ) (o : Offer) (t : Bool) → waits_at fanout broker r o ≡ t → is_offer_of b x bytes (settled fanout broker r kept o) ≡ is_offer_of b x bytes o
settled-offer fanout broker r kept b x bytes o true e = ap (λ t. is_offer_of b x bytes (cond t (staged (outcome (is_kept kept o.bytes)) o) o)) e
settled-offer fanout broker r kept b x bytes o false e = ap (λ t. is_offer_of b x bytes (cond t (staged (outcome (is_kept kept o.bytes)) o) o)) e

pub settled-offered : (fanout broker : ℕ) (r : BlobRef) (kept : Option (List ℕ)) (old new : List Offer) → AreSettled fanout broker r kept old new → (b : ℕ) (x : BlobRef) (bytes : List ℕ)
    → list_any (is_offer_of b x bytes) new ≡ list_any (is_offer_of b x bytes) old
settled-offered fanout broker r kept old new s b x bytes =
    any-alike (is_offer_of b x bytes) old new s.same_len (λ k d l. ap (is_offer_of b x bytes) (s.each k d l) ∙ settled-offer fanout broker r kept b x bytes (get_or old k d) _ refl)

outcome-left : (accepted : Bool) → is_waiting_stage (outcome accepted) ≡ false
outcome-left true = refl
outcome-left false = refl

-- what is accepted has the bytes that are kept, which rank 0's store has
outcome-same : (store : List (BlobRef × List ℕ)) (r x : BlobRef) (bytes : List ℕ) (kept : Option (List ℕ)) → x ≡ r → ((found : List ℕ) → kept ≡ Some found → blob_at r store ≡ Some found) → IsOfferSame store x bytes (outcome (is_kept kept bytes))
outcome-same store r x bytes None e there = tt
outcome-same store r x bytes (Some kept) e there = by (same_bytes kept bytes) refl
  where
    by : (b : Bool) → same_bytes kept bytes ≡ b → IsOfferSame store x bytes (outcome b)
    by true t = ap (λ y. blob_at y store) e ∙ there kept refl ∙ ap (λ (bs : List ℕ). Some bs) (bytes-same kept bytes t)
    by false t = tt

module _ (v w : ContentValue) (broker : ℕ) (within : broker < size_of v) (r : BlobRef) (kept : Option (List ℕ)) (new : NodeValue) (placed : ArePlaced v)
    (nodes : w.nodes ≡ put v.nodes broker new) (fanout : w.fanout ≡ v.fanout) (wants : w.wants ≡ v.wants) (sent : AreSettled v.fanout broker r kept v.offers w.offers)
    (dirty : (x : BlobRef) → same_reference x r ≡ false → dirty_at x new.cache ≡ dirty_at x (node_at v broker).cache)
    (out : dirty_at r new.cache ≡ None) (none : (node_at v broker).cache.dirty ≡ [] → new.cache.dirty ≡ []) (store : w.store ≡ v.store)
    (clean : (x : BlobRef) (found : List ℕ) → clean_at x new.cache ≡ Some found → blob_at x v.store ≡ Some found) (there : (found : List ℕ) → kept ≡ Some found → blob_at r v.store ≡ Some found) where
  size-same : size_of w ≡ size_of v
  size-same = ap length nodes ∙ length-set v.nodes broker new

  node-here : node_at w broker ≡ new
  node-here = ap (λ ns. get_or ns broker empty_node) nodes ∙ get_or-set_same v.nodes broker new empty_node within

  node-there : (b : ℕ) → b ≢ broker → node_at w b ≡ node_at v b
  node-there b ne = ap (λ ns. get_or ns b empty_node) nodes ∙ get_or-set_other v.nodes broker b new empty_node ne

  -- what was dirty is, but for the content
  pub dirty-still : (b : ℕ) (x : BlobRef) → IsDirty v b x → ((b ≡ broker) × (x ≡ r)) ⊎ IsDirty w b x
  dirty-still b x d = elim (cases_eq b broker) [
    | inl e ↦ by (same_reference x r) refl e
    | inr ne ↦ inr (subst (λ n. IsSome (dirty_at x n.cache)) (sym (node-there b ne)) d)
  ]
    where
      by : (s : Bool) → same_reference x r ≡ s → b ≡ broker → ((b ≡ broker) × (x ≡ r)) ⊎ IsDirty w b x
      by true s e = inl (e, same_true x r s)
      by false s e = inr (subst (λ k. IsDirty w k x) (sym e) (subst (λ n. IsSome (dirty_at x n.cache)) (sym node-here)
          (subst (λ o. IsSome o) (sym (dirty x s)) (subst (λ k. IsDirty v k x) e d))))

  -- and nothing else is
  dirty-was : (b : ℕ) (x : BlobRef) (bytes : List ℕ) → dirty_at x (node_at w b).cache ≡ Some bytes → dirty_at x (node_at v b).cache ≡ Some bytes
  dirty-was b x bytes d = elim (cases_eq b broker) [
    | inl e ↦ by (same_reference x r) refl e
    | inr ne ↦ ap (λ n. dirty_at x n.cache) (sym (node-there b ne)) ∙ d
  ]
    where
      here : b ≡ broker → dirty_at x new.cache ≡ Some bytes
      here e = ap (λ n. dirty_at x n.cache) (sym node-here) ∙ ap (λ k. dirty_at x (node_at w k).cache) (sym e) ∙ d

      by : (s : Bool) → same_reference x r ≡ s → b ≡ broker → dirty_at x (node_at v b).cache ≡ Some bytes
      by true s e = let bad : None ≡ Some bytes = sym (ap (λ y. dirty_at y new.cache) (same_true x r s) ∙ out) ∙ here e in absurd (let no : ⊥ = cc in no)
      by false s e = ap (λ k. dirty_at x (node_at v k).cache) e ∙ sym (dirty x s) ∙ here e

  -- of the content at the broker nothing is dirty any more
  pub not-there : IsDirty w broker r → ⊥
  not-there d = true≢false (sym (subst (λ o. IsSome o) out (subst (λ n. IsSome (dirty_at r n.cache)) node-here d)))

  pub settled-lighter : IsLighter v w
  settled-lighter = record { dirty = dirty-was; offered = λ b x bytes. settled-offered v.fanout broker r kept v.offers w.offers sent b x bytes }

  offer-placed : (o : Offer) → IsOfferPlaced v o → (t : Bool) → waits_at v.fanout broker r o ≡ t → IsOfferPlaced w (cond t (staged (outcome (is_kept kept o.bytes)) o) o)
  offer-placed o p true e = record {
    below = p.below;
    within = subst (λ n. o.child < n) (sym size-same) p.within;
    waits = λ h. absurd (true≢false (sym h ∙ outcome-left (is_kept kept o.bytes)));
    named = p.named;
    same = subst (λ s. IsOfferSame s o.reference o.bytes (outcome (is_kept kept o.bytes))) (sym store) (outcome-same v.store r o.reference o.bytes kept (same_true o.reference r (waits-named e)) there);
  } where
    waits-named : ((is_waiting_stage o.stage && (parent v.fanout o.child == broker)) && same_reference o.reference r) ≡ true → same_reference o.reference r ≡ true
    waits-named h = and-right (is_waiting_stage o.stage && (parent v.fanout o.child == broker)) (same_reference o.reference r) h
  offer-placed o p false e = record {
    below = p.below;
    within = subst (λ n. o.child < n) (sym size-same) p.within;
    waits = λ h. subst (λ f. IsDirty w (parent f o.child) o.reference) (sym fanout) (still h (dirty-still (parent v.fanout o.child) o.reference (p.waits h)));
    named = p.named;
    same = subst (λ s. IsOfferSame s o.reference o.bytes o.stage) (sym store) p.same;
  } where
    still : is_waiting_stage o.stage ≡ true → ((parent v.fanout o.child ≡ broker) × (o.reference ≡ r)) ⊎ IsDirty w (parent v.fanout o.child) o.reference → IsDirty w (parent v.fanout o.child) o.reference
    still h (inr d) = d
    still h (inl same) = let unwaited : ((is_waiting_stage o.stage && (parent v.fanout o.child == broker)) && same_reference o.reference r) ≡ false = e in absurd (true≢false (sym (
        ap (λ t. (t && (parent v.fanout o.child == broker)) && same_reference o.reference r) h
        ∙ ap (λ b. (b == broker) && same_reference o.reference r) same.0 ∙ ap (λ t. t && same_reference o.reference r) (equal-itself broker)
        ∙ ap (λ y. same_reference y r) same.1 ∙ same_refl r) ∙ unwaited))

  pub settled-placed : ArePlaced w
  settled-placed = record {
    fanout = subst (λ f. 0 < f) (sym fanout) placed.fanout;
    some = subst (λ n. 0 < n) (sym size-same) placed.some;
    root = elim (cases_eq 0 broker) [
      | inl e ↦ ap (λ k. (node_at w k).cache.dirty) e ∙ ap (λ n. n.cache.dirty) node-here ∙ none (ap (λ k. (node_at v k).cache.dirty) (sym e) ∙ placed.root)
      | inr ne ↦ ap (λ n. n.cache.dirty) (node-there 0 ne) ∙ placed.root
    ];
    store = subst (Each (λ e. Names e.0 e.1)) (sym store) placed.store;
    same = λ b x found l e. elim (cases_eq b broker) [
      | inl q ↦ ap (blob_at x) store ∙ clean x found (ap (λ n. clean_at x n.cache) (sym node-here) ∙ ap (λ k. clean_at x (node_at w k).cache) (sym q) ∙ e)
      | inr ne ↦ ap (blob_at x) store ∙ placed.same b x found (subst (λ n. b < n) size-same l) (ap (λ n. clean_at x n.cache) (sym (node-there b ne)) ∙ e)
    ];
    offers = λ k d l. let m : k < length v.offers = subst (λ n. k < n) sent.same_len l in
        subst (IsOfferPlaced w) (sym (sent.each k d m)) (offer-placed (get_or v.offers k d) (placed.offers k d m) (waits_at v.fanout broker r (get_or v.offers k d)) refl);
    wants = λ k d l. let m : k < length v.wants = subst (λ ws. k < length ws) wants l in want k d m;
  } where
    want : (k : ℕ) (d : Want) → k < length v.wants → IsWantPlaced w (get_or w.wants k d)
    want k d m =
        let p = placed.wants k d m in
        subst (λ ws. IsWantPlaced w (get_or ws k d)) (sym wants) (record {
          below = p.below;
          within = subst (λ n. (get_or v.wants k d).broker < n) (sym size-same) p.within;
          way = subst (λ f. IsAbove f (get_or v.wants k d).child (get_or v.wants k d).broker) (sym fanout) p.way;
          named = p.named;
          same = subst (λ s. IsWantSame s (get_or v.wants k d).reference (get_or v.wants k d).stage) (sym store) p.same;
        })

  -- all that is dirty is offered, where that was so but for the content
  pub settled-sound : (taken : List ℕ) → IsSoundBut broker r taken v → IsSoundContent w
  settled-sound taken s = record {
    placed = settled-placed;
    carried = λ b x bytes l d. by b x bytes d (s.carried b x bytes (subst (λ n. b < n) size-same l));
  } where
    by : (b : ℕ) (x : BlobRef) (bytes : List ℕ) → dirty_at x (node_at w b).cache ≡ Some bytes → ((b ≡ broker) × (x ≡ r) × (bytes ≡ taken)) ⊎ IsCarried v b x bytes → list_any (is_offer_of b x bytes) w.offers ≡ true
    by b x bytes d (inl same) =
        let bad : None ≡ Some bytes = sym (ap (λ n. dirty_at r n.cache) node-here ∙ out) ∙ sym (ap (λ y. dirty_at y (node_at w broker).cache) same.1) ∙ sym (ap (λ k. dirty_at x (node_at w k).cache) same.0) ∙ d in
        absurd (let no : ⊥ = cc in no)
    by b x bytes d (inr carried) = settled-offered v.fanout broker r kept v.offers w.offers sent b x bytes ∙ carried (dirty-was b x bytes d)

-- what is sound is so but for any content
pub sound-but : (v : ContentValue) (broker : ℕ) (r : BlobRef) (taken : List ℕ) → IsSoundContent v → IsSoundBut broker r taken v
sound-but v broker r taken s = record { placed = s.placed; carried = λ b x bytes l. inr (s.carried b x bytes l) }

-- and the other way round where those bytes aren't dirty there
pub but-sound : (v : ContentValue) (broker : ℕ) (r : BlobRef) (taken : List ℕ) → (dirty_at r (node_at v broker).cache ≡ Some taken → ⊥) → IsSoundBut broker r taken v → IsSoundContent v
but-sound v broker r taken not s = record {
  placed = s.placed;
  carried = λ b x bytes l d. elim (s.carried b x bytes l) [
    | inl same ↦ absurd (not (sym (ap (λ y. dirty_at y (node_at v broker).cache) same.1) ∙ sym (ap (λ k. dirty_at x (node_at v k).cache) same.0) ∙ d ∙ ap (λ (bs : List ℕ). Some bs) same.2))
    | inr carried ↦ carried d
  ];
}

-- what is clean after an acknowledgement was so, or is what was dirty
pub ack-clean : (cache : Cache) (r : BlobRef) (P : BlobRef → List ℕ → Type 0) → ((bytes : List ℕ) → dirty_at r cache ≡ Some bytes → P r bytes) → ((x : BlobRef) (found : List ℕ) → clean_at x cache ≡ Some found → P x found)
    → (x : BlobRef) (found : List ℕ) → clean_at x (acknowledged r cache) ≡ Some found → P x found
ack-clean cache r P here there x found e = by (dirty_at r cache) refl
  where
    at : (bytes : List ℕ) → dirty_at r cache ≡ Some bytes → (s : Bool) → same_reference x r ≡ s → option_map (λ (held : Held). held.bytes) (cond s (Some (unpinned bytes)) (lookup (same_reference x) cache.clean)) ≡ Some found → P x found
    at bytes d true s g = let same : bytes ≡ found = cc in subst (λ y. P y found) (sym (same_true x r s)) (subst (P r) same (here bytes d))
    at bytes d false s g = there x found g

    by : (o : Option (List ℕ)) → dirty_at r cache ≡ o → P x found
    by None d = there x found (rw d at e)
    by (Some bytes) d = at bytes d (same_reference x r) refl (rw d at e)

-- an acknowledgement leaves what is dirty under other references
pub ack-other : (cache : Cache) (r x : BlobRef) → same_reference x r ≡ false → dirty_at x (acknowledged r cache) ≡ dirty_at x cache
ack-other cache r x s = by (dirty_at r cache) refl
  where
    by : (o : Option (List ℕ)) → dirty_at r cache ≡ o → dirty_at x (acknowledged r cache) ≡ dirty_at x cache
    by None e = rw e refl
    by (Some bytes) e = rw e (lookup-other x r s cache.dirty)

pub ack-none : (cache : Cache) (r : BlobRef) → cache.dirty ≡ [] → (acknowledged r cache).dirty ≡ []
ack-none cache r none = rw (ap (lookup (same_reference r)) none) none

pub refused-other : (cache : Cache) (r x : BlobRef) → same_reference x r ≡ false → dirty_at x (refused r cache) ≡ dirty_at x cache
refused-other cache r x s = lookup-other x r s cache.dirty

pub refused-none : (cache : Cache) (r : BlobRef) → cache.dirty ≡ [] → (refused r cache).dirty ≡ []
refused-none cache r none = ap (remove_entry (same_reference r)) none

-- no more is dirty, and the same is offered
pub lighter-sound : (v w : ContentValue) → size_of w ≡ size_of v → IsSoundContent v → ArePlaced w → IsLighter v w → IsSoundContent w
lighter-sound v w size s placed light = record {
  placed = placed;
  carried = λ b x bytes l d. light.offered b x bytes ∙ s.carried b x bytes (subst (λ n. b < n) size l) (light.dirty b x bytes d);
}

pub lighter-but : (at : ℕ) (r : BlobRef) (taken : List ℕ) (v w : ContentValue) → size_of w ≡ size_of v → IsSoundBut at r taken v → ArePlaced w → IsLighter v w → IsSoundBut at r taken w
lighter-but at r taken v w size s placed light = record {
  placed = placed;
  carried = λ b x bytes l. elim (s.carried b x bytes (subst (λ n. b < n) size l)) [
    | inl same ↦ inl same
    | inr carried ↦ inr (λ d. light.offered b x bytes ∙ carried (light.dirty b x bytes d))
  ];
}

-- what was offered where it is dirty is so still
pub carried-sound : (v w : ContentValue) → size_of w ≡ size_of v → IsSoundContent v → ArePlaced w → ((b : ℕ) (x : BlobRef) (bytes : List ℕ) → b < size_of v → IsCarried v b x bytes → IsCarried w b x bytes) → IsSoundContent w
carried-sound v w size s placed still = record {
  placed = placed;
  carried = λ b x bytes l. let m : b < size_of v = subst (λ n. b < n) size l in still b x bytes m (s.carried b x bytes m);
}

pub carried-but : (at : ℕ) (r : BlobRef) (taken : List ℕ) (v w : ContentValue) → size_of w ≡ size_of v → IsSoundBut at r taken v → ArePlaced w → ((b : ℕ) (x : BlobRef) (bytes : List ℕ) → b < size_of v → IsCarried v b x bytes → IsCarried w b x bytes) → IsSoundBut at r taken w
carried-but at r taken v w size s placed still = record {
  placed = placed;
  carried = λ b x bytes l. let m : b < size_of v = subst (λ n. b < n) size l in elim (s.carried b x bytes m) [
    | inl same ↦ inl same
    | inr carried ↦ inr (still b x bytes m carried)
  ];
}

-- a broker that gets a content leaves what is dirty under other references
module _ (broker : ℕ) (r : BlobRef) (bytes : List ℕ) (old new : NodeValue) (events : List KvsEvent) (h : IsGetting broker r bytes old new events) where
  pub getting-other : (x : BlobRef) → same_reference x r ≡ false → dirty_at x new.cache ≡ dirty_at x old.cache
  getting-other x s = ap (lookup (same_reference x)) h.dirty ∙ lookup-other x r s old.cache.dirty

  pub getting-none : old.cache.dirty ≡ [] → new.cache.dirty ≡ []
  getting-none none = h.dirty ∙ ap (remove_entry (same_reference r)) none

-- so all stays sound
pub getting-sound : (v w : ContentValue) (broker : ℕ) → broker < size_of v → (r : BlobRef) (bytes : List ℕ) (new : NodeValue) (events : List KvsEvent) → IsGetting broker r bytes (node_at v broker) new events
    → w.nodes ≡ put v.nodes broker new → w.fanout ≡ v.fanout → w.wants ≡ v.wants → AreSettled v.fanout broker r (Some bytes) v.offers w.offers → w.store ≡ v.store → blob_at r v.store ≡ Some bytes → IsSoundContent v → IsSoundContent w
getting-sound v w broker within r bytes new events h nodes fanout wants sent store there s =
    settled-sound v w broker within r (Some bytes) new s.placed nodes fanout wants sent
    (getting-other broker r bytes (node_at v broker) new events h) h.out (getting-none broker r bytes (node_at v broker) new events h) store
    (got-clean broker r bytes (node_at v broker) new events h (λ x found. blob_at x v.store ≡ Some found) there (λ x found e. s.placed.same broker x found within e)) (λ found e. there ∙ e)
    bytes (sound-but v broker r bytes s)

-- once it is acknowledged, or refused, nothing of it is dirty
pub ack-out : (cache : Cache) (r : BlobRef) → IsDistinct same_reference (keys_of cache.dirty) → dirty_at r (acknowledged r cache) ≡ None
ack-out cache r once = by (dirty_at r cache) refl
  where
    by : (o : Option (List ℕ)) → dirty_at r cache ≡ o → dirty_at r (acknowledged r cache) ≡ None
    by None e = rw e e
    by (Some bytes) e = rw e (lookup-remove-same same_laws r cache.dirty once)

pub refused-out : (cache : Cache) (r : BlobRef) → IsDistinct same_reference (keys_of cache.dirty) → dirty_at r (refused r cache) ≡ None
refused-out cache r once = lookup-remove-same same_laws r cache.dirty once

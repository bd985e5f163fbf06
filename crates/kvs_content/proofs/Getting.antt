-- A broker gets a content as clean, and drops what goes for it.
use Rattle.std.proofs.Common.{◌≡◌, ℕ, ◌<◌, ◌==◌, ◌⊎◌, inl, inr, List, ◌++◌, length, Bool, true, false, ◌||◌, ◌&&◌, not, cond, Option, Some, None, IsSome, option_map, map, refl, sym, ap, ◌∙◌, subst, true≢false, get_or, set as put}
use Rattle.std.specs.Prelude.{is_some}
use Rattle.std.specs.Map.{lookup}
use Rattle.std.proofs.lemmas.Bool.{cases_eq}
use Rattle.std.proofs.lemmas.List.{get_or-set_same, get_or-set_other}
use Rattle.fl_digest.specs.declared.BlobRef.{BlobRef}
use Rattle.fl_digest.specs.Reference.{same_reference}
use Rattle.blob_store.specs.Blobs.{blob_at}
use Rattle.cache_node.specs.declared.content.Held.{Held}
use Rattle.cache_node.specs.Order.{filled}
use Rattle.cache_node.specs.Cache.{clean_at, dirty_at}
use Rattle.cache_node.proofs.Same.{same_refl, same_true}
use Rattle.kvs_rules.specs.declared.events.KvsEvent.{KvsEvent}
use Rattle.kvs_rules.specs.Log.{Happened, Log}
use Rattle.kvs_rules.specs.Namespaces.{Setting}
use Rattle.kvs_rules.specs.Brokers.{IsLegalGetting, has_got, holds, parent}
use Rattle.kvs_rules.specs.Answers.{IsLegalAfter}
use Rattle.kvs_content.specs.declared.offers.Offer.{Offer}
use Rattle.kvs_content.specs.declared.wants.Want.{Want}
use Rattle.kvs_content.specs.Agrees.{AgreesContent, Follows, IsBlob, OfferAgrees, OfferStageAgrees, WantAgrees}
use Rattle.kvs_content.specs.Messages.{AreSettled, is_kept, is_waiting_stage, outcome, same_bytes, settled, staged, waits_at}
use Rattle.kvs_content.specs.Node.{IsGetting, NodeValue, empty_node}
use Rattle.kvs_content.specs.Sound.{IsDirty}
use Rattle.kvs_content.specs.Value.{ContentValue, node_at, size_of}
use Rattle.kvs_content.proofs.Agreeing.{after, fresh, lookup-other, node-got}
use Rattle.kvs_content.proofs.Events.{coming, comes-legal, gets, got-after}
use Rattle.kvs_content.proofs.Following.{agrees-then, root-other}
use Rattle.kvs_content.proofs.Later.{blob-later, got-later, held-got, offer-later, refused-later, want-later}
use Rattle.kvs_content.proofs.Lists.{and-left, and-right, either-left, either-right, equal-itself, other-bytes, same-number}

-- what it says that an offer waits at a broker
pub record WaitsThere (fanout broker : ℕ) (r : BlobRef) (o : Offer) : Type 0 where
  pub waits : is_waiting_stage o.stage ≡ true
  pub up : parent fanout o.child ≡ broker
  pub named : o.reference ≡ r

pub waits-of : (fanout broker : ℕ) (r : BlobRef) (o : Offer) → waits_at fanout broker r o ≡ true → WaitsThere fanout broker r o
waits-of fanout broker r o e =
    let first = and-left (is_waiting_stage o.stage && (parent fanout o.child == broker)) (same_reference o.reference r) e in
    record {
      waits = and-left (is_waiting_stage o.stage) (parent fanout o.child == broker) first;
      up = same-number (parent fanout o.child) broker (and-right (is_waiting_stage o.stage) (parent fanout o.child == broker) first);
      named = same_true _ r (and-right (is_waiting_stage o.stage && (parent fanout o.child == broker)) (same_reference o.reference r) e);
    }

-- what waited for a content is accepted where its bytes are kept, and refused where others are
pub kept-agrees : (set : Setting) (log : Log) (fanout child : ℕ) (r : BlobRef) (kept bytes : List ℕ) → IsBlob set log r kept → IsBlob set log r bytes
    → has_got log (parent fanout child) r ≡ true → has_got log 0 r ≡ true → OfferStageAgrees set log fanout child r (outcome (same_bytes kept bytes))
kept-agrees set log fanout child r kept bytes blob other above root = by (same_bytes kept bytes) refl
  where
    by : (b : Bool) → same_bytes kept bytes ≡ b → OfferStageAgrees set log fanout child r (outcome b)
    by true e = above
    by false e = (record { one = kept; other = bytes; differ = other-bytes kept bytes e; first = blob.1; second = other.1; named = sym blob.0; shared = sym other.0 }, root)

-- what waits for a content at a broker that gets it agrees once it is settled
pub settled-agrees : (set : Setting) (log : Log) (fanout broker : ℕ) (r : BlobRef) (kept : Option (List ℕ)) (old new : List Offer) → AreSettled fanout broker r kept old new
    → ((k : ℕ) (d : Offer) → k < length old → waits_at fanout broker r (get_or old k d) ≡ true → OfferStageAgrees set log fanout (get_or old k d).child r (outcome (is_kept kept (get_or old k d).bytes)))
    → ((k : ℕ) (d : Offer) → k < length old → OfferAgrees set log fanout (get_or old k d).child (get_or old k d).reference (get_or old k d).bytes (get_or old k d).stage)
    → (k : ℕ) (d : Offer) → k < length new → OfferAgrees set log fanout (get_or new k d).child (get_or new k d).reference (get_or new k d).bytes (get_or new k d).stage
settled-agrees set log fanout broker r kept old new s told all k d l =
    subst (λ (o : Offer). OfferAgrees set log fanout o.child o.reference o.bytes o.stage) (sym (s.each k d within)) (by (waits_at fanout broker r (get_or old k d)) refl)
  where
    within : k < length old
    within = subst (λ n. k < n) s.same_len l

    by : (b : Bool) → waits_at fanout broker r (get_or old k d) ≡ b
        → OfferAgrees set log fanout (settled fanout broker r kept (get_or old k d)).child (settled fanout broker r kept (get_or old k d)).reference (settled fanout broker r kept (get_or old k d)).bytes (settled fanout broker r kept (get_or old k d)).stage
    by true e =
        let named : (get_or old k d).reference ≡ r = (waits-of fanout broker r (get_or old k d) e).named in
        subst (λ (o : Offer). OfferAgrees set log fanout o.child o.reference o.bytes o.stage) (sym (ap (λ b. cond b (staged (outcome (is_kept kept (get_or old k d).bytes)) (get_or old k d)) (get_or old k d)) e))
        ((all k d within).0, subst (λ x. OfferStageAgrees set log fanout (get_or old k d).child x (outcome (is_kept kept (get_or old k d).bytes))) (sym named) (told k d within e))
    by false e =
        subst (λ (o : Offer). OfferAgrees set log fanout o.child o.reference o.bytes o.stage) (sym (ap (λ b. cond b (staged (outcome (is_kept kept (get_or old k d).bytes)) (get_or old k d)) (get_or old k d)) e)) (all k d within)

module _ (v w : ContentValue) (set : Setting) (log : Log) (a : AgreesContent v set log) (broker : ℕ) (within : broker < size_of v) (r : BlobRef) (bytes : List ℕ) (new : NodeValue) (events : List KvsEvent)
    (h : IsGetting broker r bytes (node_at v broker) new events) (blob : IsBlob set log r bytes) (may : IsLegalGetting set log broker r)
    (nodes : w.nodes ≡ put v.nodes broker new) (fanout : w.fanout ≡ v.fanout) (hash : w.hash ≡ v.hash) (wants : w.wants ≡ v.wants) (sent : AreSettled v.fanout broker r (Some bytes) v.offers w.offers) where
  was-held : fresh r (node_at v broker) ≡ false → holds log broker r ≡ true
  was-held e = (a.nodes broker within).held r ∙ by (is_some (clean_at r (node_at v broker).cache)) e
    where
      by : (b : Bool) → not b ≡ false → b ≡ true
      by true t = refl
      by false t = absurd (true≢false t)

  -- the broker has got the content now
  pub has-it : has_got (after log broker r (fresh r (node_at v broker)) h.gone) broker r ≡ true
  has-it = got-after log broker r (fresh r (node_at v broker)) h.gone broker r ∙ by (fresh r (node_at v broker)) refl
    where
      itself : ((broker == broker) && same_reference r r) ≡ true
      itself = ap (λ b. b && same_reference r r) (equal-itself broker) ∙ same_refl r

      by : (b : Bool) → fresh r (node_at v broker) ≡ b → (has_got log broker r || (b && ((broker == broker) && same_reference r r))) ≡ true
      by true e = either-right (has_got log broker r) _ itself
      by false e = either-left (has_got log broker r) _ (held-got log broker r (was-held e))

  pub got-legal : IsLegalAfter set log (map Happened events)
  got-legal = subst (λ es. IsLegalAfter set log (map Happened es)) (sym h.told)
      (comes-legal set broker log r (fresh r (node_at v broker)) h.gone (λ e. may) h.rest.once (λ x t. there x (same_reference x r) refl (h.rest.there x t)))
    where
      some-held : (x : BlobRef) (o : Option Held) → lookup (same_reference x) (node_at v broker).cache.clean ≡ o → IsSome o → holds log broker x ≡ true
      some-held x (Some held) e t = (a.nodes broker within).held x ∙ ap (λ o. is_some (option_map (λ (held : Held). held.bytes) o)) e
      some-held x None e t = absurd (true≢false (sym t))

      there : (x : BlobRef) (s : Bool) → same_reference x r ≡ s → IsSome (lookup (same_reference x) (filled r bytes (node_at v broker).cache.clean))
          → (gets broker r (fresh r (node_at v broker)) broker x || holds log broker x) ≡ true
      there x true e t = by (fresh r (node_at v broker)) refl
        where
          by : (b : Bool) → fresh r (node_at v broker) ≡ b → ((b && ((broker == broker) && same_reference x r)) || holds log broker x) ≡ true
          by true g = either-left _ (holds log broker x) (ap (λ b. b && same_reference x r) (equal-itself broker) ∙ e)
          by false g = subst (λ y. holds log broker y ≡ true) (sym (same_true x r e)) (was-held g)
      there x false e t = either-right (gets broker r (fresh r (node_at v broker)) broker x) _
          (some-held x (lookup (same_reference x) (node_at v broker).cache.clean) refl (subst (λ o. IsSome o) (lookup-other x r e (node_at v broker).cache.clean) (rw e at t)))

  module _ (root : (x : BlobRef) → has_got (after log broker r (fresh r (node_at v broker)) h.gone) 0 x ≡ is_some (blob_at x w.store))
      (store : (x : BlobRef) (found : List ℕ) → blob_at x w.store ≡ Some found → IsBlob set log x found)
      (source : (broker ≡ 0) ⊎ (has_got log (parent v.fanout broker) r ≡ true)) (there : blob_at r w.store ≡ Some bytes) where
    abbrev log-got : Log
    log-got = after log broker r (fresh r (node_at v broker)) h.gone

    -- what waited is told whether its bytes are the content's
    told-waiting : (k : ℕ) (d : Offer) → k < length v.offers → waits_at v.fanout broker r (get_or v.offers k d) ≡ true → OfferStageAgrees set log-got v.fanout (get_or v.offers k d).child r (outcome (same_bytes bytes (get_or v.offers k d).bytes))
    told-waiting k d l e =
        let waits = waits-of v.fanout broker r (get_or v.offers k d) e in
        kept-agrees set log-got v.fanout (get_or v.offers k d).child r bytes (get_or v.offers k d).bytes
        (blob-later log (map Happened (coming broker r (fresh r (node_at v broker)) h.gone)) set r bytes blob)
        (blob-later log (map Happened (coming broker r (fresh r (node_at v broker)) h.gone)) set r (get_or v.offers k d).bytes (subst (λ x. IsBlob set log x (get_or v.offers k d).bytes) waits.named (a.offers k d l).0))
        (subst (λ b. has_got log-got b r ≡ true) (sym waits.up) has-it) (root r ∙ ap is_some there)

    pub got-agrees : AgreesContent w set (log ++ map Happened events)
    got-agrees = subst (λ es. AgreesContent w set (log ++ map Happened es)) (sym h.told)
        (agrees-then v w set log a broker r (fresh r (node_at v broker)) h.gone new within nodes fanout hash (λ e. source)
        (node-got broker r bytes (node_at v broker) new events h set log (a.nodes broker within) blob)
        root
        (λ x found e. blob-later log (map Happened (coming broker r (fresh r (node_at v broker)) h.gone)) set x found (store x found e))
        (settled-agrees set (after log broker r (fresh r (node_at v broker)) h.gone) v.fanout broker r (Some bytes) v.offers w.offers sent told-waiting
        (λ k d l. offer-later log (map Happened (coming broker r (fresh r (node_at v broker)) h.gone)) set v.fanout _ _ _ _ (a.offers k d l)))
        (subst (λ ws. (k : ℕ) (d : Want) → k < length ws → WantAgrees set (after log broker r (fresh r (node_at v broker)) h.gone) v.fanout (get_or ws k d)) (sym wants)
        (λ k d l. want-later log (map Happened (coming broker r (fresh r (node_at v broker)) h.gone)) set v.fanout _ (a.wants k d l))))

    still-dirty : (b : ℕ) (x : BlobRef) → IsDirty v b x → ((b ≡ broker) × (x ≡ r)) ⊎ IsDirty w b x
    still-dirty b x d = elim (cases_eq b broker) [
      | inl e ↦ by (same_reference x r) refl e
      | inr ne ↦ inr (subst (λ ns. IsSome (dirty_at x (get_or ns b empty_node).cache)) (sym nodes) (subst (λ n. IsSome (dirty_at x n.cache)) (sym (get_or-set_other v.nodes broker b new empty_node ne)) d))
    ]
      where
        by : (s : Bool) → same_reference x r ≡ s → b ≡ broker → ((b ≡ broker) × (x ≡ r)) ⊎ IsDirty w b x
        by true s e = inl (e, same_true x r s)
        by false s e = inr (subst (λ ns. IsSome (dirty_at x (get_or ns b empty_node).cache)) (sym nodes)
            (subst (λ k. IsSome (dirty_at x (get_or (put v.nodes broker new) k empty_node).cache)) (sym e)
            (subst (λ n. IsSome (dirty_at x n.cache)) (sym (get_or-set_same v.nodes broker new empty_node within))
            (subst (λ es. IsSome (lookup (same_reference x) es)) (sym h.dirty)
            (subst (λ o. IsSome o) (sym (lookup-other x r s (node_at v broker).cache.dirty)) (subst (λ k. IsDirty v k x) e d))))))

    pub got-follows : Follows v w events set log
    got-follows = record {
      legal = got-legal;
      agrees = got-agrees;
      kept = λ b x l k. elim k [
        | inl d ↦ elim (still-dirty b x d) [
          | inl same ↦ inr (inl (subst (λ es. has_got (log ++ map Happened es) b x ≡ true) (sym h.told)
              (subst (λ y. has_got (after log broker r (fresh r (node_at v broker)) h.gone) b y ≡ true) (sym same.1)
              (subst (λ c. has_got (after log broker r (fresh r (node_at v broker)) h.gone) c r ≡ true) (sym same.0) has-it))))
          | inr still ↦ inl still
        ]
        | inr (inl g) ↦ inr (inl (got-later log (map Happened events) b x g))
        | inr (inr c) ↦ inr (inr (refused-later log (map Happened events) set x c))
      ];
    }

-- a broker below rank 0 keeps what the one above has got
module _ (v w : ContentValue) (set : Setting) (log : Log) (a : AgreesContent v set log) (at : ℕ) (below : 0 < at) (within : at < size_of v) (r : BlobRef) (bytes : List ℕ) (new : NodeValue) (events : List KvsEvent)
    (h : IsGetting at r bytes (node_at v at) new events) (blob : IsBlob set log r bytes) (source : has_got log (parent v.fanout at) r ≡ true)
    (nodes : w.nodes ≡ put v.nodes at new) (fanout : w.fanout ≡ v.fanout) (hash : w.hash ≡ v.hash) (store : w.store ≡ v.store) (wants : w.wants ≡ v.wants) (sent : AreSettled v.fanout at r (Some bytes) v.offers w.offers) where
  may-get : IsLegalGetting set log at r
  may-get = inr (below, subst (λ n. at < n) (sym a.size) within, subst (λ f. has_got log (parent f at) r ≡ true) (sym a.fanout) source)

  pub keep-follows : blob_at r v.store ≡ Some bytes → Follows v w events set log
  keep-follows there =
      got-follows v w set log a at within r bytes new events h blob may-get nodes fanout hash wants sent
      (λ x. root-other v set log a at below r (fresh r (node_at v at)) h.gone x ∙ ap (λ s. is_some (blob_at x s)) (sym store))
      (λ x found e. a.store x found (ap (blob_at x) (sym store) ∙ e)) (inr source) (ap (blob_at r) store ∙ there)

  pub keep-got : has_got (log ++ map Happened events) at r ≡ true
  keep-got = subst (λ es. has_got (log ++ map Happened es) at r ≡ true) (sym h.told) (has-it v w set log a at within r bytes new events h blob may-get nodes fanout hash wants sent)

-- A broker hears that a content of its was refused, or notes it.
use Rattle.std.proofs.Common.{◌≡◌, ℕ, ◌<◌, ◌⊎◌, inl, inr, [], ◌∷◌, ◌++◌, length, Bool, true, false, cond, None, sym, ap, ◌∙◌, subst, append-nil, get_or, set as put}
use Rattle.std.specs.Prelude.{is_some}
use Rattle.std.specs.List.{AllByRecursion as Each, list_any}
use Rattle.std.proofs.lemmas.List.Folds.{list_any-append}
use Rattle.std.proofs.lemmas.Bool.{cases_eq}
use Rattle.std.proofs.lemmas.List.{length-set, get_or-set_same, get_or-set_other}
use Rattle.fl_digest.specs.declared.BlobRef.{BlobRef}
use Rattle.fl_digest.specs.Reference.{same_reference}
use Rattle.blob_store.specs.Blobs.{blob_at}
use Rattle.cache_node.specs.Cache.{dirty_at}
use Rattle.cache_node.proofs.Entries.{all-remove}
use Rattle.cache_node.proofs.Same.{same_refl}
use Rattle.kvs_rules.specs.Log.{Log}
use Rattle.kvs_rules.specs.Namespaces.{Setting}
use Rattle.kvs_rules.specs.Brokers.{has_got, parent}
use Rattle.kvs_content.specs.declared.offers.Offer.{Offer}
use Rattle.kvs_content.specs.declared.wants.Want.{Want}
use Rattle.kvs_content.specs.Agrees.{AgreesContent, Follows, IsBlob, IsKept, IsNoted, IsRefused, NodeAgrees, OfferAgrees, WantAgrees}
use Rattle.kvs_content.specs.Messages.{AreSettled}
use Rattle.kvs_content.specs.Node.{NodeValue, empty_node, rejected}
use Rattle.kvs_content.specs.Sound.{IsDirty}
use Rattle.kvs_content.specs.Value.{ContentValue, node_at, size_of}
use Rattle.kvs_content.proofs.Getting.{settled-agrees}
use Rattle.kvs_content.proofs.Lists.{each-push, either-left, either-right}

-- where nothing is done, all stands as it was
pub nothing-follows : (v : ContentValue) (set : Setting) (log : Log) → AgreesContent v set log → Follows v v [] set log
nothing-follows v set log a = record {
  legal = tt;
  agrees = subst (AgreesContent v set) (sym (append-nil log)) a;
  kept = λ b x l k. subst (λ ms. IsKept v set ms b x) (sym (append-nil log)) k;
}

module _ (set : Setting) (log : Log) (broker : ℕ) (r : BlobRef) (node : NodeValue) (agrees : NodeAgrees set log broker node) (clash : IsRefused set log r) where
  -- a broker that notes a reference that was refused
  pub node-noted : NodeAgrees set log broker (record node { refused = node.refused ++ r ∷ [] })
  node-noted = record {
    held = agrees.held;
    clean = agrees.clean;
    dirty = agrees.dirty;
    refused = each-push (IsRefused set log) node.refused r agrees.refused clash;
    unpinned = agrees.unpinned;
  }

  -- a broker whose dirty content was refused
  pub node-rejected : NodeAgrees set log broker (rejected r node)
  node-rejected = record {
    held = agrees.held;
    clean = agrees.clean;
    dirty = all-remove (λ e. IsBlob set log e.0 e.1) (same_reference r) node.cache.dirty agrees.dirty;
    refused = by (is_some (dirty_at r node.cache));
    unpinned = agrees.unpinned;
  } where
    by : (b : Bool) → Each (IsRefused set log) (cond b (node.refused ++ r ∷ []) node.refused)
    by true = each-push (IsRefused set log) node.refused r agrees.refused clash
    by false = agrees.refused

module _ (v w : ContentValue) (set : Setting) (log : Log) (a : AgreesContent v set log) (broker : ℕ) (within : broker < size_of v) (new : NodeValue) (here : NodeAgrees set log broker new)
    (fanout : w.fanout ≡ v.fanout) (hash : w.hash ≡ v.hash) (store : w.store ≡ v.store) (wants : w.wants ≡ v.wants) (nodes : w.nodes ≡ put v.nodes broker new)
    (offers : (k : ℕ) (d : Offer) → k < length w.offers → OfferAgrees set log v.fanout (get_or w.offers k d).child (get_or w.offers k d).reference (get_or w.offers k d).bytes (get_or w.offers k d).stage) where
  size-same : length w.nodes ≡ length v.nodes
  size-same = ap length nodes ∙ length-set v.nodes broker new

  node : (b : ℕ) → b < size_of v → NodeAgrees set log b (get_or (put v.nodes broker new) b empty_node)
  node b l = elim (cases_eq b broker) [
    | inl e ↦ subst (λ k. NodeAgrees set log k (get_or (put v.nodes broker new) k empty_node)) (sym e) (subst (NodeAgrees set log broker) (sym (get_or-set_same v.nodes broker new empty_node within)) here)
    | inr ne ↦ subst (NodeAgrees set log b) (sym (get_or-set_other v.nodes broker b new empty_node ne)) (a.nodes b l)
  ]

  -- with no event, one broker's node and the offers changed
  pub same-agrees : AgreesContent w set log
  same-agrees = record {
    size = a.size ∙ sym size-same;
    fanout = a.fanout ∙ sym fanout;
    hash = a.hash ∙ sym hash;
    root = λ x. a.root x ∙ ap (λ s. is_some (blob_at x s)) (sym store);
    above = λ c x pos l got. subst (λ f. has_got log (parent f c) x ≡ true) (sym fanout) (a.above c x pos (subst (λ n. c < n) size-same l) got);
    store = λ x bytes e. a.store x bytes (ap (blob_at x) (sym store) ∙ e);
    nodes = λ b l. subst (λ ns. NodeAgrees set log b (get_or ns b empty_node)) (sym nodes) (node b (subst (λ n. b < n) size-same l));
    offers = λ k d l. subst (λ f. OfferAgrees set log f (get_or w.offers k d).child (get_or w.offers k d).reference (get_or w.offers k d).bytes (get_or w.offers k d).stage) (sym fanout) (offers k d l);
    wants = λ k d l. subst (λ f. WantAgrees set log f (get_or w.wants k d)) (sym fanout) (want k d l);
  } where
    want : (k : ℕ) (d : Want) → k < length w.wants → WantAgrees set log v.fanout (get_or w.wants k d)
    want = subst (λ ws. (k : ℕ) (d : Want) → k < length ws → WantAgrees set log v.fanout (get_or ws k d)) (sym wants) a.wants

  -- what was kept is, where each dirty content is dirty still or was refused
  pub same-follows : ((b : ℕ) (x : BlobRef) → IsDirty v b x → IsRefused set log x ⊎ IsDirty w b x) → Follows v w [] set log
  same-follows still = record {
    legal = tt;
    agrees = subst (AgreesContent w set) (sym (append-nil log)) same-agrees;
    kept = λ b x l k. subst (λ ms. IsKept w set ms b x) (sym (append-nil log)) (by b x k);
  } where
    by : (b : ℕ) (x : BlobRef) → IsKept v set log b x → IsKept w set log b x
    by b x (inr rest) = inr rest
    by b x (inl d) = elim (still b x d) [
      | inl clash ↦ inr (inr clash)
      | inr dirty ↦ inl dirty
    ]

-- a refusal: what is dirty under another reference is so still
pub reject-follows : (v w : ContentValue) (set : Setting) (log : Log) → AgreesContent v set log → (broker : ℕ) → broker < size_of v → (r : BlobRef) → IsRefused set log r
    → w.fanout ≡ v.fanout → w.hash ≡ v.hash → w.store ≡ v.store → w.wants ≡ v.wants → w.nodes ≡ put v.nodes broker (rejected r (node_at v broker)) → AreSettled v.fanout broker r None v.offers w.offers
    → ((b : ℕ) (x : BlobRef) → IsDirty v b x → ((b ≡ broker) × (x ≡ r)) ⊎ IsDirty w b x) → Follows v w [] set log
reject-follows v w set log a broker within r clash fanout hash store wants nodes sent still =
    same-follows v w set log a broker within (rejected r (node_at v broker)) (node-rejected set log broker r (node_at v broker) (a.nodes broker within) clash) fanout hash store wants nodes
    (settled-agrees set log v.fanout broker r None v.offers w.offers sent (λ k d l e. clash) a.offers) (λ b x d. by b x (still b x d))
  where
    by : (b : ℕ) (x : BlobRef) → ((b ≡ broker) × (x ≡ r)) ⊎ IsDirty w b x → IsRefused set log x ⊎ IsDirty w b x
    by b x (inl same) = inl (subst (IsRefused set log) (sym same.1) clash)
    by b x (inr d) = inr d

-- rank 0 notes a reference that was refused there
pub noted-follows : (v : ContentValue) (set : Setting) (log : Log) → AgreesContent v set log → (broker : ℕ) → broker < size_of v → (r : BlobRef) → IsRefused set log r → (w : ContentValue)
    → w ≡ record v { nodes = put v.nodes broker (record (node_at v broker) { refused = (node_at v broker).refused ++ r ∷ [] }) }
    → ((b : ℕ) (x : BlobRef) → IsDirty v b x → IsDirty w b x) → Follows v w [] set log
noted-follows v set log a broker within r clash w is still =
    same-follows v w set log a broker within _ (node-noted set log broker r (node_at v broker) (a.nodes broker within) clash)
    (ap (λ u. u.fanout) is) (ap (λ u. u.hash) is) (ap (λ u. u.store) is) (ap (λ u. u.wants) is) (ap (λ u. u.nodes) is)
    (subst (λ os. (k : ℕ) (d : Offer) → k < length os → OfferAgrees set log v.fanout (get_or os k d).child (get_or os k d).reference (get_or os k d).bytes (get_or os k d).stage) (sym (ap (λ (u : ContentValue). u.offers) is)) a.offers)
    (λ b x d. inr (still b x d))

-- a broker with one reference more that was refused
abbrev pub noted : BlobRef → NodeValue → NodeValue
noted r node = record node { refused = node.refused ++ r ∷ [] }

pub noted-then : {u v : ContentValue} (e : u ≡ v) (r : BlobRef) (node new : NodeValue) → node ≡ node_at u 0 → new ≡ noted r node
    → ◌≡◌ {A = ContentValue} (record u { nodes = put u.nodes 0 new }) (record v { nodes = put v.nodes 0 (noted r (node_at v 0)) })
noted-then {u} {v} e r node new read is =
    ap (λ (n : NodeValue). record u { nodes = put u.nodes 0 n }) (is ∙ ap (noted r) read)
    ∙ ap (λ (w : ContentValue). record w { nodes = put w.nodes 0 (noted r (node_at w 0)) }) e

-- and what was noted last is noted
pub noted-there : (v : ContentValue) → 0 < size_of v → (r : BlobRef) → IsNoted (record v { nodes = put v.nodes 0 (noted r (node_at v 0)) }) 0 r
noted-there v some r =
    ap (λ (n : NodeValue). list_any (same_reference r) n.refused) (get_or-set_same v.nodes 0 (noted r (node_at v 0)) empty_node some)
    ∙ list_any-append (same_reference r) (node_at v 0).refused (r ∷ [])
    ∙ either-right (list_any (same_reference r) (node_at v 0).refused) _ (either-left (same_reference r r) false (same_refl r))

-- A broker's node changes, and its dirty contents stay.
use Rattle.std.proofs.Common.{◌≡◌, ℕ, ◌<◌, inl, inr, List, length, Some, IsSome, sym, ap, ◌∙◌, subst, get_or, set as put}
use Rattle.std.specs.Prelude.{is_some}
use Rattle.std.specs.List.{AllByRecursion as Each}
use Rattle.std.specs.Map.{lookup}
use Rattle.std.proofs.lemmas.Bool.{cases_eq}
use Rattle.std.proofs.lemmas.List.{length-set, get_or-set_same, get_or-set_other, get_or_default}
use Rattle.fl_digest.specs.declared.BlobRef.{BlobRef}
use Rattle.fl_digest.specs.Reference.{same_reference}
use Rattle.cache_node.specs.Cache.{clean_at, held_at}
use Rattle.kvs_rules.specs.Log.{Log}
use Rattle.kvs_rules.specs.Namespaces.{Setting}
use Rattle.kvs_rules.specs.Brokers.{parent}
use Rattle.kvs_content.specs.declared.node.Flush.{Flush}
use Rattle.kvs_content.specs.declared.node.Flush.TheVariants as flush
use Rattle.kvs_content.specs.declared.offers.Offer.{Offer}
use Rattle.kvs_content.specs.Agrees.{AgreesContent, IsBlob, IsRefused, NodeAgrees}
use Rattle.kvs_content.specs.Node.{IsFlush, NodeValue, empty_node}
use Rattle.kvs_content.specs.Sound.{ArePlaced, IsDirty, IsSoundContent}
use Rattle.kvs_content.specs.Value.{ContentValue, node_at, size_of}

-- what an index reads
pub node-read : (nodes : List NodeValue) (broker : ℕ) (node : NodeValue) → broker < length nodes → node ≡ get_or nodes broker node → node ≡ get_or nodes broker empty_node
node-read nodes broker node within h = h ∙ get_or_default nodes broker node empty_node within

pub node-written : (nodes : List NodeValue) (broker : ℕ) (node : NodeValue) → broker < length nodes → get_or (put nodes broker node) broker empty_node ≡ node
node-written nodes broker node within = get_or-set_same nodes broker node empty_node within

-- one broker's node is written, and the offers may change
pub one-changed : (v u : ContentValue) (broker : ℕ) (new : NodeValue) → v ≡ u → broker < size_of v
    → ◌≡◌ {A = ContentValue} (record v { nodes = put v.nodes broker new }) (record u { nodes = put u.nodes broker (get_or (put v.nodes broker new) broker empty_node) })
one-changed v u broker new e within =
    subst (λ (w : ContentValue). ◌≡◌ {A = ContentValue} (record v { nodes = put v.nodes broker new }) (record w { nodes = put w.nodes broker (get_or (put v.nodes broker new) broker empty_node) })) e
    (ap (λ (n : NodeValue). record v { nodes = put v.nodes broker n }) (sym (node-written v.nodes broker new within)))

pub one-and-offers : (v u : ContentValue) (broker : ℕ) (new : NodeValue) (offers : List Offer) → v ≡ u → broker < size_of v
    → ◌≡◌ {A = ContentValue} (record v { nodes = put v.nodes broker new; offers = offers }) (record u { nodes = put u.nodes broker (get_or (put v.nodes broker new) broker empty_node); offers = offers })
one-and-offers v u broker new offers e within =
    subst (λ (w : ContentValue). ◌≡◌ {A = ContentValue} (record v { nodes = put v.nodes broker new; offers = offers }) (record w { nodes = put w.nodes broker (get_or (put v.nodes broker new) broker empty_node); offers = offers })) e
    (ap (λ (n : NodeValue). record v { nodes = put v.nodes broker n; offers = offers }) (sym (node-written v.nodes broker new within)))

module _ (v : ContentValue) (broker : ℕ) (within : broker < size_of v) (new : NodeValue) (same : new.cache.dirty ≡ (node_at v broker).cache.dirty) where
  abbrev changed : ContentValue
  changed = record v { nodes = put v.nodes broker new }

  dirty-same : (b : ℕ) → (node_at changed b).cache.dirty ≡ (node_at v b).cache.dirty
  dirty-same b = elim (cases_eq b broker) [
    | inl e ↦ ap (λ k. (node_at changed k).cache.dirty) e ∙ ap (λ n. n.cache.dirty) (get_or-set_same v.nodes broker new empty_node within) ∙ same ∙ ap (λ k. (node_at v k).cache.dirty) (sym e)
    | inr ne ↦ ap (λ n. n.cache.dirty) (get_or-set_other v.nodes broker b new empty_node ne)
  ]

  pub dirty-now : (b : ℕ) (x : BlobRef) → IsDirty v b x → IsDirty changed b x
  dirty-now b x d = subst (λ es. IsSome (lookup (same_reference x) es)) (sym (dirty-same b)) d

  size-same : size_of changed ≡ size_of v
  size-same = length-set v.nodes broker new

  pub kept-placed : ((x : BlobRef) (found : List ℕ) → clean_at x new.cache ≡ Some found → clean_at x (node_at v broker).cache ≡ Some found) → ArePlaced v → ArePlaced changed
  kept-placed clean p = record {
    fanout = p.fanout;
    some = subst (λ n. 0 < n) (sym size-same) p.some;
    root = dirty-same 0 ∙ p.root;
    store = p.store;
    same = λ b x found l e. elim (cases_eq b broker) [
      | inl q ↦ p.same broker x found within (clean x found (ap (λ n. clean_at x n.cache) (sym (get_or-set_same v.nodes broker new empty_node within)) ∙ ap (λ k. clean_at x (node_at changed k).cache) (sym q) ∙ e))
      | inr ne ↦ p.same b x found (subst (λ n. b < n) size-same l) (ap (λ n. clean_at x n.cache) (sym (get_or-set_other v.nodes broker b new empty_node ne)) ∙ e)
    ];
    offers = λ k d l. let o = p.offers k d l in record {
      below = o.below;
      within = subst (λ n. (get_or v.offers k d).child < n) (sym size-same) o.within;
      waits = λ h. dirty-now (parent v.fanout (get_or v.offers k d).child) (get_or v.offers k d).reference (o.waits h);
      named = o.named;
      same = o.same;
    };
    wants = λ k d l. let o = p.wants k d l in record { below = o.below; within = subst (λ n. (get_or v.wants k d).broker < n) (sym size-same) o.within; way = o.way; named = o.named; same = o.same };
  }

  pub kept-sound : ((x : BlobRef) (found : List ℕ) → clean_at x new.cache ≡ Some found → clean_at x (node_at v broker).cache ≡ Some found) → IsSoundContent v → IsSoundContent changed
  kept-sound clean s = record {
    placed = kept-placed clean s.placed;
    carried = λ b x bytes l d. s.carried b x bytes (subst (λ n. b < n) size-same l) (ap (lookup (same_reference x)) (sym (dirty-same b)) ∙ d);
  }

-- a flush leaves the cache
pub flush-keeps : (old new : NodeValue) (told : Flush) → IsFlush old new told → new.cache ≡ old.cache
flush-keeps old new flush.Waits h = ap (λ n. n.cache) h.1
flush-keeps old new (flush.Clashed r) h = h.2
flush-keeps old new flush.Flushed h = ap (λ n. n.cache) h.2

-- and what the log says
module _ (v : ContentValue) (set : Setting) (log : Log) (a : AgreesContent v set log) (broker : ℕ) (within : broker < size_of v) (new : NodeValue) (told : Flush) (h : IsFlush (node_at v broker) new told) where
  flush-cache : new.cache ≡ (node_at v broker).cache
  flush-cache = flush-keeps (node_at v broker) new told h

  flush-refused : Each (IsRefused set log) new.refused
  flush-refused = by told h
    where
      by : (f : Flush) → IsFlush (node_at v broker) new f → Each (IsRefused set log) new.refused
      by flush.Waits g = subst (λ n. Each (IsRefused set log) n.refused) (sym g.1) (a.nodes broker within).refused
      by (flush.Clashed r) g = (subst (Each (IsRefused set log)) g.1 (a.nodes broker within).refused).1
      by flush.Flushed g = subst (λ n. Each (IsRefused set log) n.refused) (sym g.2) (a.nodes broker within).refused

  here : NodeAgrees set log broker new
  here = record {
    held = λ x. (a.nodes broker within).held x ∙ ap (λ k. is_some (clean_at x k)) (sym flush-cache);
    clean = λ x bytes e. (a.nodes broker within).clean x bytes (ap (clean_at x) (sym flush-cache) ∙ e);
    dirty = subst (λ k. Each (λ e. IsBlob set log e.0 e.1) k.dirty) (sym flush-cache) (a.nodes broker within).dirty;
    refused = flush-refused;
    unpinned = λ x kept e. (a.nodes broker within).unpinned x kept (ap (held_at x) (sym flush-cache) ∙ e);
  }

  pub flush-agrees : AgreesContent (record v { nodes = put v.nodes broker new }) set log
  flush-agrees = record {
    size = a.size ∙ sym (length-set v.nodes broker new);
    fanout = a.fanout;
    hash = a.hash;
    root = a.root;
    above = λ c x pos l. a.above c x pos (subst (λ n. c < n) (length-set v.nodes broker new) l);
    store = a.store;
    nodes = λ b l. node b (subst (λ n. b < n) (length-set v.nodes broker new) l);
    offers = a.offers;
    wants = a.wants;
  } where
    node : (b : ℕ) → b < size_of v → NodeAgrees set log b (get_or (put v.nodes broker new) b empty_node)
    node b l = elim (cases_eq b broker) [
      | inl e ↦ subst (λ k. NodeAgrees set log k (get_or (put v.nodes broker new) k empty_node)) (sym e) (subst (NodeAgrees set log broker) (sym (get_or-set_same v.nodes broker new empty_node within)) here)
      | inr ne ↦ subst (NodeAgrees set log b) (sym (get_or-set_other v.nodes broker b new empty_node ne)) (a.nodes b l)
    ]

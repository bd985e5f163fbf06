-- A broker keeps a content as clean, and those that wait there for it are told: what it leaves of all the contents.
use Rattle.std.proofs.Common.{◌≡◌, ℕ, ◌<◌, inl, List, ◌++◌, length, true, Some, None, map, refl, sym, ap, ◌∙◌, subst, get_or, set as put}
use Rattle.std.specs.List.{AllByRecursion as Each, sum_by}
use Rattle.std.proofs.lemmas.List.{length-set}
use Rattle.fl_digest.specs.declared.BlobRef.{BlobRef}
use Rattle.fl_digest.specs.Reference.{same_reference}
use Rattle.blob_store.specs.Blobs.{HasOther, blob_at, stored}
use Rattle.cache_node.specs.Cache.{clean_at}
use Rattle.cache_node.specs.Order.{Names}
use Rattle.cache_node.proofs.Entries.{all-lookup}
use Rattle.cache_node.proofs.Same.{same_true}
use Rattle.kvs_rules.specs.declared.events.KvsEvent.{KvsEvent}
use Rattle.kvs_rules.specs.Log.{Happened, Log}
use Rattle.kvs_rules.specs.Namespaces.{Setting}
use Rattle.kvs_rules.specs.Brokers.{has_got, parent}
use Rattle.kvs_content.specs.declared.offers.OfferStage.{OfferStage}
use Rattle.kvs_content.specs.declared.offers.OfferStage.TheVariants as offered
use Rattle.kvs_content.specs.declared.wants.WantStage.{WantStage}
use Rattle.kvs_content.specs.declared.wants.WantStage.TheVariants as wanted
use Rattle.kvs_content.specs.Agrees.{AgreesContent, Follows, IsBlob}
use Rattle.kvs_content.specs.Messages.{AreSettled, offers_left}
use Rattle.kvs_content.specs.Node.{GetsOrDrops, IsGetting}
use Rattle.kvs_content.specs.Sound.{ArePlaced, IsOfferSame, IsSoundContent, IsWantSame}
use Rattle.kvs_content.specs.Steps.{AreAlike, IsLighter}
use Rattle.kvs_content.specs.Value.{ContentValue, node_at, size_of}
use Rattle.kvs_content.proofs.Agreeing.{fresh, got-clean}
use Rattle.kvs_content.proofs.Counting.{settled-left}
use Rattle.kvs_content.proofs.Events.{comes}
use Rattle.kvs_content.proofs.Getting.{has-it, keep-follows, keep-got}
use Rattle.kvs_content.proofs.Sounding.{getting-none, getting-other, getting-sound, settled-lighter, settled-placed}
use Rattle.kvs_content.proofs.Taking.{stored-keeps, stored-named, stored-old, stored-there, taken-follows}

-- a broker keeps a content as clean, and nothing else changes but the offers that waited for it
pub record Gains (v w : ContentValue) (broker : ℕ) (r : BlobRef) (bytes : List ℕ) (events : List KvsEvent) : Type 0 where
  pub rest : ◌≡◌ {A = ContentValue} w (record v { nodes = put v.nodes broker (node_at w broker); offers = w.offers })
  pub got : IsGetting broker r bytes (node_at v broker) (node_at w broker) events
  pub settled : AreSettled v.fanout broker r (Some bytes) v.offers w.offers

module _ (v w : ContentValue) (broker : ℕ) (r : BlobRef) (bytes : List ℕ) (events : List KvsEvent) (g : Gains v w broker r bytes events) where
  pub nodes-gained : w.nodes ≡ put v.nodes broker (node_at w broker)
  nodes-gained = ap (λ (u : ContentValue). u.nodes) g.rest

  pub fanout-gained : w.fanout ≡ v.fanout
  fanout-gained = ap (λ (u : ContentValue). u.fanout) g.rest

  pub hash-gained : w.hash ≡ v.hash
  hash-gained = ap (λ (u : ContentValue). u.hash) g.rest

  pub store-gained : w.store ≡ v.store
  store-gained = ap (λ (u : ContentValue). u.store) g.rest

  pub wants-gained : w.wants ≡ v.wants
  wants-gained = ap (λ (u : ContentValue). u.wants) g.rest

  pub gained-alike : AreAlike v w
  gained-alike = record { size = ap length nodes-gained ∙ length-set v.nodes broker (node_at w broker); fanout = fanout-gained; hash = hash-gained }

  pub gained-left : sum_by offers_left w.offers ≡ sum_by offers_left v.offers
  gained-left = settled-left v.fanout broker r (Some bytes) v.offers w.offers g.settled

  pub gained-come : Each (GetsOrDrops broker) events
  gained-come = subst (Each (GetsOrDrops broker)) (sym g.got.told) (comes broker r (fresh r (node_at v broker)) g.got.gone)

  module _ (within : broker < size_of v) (p : ArePlaced v) (there : blob_at r v.store ≡ Some bytes) where
    clean : (x : BlobRef) (found : List ℕ) → clean_at x (node_at w broker).cache ≡ Some found → blob_at x v.store ≡ Some found
    clean = got-clean broker r bytes (node_at v broker) (node_at w broker) events g.got (λ x found. blob_at x v.store ≡ Some found) there (λ x found e. p.same broker x found within e)

    pub gained-placed : ArePlaced w
    gained-placed =
        settled-placed v w broker within r (Some bytes) (node_at w broker) p nodes-gained fanout-gained wants-gained g.settled
        (getting-other broker r bytes (node_at v broker) (node_at w broker) events g.got) g.got.out (getting-none broker r bytes (node_at v broker) (node_at w broker) events g.got) store-gained clean (λ found e. there ∙ e)

    pub gained-lighter : IsLighter v w
    gained-lighter =
        settled-lighter v w broker within r (Some bytes) (node_at w broker) p nodes-gained fanout-gained wants-gained g.settled
        (getting-other broker r bytes (node_at v broker) (node_at w broker) events g.got) g.got.out (getting-none broker r bytes (node_at v broker) (node_at w broker) events g.got) store-gained clean (λ found e. there ∙ e)

  pub gained-sound : broker < size_of v → blob_at r v.store ≡ Some bytes → IsSoundContent v → IsSoundContent w
  gained-sound within there s =
      getting-sound v w broker within r bytes (node_at w broker) events g.got nodes-gained fanout-gained wants-gained g.settled store-gained there s

  -- a broker below rank 0 keeps what the one above has got
  module _ (set : Setting) (log : Log) (a : AgreesContent v set log) (below : 0 < broker) (within : broker < size_of v) (blob : IsBlob set log r bytes) (source : has_got log (parent v.fanout broker) r ≡ true) where
    pub gained-follows : blob_at r v.store ≡ Some bytes → Follows v w events set log
    gained-follows = keep-follows v w set log a broker below within r bytes (node_at w broker) events g.got blob source nodes-gained fanout-gained hash-gained store-gained wants-gained g.settled

    pub gained-got : has_got (log ++ map Happened events) broker r ≡ true
    gained-got = keep-got v w set log a broker below within r bytes (node_at w broker) events g.got blob source nodes-gained fanout-gained hash-gained store-gained wants-gained g.settled

-- the bytes that stand in the store have their reference
pub store-named : (r : BlobRef) (kept : List ℕ) (store : List (BlobRef × List ℕ)) → Each (λ e. Names e.0 e.1) store → blob_at r store ≡ Some kept → Names r kept
store-named r kept store all e =
    let at = all-lookup (λ (e : BlobRef × List ℕ). Names e.0 e.1) (same_reference r) store kept e all in
    subst (λ x. Names x kept) (sym (same_true r at.0 at.1)) at.2

-- rank 0's cache gets what its store has
module _ (v w : ContentValue) (r : BlobRef) (kept : List ℕ) (events : List KvsEvent) (there : blob_at r v.store ≡ Some kept) (g : Gains v w 0 r kept events) where
  pub fetch-follows : (set : Setting) (log : Log) → 0 < size_of v → AgreesContent v set log → Follows v w events set log
  fetch-follows set log some a =
      taken-follows v w set log a some r kept (a.store r kept there) (node_at w 0) events g.got
      (store-gained v w 0 r kept events g ∙ sym (stored-old v.store r kept kept there))
      (nodes-gained v w 0 r kept events g) (fanout-gained v w 0 r kept events g) (hash-gained v w 0 r kept events g) (wants-gained v w 0 r kept events g) g.settled (ap (blob_at r) (store-gained v w 0 r kept events g) ∙ there)

-- the contents with another store
abbrev pub with-store : ContentValue → List (BlobRef × List ℕ) → ContentValue
with-store v store = record v { store = store }

-- rank 0 takes a content into its store
module _ (v : ContentValue) (r : BlobRef) (bytes : List ℕ) where
  abbrev pub with-stored : ContentValue
  with-stored = with-store v (stored v.store r bytes)

  pub stored-placed : ArePlaced v → Names r bytes → ArePlaced with-stored
  stored-placed p named = record {
    fanout = p.fanout;
    some = p.some;
    root = p.root;
    store = stored-named v.store r bytes named p.store;
    same = λ b x found l e. stored-keeps v.store r bytes x found (p.same b x found l e);
    offers = λ k d l. let o = p.offers k d l in record { below = o.below; within = o.within; waits = o.waits; named = o.named; same = offer _ _ (get_or v.offers k d).stage o.same };
    wants = λ k d l. let o = p.wants k d l in record { below = o.below; within = o.within; way = o.way; named = o.named; same = want _ (get_or v.wants k d).stage o.same };
  } where
    offer : (x : BlobRef) (found : List ℕ) (stage : OfferStage) → IsOfferSame v.store x found stage → IsOfferSame (stored v.store r bytes) x found stage
    offer x found offered.Rising h = tt
    offer x found offered.Waiting h = tt
    offer x found offered.Accepted h = stored-keeps v.store r bytes x found h
    offer x found offered.Refused h = tt

    want : (x : BlobRef) (stage : WantStage) → IsWantSame v.store x stage → IsWantSame (stored v.store r bytes) x stage
    want x wanted.Rising h = tt
    want x (wanted.Falling None) h = tt
    want x (wanted.Falling (Some gift)) h = λ clean. stored-keeps v.store r bytes x gift.bytes (h clean)

  module _ (w : ContentValue) (events : List KvsEvent) (g : Gains with-stored w 0 r bytes events) where
    pub taken-alike : AreAlike v w
    taken-alike = let alike = gained-alike with-stored w 0 r bytes events g in record { size = alike.size; fanout = alike.fanout; hash = alike.hash }

    pub taken-lighter : ArePlaced v → Names r bytes → (HasOther v.store r bytes → ⊥) → IsLighter v w
    taken-lighter p named none =
        let light = gained-lighter with-stored w 0 r bytes events g p.some (stored-placed p named) (stored-there v.store r bytes none) in
        record { dirty = light.dirty; offered = light.offered }

    module _ (set : Setting) (log : Log) (some : 0 < size_of v) (a : AgreesContent v set log) (blob : IsBlob set log r bytes) where
      pub take-follows : (HasOther v.store r bytes → ⊥) → Follows v w events set log
      take-follows none =
          taken-follows v w set log a some r bytes blob (node_at w 0) events g.got
          (store-gained with-stored w 0 r bytes events g)
          (nodes-gained with-stored w 0 r bytes events g) (fanout-gained with-stored w 0 r bytes events g) (hash-gained with-stored w 0 r bytes events g) (wants-gained with-stored w 0 r bytes events g) g.settled
          (ap (blob_at r) (store-gained with-stored w 0 r bytes events g) ∙ stored-there v.store r bytes none)

      -- rank 0 has got it then
      pub take-got : has_got (log ++ map Happened events) 0 r ≡ true
      take-got =
          subst (λ es. has_got (log ++ map Happened es) 0 r ≡ true) (sym g.got.told)
          (has-it v w set log a 0 some r bytes (node_at w 0) events g.got blob (inl (refl, (bytes, blob.1, blob.0)))
          (nodes-gained with-stored w 0 r bytes events g) (fanout-gained with-stored w 0 r bytes events g) (hash-gained with-stored w 0 r bytes events g) (wants-gained with-stored w 0 r bytes events g) g.settled)

pub stored-then : {u v : ContentValue} (e : u ≡ v) (r : BlobRef) (bytes kept : List ℕ) → kept ≡ bytes → (store : List (BlobRef × List ℕ)) → store ≡ stored u.store r kept → with-store u store ≡ with-stored v r bytes
stored-then {u} {v} e r bytes kept same store is = ap (with-store u) (is ∙ ap (stored u.store r) same) ∙ ap (λ (w : ContentValue). with-stored w r bytes) e

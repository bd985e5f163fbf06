-- A broker hears that the one above it has got a content, or that it was refused.
use Rattle.std.proofs.Common.{◌≡◌, ℕ, ◌<◌, ◌==◌, ◌⊎◌, inl, inr, List, [], ◌∷◌, ◌++◌, length, Bool, true, false, ◌||◌, ◌&&◌, cond, Option, Some, None, IsSome, option_map, map, refl, sym, ap, ◌∙◌, subst, true≢false, append-nil, get_or, set as put}
use Rattle.std.specs.Prelude.{is_some}
use Rattle.std.specs.List.{AllByRecursion as Each}
use Rattle.std.specs.Map.{lookup, remove_entry}
use Rattle.fl_digest.specs.declared.BlobRef.{BlobRef}
use Rattle.fl_digest.specs.Reference.{same_reference}
use Rattle.cache_node.specs.declared.content.Held.{Held}
use Rattle.cache_node.specs.Order.{is_pinned, unpinned}
use Rattle.cache_node.specs.Cache.{Cache, acknowledged, dirty_at}
use Rattle.cache_node.proofs.Entries.{all-lookup, all-remove}
use Rattle.cache_node.proofs.Same.{same_refl, same_true}
use Rattle.kvs_rules.specs.Log.{Happened, Log}
use Rattle.kvs_rules.specs.Namespaces.{Setting}
use Rattle.kvs_rules.specs.Brokers.{has_got, holds, parent}
use Rattle.kvs_rules.specs.Answers.{IsLegalAfter}
use Rattle.blob_store.specs.Blobs.{blob_at}
use Rattle.kvs_content.specs.declared.offers.Offer.{Offer}
use Rattle.kvs_content.specs.declared.wants.Want.{Want}
use Rattle.kvs_content.specs.Messages.{AreSettled, outcome, same_bytes, waits_at}
use Rattle.kvs_content.specs.Sound.{ArePlaced, IsDirty}
use Rattle.kvs_content.specs.Value.{ContentValue, node_at, size_of}
use Rattle.kvs_content.specs.Agrees.{AgreesContent, Follows, IsBlob, IsKept, IsRefused, NodeAgrees, OfferStageAgrees, WantAgrees}
use Rattle.kvs_content.specs.Node.{NodeValue, getting, with_cache}
use Rattle.kvs_content.proofs.Agreeing.{after, each-map}
use Rattle.kvs_content.proofs.Events.{coming, gets-legal, got-after, held-after}
use Rattle.kvs_content.proofs.Following.{agrees-then, root-other}
use Rattle.kvs_content.proofs.Getting.{kept-agrees, settled-agrees, waits-of}
use Rattle.kvs_content.proofs.Later.{blob-later, got-later, offer-later, refused-later, want-later}
use Rattle.kvs_content.proofs.Lists.{equal-itself}

held-same : (t h : Bool) → cond (t && false) false h ≡ h
held-same true h = refl
held-same false h = refl

held-more : (t s h : Bool) → t ≡ true → cond (t && false) false ((t && s) || h) ≡ (s || h)
held-more true s h e = refl
held-more false s h e = absurd (true≢false (sym e))

module _ (set : Setting) (log : Log) (broker : ℕ) (r : BlobRef) (node : NodeValue) (agrees : NodeAgrees set log broker node) where
  pub dirty-blob : (bytes : List ℕ) → dirty_at r node.cache ≡ Some bytes → IsBlob set log r bytes
  dirty-blob bytes e =
      let at = all-lookup (λ (e : BlobRef × List ℕ). IsBlob set log e.0 e.1) (same_reference r) node.cache.dirty bytes e agrees.dirty in
      subst (λ x. IsBlob set log x bytes) (sym (same_true r at.0 at.1)) at.2

  -- the acknowledged broker holds what it held, and the content where it was dirty
  pub node-accepted : NodeAgrees set (after log broker r (is_some (dirty_at r node.cache)) []) broker (with_cache (acknowledged r node.cache) node)
  node-accepted = by (dirty_at r node.cache) refl
    where
      later : (o : Option (List ℕ)) → (x : BlobRef) (bytes : List ℕ) → IsBlob set log x bytes → IsBlob set (after log broker r (is_some o) []) x bytes
      later o x bytes b = blob-later log (map Happened (coming broker r (is_some o) [])) set x bytes b

      refused : (o : Option (List ℕ)) → Each (IsRefused set (after log broker r (is_some o) [])) node.refused
      refused o = each-map (IsRefused set log) (IsRefused set (after log broker r (is_some o) [])) (λ x b. refused-later log (map Happened (coming broker r (is_some o) [])) set x b) node.refused agrees.refused

      dirty : (o : Option (List ℕ)) → Each (λ e. IsBlob set (after log broker r (is_some o) []) e.0 e.1) node.cache.dirty
      dirty o = each-map (λ e. IsBlob set log e.0 e.1) (λ e. IsBlob set (after log broker r (is_some o) []) e.0 e.1) (λ e b. later o e.0 e.1 b) node.cache.dirty agrees.dirty

      now : Option (List ℕ) → Cache
      now None = node.cache
      now (Some bytes) = record { dirty = remove_entry (same_reference r) node.cache.dirty; clean = (r, unpinned bytes) ∷ node.cache.clean }

      at : (o : Option (List ℕ)) → dirty_at r node.cache ≡ o → NodeAgrees set (after log broker r (is_some o) []) broker (with_cache (now o) node)
      at None e = record {
        held = λ x. held-after log broker r false [] broker x ∙ held-same (broker == broker) (holds log broker x) ∙ agrees.held x;
        clean = λ x bytes f. later None x bytes (agrees.clean x bytes f);
        dirty = dirty None;
        refused = refused None;
        unpinned = agrees.unpinned;
      }
      at (Some bytes) e = record {
        held = λ x. held-after log broker r true [] broker x ∙ held-more (broker == broker) (same_reference x r) (holds log broker x) (equal-itself broker) ∙ held x (same_reference x r) refl;
        clean = λ x found f. later (Some bytes) x found (clean x found (same_reference x r) refl f);
        dirty = all-remove (λ e. IsBlob set (after log broker r true []) e.0 e.1) (same_reference r) node.cache.dirty (dirty (Some bytes));
        refused = refused (Some bytes);
        unpinned = λ x kept f. free x kept (same_reference x r) refl f;
      } where
        held : (x : BlobRef) (s : Bool) → same_reference x r ≡ s → (same_reference x r || holds log broker x) ≡ is_some (option_map (λ held. held.bytes) (lookup (same_reference x) ((r, unpinned bytes) ∷ node.cache.clean)))
        held x true s = rw s refl
        held x false s = rw s (agrees.held x)

        free : (x : BlobRef) (kept : Held) (s : Bool) → same_reference x r ≡ s → lookup (same_reference x) ((r, unpinned bytes) ∷ node.cache.clean) ≡ Some kept → is_pinned kept ≡ false
        free x kept true s f = let same : unpinned bytes ≡ kept = let found : Some (unpinned bytes) ≡ Some kept = rw s at f in cc in ap is_pinned (sym same)
        free x kept false s f = agrees.unpinned x kept (let found : lookup (same_reference x) node.cache.clean ≡ Some kept = rw s at f in found)

        clean : (x : BlobRef) (found : List ℕ) (s : Bool) → same_reference x r ≡ s → option_map (λ held. held.bytes) (lookup (same_reference x) ((r, unpinned bytes) ∷ node.cache.clean)) ≡ Some found → IsBlob set log x found
        clean x found true s f = let g = rw s at f in let same : bytes ≡ found = cc in subst (λ y. IsBlob set log y found) (sym (same_true x r s)) (subst (IsBlob set log r) same (dirty-blob bytes e))
        clean x found false s f = agrees.clean x found (rw s at f)

      by : (o : Option (List ℕ)) → dirty_at r node.cache ≡ o → NodeAgrees set (after log broker r (is_some (dirty_at r node.cache)) []) broker (with_cache (acknowledged r node.cache) node)
      by None e = rw e (at None e)
      by (Some bytes) e = rw e (at (Some bytes) e)

some-so : (o : Option (List ℕ)) → IsSome o → is_some o ≡ true
some-so o h = h

module _ (v w : ContentValue) (set : Setting) (log : Log) (a : AgreesContent v set log) (broker : ℕ) (within : broker < size_of v) (r : BlobRef)
    (fanout : w.fanout ≡ v.fanout) (hash : w.hash ≡ v.hash) (store : w.store ≡ v.store) (wants : w.wants ≡ v.wants) where
  module _ (placed : ArePlaced v) (bytes : List ℕ) (there : blob_at r v.store ≡ Some bytes) (nodes : w.nodes ≡ put v.nodes broker (with_cache (acknowledged r (node_at v broker).cache) (node_at v broker)))
      (sent : AreSettled v.fanout broker r (Some bytes) v.offers w.offers) (below : 0 < broker) (source : has_got log (parent v.fanout broker) r ≡ true) where
    abbrev does : Bool
    does = is_some (dirty_at r (node_at v broker).cache)

    abbrev log-after : Log
    log-after = after log broker r does []

    root-same : (x : BlobRef) → has_got log-after 0 x ≡ is_some (blob_at x w.store)
    root-same x =
        root-other v set log a broker below r does [] x ∙ ap (λ s. is_some (blob_at x s)) (sym store)

    -- where the content was dirty, the broker has got it now
    got-here : IsDirty v broker r → has_got log-after broker r ≡ true
    got-here dirty =
        got-after log broker r does [] broker r
        ∙ ap (λ t. has_got log broker r || (t && ((broker == broker) && same_reference r r))) (some-so (dirty_at r (node_at v broker).cache) dirty)
        ∙ ap (λ t. has_got log broker r || (t && same_reference r r)) (equal-itself broker) ∙ ap (λ t. has_got log broker r || t) (same_refl r) ∙ or-yes (has_got log broker r)
      where
        or-yes : (b : Bool) → (b || true) ≡ true
        or-yes true = refl
        or-yes false = refl

    told : (k : ℕ) (d : Offer) → k < length v.offers → waits_at v.fanout broker r (get_or v.offers k d) ≡ true → has_got log-after (parent v.fanout (get_or v.offers k d).child) r ≡ true
    told k d l e =
        let there = waits-of v.fanout broker r (get_or v.offers k d) e in
        let dirty : IsDirty v broker r = subst (λ y. IsDirty v broker y) there.named (subst (λ b. IsDirty v b (get_or v.offers k d).reference) there.up ((placed.offers k d l).waits there.waits)) in
        ap (λ b. has_got log-after b r) there.up ∙ got-here dirty

    -- what waited is told whether its bytes are the content's
    told-waiting : (k : ℕ) (d : Offer) → k < length v.offers → waits_at v.fanout broker r (get_or v.offers k d) ≡ true → OfferStageAgrees set log-after v.fanout (get_or v.offers k d).child r (outcome (same_bytes bytes (get_or v.offers k d).bytes))
    told-waiting k d l e =
        kept-agrees set log-after v.fanout (get_or v.offers k d).child r bytes (get_or v.offers k d).bytes
        (blob-later log (map Happened (coming broker r does [])) set r bytes (a.store r bytes there))
        (blob-later log (map Happened (coming broker r does [])) set r (get_or v.offers k d).bytes
        (subst (λ x. IsBlob set log x (get_or v.offers k d).bytes) (waits-of v.fanout broker r (get_or v.offers k d) e).named (a.offers k d l).0))
        (told k d l e) (root-same r ∙ ap is_some (ap (blob_at r) store ∙ there))

    agrees : AgreesContent w set log-after
    agrees = agrees-then v w set log a broker r does [] _ within nodes fanout hash (λ e. inr source)
        (node-accepted set log broker r (node_at v broker) (a.nodes broker within))
        root-same
        (λ x bytes e. blob-later log (map Happened (coming broker r does [])) set x bytes (a.store x bytes (ap (blob_at x) (sym store) ∙ e)))
        (settled-agrees set log-after v.fanout broker r (Some bytes) v.offers w.offers sent told-waiting
        (λ k d l. offer-later log (map Happened (coming broker r does [])) set v.fanout _ _ _ _ (a.offers k d l)))
        (subst (λ ws. (k : ℕ) (d : Want) → k < length ws → WantAgrees set log-after v.fanout (get_or ws k d)) (sym wants)
        (λ k d l. want-later log (map Happened (coming broker r does [])) set v.fanout _ (a.wants k d l)))

    same-events : coming broker r does [] ≡ getting broker r does
    same-events = append-nil (getting broker r does)

    pub accept-agrees : AgreesContent w set (log ++ map Happened (getting broker r does))
    accept-agrees = subst (λ es. AgreesContent w set (log ++ map Happened es)) same-events agrees

    pub accept-legal : IsLegalAfter set log (map Happened (getting broker r does))
    accept-legal = gets-legal set broker log r does (λ e. inr (below, subst (λ n. broker < n) (sym a.size) within, subst (λ f. has_got log (parent f broker) r ≡ true) (sym a.fanout) source))

    -- what was kept is: the content that isn't dirty any more the broker has got
    pub accept-follows : ((b : ℕ) (x : BlobRef) → IsDirty v b x → ((b ≡ broker) × (x ≡ r)) ⊎ IsDirty w b x) → Follows v w (getting broker r does) set log
    accept-follows still = record {
      legal = accept-legal;
      agrees = accept-agrees;
      kept = λ b x l k. by b x k;
    } where
      got-it : IsDirty v broker r → has_got (log ++ map Happened (getting broker r does)) broker r ≡ true
      got-it dirty = subst (λ es. has_got (log ++ map Happened es) broker r ≡ true) same-events (got-here dirty)

      by : (b : ℕ) (x : BlobRef) → IsKept v set log b x → IsKept w set (log ++ map Happened (getting broker r does)) b x
      by b x (inr (inl g)) = inr (inl (got-later log (map Happened (getting broker r does)) b x g))
      by b x (inr (inr c)) = inr (inr (refused-later log (map Happened (getting broker r does)) set x c))
      by b x (inl d) = elim (still b x d) [
        | inl same ↦ inr (inl (ap (λ k. has_got (log ++ map Happened (getting broker r does)) k x) same.0 ∙ ap (has_got (log ++ map Happened (getting broker r does)) broker) same.1
            ∙ got-it (subst (IsDirty v broker) same.1 (subst (λ k. IsDirty v k x) same.0 d))))
        | inr dirty ↦ inl dirty
      ]

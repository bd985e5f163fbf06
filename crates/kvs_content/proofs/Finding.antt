-- What a broker finds under a reference, and what a load may be told of it.
use Rattle.std.proofs.Common.{◌≡◌, ◌⊎◌, inl, inr, ℕ, zero, suc, ◌<◌, List, [], ◌∷◌, ◌++◌, map, Bool, true, false, ◌||◌, Option, Some, None, IsSome, option_map, refl, sym, ap, ◌∙◌, subst, arith, true≢false}
use Rattle.std.specs.Prelude.{is_some}
use Rattle.std.specs.Option.{option_map_or}
use Rattle.std.specs.List.{list_any}
use Rattle.std.specs.Map.{lookup}
use Rattle.fl_digest.specs.declared.BlobRef.{BlobRef}
use Rattle.fl_digest.specs.Reference.{same_reference}
use Rattle.blob_store.specs.Blobs.{blob_at}
use Rattle.cache_node.specs.Cache.{Cache, any_at, clean_at, dirty_at}
use Rattle.kvs_txn.specs.declared.txn.By.{By}
use Rattle.kvs_rules.specs.declared.events.KvsAsk.TheVariants as ask
use Rattle.kvs_rules.specs.declared.events.KvsEvent.{KvsEvent}
use Rattle.kvs_rules.specs.Log.{Happened, Log, asks_now, before_asked}
use Rattle.kvs_rules.specs.Namespaces.{Request, Setting}
use Rattle.kvs_rules.specs.Sequence.{until}
use Rattle.kvs_rules.specs.Brokers.{gets_now, has_got, parent}
use Rattle.kvs_rules.specs.Answers.{IsStoredAt}
use Rattle.kvs_content.specs.declared.wants.Gift.{Gift}
use Rattle.kvs_content.specs.declared.wants.WantStage.TheVariants as wanted
use Rattle.kvs_content.specs.Agrees.{AgreesContent, GiftAgrees, IsBlob, IsFound, IsKept, IsLoad, IsLoading, IsMissing, MayTell, WantAgrees}
use Rattle.kvs_content.specs.Sound.{ArePlaced, IsDirty, IsGiftSame}
use Rattle.kvs_content.specs.Value.{ContentValue, node_at, size_of}
use Rattle.kvs_content.proofs.Accepting.{dirty-blob}
use Rattle.kvs_content.proofs.Later.{before-same, blob-later, got-later, held-got, loading-later}
use Rattle.kvs_content.proofs.Resting.{parent-below}

-- what was passed before an element was passed
any-until : {X : Type 0} (p q : X → Bool) (xs : List X) → list_any p (until q xs) ≡ true → list_any p xs ≡ true
any-until p q [] h = h
any-until {X = X} p q (x ∷ xs) h = by (λ g. any-until p q xs g) (q x) refl h
  where
    either : (list_any p (until q xs) ≡ true → list_any p xs ≡ true) → (t : Bool) → (t || list_any p (until q xs)) ≡ true → (t || list_any p xs) ≡ true
    either rest true g = refl
    either rest false g = rest g

    by : (list_any p (until q xs) ≡ true → list_any p xs ≡ true) → (b : Bool) → q x ≡ b → list_any p (until q (x ∷ xs)) ≡ true → (p x || list_any p xs) ≡ true
    by rest true e g = absurd (let bad : false ≡ true = rw e at g in true≢false (sym bad))
    by rest false e g = either rest (p x) (let g₁ : (p x || list_any p (until q xs)) ≡ true = rw e at g in g₁)

-- rank 0 had nothing when the command asked, as it has nothing now
pub missing-of : (set : Setting) (log : Log) (by : By) (request : Request) (r : BlobRef) → has_got log 0 r ≡ false
    → (IsStoredAt set (before_asked by log) request.broker r → has_got log 0 r ≡ true) → IsMissing set log by request r
missing-of set log by request r none kept = (before (has_got (before_asked by log) 0 r) refl, λ s. true≢false (sym (kept s) ∙ none))
  where
    before : (b : Bool) → has_got (before_asked by log) 0 r ≡ b → has_got (before_asked by log) 0 r ≡ false
    before false e = e
    before true e = absurd (true≢false (sym (any-until (gets_now 0 r) (asks_now by) log e) ∙ none))

-- a load may be told a content that has its reference, or that there is none
pub may-tell-bytes : (set : Setting) (log : Log) (by : By) (broker : ℕ) (r : BlobRef) → IsLoading set log by broker r → (bytes : List ℕ) → IsBlob set log r bytes → MayTell set log by (Some bytes)
may-tell-bytes set log by broker r h bytes blob = (h.request, h.made, (refl, h.loads ∙ ap ask.Load blob.0, blob.1))

pub may-tell-none : (set : Setting) (log : Log) (by : By) (broker : ℕ) (r : BlobRef) (h : IsLoading set log by broker r) → IsMissing set log by h.request r → MayTell set log by None
may-tell-none set log by broker r h none = (h.request, h.made, (refl, r, h.loads, none.0, none.1))

pub may-tell : (set : Setting) (log : Log) (fanout child : ℕ) (by : By) (broker : ℕ) (r : BlobRef) (h : IsLoading set log by broker r) (gift : Option Gift)
    → GiftAgrees set log fanout child by h.request r gift → MayTell set log by (option_map (λ g. g.bytes) gift)
may-tell set log fanout child by broker r h (Some gift) g = may-tell-bytes set log by broker r h gift.bytes g.0
may-tell set log fanout child by broker r h None g = may-tell-none set log by broker r h g

-- where nothing is under a reference, nothing is dirty
pub nothing-dirty : (cache : Cache) (r : BlobRef) → any_at r cache ≡ None → IsSome (dirty_at r cache) → ⊥
nothing-dirty cache r none d = by (clean_at r cache) refl
  where
    seen : (o : Option (List ℕ)) → clean_at r cache ≡ o → option_map_or (λ bytes. Some bytes) o (dirty_at r cache) ≡ None
    seen o e = sym (ap (λ p. option_map_or (λ bytes. Some bytes) p (dirty_at r cache)) e) ∙ none

    by : (o : Option (List ℕ)) → clean_at r cache ≡ o → ⊥
    by (Some bytes) e = let bad : Some bytes ≡ None = seen (Some bytes) e in let no : ⊥ = cc in no
    by None e = true≢false (sym (subst (λ o. IsSome o) (seen None e) d))

-- what is there is clean or dirty
pub clean-or-dirty : (cache : Cache) (r : BlobRef) → is_some (any_at r cache) ≡ true → IsSome (clean_at r cache) ⊎ IsSome (dirty_at r cache)
clean-or-dirty cache r h = by (clean_at r cache) refl
  where
    by : (o : Option (List ℕ)) → clean_at r cache ≡ o → IsSome (clean_at r cache) ⊎ IsSome (dirty_at r cache)
    by (Some bytes) e = inl (ap is_some e)
    by None e = inr (sym (ap (λ p. is_some (option_map_or (λ bytes. Some bytes) p (dirty_at r cache))) e) ∙ h)

-- what a broker gives as clean, rank 0's store has
pub has-same : (v : ContentValue) → ArePlaced v → (broker : ℕ) → broker < size_of v → (r : BlobRef) (gift : Gift) → any_at r (node_at v broker).cache ≡ Some gift.bytes → gift.clean ≡ is_some (clean_at r (node_at v broker).cache) → IsGiftSame v.store r (Some gift)
has-same v p broker l r gift found clean told = by (clean_at r (node_at v broker).cache) refl
  where
    by : (o : Option (List ℕ)) → clean_at r (node_at v broker).cache ≡ o → blob_at r v.store ≡ Some gift.bytes
    by (Some bytes) e = p.same broker r bytes l e ∙ sym (ap (λ o. option_map_or (λ (b : List ℕ). Some b) o (dirty_at r (node_at v broker).cache)) e) ∙ found
    by None e = absurd (true≢false (sym told ∙ clean ∙ ap is_some e))

module _ (v : ContentValue) (set : Setting) (log : Log) (a : AgreesContent v set log) where
  pub root-missing : (r : BlobRef) → blob_at r v.store ≡ None → has_got log 0 r ≡ false
  root-missing r e = a.root r ∙ ap is_some e

  -- rank 0 has got what any broker has
  pub got-above : (r : BlobRef) (fuel broker : ℕ) → broker < fuel → broker < size_of v → has_got log broker r ≡ true → has_got log 0 r ≡ true
  got-above r zero broker f l h = absurd (omega arith)
  got-above r (suc fuel) zero f l h = h
  got-above r (suc fuel) (suc b) f l h =
      let up : parent v.fanout (suc b) < suc b = parent-below v.fanout (suc b) (omega arith) in
      got-above r fuel (parent v.fanout (suc b)) (omega arith) (omega arith) (a.above (suc b) r (omega arith) l h)

  -- what is kept at a broker that has nothing of it, rank 0 has got
  pub kept-got : (broker : ℕ) → broker < size_of v → (r : BlobRef) → (IsDirty v broker r → ⊥) → IsKept v set log broker r → has_got log 0 r ≡ true
  kept-got broker l r clean (inl d) = absurd (clean d)
  kept-got broker l r clean (inr (inl g)) = got-above r (suc broker) broker (omega arith) l g
  kept-got broker l r clean (inr (inr c)) = c.1

  -- what a broker has it may give
  pub has-found : (broker : ℕ) → broker < size_of v → (r : BlobRef) (gift : Gift) → any_at r (node_at v broker).cache ≡ Some gift.bytes → gift.clean ≡ is_some (clean_at r (node_at v broker).cache)
      → IsFound set log r broker (wanted.Falling (Some gift))
  has-found broker l r gift found clean = (blob (clean_at r (node_at v broker).cache) refl, λ c. held-got log broker r ((a.nodes broker l).held r ∙ sym clean ∙ c))
    where
      blob : (o : Option (List ℕ)) → clean_at r (node_at v broker).cache ≡ o → IsBlob set log r gift.bytes
      blob (Some bytes) e = (a.nodes broker l).clean r gift.bytes (e ∙ (let same : Some bytes ≡ Some gift.bytes = sym (ap (λ o. option_map_or (λ b. Some b) o (dirty_at r (node_at v broker).cache)) e) ∙ found in same))
      blob None e = dirty-blob set log broker r (node_at v broker) (a.nodes broker l) gift.bytes (sym (ap (λ o. option_map_or (λ b. Some b) o (dirty_at r (node_at v broker).cache)) e) ∙ found)

  -- what rank 0's store has it may give
  pub fetched : (r : BlobRef) (gift : Gift) (events : List KvsEvent) → blob_at r v.store ≡ Some gift.bytes → IsFound set (log ++ map Happened events) r 0 (wanted.Falling (Some gift))
  fetched r gift events e = (blob-later log (map Happened events) set r gift.bytes (a.store r gift.bytes e), λ c. got-later log (map Happened events) 0 r (a.root r ∙ ap is_some e))

  -- a command that asks a broker with nothing of the reference
  module _ (by : By) (broker : ℕ) (within : broker < size_of v) (r : BlobRef) (h : IsLoad v set log by broker r) (events : List KvsEvent) where
    abbrev log-now : Log
    log-now = log ++ map Happened events

    stored-got : (IsDirty v broker r → ⊥) → IsStoredAt set (before_asked by log-now) h.loading.request.broker r → has_got log-now 0 r ≡ true
    stored-got clean s =
        got-later log (map Happened events) 0 r (kept-got broker within r clean (h.kept
        (subst (λ b. IsStoredAt set (before_asked by log) b r) h.loading.home
        (subst (λ past. IsStoredAt set past h.loading.request.broker r) (before-same log (map Happened events) by h.loading.asked) s))))

    -- it may be told what the broker found
    pub load-told : (node_at v 0).cache.dirty ≡ [] → (gift : Option Gift) → IsFound set log-now r broker (wanted.Falling gift) → MayTell set log-now by (option_map (λ g. g.bytes) gift)
    load-told root (Some gift) found = may-tell-bytes set log-now by broker r (loading-later log (map Happened events) set by broker r h.loading) gift.bytes found.0
    load-told root None found =
        may-tell-none set log-now by broker r (loading-later log (map Happened events) set by broker r h.loading)
        (missing-of set log-now by h.loading.request r found.1 (stored-got clean))
      where
        clean : IsDirty v broker r → ⊥
        clean d = let here : IsDirty v 0 r = subst (λ b. IsDirty v b r) found.0 d in true≢false (sym (subst (λ (es : List (BlobRef × List ℕ)). IsSome (lookup (same_reference r) es)) root here))

    -- or it waits
    pub load-waits : any_at r (node_at v broker).cache ≡ None → WantAgrees set log-now v.fanout (record { by = by; broker = broker; child = broker; reference = r; stage = wanted.Rising })
    load-waits none = record {
      loading = loading-later log (map Happened events) set by broker r h.loading;
      staged = stored-got (nothing-dirty (node_at v broker).cache r none);
    }

-- The contents stand where the log leaves them once a broker got and dropped contents.
use Rattle.std.proofs.Common.{◌≡◌, ℕ, suc, Contains, ◌<◌, ◌==◌, ◌⊎◌, inl, inr, List, [], ◌∷◌, ◌++◌, length, Bool, true, false, ◌||◌, ◌&&◌, cond, Option, Some, None, IsSome, option_map, map, refl, sym, ap, ◌∙◌, subst, arith, true≢false, get_or, set as put, append-nil}
use Rattle.std.specs.Prelude.{is_some}
use Rattle.std.specs.List.{AllByRecursion as Each, filter, list_any}
use Rattle.std.specs.Map.{lookup}
use Rattle.std.proofs.lemmas.Bool.{cases_eq}
use Rattle.std.proofs.lemmas.List.{length-set, get_or-set_same, get_or-set_other}
use Rattle.fl_digest.specs.declared.BlobRef.{BlobRef}
use Rattle.fl_digest.specs.Reference.{reference_of, same_reference}
use Rattle.blob_store.specs.Blobs.{blob_at}
use Rattle.cache_node.specs.declared.content.Held.{Held}
use Rattle.cache_node.specs.Cache.{clean_at, dirty_at}
use Rattle.cache_node.specs.Order.{is_pinned}
use Rattle.cache_node.proofs.Same.{same_true}
use Rattle.kvs_rules.specs.declared.events.KvsEvent.{KvsEvent}
use Rattle.kvs_rules.specs.declared.events.KvsEvent.TheVariants as event
use Rattle.kvs_rules.specs.Log.{Happened, Log}
use Rattle.kvs_rules.specs.Namespaces.{Setting}
use Rattle.kvs_rules.specs.Brokers.{has_got, holds, parent}
use Rattle.kvs_rules.specs.Answers.{IsLegalAfter}
use Rattle.kvs_content.specs.declared.offers.Offer.{Offer}
use Rattle.kvs_content.specs.declared.wants.Want.{Want}
use Rattle.kvs_content.specs.Agrees.{AgreesContent, Follows, IsBlob, IsKept, IsRefused, NodeAgrees, OfferAgrees, WantAgrees}
use Rattle.kvs_content.specs.Node.{IsDropping, NodeValue, dropping, empty_node}
use Rattle.kvs_content.specs.Sound.{IsDirty}
use Rattle.kvs_content.specs.Value.{ContentValue, node_at, size_of}
use Rattle.kvs_content.proofs.Agreeing.{after, each-map, nodes-then, other-number}
use Rattle.kvs_content.proofs.Events.{coming, drops-legal, gets, got-after, held-after}
use Rattle.kvs_content.proofs.Later.{blob-later, got-later, offer-later, refused-later, want-later}
use Rattle.kvs_content.proofs.Lists.{and-left, and-right, equal-itself, or-nothing, same-number}

either : (a b : Bool) → (a || b) ≡ true → (a ≡ true) ⊎ (b ≡ true)
either true b h = inl refl
either false b h = inr h

-- nothing else than the broker's node and the lists of messages has changed, and these stand where the log leaves them
pub agrees-then : (v w : ContentValue) (set : Setting) (log : Log) → AgreesContent v set log → (broker : ℕ) (r : BlobRef) (does : Bool) (gone : List BlobRef) (new : NodeValue)
    → broker < size_of v → w.nodes ≡ put v.nodes broker new → w.fanout ≡ v.fanout → w.hash ≡ v.hash
    → (does ≡ true → (broker ≡ 0) ⊎ (has_got log (parent v.fanout broker) r ≡ true))
    → NodeAgrees set (after log broker r does gone) broker new
    → ((x : BlobRef) → has_got (after log broker r does gone) 0 x ≡ is_some (blob_at x w.store))
    → ((x : BlobRef) (bytes : List ℕ) → blob_at x w.store ≡ Some bytes → IsBlob set (after log broker r does gone) x bytes)
    → ((k : ℕ) (d : Offer) → k < length w.offers → OfferAgrees set (after log broker r does gone) v.fanout (get_or w.offers k d).child (get_or w.offers k d).reference (get_or w.offers k d).bytes (get_or w.offers k d).stage)
    → ((k : ℕ) (d : Want) → k < length w.wants → WantAgrees set (after log broker r does gone) v.fanout (get_or w.wants k d))
    → AgreesContent w set (after log broker r does gone)
agrees-then v w set log a broker r does gone new within nodes fanout hash may here root store offers wants = record {
  size = a.size ∙ sym (length-set v.nodes broker new) ∙ ap length (sym nodes);
  fanout = a.fanout ∙ sym fanout;
  hash = a.hash ∙ sym hash;
  root = root;
  above = λ c x pos l got. subst (λ f. has_got (after log broker r does gone) (parent f c) x ≡ true) (sym fanout)
      (up c x pos (subst (λ n. c < n) (ap length nodes ∙ length-set v.nodes broker new) l) (either (has_got log c x) _ (sym (got-after log broker r does gone c x) ∙ got)));
  store = store;
  nodes = λ b l. subst (λ ns. NodeAgrees set (after log broker r does gone) b (get_or ns b empty_node)) (sym nodes)
      (nodes-then set log broker r does gone v.nodes empty_node new within (λ c m. a.nodes c m) here b (subst (λ ns. b < length ns) nodes l));
  offers = λ k d l. subst (λ f. OfferAgrees set (after log broker r does gone) f (get_or w.offers k d).child (get_or w.offers k d).reference (get_or w.offers k d).bytes (get_or w.offers k d).stage) (sym fanout) (offers k d l);
  wants = λ k d l. subst (λ f. WantAgrees set (after log broker r does gone) f (get_or w.wants k d)) (sym fanout) (wants k d l);
} where
  up : (c : ℕ) (x : BlobRef) → 0 < c → c < size_of v → (has_got log c x ≡ true) ⊎ (gets broker r does c x ≡ true) → has_got (after log broker r does gone) (parent v.fanout c) x ≡ true
  up c x pos l (inl h) = got-later log (map Happened (coming broker r does gone)) (parent v.fanout c) x (a.above c x pos l h)
  up c x pos l (inr h) =
      let same = and-right does _ h in
      let at : c ≡ broker = same-number c broker (and-left (c == broker) _ same) in
      let named : x ≡ r = same_true x r (and-right (c == broker) _ same) in
      elim (may (and-left does _ h)) [
        | inl e ↦ absurd (omega (arith, at, e))
        | inr e ↦ got-later log (map Happened (coming broker r does gone)) (parent v.fanout c) x
            (subst (λ y. has_got log (parent v.fanout c) y ≡ true) (sym named) (subst (λ b. has_got log (parent v.fanout b) r ≡ true) (sym at) e))
      ]

-- what another broker gets and drops leaves what rank 0 has got
pub root-other : (v : ContentValue) (set : Setting) (log : Log) → AgreesContent v set log → (broker : ℕ) → 0 < broker → (r : BlobRef) (does : Bool) (gone : List BlobRef) (x : BlobRef)
    → has_got (after log broker r does gone) 0 x ≡ is_some (blob_at x v.store)
root-other v set log a broker below r does gone x =
    got-after log broker r does gone 0 x ∙ ap (λ b. has_got log 0 x || (does && (b && same_reference x r))) (other-number 0 broker (λ e. omega (arith, below, e)))
    ∙ nothing does (has_got log 0 x) ∙ a.root x
  where
    nothing : (d h : Bool) → (h || (d && false)) ≡ h
    nothing true true = refl
    nothing true false = refl
    nothing false true = refl
    nothing false false = refl

-- what follows is followed by what makes no event
pub follows-then : (v u w : ContentValue) (events : List KvsEvent) (set : Setting) (log : Log) → size_of u ≡ size_of v → Follows v u events set log → Follows u w [] set (log ++ map Happened events) → Follows v w events set log
follows-then v u w events set log size first second = record {
  legal = first.legal;
  agrees = subst (AgreesContent w set) (append-nil (log ++ map Happened events)) second.agrees;
  kept = λ b x l k. subst (λ ms. IsKept w set ms b x) (append-nil (log ++ map Happened events)) (second.kept b x (subst (λ n. b < n) (sym size) l) (first.kept b x l k));
}

-- what is found among the entries that passed has passed
found-among : (p : Held → Bool) (q : BlobRef → Bool) (es : List (BlobRef × Held)) (kept : Held) → lookup q (filter (λ e. p e.1) es) ≡ Some kept → p kept ≡ true
found-among p q [] kept h = let no : ⊥ = cc in absurd no
found-among p q (e ∷ es) kept h = by (λ g. found-among p q es kept g) (p e.1) refl
  where
    Rest : Type 0
    Rest = lookup q (filter (λ e. p e.1) es) ≡ Some kept → p kept ≡ true

    first : Rest → p e.1 ≡ true → (t : Bool) → cond t (Some e.1) (lookup q (filter (λ e. p e.1) es)) ≡ Some kept → p kept ≡ true
    first rest passes true g = let same : e.1 ≡ kept = cc in ap p (sym same) ∙ passes
    first rest passes false g = rest g

    by : Rest → (b : Bool) → p e.1 ≡ b → p kept ≡ true
    by rest true f = first rest f (q e.0) (rw f at h)
    by rest false f = rest (rw f at h)

-- what is gone was told
told-in : (broker : ℕ) (gone : List BlobRef) (x : BlobRef) → list_any (same_reference x) gone ≡ true → Contains (dropping broker gone) (event.Dropped broker x)
told-in broker [] x h = absurd (true≢false (sym h))
told-in broker (g ∷ gs) x h = by (λ f. told-in broker gs x f) (same_reference x g) refl h
  where
    by : (list_any (same_reference x) gs ≡ true → Contains (dropping broker gs) (event.Dropped broker x)) → (b : Bool) → same_reference x g ≡ b → (b || list_any (same_reference x) gs) ≡ true
        → Contains (dropping broker (g ∷ gs)) (event.Dropped broker x)
    by rest true e f = (0, omega arith, ap (event.Dropped broker) (sym (same_true x g e)))
    by rest false e f = let there = rest f in (suc there.0, omega (arith, there.1), there.2)

-- what is clean once a broker dropped contents was so before
pub dropped-clean : (broker : ℕ) (old new : NodeValue) (events : List KvsEvent) → IsDropping broker old new events → (x : BlobRef) (found : List ℕ) → clean_at x new.cache ≡ Some found → clean_at x old.cache ≡ Some found
dropped-clean broker old new events h x found e = by (list_any (same_reference x) h.gone) refl (sym (ap (option_map (λ (held : Held). held.bytes)) (h.rest.left x)) ∙ e)
  where
    by : (n : Bool) → list_any (same_reference x) h.gone ≡ n → option_map (λ (held : Held). held.bytes) (cond (list_any (same_reference x) h.gone) None (lookup (same_reference x) old.cache.clean)) ≡ Some found → clean_at x old.cache ≡ Some found
    by true n g = let bad : None ≡ Some found = sym (ap (λ m. option_map (λ (held : Held). held.bytes) (cond m None (lookup (same_reference x) old.cache.clean))) n) ∙ g in absurd (let no : ⊥ = cc in no)
    by false n g = sym (ap (λ m. option_map (λ (held : Held). held.bytes) (cond m None (lookup (same_reference x) old.cache.clean))) n) ∙ g

module _ (v : ContentValue) (set : Setting) (log : Log) (a : AgreesContent v set log) (broker : ℕ) (within : broker < size_of v) (new : NodeValue) (events : List KvsEvent) (h : IsDropping broker (node_at v broker) new events) where
  some-held : (x : BlobRef) → IsSome (lookup (same_reference x) (node_at v broker).cache.clean) → holds log broker x ≡ true
  some-held x s = (a.nodes broker within).held x ∙ by (lookup (same_reference x) (node_at v broker).cache.clean) s
    where
      by : (o : Option Held) → IsSome o → is_some (option_map (λ held. held.bytes) o) ≡ true
      by (Some held) t = refl
      by None t = absurd (true≢false (sym t))

  any-reference : BlobRef
  any-reference = reference_of set.hash []

  pub dropped-legal : IsLegalAfter set log (map Happened events)
  dropped-legal = subst (λ es. IsLegalAfter set log (map Happened es)) (sym h.told) (drops-legal set broker log h.gone h.rest.once (λ x t. some-held x (h.rest.there x t)))

  -- nothing is pinned, so all that the broker holds goes
  pub dropped-all : (x : BlobRef) → holds log broker x ≡ true → Contains events (event.Dropped broker x)
  dropped-all x held = by (lookup (same_reference x) (node_at v broker).cache.clean) refl (list_any (same_reference x) h.gone) refl
    where
      old : List (BlobRef × Held)
      old = (node_at v broker).cache.clean

      here : (o : Option Held) → lookup (same_reference x) old ≡ o → IsSome o
      here (Some kept) e = refl
      here None e = sym (ap (λ p. is_some (option_map (λ (k : Held). k.bytes) p)) e) ∙ sym ((a.nodes broker within).held x) ∙ held

      by : (o : Option Held) → lookup (same_reference x) old ≡ o → (n : Bool) → list_any (same_reference x) h.gone ≡ n → Contains events (event.Dropped broker x)
      by o e true n = subst (λ es. Contains es (event.Dropped broker x)) (sym h.told) (told-in broker h.gone x n)
      by None e false n = absurd (true≢false (sym (here None e)))
      by (Some kept) e false n =
          let now : lookup (same_reference x) new.cache.clean ≡ Some kept = h.rest.left x ∙ ap (λ m. cond m None (lookup (same_reference x) old)) n ∙ e in
          let pinned : is_pinned kept ≡ true = found-among (λ k. is_pinned k) (same_reference x) old kept (sym (ap (λ c. lookup (same_reference x) c.clean) h.pinned) ∙ now) in
          absurd (true≢false (sym pinned ∙ (a.nodes broker within).unpinned x kept e))

  same-dirty : new.cache.dirty ≡ (node_at v broker).cache.dirty
  same-dirty = ap (λ k. k.dirty) h.pinned

  here : (r : BlobRef) → NodeAgrees set (after log broker r false h.gone) broker new
  here r = record {
    held = λ x. held-after log broker r false h.gone broker x ∙ held x (list_any (same_reference x) h.gone) refl;
    clean = λ x bytes e. blob-later log (map Happened (coming broker r false h.gone)) set x bytes (clean x bytes (list_any (same_reference x) h.gone) refl (sym (found x) ∙ e));
    dirty = subst (Each (λ e. IsBlob set (after log broker r false h.gone) e.0 e.1)) (sym same-dirty)
        (each-map (λ e. IsBlob set log e.0 e.1) (λ e. IsBlob set (after log broker r false h.gone) e.0 e.1) (λ e b. blob-later log (map Happened (coming broker r false h.gone)) set e.0 e.1 b) _ (a.nodes broker within).dirty);
    refused = subst (Each (IsRefused set (after log broker r false h.gone))) (sym h.refused)
        (each-map (IsRefused set log) (IsRefused set (after log broker r false h.gone)) (λ x b. refused-later log (map Happened (coming broker r false h.gone)) set x b) _ (a.nodes broker within).refused);
    unpinned = λ x kept e. free x kept (list_any (same_reference x) h.gone) refl (sym (h.rest.left x) ∙ e);
  } where
    free : (x : BlobRef) (kept : Held) (n : Bool) → list_any (same_reference x) h.gone ≡ n → cond (list_any (same_reference x) h.gone) None (lookup (same_reference x) (node_at v broker).cache.clean) ≡ Some kept → is_pinned kept ≡ false
    free x kept true n e = let bad : None ≡ Some kept = rw n at e in absurd (let no : ⊥ = cc in no)
    free x kept false n e = (a.nodes broker within).unpinned x kept (let found : lookup (same_reference x) (node_at v broker).cache.clean ≡ Some kept = rw n at e in found)

    found : (x : BlobRef) → clean_at x new.cache ≡ option_map (λ held. held.bytes) (cond (list_any (same_reference x) h.gone) None (lookup (same_reference x) (node_at v broker).cache.clean))
    found x = ap (option_map (λ held. held.bytes)) (h.rest.left x)

    found-at : (x : BlobRef) (n : Bool) → list_any (same_reference x) h.gone ≡ n → option_map (λ held. held.bytes) (cond (list_any (same_reference x) h.gone) None (lookup (same_reference x) (node_at v broker).cache.clean))
        ≡ option_map (λ held. held.bytes) (cond n None (lookup (same_reference x) (node_at v broker).cache.clean))
    found-at x n e = ap (λ m. option_map (λ (held : Held). held.bytes) (cond m None (lookup (same_reference x) (node_at v broker).cache.clean))) e

    held : (x : BlobRef) (n : Bool) → list_any (same_reference x) h.gone ≡ n → cond ((broker == broker) && list_any (same_reference x) h.gone) false (holds log broker x) ≡ is_some (clean_at x new.cache)
    held x true n =
        ap (λ m. cond ((broker == broker) && m) false (holds log broker x)) n ∙ ap (λ t. cond (t && true) false (holds log broker x)) (equal-itself broker)
        ∙ sym (ap is_some (found x ∙ found-at x true n))
    held x false n =
        ap (λ m. cond ((broker == broker) && m) false (holds log broker x)) n ∙ ap (λ t. cond (t && false) false (holds log broker x)) (equal-itself broker)
        ∙ (a.nodes broker within).held x ∙ sym (ap is_some (found x ∙ found-at x false n))

    clean : (x : BlobRef) (bytes : List ℕ) (n : Bool) → list_any (same_reference x) h.gone ≡ n → option_map (λ held. held.bytes) (cond (list_any (same_reference x) h.gone) None (lookup (same_reference x) (node_at v broker).cache.clean)) ≡ Some bytes → IsBlob set log x bytes
    clean x bytes true n e = let bad : None ≡ Some bytes = sym (found-at x true n) ∙ e in absurd (let no : ⊥ = cc in no)
    clean x bytes false n e = (a.nodes broker within).clean x bytes (sym (found-at x false n) ∙ e)

  kept-dirty : (b : ℕ) (x : BlobRef) → IsDirty v b x → IsDirty (record v { nodes = put v.nodes broker new }) b x
  kept-dirty b x d = elim (cases_eq b broker) [
    | inl e ↦ subst (λ k. IsSome (dirty_at x (get_or (put v.nodes broker new) k empty_node).cache)) (sym e)
        (subst (λ n. IsSome (dirty_at x n.cache)) (sym (get_or-set_same v.nodes broker new empty_node within))
        (subst (λ es. IsSome (lookup (same_reference x) es)) (sym same-dirty) (subst (λ k. IsDirty v k x) e d)))
    | inr ne ↦ subst (λ n. IsSome (dirty_at x n.cache)) (sym (get_or-set_other v.nodes broker b new empty_node ne)) d
  ]

  pub dropped-follows : Follows v (record v { nodes = put v.nodes broker new }) events set log
  dropped-follows = record {
    legal = dropped-legal;
    agrees = subst (λ es. AgreesContent (record v { nodes = put v.nodes broker new }) set (log ++ map Happened es)) (sym h.told)
        (agrees-then v (record v { nodes = put v.nodes broker new }) set log a broker any-reference false h.gone new within refl refl refl (λ e. absurd (true≢false (sym e))) (here any-reference)
        (λ x. got-after log broker any-reference false h.gone 0 x ∙ or-nothing (has_got log 0 x) ∙ a.root x)
        (λ x bytes e. blob-later log (map Happened (coming broker any-reference false h.gone)) set x bytes (a.store x bytes e))
        (λ k d l. offer-later log (map Happened (coming broker any-reference false h.gone)) set v.fanout _ _ _ _ (a.offers k d l))
        (λ k d l. want-later log (map Happened (coming broker any-reference false h.gone)) set v.fanout _ (a.wants k d l)));
    kept = λ b x l k. elim k [
      | inl d ↦ inl (kept-dirty b x d)
      | inr (inl g) ↦ inr (inl (got-later log (map Happened events) b x g))
      | inr (inr c) ↦ inr (inr (refused-later log (map Happened events) set x c))
    ];
  }

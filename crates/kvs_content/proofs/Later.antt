-- What later moments leave of what a log says of contents.
use Rattle.std.proofs.Common.{◌≡◌, ◌⊎◌, inl, inr, ℕ, List, [], ◌∷◌, ◌++◌, Bool, true, false, ◌||◌, cond, Option, Some, None, unwrap_or, refl, sym, ap, ◌∙◌, subst, true≢false}
use Rattle.std.specs.List.{list_any}
use Rattle.std.proofs.lemmas.List.Folds.{list_any-append}
use Rattle.kvs_txn.specs.declared.txn.By.{By}
use Rattle.fl_digest.specs.declared.BlobRef.{BlobRef}
use Rattle.kvs_rules.specs.Log.{Log, Moment, asks_now, before_asked, is_asked}
use Rattle.kvs_rules.specs.Namespaces.{Setting, Request}
use Rattle.kvs_rules.specs.Sequence.{latest}
use Rattle.kvs_rules.specs.Brokers.{IsContent, drops_now, gets_now, has_got, held_from, holds}
use Rattle.kvs_rules.specs.Answers.{IsClash, IsStoredAt}
use Rattle.kvs_rules.proofs.Sequences.{until-append}
use Rattle.kvs_content.specs.declared.wants.Gift.{Gift}
use Rattle.kvs_content.specs.declared.wants.Want.{Want}
use Rattle.kvs_content.specs.declared.wants.WantStage.{WantStage}
use Rattle.kvs_content.specs.declared.wants.WantStage.TheVariants as wanted
use Rattle.kvs_content.specs.declared.offers.OfferStage.{OfferStage}
use Rattle.kvs_content.specs.declared.offers.OfferStage.TheVariants as offered
use Rattle.kvs_rules.proofs.Contents.{content_stays}
use Rattle.kvs_content.proofs.Lists.{either-left}
use Rattle.kvs_content.specs.Agrees.{IsBlob, IsRefused, IsMissing, GiftAgrees, IsLoading, OfferAgrees, OfferStageAgrees, WantAgrees, WantStageAgrees}

-- what passed is still among the moments
any-later : (p : Moment → Bool) (log more : Log) → list_any p log ≡ true → list_any p (log ++ more) ≡ true
any-later p log more h = list_any-append p log more ∙ either-left (list_any p log) (list_any p more) h

module _ (log more : Log) where
  pub asked-later : (by : By) → is_asked by log ≡ true → is_asked by (log ++ more) ≡ true
  asked-later by = any-later (asks_now by) log more

  pub got-later : (broker : ℕ) (r : BlobRef) → has_got log broker r ≡ true → has_got (log ++ more) broker r ≡ true
  got-later broker r = any-later (gets_now broker r) log more

  pub before-same : (by : By) → is_asked by log ≡ true → before_asked by (log ++ more) ≡ before_asked by log
  before-same by h = until-append (asks_now by) log more h

  module _ (set : Setting) where
    pub content-later : (bytes : List ℕ) → IsContent set log bytes → IsContent set (log ++ more) bytes
    content-later bytes h = content_stays set log more bytes h

    pub clash-later : (r : BlobRef) → IsClash set log r → IsClash set (log ++ more) r
    clash-later r h = record {
      one = h.one;
      other = h.other;
      differ = h.differ;
      first = content-later h.one h.first;
      second = content-later h.other h.second;
      named = h.named;
      shared = h.shared;
    }

    pub blob-later : (r : BlobRef) (bytes : List ℕ) → IsBlob set log r bytes → IsBlob set (log ++ more) r bytes
    blob-later r bytes h = (h.0, content-later bytes h.1)

    pub refused-later : (r : BlobRef) → IsRefused set log r → IsRefused set (log ++ more) r
    refused-later r h = (clash-later r h.0, got-later 0 r h.1)

    abbrev pub loading-later : (by : By) (broker : ℕ) (r : BlobRef) → IsLoading set log by broker r → IsLoading set (log ++ more) by broker r
    loading-later by broker r h = record { asked = asked-later by h.asked; request = h.request; made = h.made; home = h.home; loads = h.loads }

    pub missing-later : (by : By) (request : Request) (r : BlobRef) → is_asked by log ≡ true → IsMissing set log by request r → IsMissing set (log ++ more) by request r
    missing-later by request r h m =
        subst (λ past. (has_got past 0 r ≡ false) × (IsStoredAt set past request.broker r → ⊥)) (sym (before-same by h)) m

    offer-stage-later : (fanout child : ℕ) (r : BlobRef) (stage : OfferStage) → OfferStageAgrees set log fanout child r stage → OfferStageAgrees set (log ++ more) fanout child r stage
    offer-stage-later fanout child r offered.Rising h = tt
    offer-stage-later fanout child r offered.Waiting h = tt
    offer-stage-later fanout child r offered.Accepted h = got-later _ r h
    offer-stage-later fanout child r offered.Refused h = refused-later r h

    pub offer-later : (fanout child : ℕ) (r : BlobRef) (bytes : List ℕ) (stage : OfferStage) → OfferAgrees set log fanout child r bytes stage → OfferAgrees set (log ++ more) fanout child r bytes stage
    offer-later fanout child r bytes stage h = (blob-later r bytes h.0, offer-stage-later fanout child r stage h.1)

    pub gift-later : (fanout child : ℕ) (by : By) (request : Request) (r : BlobRef) (gift : Option Gift) → is_asked by log ≡ true
        → GiftAgrees set log fanout child by request r gift → GiftAgrees set (log ++ more) fanout child by request r gift
    gift-later fanout child by request r (Some gift) asked h = (blob-later r gift.bytes h.0, λ clean. got-later _ r (h.1 clean))
    gift-later fanout child by request r None asked h = missing-later by request r asked h

    pub stage-later : (fanout child : ℕ) (by : By) (request : Request) (r : BlobRef) (stage : WantStage) → is_asked by log ≡ true
        → WantStageAgrees set log fanout child by request r stage → WantStageAgrees set (log ++ more) fanout child by request r stage
    stage-later fanout child by request r wanted.Rising asked h =
        subst (λ past. IsStoredAt set past request.broker r → has_got (log ++ more) 0 r ≡ true) (sym (before-same by asked)) (λ s. got-later 0 r (h s))
    stage-later fanout child by request r (wanted.Falling gift) asked h = gift-later fanout child by request r gift asked h

    pub want-later : (fanout : ℕ) (want : Want) → WantAgrees set log fanout want → WantAgrees set (log ++ more) fanout want
    want-later fanout want h = record {
      loading = loading-later want.by want.broker want.reference h.loading;
      staged = stage-later fanout want.child want.by h.loading.request want.reference want.stage h.loading.asked h.staged;
    }

-- what is held was got
pub held-got : (log : Log) (broker : ℕ) (r : BlobRef) → holds log broker r ≡ true → has_got log broker r ≡ true
held-got log broker r h = elim (of log false h) [
  | inl e ↦ absurd (true≢false (sym e))
  | inr e ↦ e
]
  where
    pick : (m : Moment) (b : Bool) → gets_now broker r m ≡ b → (first : Bool) → unwrap_or (held_from broker r m) first ≡ true → (b ≡ true) ⊎ (first ≡ true)
    pick m true e first g = inl refl
    pick m false e first g = by₁ (drops_now broker r m) refl
      where
        by₁ : (d : Bool) → drops_now broker r m ≡ d → (false ≡ true) ⊎ (first ≡ true)
        by₁ true e₁ = absurd (true≢false (sym g ∙ ap (λ o. unwrap_or o first) (ap (λ t. cond t (Some true) (cond (drops_now broker r m) (Some false) None)) e ∙ ap (λ t. cond t (Some false) None) e₁)))
        by₁ false e₁ = inr (sym (ap (λ o. unwrap_or o first) (ap (λ t. cond t (Some true) (cond (drops_now broker r m) (Some false) None)) e ∙ ap (λ t. cond t (Some false) None) e₁)) ∙ g)

    either-right : (a b : Bool) → b ≡ true → (a || b) ≡ true
    either-right true b h = refl
    either-right false b h = h

    of : (xs : Log) → (first : Bool) → latest (held_from broker r) first xs ≡ true → (first ≡ true) ⊎ (has_got xs broker r ≡ true)
    of [] first g = inl g
    of (m ∷ ms) first g = elim (of ms (unwrap_or (held_from broker r m) first) g) [
      | inl e ↦ elim (pick m (gets_now broker r m) refl first e) [
        | inl t ↦ inr (either-left (gets_now broker r m) _ t)
        | inr t ↦ inl t
      ]
      | inr e ↦ inr (either-right (gets_now broker r m) _ e)
    ]

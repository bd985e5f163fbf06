-- A moment at which no broker gets or drops a content leaves the contents where they stand.
use Rattle.std.proofs.Common.{◌≡◌, inl, inr, ℕ, [], ◌∷◌, ◌++◌, Bool, true, false, ◌||◌, None, unwrap_or, refl, sym, ap, ◌∙◌}
use Rattle.std.proofs.lemmas.List.Folds.{list_any-append}
use Rattle.fl_digest.specs.declared.BlobRef.{BlobRef}
use Rattle.kvs_rules.specs.Log.{Log, Moment}
use Rattle.kvs_rules.specs.Namespaces.{Setting}
use Rattle.kvs_rules.specs.Brokers.{gets_now, has_got, held_from, holds, parent}
use Rattle.kvs_rules.proofs.Sequences.{latest_push}
use Rattle.kvs_content.specs.Agrees.{AgreesContent, IsBlob, IsKept, IsRefused, NodeAgrees}
use Rattle.kvs_content.specs.Node.{NodeValue}
use Rattle.kvs_content.specs.Value.{ContentValue}
use Rattle.kvs_content.proofs.Agreeing.{each-map}
use Rattle.kvs_content.proofs.Later.{blob-later, got-later, offer-later, refused-later, want-later}

-- no broker gets or drops a content at the moment
pub record IsOtherwise (m : Moment) : Type 0 where
  pub gets : (broker : ℕ) (r : BlobRef) → gets_now broker r m ≡ false
  pub holds : (broker : ℕ) (r : BlobRef) → held_from broker r m ≡ None

or-none : (a : Bool) → (a || (false || false)) ≡ a
or-none true = refl
or-none false = refl

module _ (log : Log) (m : Moment) (other : IsOtherwise m) where
  pub got-same : (broker : ℕ) (r : BlobRef) → has_got (log ++ m ∷ []) broker r ≡ has_got log broker r
  got-same broker r =
      list_any-append (gets_now broker r) log (m ∷ []) ∙ ap (λ t. has_got log broker r || (t || false)) (other.gets broker r) ∙ or-none (has_got log broker r)

  pub held-same : (broker : ℕ) (r : BlobRef) → holds (log ++ m ∷ []) broker r ≡ holds log broker r
  held-same broker r = latest_push (held_from broker r) false log m ∙ ap (λ o. unwrap_or o (holds log broker r)) (other.holds broker r)

  module _ (set : Setting) where
    node-stays : (broker : ℕ) (node : NodeValue) → NodeAgrees set log broker node → NodeAgrees set (log ++ m ∷ []) broker node
    node-stays broker node h = record {
      held = λ r. held-same broker r ∙ h.held r;
      clean = λ r bytes e. blob-later log (m ∷ []) set r bytes (h.clean r bytes e);
      dirty = each-map (λ e. IsBlob set log e.0 e.1) (λ e. IsBlob set (log ++ m ∷ []) e.0 e.1) (λ e b. blob-later log (m ∷ []) set e.0 e.1 b) node.cache.dirty h.dirty;
      refused = each-map (IsRefused set log) (IsRefused set (log ++ m ∷ [])) (λ r b. refused-later log (m ∷ []) set r b) node.refused h.refused;
      unpinned = h.unpinned;
    }

    pub content-stays : (v : ContentValue) → AgreesContent v set log → AgreesContent v set (log ++ m ∷ [])
    content-stays v a = record {
      size = a.size;
      fanout = a.fanout;
      hash = a.hash;
      root = λ r. got-same 0 r ∙ a.root r;
      above = λ broker r pos l got. got-later log (m ∷ []) (parent v.fanout broker) r (a.above broker r pos l (sym (got-same broker r) ∙ got));
      store = λ r bytes e. blob-later log (m ∷ []) set r bytes (a.store r bytes e);
      nodes = λ broker l. node-stays broker _ (a.nodes broker l);
      offers = λ k d l. offer-later log (m ∷ []) set v.fanout _ _ _ _ (a.offers k d l);
      wants = λ k d l. want-later log (m ∷ []) set v.fanout _ (a.wants k d l);
    }

    -- and what was stored is kept
    pub kept-stays : (v : ContentValue) (broker : ℕ) (r : BlobRef) → IsKept v set log broker r → IsKept v set (log ++ m ∷ []) broker r
    kept-stays v broker r (inl d) = inl d
    kept-stays v broker r (inr (inl g)) = inr (inl (got-later log (m ∷ []) broker r g))
    kept-stays v broker r (inr (inr c)) = inr (inr (refused-later log (m ∷ []) set r c))

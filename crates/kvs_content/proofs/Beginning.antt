-- With no contents all is sound, and stands where the empty log leaves it.
use Rattle.std.proofs.Common.{◌≡◌, ℕ, zero, suc, ◌<◌, List, [], ◌∷◌, ◌++◌, length, get_or, Some, None, refl, sym, ap, ◌∙◌, subst, arith, true≢false}
use Rattle.std.specs.Prelude.{is_some}
use Rattle.std.specs.List.{AllByRecursion as Each}
use Rattle.blob_store.specs.Blobs.{blob_at}
use Rattle.cache_node.specs.Cache.{clean_at, dirty_at}
use Rattle.cache_node.specs.Order.{Names}
use Rattle.kvs_rules.specs.Namespaces.{Setting}
use Rattle.kvs_content.specs.Agrees.{AgreesContent, NodeAgrees}
use Rattle.kvs_content.specs.Node.{NodeValue, empty_node}
use Rattle.kvs_content.specs.Sound.{IsSoundContent}
use Rattle.kvs_content.specs.Value.{ContentValue, node_at, size_of}

none-below : {X : Type 0} (xs : List X) (k : ℕ) → xs ≡ [] → k < length xs → ⊥
none-below xs k e l = let none : length xs ≡ 0 = ap length e in omega arith

-- one broker more that keeps nothing
pub pushed-empty : (nodes : List NodeValue) (node : NodeValue) → node ≡ empty_node → ((k : ℕ) → get_or nodes k empty_node ≡ empty_node) → (k : ℕ) → get_or (nodes ++ node ∷ []) k empty_node ≡ empty_node
pushed-empty [] node e all zero = e
pushed-empty [] node e all (suc k) = refl
pushed-empty (n ∷ ns) node e all zero = all zero
pushed-empty (n ∷ ns) node e all (suc k) = pushed-empty ns node e (λ j. all (suc j)) k

module _ (v : ContentValue) (store : v.store ≡ []) (offers : v.offers ≡ []) (wants : v.wants ≡ []) (nodes : (b : ℕ) → node_at v b ≡ empty_node) where
  pub empty-sound : 0 < v.fanout → 0 < size_of v → IsSoundContent v
  empty-sound fanout some = record {
    placed = record {
      fanout = fanout;
      some = some;
      root = ap (λ n. n.cache.dirty) (nodes 0);
      store = subst (Each (λ e. Names e.0 e.1)) (sym store) tt;
      same = λ b x found l e. absurd (let none : None ≡ Some found = ap (λ n. clean_at x n.cache) (sym (nodes b)) ∙ e in let no : ⊥ = cc in no);
      offers = λ k d l. absurd (none-below v.offers k offers l);
      wants = λ k d l. absurd (none-below v.wants k wants l);
    };
    carried = λ b x bytes l d. absurd (let none : None ≡ Some bytes = ap (λ n. dirty_at x n.cache) (sym (nodes b)) ∙ d in let no : ⊥ = cc in no);
  }

  pub empty-agrees : (set : Setting) → set.size ≡ size_of v → set.fanout ≡ v.fanout → set.hash ≡ v.hash → AgreesContent v set []
  empty-agrees set size fanout hash = record {
    size = size;
    fanout = fanout;
    hash = hash;
    root = λ x. ap (λ s. is_some (blob_at x s)) (sym store);
    above = λ b x pos l got. absurd (true≢false (sym got));
    store = λ x bytes e. absurd (nothing (ap (blob_at x) (sym store) ∙ e));
    nodes = λ b l. subst (NodeAgrees set [] b) (sym (nodes b)) here;
    offers = λ k d l. absurd (none-below v.offers k offers l);
    wants = λ k d l. absurd (none-below v.wants k wants l);
  } where
    nothing : {bytes : List ℕ} → None ≡ Some bytes → ⊥
    nothing e = let no : ⊥ = cc in no

    here : {b : ℕ} → NodeAgrees set [] b empty_node
    here = record { held = λ x. refl; clean = λ x bytes e. absurd (nothing e); dirty = tt; refused = tt; unpinned = λ x kept e. absurd (let no : ⊥ = cc in no) }

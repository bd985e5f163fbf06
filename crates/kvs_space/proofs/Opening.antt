-- A namespace is opened or removed.
use Rattle.std.proofs.Common.{◌≡◌, ℕ, zero, suc, ◌+◌, ◌==◌, ◌<◌, ◌≤◌, inl, inr, List, [], length, true, false, cond, Some, refl, sym, ap, ◌∙◌, subst, arith, get_or, set, replicate, eq-eqb, ne_eqb}
use Rattle.std.specs.Prelude.{slice_index}
use Rattle.std.proofs.lemmas.Bool.{cases_eq}
use Rattle.std.proofs.lemmas.List.{length-set, get_or-set_same, get_or-set_other, get_or-replicate, length-replicate}
use Rattle.kvs_txn.specs.declared.txn.Group.{Group}
use Rattle.kvs_model.specs.Store.{Name, Store, empty_store}
use Rattle.kvs_model.specs.History.{after, first_store}
use Rattle.kvs_rules.specs.Brokers.{parent}
use Rattle.kvs_rules.specs.Namespaces.{is_primary, scope_of}
use Rattle.fence_merge.specs.Merging.{MergerValue}
use Rattle.kvs_space.specs.Links.{IsAnnounced, IsAnnouncedBut, greatest}
use Rattle.kvs_space.specs.Sound.{IsSoundSpace, idle}
use Rattle.kvs_space.specs.Space.{SpaceValue, seen, begun}
use Rattle.kvs_space.proofs.Announced.{parent-low}
use Rattle.kvs_space.proofs.Posting.{no-fences}

-- where no broker has heard of a namespace, rank 0 is the first to
module _ (size : ℕ) (some : 1 ≤ size) where
  none : (b : ℕ) → b < size → slice_index (replicate size 0) b ≡ 0
  none b low = get_or-replicate size b 0 0 low

  pub first-but : (fanout : ℕ) → IsAnnouncedBut 0 1 fanout (replicate size 0) (replicate size [])
  first-but fanout = record {
    same_len = length-replicate size [] ∙ sym (length-replicate size 0);
    within = let m : length (replicate {A = ℕ} size 0) ≡ size = length-replicate size 0 in omega arith;
    higher = let z = none 0 (omega arith) in omega arith;
    others = λ b above below ne.
        let low : b < size = subst (λ m. b < m) (length-replicate size 0) below in
        let up : parent fanout b < size = let q = parent-low fanout b in omega arith in
        let e : greatest (slice_index (replicate size 0) b) (get_or (replicate size []) b []) ≡ 0 = ap (greatest (slice_index (replicate size 0) b)) (get_or-replicate size b [] [] low) ∙ none b low in
        omega (arith, e);
    here = λ h. absurd (omega arith);
  }

  pub known-once : (b : ℕ) → b < size → slice_index (set (replicate size 0) 0 1) b ≡ cond (b == 0) 1 0
  known-once b low = elim (cases_eq b 0) [
    | inl z ↦
        ap (slice_index (set (replicate size 0) 0 1)) z
        ∙ get_or-set_same (replicate size 0) 0 1 0 (let m : length (replicate {A = ℕ} size 0) ≡ size = length-replicate size 0 in omega arith)
        ∙ sym (ap (λ t. cond {A = ℕ} t 1 0) (eq-eqb b 0 z))
    | inr ne ↦
        get_or-set_other (replicate size 0) 0 b 1 0 ne
        ∙ none b low
        ∙ sym (ap (λ t. cond {A = ℕ} t 1 0) (ne_eqb b 0 ne))
  ]

-- a namespace at its opening
pub opened-space : (fanout : ℕ) (grant : List ℕ) (size : ℕ) (name : Name) (history : List (List Group)) (known : List ℕ) (stores : List Store) (links : List (List ℕ)) (merger : MergerValue) → is_primary name ≡ false → 1 ≤ size
    → history ≡ [] → merger ≡ idle → known ≡ set (replicate size 0) 0 1 → stores ≡ replicate size empty_store → IsAnnounced fanout known links
    → IsSoundSpace fanout grant (record { name = name; removed = false; history = history; known = known; stores = stores; links = links; merger = merger })
opened-space fanout grant size name history known stores links merger other some h m k st announced = subst (IsSoundSpace fanout grant) (sym is) (record {
  some = let l = long in omega arith;
  announced = announced;
  newest = ap (λ x. slice_index x 0) k ∙ get_or-set_same (replicate size 0) 0 1 0 (let l : length (replicate {A = ℕ} size 0) ≡ size = length-replicate size 0 in omega arith);
  replicas = record {
    same_len = ap length st ∙ length-replicate size empty_store ∙ sym long;
    each = λ b below.
        ap (λ n. after (scope_of name) [] n (begun grant name)) (let z : seen (slice_index known b) 0 ≡ 0 = omega arith in z)
        ∙ ap Some (ap (λ t. cond t (first_store grant) empty_store) other ∙ sym (ap (λ x. get_or x b []) st ∙ get_or-replicate size b empty_store [] (subst (λ l. b < l) long below)));
  };
  living = inl refl;
  fences = no-fences;
  members = tt;
  posts = inr (other, refl);
})
  where
    long : length known ≡ size
    long = ap length k ∙ length-set (replicate size 0) 0 1 ∙ length-replicate size 0

    is : ◌≡◌ {A = SpaceValue} (record { name = name; removed = false; history = history; known = known; stores = stores; links = links; merger = merger })
        (record { name = name; removed = false; history = []; known = known; stores = stores; links = links; merger = idle })
    is = λ j. record { name = name; removed = false; history = h j; known = known; stores = stores; links = links; merger = m j }

-- a namespace that is removed
pub removed-space : {fanout : ℕ} {grant : List ℕ} {s : SpaceValue} → IsSoundSpace fanout grant s → s.removed ≡ false → is_primary s.name ≡ false → (number : ℕ) → number ≡ slice_index s.known 0
    → (known : List ℕ) (links : List (List ℕ)) (merger : MergerValue) → known ≡ set s.known 0 (number + 1) → merger ≡ idle → IsAnnounced fanout known links
    → IsSoundSpace fanout grant (record { name = s.name; removed = true; history = s.history; known = known; stores = s.stores; links = links; merger = merger })
removed-space {fanout} {grant} {s} sound living other number counts known links merger k m announced = subst (IsSoundSpace fanout grant) (sym is) (record {
  some = let l = long in let o = sound.some in omega arith;
  announced = announced;
  newest = let n = newest-is in let r = roots in omega arith;
  replicas = record { same_len = sound.replicas.same_len ∙ sym long; each = λ b below. each b (subst (λ l. b < l) long below) };
  living = inr (other, refl);
  fences = no-fences;
  members = tt;
  posts = inr (other, refl);
})
  where
    long : length known ≡ length s.known
    long = ap length k ∙ length-set s.known 0 (number + 1)

    roots : slice_index s.known 0 ≡ 1 + length s.history
    roots =
        let e : ◌≡◌ {A = ℕ} (cond s.removed 1 0) 0 = ap (λ b. cond b 1 0) living in
        let n = sound.newest in
        omega arith

    newest-is : slice_index known 0 ≡ number + 1
    newest-is = ap (λ x. slice_index x 0) k ∙ get_or-set_same s.known 0 (number + 1) 0 sound.some

    each : (b : ℕ) → b < length s.known → after (scope_of s.name) s.history (seen (slice_index known b) (length s.history)) (begun grant s.name) ≡ Some (get_or s.stores b [])
    each b low = elim (cases_eq b 0) [
      | inl z ↦
          let now : slice_index known b ≡ number + 1 = ap (slice_index known) z ∙ newest-is in
          let was : slice_index s.known b ≡ number = ap (slice_index s.known) z ∙ sym counts in
          let n : seen (slice_index known b) (length s.history) ≡ seen (slice_index s.known b) (length s.history) = let r = roots in omega arith in
          ap (λ x. after (scope_of s.name) s.history x (begun grant s.name)) n ∙ sound.replicas.each b low
      | inr ne ↦
          let n : slice_index known b ≡ slice_index s.known b = ap (λ x. slice_index x b) k ∙ get_or-set_other s.known 0 b (number + 1) 0 ne in
          ap (λ x. after (scope_of s.name) s.history (seen x (length s.history)) (begun grant s.name)) n ∙ sound.replicas.each b low
    ]

    is : ◌≡◌ {A = SpaceValue} (record { name = s.name; removed = true; history = s.history; known = known; stores = s.stores; links = links; merger = merger })
        (record { name = s.name; removed = true; history = s.history; known = known; stores = s.stores; links = links; merger = idle })
    is = λ j. record { name = s.name; removed = true; history = s.history; known = known; stores = s.stores; links = links; merger = m j }

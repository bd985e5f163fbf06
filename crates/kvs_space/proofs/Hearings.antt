-- A broker hears of a root of a namespace.
use Rattle.std.proofs.Common.{◌≡◌, ◌≢◌, ℕ, ◌<◌, inl, inr, List, [], length, Some, IsSome, sym, ap, ◌∙◌, subst, arith, get_or, set}
use Rattle.std.specs.Prelude.{slice_index}
use Rattle.std.proofs.lemmas.Bool.{cases_eq}
use Rattle.std.proofs.lemmas.List.{length-set, get_or-set_same, get_or-set_other, get_or_default}
use Rattle.kvs_txn.specs.declared.txn.Scope.{Scope}
use Rattle.kvs_model.specs.Store.{Store}
use Rattle.kvs_model.specs.History.{after}
use Rattle.kvs_rules.specs.Namespaces.{scope_of}
use Rattle.kvs_space.specs.Links.{IsAnnounced}
use Rattle.kvs_space.specs.Sound.{ArePosted, IsSoundSpace}
use Rattle.kvs_space.specs.Space.{SpaceValue, seen, begun}
use Rattle.kvs_space.proofs.Replaying.{fewer-landings, is-some}

module _ {fanout : ℕ} {grant : List ℕ} {s : SpaceValue} (sound : IsSoundSpace fanout grant s) (to : ℕ) (within : to < length s.known) (before after₀ : ℕ) (read : before ≡ get_or s.known to before) where
  pub before-is : before ≡ slice_index s.known to
  before-is = read ∙ get_or_default s.known to before 0 within

  pub stands-there : after (scope_of s.name) s.history (seen before (length s.history)) (begun grant s.name) ≡ Some (get_or s.stores to [])
  stands-there = ap (λ n. after (scope_of s.name) s.history (seen n (length s.history)) (begun grant s.name)) before-is ∙ sound.replicas.each to within

  pub some-there : IsSome (after (scope_of s.name) s.history (seen after₀ (length s.history)) (begun grant s.name))
  some-there =
      let full : seen (slice_index s.known 0) (length s.history) ≡ length s.history = let n = sound.newest in omega arith in
      fewer-landings (scope_of s.name) s.history (seen (slice_index s.known 0) (length s.history)) (seen after₀ (length s.history)) (begun grant s.name) (omega arith) (is-some _ _ (sound.replicas.each 0 sound.some))

  pub heard-space : (known : List ℕ) (stores : List Store) (links : List (List ℕ)) → known ≡ set s.known to after₀ → IsAnnounced fanout known links
      → ((first : Store) → after (scope_of s.name) s.history (seen before (length s.history)) first ≡ Some (get_or s.stores to []) → after (scope_of s.name) s.history (seen after₀ (length s.history)) first ≡ Some (get_or stores to []))
      → ((k : ℕ) → k ≢ to → get_or stores k [] ≡ get_or s.stores k []) → length stores ≡ length s.stores → 0 < to
      → IsSoundSpace fanout grant (record { name = s.name; removed = s.removed; history = s.history; known = known; stores = stores; links = links; merger = s.merger })
  heard-space known stores links is announced follows others same above = record {
    some = subst (λ n. 0 < n) (sym (ap length is ∙ length-set s.known to after₀)) sound.some;
    announced = announced;
    newest = ap (λ k. slice_index k 0) is ∙ get_or-set_other s.known to 0 after₀ 0 (λ e. omega arith) ∙ sound.newest;
    replicas = record { same_len = same ∙ sound.replicas.same_len ∙ sym (ap length is ∙ length-set s.known to after₀); each = λ b l. each b (subst (λ n. b < n) (ap length is ∙ length-set s.known to after₀) l) };
    living = sound.living;
    fences = sound.fences;
    members = sound.members;
    posts = subst (ArePosted s.name s.merger.ready) (sym (others 0 (λ e. omega arith))) sound.posts;
  } where
    each : (b : ℕ) → b < length s.known → after (scope_of s.name) s.history (seen (slice_index known b) (length s.history)) (begun grant s.name) ≡ Some (get_or stores b [])
    each b l = elim (cases_eq b to) [
      | inl e ↦
          let n : slice_index known b ≡ after₀ = ap (λ k. slice_index k b) is ∙ ap (slice_index (set s.known to after₀)) e ∙ get_or-set_same s.known to after₀ 0 within in
          ap (λ n. after (scope_of s.name) s.history (seen n (length s.history)) (begun grant s.name)) n ∙ follows (begun grant s.name) stands-there ∙ ap Some (ap (λ k. get_or stores k []) (sym e))
      | inr ne ↦
          let n : slice_index known b ≡ slice_index s.known b = ap (λ k. slice_index k b) is ∙ get_or-set_other s.known to b after₀ 0 ne in
          ap (λ n. after (scope_of s.name) s.history (seen n (length s.history)) (begun grant s.name)) n ∙ sound.replicas.each b l ∙ ap Some (sym (others b ne))
    ]

  -- the same, as the code comes to it
  module _ (scope : Scope) (from upto landed : ℕ) (scope-is : scope ≡ scope_of s.name) (landed-is : landed ≡ length s.history) (from-is : from ≡ seen before landed) (upto-is : upto ≡ seen after₀ landed) where
    from-now : from ≡ seen before (length s.history)
    from-now = from-is ∙ ap (seen before) landed-is

    upto-now : upto ≡ seen after₀ (length s.history)
    upto-now = upto-is ∙ ap (seen after₀) landed-is

    pub catch-stands : (x : Store) × (after scope s.history from x ≡ Some (get_or s.stores to [])) × IsSome (after scope s.history upto x)
    catch-stands = (begun grant s.name, there, some)
      where
        there : after scope s.history from (begun grant s.name) ≡ Some (get_or s.stores to [])
        there = ap (λ sc. after sc s.history from (begun grant s.name)) scope-is ∙ ap (λ n. after (scope_of s.name) s.history n (begun grant s.name)) from-now ∙ stands-there

        some : IsSome (after scope s.history upto (begun grant s.name))
        some = subst (λ o. IsSome o) (sym (ap (λ sc. after sc s.history upto (begun grant s.name)) scope-is ∙ ap (λ n. after (scope_of s.name) s.history n (begun grant s.name)) upto-now)) some-there

    pub caught-space : (known : List ℕ) (stores : List Store) (links : List (List ℕ)) → known ≡ set s.known to after₀ → IsAnnounced fanout known links
        → ((first : Store) → after scope s.history from first ≡ Some (get_or s.stores to []) → after scope s.history upto first ≡ Some (get_or stores to []))
        → ((k : ℕ) → k ≢ to → get_or stores k [] ≡ get_or s.stores k []) → length stores ≡ length s.stores → 0 < to
        → IsSoundSpace fanout grant (record { name = s.name; removed = s.removed; history = s.history; known = known; stores = stores; links = links; merger = s.merger })
    caught-space known stores links is announced follows others same above = heard-space known stores links is announced follows₀ others same above
      where
        F : Scope → ℕ → ℕ → Type 0
        F sc f u = (first : Store) → after sc s.history f first ≡ Some (get_or s.stores to []) → after sc s.history u first ≡ Some (get_or stores to [])

        follows₀ : F (scope_of s.name) (seen before (length s.history)) (seen after₀ (length s.history))
        follows₀ = subst (λ sc. F sc (seen before (length s.history)) (seen after₀ (length s.history))) scope-is (subst (λ f. F scope f (seen after₀ (length s.history))) from-now (subst (λ u. F scope from u) upto-now follows))

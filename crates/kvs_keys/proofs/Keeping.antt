-- The roots of `primary`, and the store that each broker has.
use Rattle.std.specs.Prelude.{slice_index}
use Rattle.std.proofs.Common.{◌≡◌, ℕ, ◌<◌, ◌-◌, List, [], ◌∷◌, length, Some, cond, option_map, refl, sym, ap, ◌∙◌, subst, arith, get_or}
use Rattle.std.specs.Option.{option_map_or}
use Rattle.std.proofs.lemmas.Option.{slice_get-get_or}
use Rattle.kvs_model.specs.History.{after, first_store}
use Rattle.kvs_txn.specs.declared.txn.Scope.TheVariants as scope
use Rattle.kvs_rules.specs.Log.{Log}
use Rattle.kvs_rules.specs.Namespaces.{Setting, is_opened, is_primary, primary, scope_of, store_after}
use Rattle.kvs_rules.proofs.Stores.{fresh_store}
use Rattle.kvs_space.proofs.Announced.{below-newest}
use Rattle.kvs_space.specs.Sound.{IsSoundSpace}
use Rattle.kvs_space.specs.Space.{SpaceValue, begun, known_at, seen}
use Rattle.kvs_keys.specs.Agrees.{Agrees, SpaceAgrees}
use Rattle.kvs_keys.specs.Histories.{history_of}
use Rattle.kvs_keys.specs.Seen.{root_of, store_at}
use Rattle.kvs_keys.specs.Sound.{IsSound}
use Rattle.kvs_keys.specs.Value.{KeysValue}
use Rattle.kvs_keys.proofs.Heads.{head-of, opened-there}
use Rattle.kvs_keys.proofs.Landing.{given-store, primary-live, primary-there}

module _ {v : KeysValue} (s : IsSound v) (space : SpaceValue) (read : space ≡ get_or v.spaces 0 space) where
  within : 0 < length v.spaces
  within = primary-there v.spaces s.first

  sound : IsSoundSpace v.fanout v.grant space
  sound = subst (IsSoundSpace v.fanout v.grant) (sym read) (s.spaces 0 space within)

  named : space.name ≡ primary
  named =
      let some : Some space.name ≡ Some primary = ap (λ x. Some x.name) read ∙ sym (ap (option_map (λ x. x.name)) (slice_get-get_or v.spaces 0 space within)) ∙ s.first in
      cc

  history-is : history_of v ≡ space.history
  history-is = ap (λ o. option_map_or (λ x. x.history) o []) (slice_get-get_or v.spaces 0 space within) ∙ ap (λ x. x.history) (sym read)

  known-is : (broker : ℕ) → known_at v.spaces 0 broker ≡ slice_index space.known broker
  known-is broker = ap (λ o. option_map_or (λ x. slice_index x.known broker) o 0) (slice_get-get_or v.spaces 0 space within) ∙ ap (λ x. slice_index x.known broker) (sym read)

  place-is : scope_of space.name ≡ scope.Primary
  place-is = ap (λ n. scope_of n) named

  first-is : begun v.grant space.name ≡ first_store v.grant
  first-is = ap (λ n. begun v.grant n) named

  -- the store after so many landings
  root-is : (number : ℕ) → after (scope_of space.name) space.history number (begun v.grant space.name) ≡ root_of v number
  root-is number =
      ap (λ p. after p space.history number (begun v.grant space.name)) place-is
      ∙ ap (λ st. after scope.Primary space.history number st) first-is
      ∙ ap (λ ls. after scope.Primary ls number (first_store v.grant)) (sym history-is)

  -- a broker has the store after the landings that it has heard of
  pub kept-there : (broker : ℕ) → broker < v.size → store_at v broker ≡ Some (get_or space.stores broker [])
  kept-there broker low =
      let long : length space.known ≡ v.size = ap (λ x. length x.known) read ∙ s.brokers 0 space within in
      let inside : broker < length space.known = omega (arith, low, long) in
      let c : ◌≡◌ {A = ℕ} (cond space.removed 1 0) 0 = ap (λ b. cond b 1 0) (primary-live space sound.living (ap is_primary named)) in
      let b = below-newest sound.announced broker inside in
      let n = sound.newest in
      let count : slice_index space.known broker - 1 ≡ seen (slice_index space.known broker) (length space.history) = omega arith in
      ap (λ k. root_of v (k - 1)) (known-is broker)
      ∙ sym (root-is (slice_index space.known broker - 1))
      ∙ ap (λ k. after (scope_of space.name) space.history k (begun v.grant space.name)) count
      ∙ sound.replicas.each broker inside

  pub root-after : {set₀ : Setting} {log : Log} → Agrees v set₀ log → (number : ℕ) → store_after set₀ log primary number ≡ root_of v number
  root-after {set₀} {log} a number =
      let there : SpaceAgrees set₀ log v.size space = subst (SpaceAgrees set₀ log v.size) (sym read) (a.spaces 0 space within) in
      ap (λ n. store_after set₀ log n number) (sym named)
      ∙ fresh_store set₀ v.grant log space.name number a.base
      ∙ given-store (is_opened log space.name) _ (ap (λ x. is_opened log x.name) read ∙ opened-there (head-of a) 0 space within)
      ∙ ap (λ ls. after (scope_of space.name) ls number (begun v.grant space.name)) there.history
      ∙ root-is number

-- so of a service of keys, whatever its first namespace is
pub roots-are : {v : KeysValue} {set₀ : Setting} {log : Log} → IsSound v → Agrees v set₀ log → (number : ℕ) → store_after set₀ log primary number ≡ root_of v number
roots-are {v} {set₀} {log} s a number = by v.spaces refl (primary-there v.spaces s.first)
  where
    by : (spaces : List SpaceValue) → v.spaces ≡ spaces → 0 < length spaces → store_after set₀ log primary number ≡ root_of v number
    by [] e l = absurd (omega arith)
    by (x ∷ xs) e l = root-after s x (sym (ap (λ ss. get_or ss 0 x) e)) a number

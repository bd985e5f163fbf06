-- What losses and resyncs leave of a namespace.
use Rattle.std.proofs.Common.{◌≡◌, ℕ, ◌<◌, ◌≤◌, List, [], ◌∷◌, ◌++◌, length, map, Bool, true, false, refl, sym, ap, ap₂, ◌∙◌, subst, arith, get_or, set}
use Rattle.std.specs.Prelude.{if◌then◌else◌, slice_index, slice_set}
use Rattle.std.proofs.lemmas.List.{get_or-set_same}
use Rattle.kvs_rules.specs.Brokers.{parent}
use Rattle.kvs_space.specs.Links.{IsAnnounced, after_loss, greatest}
use Rattle.kvs_space.specs.Losses.{resynced, with_loss}
use Rattle.kvs_space.specs.Sound.{IsSoundSpace}
use Rattle.kvs_space.specs.Space.{SpaceValue, is_behind, link_at}
use Rattle.kvs_space.specs.declared.links.Loss.{Loss}
use Rattle.kvs_space.proofs.Announced.{greatest-push, loss-less, relinked}

-- a namespace with other announcements on the way
abbrev pub with_links : SpaceValue → List (List ℕ) → SpaceValue
with_links s links = record { name = s.name; removed = s.removed; history = s.history; known = s.known; stores = s.stores; links = links; merger = s.merger }

-- after a resync no more than the links is another, and nothing where the broker isn't behind
pub resynced-same : (fanout broker : ℕ) (s : SpaceValue) → is_behind fanout broker s ≡ false → resynced fanout broker s ≡ s
resynced-same fanout broker s e = ap (λ b. if b then with_links s (slice_set s.links broker (link_at s.links broker ++ slice_index s.known (parent fanout broker) ∷ [])) else s) e

pub resynced-links : (fanout broker : ℕ) (s : SpaceValue) → (links : List (List ℕ)) × (resynced fanout broker s ≡ with_links s links)
resynced-links fanout broker s = by (is_behind fanout broker s)
  where
    by : (b : Bool) → (links : List (List ℕ)) × ((if b then with_links s (slice_set s.links broker (link_at s.links broker ++ slice_index s.known (parent fanout broker) ∷ [])) else s) ≡ with_links s links)
    by true = (slice_set s.links broker (link_at s.links broker ++ slice_index s.known (parent fanout broker) ∷ []), refl)
    by false = (s.links, refl)

pub resynced-names : (fanout broker : ℕ) (spaces : List SpaceValue) → map (λ s. s.name) (map (resynced fanout broker) spaces) ≡ map (λ s. s.name) spaces
resynced-names fanout broker [] = refl
resynced-names fanout broker (s ∷ spaces) = ap₂ (λ n ns. n ∷ ns) (ap (λ x. x.name) (resynced-links fanout broker s).1) (resynced-names fanout broker spaces)

module _ {fanout : ℕ} {grant : List ℕ} {s : SpaceValue} (sound : IsSoundSpace fanout grant s) (broker : ℕ) where
  pub linked-sound : (links : List (List ℕ)) → IsAnnounced fanout s.known links → IsSoundSpace fanout grant (with_links s links)
  linked-sound links announced = record {
    some = sound.some;
    announced = announced;
    newest = sound.newest;
    replicas = sound.replicas;
    living = sound.living;
    fences = sound.fences;
    members = sound.members;
    posts = sound.posts;
  }

  -- with other numbers on the way to the broker
  read-link : (link : List ℕ) → broker < length s.known → link_at (set s.links broker link) broker ≡ link
  read-link link l = get_or-set_same s.links broker link [] (let n = sound.announced.same_len in omega arith)

  pub loss-sound : (l : Loss) → IsSoundSpace fanout grant (with_loss l broker s)
  loss-sound l = linked-sound (set s.links broker link) (relinked sound.announced broker link (λ above within.
      let e = ap (greatest (slice_index s.known broker)) (read-link link within) in
      let less = loss-less l (slice_index s.known broker) (link_at s.links broker) in
      let under = sound.announced.under broker above within in
      omega (arith, e, less, under)))
    where
      link : List ℕ
      link = after_loss l (link_at s.links broker)

  pub resync-sound : IsSoundSpace fanout grant (resynced fanout broker s)
  resync-sound = by (is_behind fanout broker s)
    where
      number : ℕ
      number = slice_index s.known (parent fanout broker)

      link : List ℕ
      link = link_at s.links broker ++ number ∷ []

      announced : IsAnnounced fanout s.known (set s.links broker link)
      announced = relinked sound.announced broker link (λ above within.
          let e = ap (greatest (slice_index s.known broker)) (read-link link within) in
          let more = greatest-push (slice_index s.known broker) number (link_at s.links broker) in
          let under = sound.announced.under broker above within in
          omega (arith, e, more, under))

      by : (b : Bool) → IsSoundSpace fanout grant (if b then with_links s (set s.links broker link) else s)
      by true = linked-sound (set s.links broker link) announced
      by false = sound

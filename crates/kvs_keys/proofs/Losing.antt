-- Announcements are lost, repeated or swapped, and a broker asks anew.
use Rattle.std.proofs.Common.{◌≡◌, ℕ, ◌+◌, ◌<◌, inl, inr, List, [], ◌∷◌, ◌++◌, length, map, Bool, true, false, not, ◌==◌, ◌&&◌, refl, sym, ap, ◌∙◌, subst, arith, get_or, set, length-append}
use Rattle.std.specs.Prelude.{if◌then◌else◌, nat_lt, slice_index}
use Rattle.std.specs.List.{All, count_by, list_any}
use Rattle.std.proofs.lemmas.Bool.{cases_eq}
use Rattle.std.proofs.lemmas.List.{length-map, get_or-map, get_or-set_same}
use Rattle.std.proofs.lemmas.List.Folds.{list_any_at}
use Rattle.std.proofs.lemmas.List.Sums.{sum_by-set}
use Rattle.kvs_rules.specs.Brokers.{parent}
use Rattle.kvs_rules.specs.Log.{Log}
use Rattle.kvs_rules.specs.Steps.{AreMadeBy}
use Rattle.kvs_rules.specs.declared.events.KvsStep.{KvsStep}
use Rattle.kvs_rules.specs.declared.events.KvsStep.TheVariants as kvs
use Rattle.store_laws.specs.Posts.{posts_in}
use Rattle.kvs_requests.specs.Stages.{is_on}
use Rattle.kvs_space.specs.Links.{after_loss}
use Rattle.kvs_space.specs.Losses.{resynced, with_loss}
use Rattle.kvs_space.specs.Sound.{IsSoundSpace}
use Rattle.kvs_space.specs.Space.{SpaceValue, has_news, is_behind, link_at}
use Rattle.kvs_space.specs.declared.links.Loss.{Loss}
use Rattle.kvs_space.specs.declared.links.Loss.TheVariants as loss
use Rattle.kvs_space.proofs.Announced.{parent-low}
use Rattle.kvs_space.proofs.Finding.{and-left, and-right, both-true, eq-true, lt-is, lt-true, set-all}
use Rattle.kvs_space.proofs.Losses.{loss-sound, resync-sound}
use Rattle.kvs_keys.specs.Order.{loss_step}
use Rattle.kvs_keys.specs.Sound.{IsSound}
use Rattle.kvs_keys.specs.Steps.{DoesStep, has_missed, is_announced, messages, news}
use Rattle.kvs_keys.specs.Value.{KeysValue}
use Rattle.kvs_keys.specs.Makes.{Moves}
use Rattle.kvs_keys.proofs.Extending.{as-before}
use Rattle.kvs_keys.proofs.Heard.{no-space}
use Rattle.kvs_keys.proofs.Relinking.{IsRelinked, kept-or, relinked-agrees, relinked-map, relinked-set, relinked-sound}
use Rattle.kvs_keys.proofs.Ordering.{any-at}

-- a loss tells nothing
pub loss-made : (kind : Loss) (from to : ℕ) (log : Log) → AreMadeBy log (loss_step kind from to) []
loss-made loss.Lost from to log = refl
loss-made loss.Repeated from to log = refl
loss-made loss.Swapped from to log = refl

lost-long : (link : List ℕ) → 0 < length link → length (after_loss loss.Lost link) + 1 ≡ length link
lost-long [] l = absurd (omega arith)
lost-long (n ∷ ns) l = omega arith

repeated-long : (link : List ℕ) → 0 < length link → length (after_loss loss.Repeated link) ≡ length link + 1
repeated-long [] l = absurd (omega arith)
repeated-long (n ∷ ns) l = let e = length-append ns (n ∷ []) in omega (arith, e)

swapped-long : (link : List ℕ) → 0 < length link → length (after_loss loss.Swapped link) ≡ length link
swapped-long [] l = absurd (omega arith)
swapped-long (n ∷ ns) l = let e = length-append ns (n ∷ []) in omega (arith, e)

messages-on : (w : KeysValue) (from to : ℕ) → (parent w.fanout to == from) ≡ true → messages w from to ≡ news w.spaces to + count_by (is_on from to) w.rows
messages-on w from to sender = rw sender refl

-- so many announcements are on the way then
module _ (v : KeysValue) (from to : ℕ) (sender : (parent v.fanout to == from) ≡ true) (spent : Bool)
    (k : ℕ) (within : k < length v.spaces) (old : SpaceValue) (read : old ≡ get_or v.spaces k old) (some : has_news to old ≡ true) (low : to < length old.links) where
  abbrev after : Loss → KeysValue
  after kind = record { spent = spent; size = v.size; fanout = v.fanout; grant = v.grant; spaces = set v.spaces k (with_loss kind to old); rows = v.rows }

  counted : (kind : Loss) (n : ℕ) → length (after_loss kind (link_at old.links to)) ≡ n → messages (after kind) from to + length (link_at old.links to) ≡ messages v from to + n
  counted kind n e =
      let sum = sum_by-set (λ s. length (link_at s.links to)) v.spaces k (with_loss kind to old) old within in
      let was : length (link_at (get_or v.spaces k old).links to) ≡ length (link_at old.links to) = ap (λ s. length (link_at s.links to)) (sym read) in
      let now : length (link_at (with_loss kind to old).links to) ≡ n = ap length (get_or-set_same old.links to (after_loss kind (link_at old.links to)) [] low) ∙ e in
      let one = messages-on v from to sender in
      let other = messages-on (after kind) from to sender in
      omega (arith, sum, was, now, one, other)

  pub loss-does : (kind : Loss) → DoesStep (loss_step kind from to) v (after kind) []
  loss-does loss.Lost =
      let l = lost-long (link_at old.links to) (lt-is 0 _ some) in
      let c = counted loss.Lost _ refl in
      omega (arith, l, c)
  loss-does loss.Repeated =
      let l = repeated-long (link_at old.links to) (lt-is 0 _ some) in
      let c = counted loss.Repeated _ refl in
      omega (arith, l, c)
  loss-does loss.Swapped =
      let l = swapped-long (link_at old.links to) (lt-is 0 _ some) in
      let c = counted loss.Swapped _ refl in
      omega (arith, l, c)

-- a broker that has missed something, in one namespace
pub record IsMissing (v : KeysValue) (broker : ℕ) : Type 0 where
  pub low : broker < v.size
  pub place : ℕ
  pub within : place < length v.spaces
  pub behind : (d : SpaceValue) → is_behind v.fanout broker (get_or v.spaces place d) ≡ true

pub missing : (v : KeysValue) (broker : ℕ) → has_missed v broker ≡ true → IsMissing v broker
missing v broker h =
    let at = any-at (is_behind v.fanout broker) v.spaces (and-right (nat_lt broker v.size && not (list_any (has_news broker) v.spaces)) _ h) in
    record {
      low = lt-is broker v.size (and-left _ (not (list_any (has_news broker) v.spaces)) (and-left _ (list_any (is_behind v.fanout broker) v.spaces) h));
      place = at.0;
      within = at.1;
      behind = at.2;
    }

-- rank 0 is behind nobody
behind-above : (fanout broker : ℕ) (s : SpaceValue) → is_behind fanout broker s ≡ true → 0 < broker
behind-above fanout broker s h = elim (cases_eq broker 0) [
  | inl e ↦ absurd (
      let p = parent-low fanout broker in
      let none : parent fanout broker ≡ broker = omega (arith, e) in
      let same : slice_index s.known (parent fanout broker) ≡ slice_index s.known broker = ap (slice_index s.known) none in
      let less = lt-is _ _ (and-right (nat_lt broker (length s.known)) _ h) in
      omega (arith, same, less))
  | inr ne ↦ omega (arith, ne)
]

behind-told : (fanout broker : ℕ) (s : SpaceValue) → length s.links ≡ length s.known → is_behind fanout broker s ≡ true → has_news broker (resynced fanout broker s) ≡ true
behind-told fanout broker s linked h =
    let low = lt-is broker (length s.known) (and-left _ (nat_lt (slice_index s.known broker) (slice_index s.known (parent fanout broker))) h) in
    let link = link_at s.links broker ++ slice_index s.known (parent fanout broker) ∷ [] in
    let is : resynced fanout broker s ≡ record { name = s.name; removed = s.removed; history = s.history; known = s.known; stores = s.stores; links = set s.links broker link; merger = s.merger } =
    ap (λ b. if b then record { name = s.name; removed = s.removed; history = s.history; known = s.known; stores = s.stores; links = set s.links broker link; merger = s.merger } else s) h in
    let read : link_at (set s.links broker link) broker ≡ link = get_or-set_same s.links broker link [] (omega (arith, linked, low)) in
    let long = length-append (link_at s.links broker) (slice_index s.known (parent fanout broker) ∷ []) in
    ap (has_news broker) is ∙ lt-true 0 _ (let n = ap length read in omega (arith, n, long))

-- after a resync an announcement is on the way
pub resync-does : (v : KeysValue) → IsSound v → (broker : ℕ) (spent : Bool) → has_missed v broker ≡ true
    → is_announced (record { spent = spent; size = v.size; fanout = v.fanout; grant = v.grant; spaces = map (resynced v.fanout broker) v.spaces; rows = v.rows }) (parent v.fanout broker) broker ≡ true
resync-does v s broker spent h =
    let m = missing v broker h in
    let x = get_or v.spaces m.place no-space in
    let above = behind-above v.fanout broker x (m.behind no-space) in
    let linked = (s.spaces m.place no-space m.within).announced.same_len in
    let there : m.place < length (map (resynced v.fanout broker) v.spaces) = subst (λ n. m.place < n) (sym (length-map v.spaces (resynced v.fanout broker))) m.within in
    let told : has_news broker (get_or (map (resynced v.fanout broker) v.spaces) m.place no-space) ≡ true =
    ap (has_news broker) (get_or-map (resynced v.fanout broker) v.spaces m.place no-space no-space m.within) ∙ behind-told v.fanout broker x linked (m.behind no-space) in
    both-true _ _ (both-true _ _ (both-true _ _ (lt-true 0 broker above) (lt-true broker v.size m.low)) (eq-true _ _ refl)) (list_any_at (has_news broker) (map (resynced v.fanout broker) v.spaces) m.place no-space there told)

-- ---- the steps

module _ {v : KeysValue} (s : IsSound v) where
  pub all-linked : All (λ x. length x.links ≡ length x.known) v.spaces
  all-linked k d l = (s.spaces k d l).announced.same_len

  linked : (k : ℕ) (d : SpaceValue) → k < length v.spaces → length (get_or v.spaces k d).links ≡ v.size
  linked k d l = all-linked k d l ∙ s.brokers k d l

  module _ (spaces : List SpaceValue) (r : IsRelinked v.spaces spaces) where
    -- other announcements alone are on the way
    relinked-moves : (step : KvsStep) → DoesStep step v (record { spent = false; size = v.size; fanout = v.fanout; grant = v.grant; spaces = spaces; rows = v.rows }) []
        → Moves step v (record { spent = false; size = v.size; fanout = v.fanout; grant = v.grant; spaces = spaces; rows = v.rows })
    relinked-moves step does = record {
      ready = refl;
      size = refl;
      order = kept-or r (λ x. posts_in x.merger.ready) (λ x ls. refl) 0 [];
      extends = record { history = as-before (kept-or r (λ x. x.history) (λ x ls. refl) 0 []); inside = refl; grant = refl; fanout = refl };
      does = does;
      agrees = λ set log a. relinked-agrees spaces r false a;
    }

  -- a loss in one namespace
  module _ (k : ℕ) (within : k < length v.spaces) (old : SpaceValue) (read : old ≡ get_or v.spaces k old) (kind : Loss) (to : ℕ) where
    pub lost-sound : (spent : Bool) → IsSound (record { spent = spent; size = v.size; fanout = v.fanout; grant = v.grant; spaces = set v.spaces k (with_loss kind to old); rows = v.rows })
    lost-sound spent = relinked-sound (set v.spaces k (with_loss kind to old)) (relinked-set v.spaces k old _ within read) spent s
        (set-all (IsSoundSpace v.fanout v.grant) v.spaces k (with_loss kind to old) (loss-sound (subst (IsSoundSpace v.fanout v.grant) (sym read) (s.spaces k old within)) to kind) (λ j d l ne. s.spaces j d l))

  pub linked-low : (k : ℕ) → k < length v.spaces → (old : SpaceValue) → old ≡ get_or v.spaces k old → (to : ℕ) → to < v.size → to < length old.links
  linked-low k within old read to low = subst (λ n. to < n) (sym (ap (λ x. length x.links) read ∙ linked k old within)) low

  pub lost-moves : (k : ℕ) (within : k < length v.spaces) (old : SpaceValue) (read : old ≡ get_or v.spaces k old) (kind : Loss) (from to : ℕ) → (parent v.fanout to == from) ≡ true → to < v.size → has_news to old ≡ true
      → Moves (loss_step kind from to) v (record { spent = false; size = v.size; fanout = v.fanout; grant = v.grant; spaces = set v.spaces k (with_loss kind to old); rows = v.rows })
  lost-moves k within old read kind from to sender low some =
      relinked-moves (set v.spaces k (with_loss kind to old)) (relinked-set v.spaces k old _ within read) (loss_step kind from to)
      (loss-does v from to sender false k within old read some (linked-low k within old read to low) kind)

  -- a resync
  module _ (broker : ℕ) where
    pub resynced-sound : (spent : Bool) → IsSound (record { spent = spent; size = v.size; fanout = v.fanout; grant = v.grant; spaces = map (resynced v.fanout broker) v.spaces; rows = v.rows })
    resynced-sound spent = relinked-sound (map (resynced v.fanout broker) v.spaces) (relinked-map v.fanout broker v.spaces) spent s
        (λ k d l.
        let inside : k < length v.spaces = subst (λ n. k < n) (length-map v.spaces (resynced v.fanout broker)) l in
        subst (IsSoundSpace v.fanout v.grant) (sym (get_or-map (resynced v.fanout broker) v.spaces k d d inside)) (resync-sound (s.spaces k d inside) broker))

    pub resynced-moves : has_missed v broker ≡ true → Moves (kvs.Resync broker) v (record { spent = false; size = v.size; fanout = v.fanout; grant = v.grant; spaces = map (resynced v.fanout broker) v.spaces; rows = v.rows })
    resynced-moves h = relinked-moves (map (resynced v.fanout broker) v.spaces) (relinked-map v.fanout broker v.spaces) (kvs.Resync broker) (resync-does v s broker false h)

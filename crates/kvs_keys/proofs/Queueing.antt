-- The job manager's transactions that wait, through the steps of a service of keys.
use Rattle.std.proofs.Common.{◌≡◌, ◌≢◌, ℕ, zero, suc, ◌-◌, ◌<◌, inl, inr, List, [], ◌∷◌, ◌++◌, length, Bool, true, false, Some, Option, option_map, if◌then◌else◌, refl, sym, ap, ◌∙◌, subst, get_or, set, append-nil}
use Rattle.std.specs.Prelude.{flat_map, nat_lt, slice_get}
use Rattle.std.specs.List.{AllByRecursion as Each}
use Rattle.std.specs.Option.{option_map_or}
use Rattle.std.proofs.lemmas.Option.{slice_get-get_or}
use Rattle.std.specs.Cmp.Lexicographic.{bytes_decides}
use Rattle.kvs_txn.specs.declared.answers.Refusal.{Refusal}
use Rattle.kvs_txn.specs.declared.txn.Group.{Group}
use Rattle.kvs_model.specs.Store.{Name}
use Rattle.kvs_rules.specs.Landings.{IsUser}
use Rattle.kvs_rules.specs.Namespaces.{primary}
use Rattle.kvs_rules.specs.declared.events.KvsEvent.{KvsEvent}
use Rattle.kvs_rules.specs.declared.events.KvsEvent.TheVariants as event
use Rattle.store_laws.specs.Posts.{is_manager, posts_in}
use Rattle.kvs_keys.specs.Posted.{LandsUsers, groups_in, posts_landed}
use Rattle.kvs_space.specs.Rulings.{IsLanding, IsRefusing}
use Rattle.kvs_space.specs.Sound.{ArePosted, IsSoundSpace}
use Rattle.kvs_keys.specs.Sound.{IsSound}
use Rattle.kvs_space.specs.Space.{SpaceValue}
use Rattle.kvs_space.specs.Told.{hearing, landing, denial}
use Rattle.kvs_keys.specs.Value.{KeysValue}
use Rattle.kvs_keys.proofs.Delivering.{other-names}
use Rattle.kvs_keys.proofs.Landing.{primary-there}
use Rattle.kvs_space.proofs.Posting.{is-user, no-manager, none-left, none-right, posts-append, with-post, with-user}
use Rattle.kvs_keys.proofs.Respacing.{get-other, get-here, got-here}

abbrev pub posts-at : Option SpaceValue → List Group
posts-at o = option_map_or (λ s. posts_in s.merger.ready) o []

-- those that a service of keys with this table has
abbrev pub waiting-posts : List SpaceValue → List Group
waiting-posts spaces = posts-at (slice_get spaces 0)

-- one namespace has changed: in `primary` these went from the front, and elsewhere none did
module _ (spaces : List SpaceValue) (old new : SpaceValue) (name : new.name ≡ old.name) (front : List Group) where
  pub posts-moved : (k : ℕ) → k < length spaces → old ≡ get_or spaces k old → front ++ posts_in new.merger.ready ≡ posts_in old.merger.ready → (k ≢ 0 → front ≡ [])
      → front ++ waiting-posts (set spaces k new) ≡ waiting-posts spaces
  posts-moved zero within read here other =
      ap (λ o. front ++ posts-at o) (get-here spaces 0 within old new read name) ∙ here ∙ sym (ap posts-at (got-here spaces 0 within old new read name))
  posts-moved (suc k) within read here other =
      ap (λ xs. xs ++ waiting-posts (set spaces (suc k) new)) (other (λ e. cc)) ∙ ap posts-at (get-other spaces (suc k) within old new read name 0 (λ e. cc))

-- none waits in a namespace other than `primary`
pub elsewhere : {v : KeysValue} → IsSound v → (k : ℕ) → k < length v.spaces → (old : SpaceValue) → old ≡ get_or v.spaces k old → k ≢ 0 → posts_in old.merger.ready ≡ []
elsewhere {v} s k within old read ne = by (subst (IsSoundSpace v.fanout v.grant) (sym read) (s.spaces k old within)).posts
  where
    by : ArePosted old.name old.merger.ready (get_or old.stores 0 []) → posts_in old.merger.ready ≡ []
    by (inl here) =
        let low = primary-there v.spaces s.first in
        let first : (get_or v.spaces 0 old).name ≡ primary =
        (let n : Some (get_or v.spaces 0 old).name ≡ Some primary = sym (ap (option_map (λ x. x.name)) (slice_get-get_or v.spaces 0 old low)) ∙ s.first in cc) in
        absurd (other-names v.spaces s.apart k within 0 old low (λ e. ne (sym e)) (first ∙ sym (ap (λ x. x.name) (sym read) ∙ (bytes_decides old.name primary).0 here.0)))
    by (inr h) = h.1

module _ {v : KeysValue} (s : IsSound v) (k : ℕ) (within : k < length v.spaces) (old new : SpaceValue) (read : old ≡ get_or v.spaces k old) where
  -- a landing takes the manager's transactions from the front
  pub landed-order : (number : ℕ) (groups : List Group) → IsLanding number groups old new → (events : List KvsEvent) → events ≡ landing old.name number groups
      → posts_landed events ++ waiting-posts (set v.spaces k new) ≡ waiting-posts v.spaces
  landed-order number groups h events told =
      let queue : posts_in groups ++ posts_in new.merger.ready ≡ posts_in old.merger.ready = sym (posts-append groups new.merger.ready) ∙ ap posts_in (sym h.queue) in
      subst (λ es. posts_landed es ++ waiting-posts (set v.spaces k new) ≡ waiting-posts v.spaces) (sym told)
      (subst (λ gs. posts_in gs ++ waiting-posts (set v.spaces k new) ≡ waiting-posts v.spaces) (sym (append-nil groups))
      (posts-moved v.spaces old new h.name (posts_in groups) k within read queue
      (λ ne. none-left (posts_in groups) (posts_in new.merger.ready) (queue ∙ elsewhere s k within old read ne))))

  -- a transaction that is refused is a user's
  pub denied-order : (group : Group) (refusal : Refusal) → IsRefusing group refusal old new → (events : List KvsEvent) → events ≡ denial old.name group refusal
      → posts_landed events ++ waiting-posts (set v.spaces k new) ≡ waiting-posts v.spaces
  denied-order group refusal h events told =
      subst (λ es. posts_landed es ++ waiting-posts (set v.spaces k new) ≡ waiting-posts v.spaces) (sym told)
      (posts-moved v.spaces old new h.name [] k within read (sym (with-user group new.merger.ready (no-manager group.txn.author h.user)) ∙ ap posts_in (sym h.queue)) (λ _. refl))

  -- a hearing leaves what waits
  pub heard-order : new.name ≡ old.name → new.merger ≡ old.merger → (broker : ℕ) (name : Name) (before after : ℕ) (events : List KvsEvent) → events ≡ hearing broker name before after
      → posts_landed events ++ waiting-posts (set v.spaces k new) ≡ waiting-posts v.spaces
  heard-order name-is merger broker name before after events told =
      subst (λ es. posts_landed es ++ waiting-posts (set v.spaces k new) ≡ waiting-posts v.spaces) (sym told)
      (subst (λ gs. gs ++ waiting-posts (set v.spaces k new) ≡ waiting-posts v.spaces) (sym (nothing (nat_lt before after)))
      (posts-moved v.spaces old new name-is [] k within read (ap (λ m. posts_in m.ready) merger) (λ _. refl)))
    where
      nothing : (b : Bool) → posts_landed (if b then event.Heard broker name (after - 1) ∷ [] else []) ≡ []
      nothing true = refl
      nothing false = refl

users-of : (gs : List Group) → posts_in gs ≡ [] → Each (λ g. IsUser g.txn.author) gs
users-of [] none = tt
users-of (g ∷ gs) none = by (λ rest. users-of gs rest) (is_manager g.txn.author) refl
  where
    by : (posts_in gs ≡ [] → Each (λ x. IsUser x.txn.author) gs) → (b : Bool) → is_manager g.txn.author ≡ b → IsUser g.txn.author × Each (λ x. IsUser x.txn.author) gs
    by more true m = (let wrong : g ∷ posts_in gs ≡ [] = sym (with-post g gs m) ∙ none in cc)
    by more false m = (is-user g.txn.author m, more (sym (with-user g gs m) ∙ none))

lands-all : (events : List KvsEvent) → posts_landed events ≡ [] → Each LandsUsers events
lands-all [] none = tt
lands-all (e ∷ es) none =
    let both : posts_in (groups_in e) ++ posts_landed es ≡ [] = sym (posts-append (groups_in e) (flat_map groups_in es)) ∙ none in
    (users-of (groups_in e) (none-left (posts_in (groups_in e)) (posts_landed es) both), lands-all es (none-right (posts_in (groups_in e)) (posts_landed es) both))

-- where none of the manager's transactions waits, users' alone land
pub lands-users : (events : List KvsEvent) (left : List Group) → posts_landed events ++ left ≡ [] → Each LandsUsers events
lands-users events left none = lands-all events (none-left (posts_landed events) left none)

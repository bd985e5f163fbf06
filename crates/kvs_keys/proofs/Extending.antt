-- The landings of `primary`, through the steps of a service of keys.
use Rattle.std.proofs.Common.{◌≡◌, ◌≢◌, ℕ, zero, suc, ◌-◌, ◌<◌, List, [], ◌∷◌, ◌++◌, length, Bool, true, false, cond, Some, None, Option, option_map, if◌then◌else◌, refl, sym, ap, ◌∙◌, subst, get_or, set, append-nil, arith}
use Rattle.std.specs.Prelude.{flat_map, nat_lt, slice_get, slice_index}
use Rattle.std.specs.List.{cons_option}
use Rattle.std.specs.Option.{option_map_or}
use Rattle.std.specs.Cmp.Lexicographic.{bytes_decides}
use Rattle.std.proofs.lemmas.Option.{slice_get-get_or}
use Rattle.kvs_txn.specs.declared.txn.By.{By}
use Rattle.kvs_txn.specs.declared.txn.Group.{Group}
use Rattle.kvs_txn.specs.declared.txn.Scope.TheVariants as scope
use Rattle.kvs_txn.specs.declared.answers.Refusal.{Refusal}
use Rattle.kvs_model.specs.Store.{Name, empty_store}
use Rattle.kvs_model.specs.History.{after, first_store}
use Rattle.kvs_rules.specs.declared.events.KvsEvent.{KvsEvent}
use Rattle.kvs_rules.specs.declared.events.KvsEvent.TheVariants as event
use Rattle.kvs_rules.specs.Namespaces.{is_primary, primary, scope_of}
use Rattle.kvs_space.specs.Rulings.{IsLanding, IsRefusing}
use Rattle.kvs_space.specs.Sound.{IsSoundSpace}
use Rattle.kvs_space.specs.Space.{SpaceValue, begun, seen}
use Rattle.kvs_space.specs.Told.{changing, denial, hearing, landed_so, landing}
use Rattle.kvs_keys.specs.Histories.{history_of, landings_in}
use Rattle.kvs_keys.specs.Posted.{newest_of, posts_landed}
use Rattle.store_laws.specs.Posts.{posts_in}
use Rattle.kvs_space.proofs.Posting.{none-left, posts-append}
use Rattle.kvs_keys.proofs.Queueing.{elsewhere}
use Rattle.kvs_rules.specs.Landings.{names_of}
use Rattle.kvs_keys.specs.Sound.{IsSound}
use Rattle.kvs_keys.specs.Value.{KeysValue}
use Rattle.kvs_keys.proofs.Landing.{primary-live, primary-there}
use Rattle.kvs_keys.proofs.Opening.{get-there}
use Rattle.kvs_keys.proofs.Removing.{other-primary}
use Rattle.kvs_keys.proofs.Respacing.{get-here, get-other, got-here}

abbrev history-at : Option SpaceValue → List (List Group)
history-at o = option_map_or (λ s. s.history) o []

-- those that a service of keys with this table has made
abbrev pub history-in : List SpaceValue → List (List Group)
history-in spaces = option_map_or (λ s. s.history) (slice_get spaces 0) []

-- one namespace has changed: `primary` by these landings, or another
module _ (spaces : List SpaceValue) (old new : SpaceValue) (name : new.name ≡ old.name) (told : List (List Group)) where
  pub history-moved : (k : ℕ) → k < length spaces → old ≡ get_or spaces k old → (k ≡ 0 → new.history ≡ old.history ++ told) → (k ≢ 0 → told ≡ [])
      → history-in (set spaces k new) ≡ history-in spaces ++ told
  history-moved zero within read here other =
      ap history-at (get-here spaces 0 within old new read name) ∙ here refl ∙ ap (λ o. history-at o ++ told) (sym (got-here spaces 0 within old new read name))
  history-moved (suc k) within read here other =
      ap history-at (get-other spaces (suc k) within old new read name 0 (λ e. cc))
      ∙ sym (append-nil (history-in spaces)) ∙ ap (λ ls. history-in spaces ++ ls) (sym (other (λ e. cc)))

-- a change that leaves its landings
pub history-same : (spaces : List SpaceValue) (k : ℕ) → k < length spaces → (old new : SpaceValue) → old ≡ get_or spaces k old → new.name ≡ old.name → new.history ≡ old.history
    → history-in (set spaces k new) ≡ history-in spaces ++ []
history-same spaces k within old new read name same = history-moved spaces old new name [] k within read (λ _. same ∙ sym (append-nil old.history)) (λ _. refl)

pub history-wide : (spaces : List SpaceValue) (new : SpaceValue) → 0 < length spaces → history-in (spaces ++ new ∷ []) ≡ history-in spaces ++ []
history-wide spaces new l = ap history-at (get-there spaces new 0 l) ∙ sym (append-nil (history-in spaces))

-- ---- what is told

abbrev told-by : Bool → List Group → List (List Group)
told-by b groups = if b then groups ∷ [] else []

landed-told : (name : Name) (number : ℕ) (authors : List (Option By)) (groups : List Group) (b : Bool) → is_primary name ≡ b → landings_in (landed_so name number authors groups) ≡ told-by b groups
landed-told name number authors groups true e = ap (λ b. cons_option (if b then Some groups else None) []) e
landed-told name number authors groups false e = ap (λ b. cons_option (if b then Some groups else None) []) e

pub changing-told : (name : Name) (number : ℕ) (by : By) → is_primary name ≡ false → landings_in (changing name number by) ≡ []
changing-told name number by other = landed-told name number (Some by ∷ []) [] false other

hearing-told : (broker : ℕ) (name : Name) (before after : ℕ) → landings_in (hearing broker name before after) ≡ []
hearing-told broker name before after = at (nat_lt before after)
  where
    at : (b : Bool) → landings_in (if b then event.Heard broker name (after - 1) ∷ [] else []) ≡ []
    at true = refl
    at false = refl

-- the job manager's that land are those that land in `primary`
abbrev pub Inside : List KvsEvent → Type 0
Inside events = posts_landed events ≡ posts_in (flat_map (λ groups. groups) (landings_in events))

pub hearing-inside : (broker : ℕ) (name : Name) (before after : ℕ) → Inside (hearing broker name before after)
hearing-inside broker name before after = at (nat_lt before after)
  where
    at : (b : Bool) → Inside (if b then event.Heard broker name (after - 1) ∷ [] else [])
    at true = refl
    at false = refl

pub changing-inside : (name : Name) (number : ℕ) (by : By) → is_primary name ≡ false → Inside (changing name number by)
changing-inside name number by other = ap (λ ls. posts_in (flat_map (λ groups. groups) ls)) (sym (changing-told name number by other))

-- ---- the steps

first-primary : {v : KeysValue} → IsSound v → (old : SpaceValue) → old ≡ get_or v.spaces 0 old → is_primary old.name ≡ true
first-primary {v} s old read =
    let named : Some old.name ≡ Some primary = ap (λ x. Some x.name) read ∙ sym (ap (option_map (λ x. x.name)) (slice_get-get_or v.spaces 0 old (primary-there v.spaces s.first))) ∙ s.first in
    (bytes_decides old.name primary).1 (let e : old.name ≡ primary = cc in e)

module _ {v : KeysValue} (s : IsSound v) (k : ℕ) (within : k < length v.spaces) (old new : SpaceValue) (read : old ≡ get_or v.spaces k old) where
  pub landed-history : (number : ℕ) (groups : List Group) → IsLanding number groups old new → (events : List KvsEvent) → events ≡ landing old.name number groups
      → history-in (set v.spaces k new) ≡ history-in v.spaces ++ landings_in events
  landed-history number groups h events told = by k refl
    where
      by : (j : ℕ) → k ≡ j → history-in (set v.spaces k new) ≡ history-in v.spaces ++ landings_in events
      by zero e =
          let is = first-primary s old (read ∙ ap (λ j. get_or v.spaces j old) e) in
          history-moved v.spaces old new h.name (groups ∷ []) k within read (λ _. h.history) (λ ne. absurd (ne e))
          ∙ ap (λ ls. history-in v.spaces ++ ls) (sym (ap landings_in told ∙ landed-told old.name number (names_of groups) groups true is))
      by (suc j) e =
          let is = other-primary s k within (omega arith) old read in
          history-moved v.spaces old new h.name [] k within read (λ z. absurd (omega arith)) (λ _. refl)
          ∙ ap (λ ls. history-in v.spaces ++ ls) (sym (ap landings_in told ∙ landed-told old.name number (names_of groups) groups false is))

  pub landed-inside : (number : ℕ) (groups : List Group) → IsLanding number groups old new → (events : List KvsEvent) → events ≡ landing old.name number groups → Inside events
  landed-inside number groups h events told = subst Inside (sym told) (by k refl)
    where
      by : (j : ℕ) → k ≡ j → Inside (landing old.name number groups)
      by zero e =
          let is = first-primary s old (read ∙ ap (λ j. get_or v.spaces j old) e) in
          ap (λ ls. posts_in (flat_map (λ gs. gs) ls)) (sym (landed-told old.name number (names_of groups) groups true is))
      by (suc j) e =
          let is = other-primary s k within (omega arith) old read in
          let queue : posts_in groups ++ posts_in new.merger.ready ≡ posts_in old.merger.ready = sym (posts-append groups new.merger.ready) ∙ ap posts_in (sym h.queue) in
          let none : posts_in groups ≡ [] = none-left (posts_in groups) (posts_in new.merger.ready) (queue ∙ elsewhere s k within old read (λ z. absurd (omega arith))) in
          ap posts_in (append-nil groups) ∙ none ∙ ap (λ ls. posts_in (flat_map (λ gs. gs) ls)) (sym (landed-told old.name number (names_of groups) groups false is))

  pub denied-history : (group : Group) (refusal : Refusal) → IsRefusing group refusal old new → (events : List KvsEvent) → events ≡ denial old.name group refusal
      → history-in (set v.spaces k new) ≡ history-in v.spaces ++ landings_in events
  denied-history group refusal h events told =
      history-same v.spaces k within old new read h.name h.history ∙ ap (λ ls. history-in v.spaces ++ ls) (sym (ap landings_in told))

  pub heard-history : new.name ≡ old.name → new.history ≡ old.history → (broker : ℕ) (name : Name) (before after : ℕ) (events : List KvsEvent) → events ≡ hearing broker name before after
      → history-in (set v.spaces k new) ≡ history-in v.spaces ++ landings_in events
  heard-history name-is same broker name before after events told =
      history-same v.spaces k within old new read name-is same ∙ ap (λ ls. history-in v.spaces ++ ls) (sym (ap landings_in told ∙ hearing-told broker name before after))

-- the store of `primary` is that after its landings
pub history-kept : {v : KeysValue} → IsSound v → after scope.Primary (history_of v) (length (history_of v)) (first_store v.grant) ≡ Some (newest_of v)
history-kept {v} s = by v.spaces refl (primary-there v.spaces s.first)
  where
    Kept : List SpaceValue → Type 0
    Kept spaces = after scope.Primary (history-in spaces) (length (history-in spaces)) (first_store v.grant) ≡ Some (option_map_or (λ x. get_or x.stores 0 []) (slice_get spaces 0) [])

    by : (spaces : List SpaceValue) → v.spaces ≡ spaces → 0 < length spaces → Kept v.spaces
    by [] e l = absurd (omega arith)
    by (x ∷ xs) e l =
        let read : x ≡ get_or v.spaces 0 x = sym (ap (λ ss. get_or ss 0 x) e) in
        let within = primary-there v.spaces s.first in
        let sound : IsSoundSpace v.fanout v.grant x = subst (IsSoundSpace v.fanout v.grant) (sym read) (s.spaces 0 x within) in
        let is = first-primary s x read in
        let c : ◌≡◌ {A = ℕ} (cond x.removed 1 0) 0 = ap (λ b. cond b 1 0) (primary-live x sound.living is) in
        let n = sound.newest in
        let count : length x.history ≡ seen (slice_index x.known 0) (length x.history) = omega arith in
        let place : scope_of x.name ≡ scope.Primary = ap (λ b. if b then scope.Primary else scope.Other) is in
        let first : begun v.grant x.name ≡ first_store v.grant = ap (λ b. cond b (first_store v.grant) empty_store) is in
        let at : after scope.Primary x.history (length x.history) (first_store v.grant) ≡ Some (get_or x.stores 0 []) =
        ap (λ n. after scope.Primary x.history n (first_store v.grant)) count
        ∙ ap (λ st. after scope.Primary x.history (seen (slice_index x.known 0) (length x.history)) st) (sym first)
        ∙ ap (λ p. after p x.history (seen (slice_index x.known 0) (length x.history)) (begun v.grant x.name)) (sym place)
        ∙ sound.replicas.each 0 sound.some in
        subst Kept (sym e) at

-- ---- from a service's fields to its value

pub as-before : {now before : List (List Group)} → now ≡ before → now ≡ before ++ []
as-before {now} {before} e = e ∙ sym (append-nil before)

pub of-old : {inside old : KeysValue} {now : List (List Group)} (told : List (List Group)) → inside ≡ old → now ≡ history_of inside ++ told → now ≡ history_of old ++ told
of-old told is e = e ∙ ap (λ v. history_of v ++ told) is

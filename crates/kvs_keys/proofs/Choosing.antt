-- The step that is made next is the first that can be made.
use Rattle.std.proofs.Common.{◌≡◌, ℕ, ◌<◌, ◌⊎◌, inl, inr, ◌||◌, ◌==◌, List, [], ◌++◌, length, map, Bool, true, false, Option, Some, None, refl, sym, ap, ◌∙◌, subst, arith, true≢false, get_or}
use Rattle.std.specs.Prelude.{slice_get, flat_map, nat_lt}
use Rattle.std.specs.List.{filter, list_any, position, range_with_len}
use Rattle.std.specs.Option.{option_map_or}
use Rattle.std.proofs.lemmas.Option.{slice_get_cases, slice_get_within}
use Rattle.std.proofs.lemmas.List.Quantifiers.{position-Some}
use Rattle.kvs_rules.specs.declared.events.KvsStep.{KvsStep}
use Rattle.kvs_rules.specs.declared.events.KvsStep.TheVariants as kvs
use Rattle.kvs_keys.specs.declared.order.Hop.{Hop}
use Rattle.kvs_requests.specs.declared.rows.Row.{Row}
use Rattle.kvs_requests.specs.declared.rows.Work.TheVariants as work
use Rattle.kvs_requests.specs.declared.rows.Stage.{Stage}
use Rattle.kvs_requests.specs.declared.rows.Stage.TheVariants as stage
use Rattle.kvs_keys.specs.Order.{IsAnnouncing, Leads, possible}
use Rattle.kvs_requests.specs.Rows.{AtPlace}
use Rattle.kvs_keys.specs.Sound.{IsSound}
use Rattle.kvs_space.specs.Space.{SpaceValue, has_news, is_behind, is_ready}
use Rattle.kvs_rules.specs.Brokers.{parent}
use Rattle.kvs_keys.specs.Steps.{can_step, is_announced}
use Rattle.kvs_requests.specs.Stages.{is_message, is_on}
use Rattle.kvs_keys.specs.Value.{KeysValue}
use Rattle.kvs_space.proofs.Announced.{parent-below}
use Rattle.kvs_keys.proofs.Delivering.{coming}
use Rattle.kvs_requests.proofs.Ways.{parent-le}
use Rattle.kvs_space.proofs.Finding.{and-left, and-right, both-true, eq-is, eq-true, found-passes, found-within, lt-is, lt-true, false-or-else, or-left}
use Rattle.kvs_space.proofs.Rolls.{none-before}
use Rattle.kvs_keys.proofs.Ordering.{any-at, first-behind, first-front, first-link, first-range, no-link, none-of}

-- a message is between brokers of the tree
on-within : (fanout size : ℕ) (spaces : List SpaceValue) (from to : ℕ) (st : Stage) → is_message from to st ≡ true → AtPlace fanout size spaces st → (from < size) × (to < size)
on-within fanout size spaces from to (stage.Rising a b asked) h at =
    let p : b < a = subst (λ n. n < a) (sym at.1) (parent-below fanout a at.0) in
    let e = eq-is a from (and-left (a == from) _ h) in
    let f = eq-is b to (and-right (a == from) _ h) in
    (omega (arith, at), omega (arith, at))
on-within fanout size spaces from to (stage.Falling a b given) h at =
    let p : a < b = subst (λ n. n < b) (sym at.1) (parent-below fanout b at.0) in
    let e = eq-is a from (and-left (a == from) _ h) in
    let f = eq-is b to (and-right (a == from) _ h) in
    (omega (arith, at), omega (arith, at))
on-within fanout size spaces from to (stage.Returning a b space asked) h at =
    let p : a < b = subst (λ n. n < b) (sym at.1) (parent-below fanout b at.0) in
    let e = eq-is a from (and-left (a == from) _ h) in
    let f = eq-is b to (and-right (a == from) _ h) in
    (omega (arith, at), omega (arith, at))
on-within fanout size spaces from to _ h at = cc

-- the search of a link found the first that can be used
pub record IsFirstHop (v : KeysValue) (found : Option Hop) : Type 0 where
  pub news : (to : ℕ) → 0 < to → to < v.size → list_any (has_news to) v.spaces ≡ true → Leads found (parent v.fanout to) to
  pub carried : (from to : ℕ) → list_any (is_on from to) v.rows ≡ true → Leads found from to

leads : (v : KeysValue) (found : Option Hop) → IsFirstHop v found → (from to : ℕ) → can_step v (kvs.Deliver from to) ≡ true → Leads found from to
leads v found is from to h = by (is_announced v from to) refl
  where
    by : (b : Bool) → is_announced v from to ≡ b → Leads found from to
    by true e = let c = coming v from to e in subst (λ x. Leads found x to) (eq-is _ _ c.sender) (is.news to c.above c.within c.some)
    by false e = is.carried from to (sym (false-or-else (is_announced v from to) _ e) ∙ h)

parent-within : (fanout to size : ℕ) → to < size → parent fanout to < size
parent-within fanout to size l = let p = parent-le fanout to in omega arith

pub within : (v : KeysValue) → IsSound v → (from to : ℕ) → can_step v (kvs.Deliver from to) ≡ true → (from < v.size) × (to < v.size)
within v sound from to h = by (is_announced v from to) refl
  where
    by : (b : Bool) → is_announced v from to ≡ b → (from < v.size) × (to < v.size)
    by true e =
        let c = coming v from to e in
        (subst (λ x. x < v.size) (eq-is _ _ c.sender) (parent-within v.fanout to v.size c.within), c.within)
    by false e =
        let at = any-at (is_on from to) v.rows (sym (false-or-else (is_announced v from to) _ e) ∙ h) in
        on-within v.fanout v.size v.spaces from to (row at.0).stage (at.2 any) (sound.placed at.0 any at.1).place
      where
        any : Row
        any = record { by = record { actor = 0; command = 0 }; broker = 0; namespace = []; need = 0; stage = stage.Joined 0 work.Commit }

        row : ℕ → Row
        row k = get_or v.rows k any

delivers : (v : KeysValue) (from to : ℕ) → ((to < v.size) × IsAnnouncing v.fanout v.spaces from to) ⊎ (list_any (is_on from to) v.rows ≡ true) → can_step v (kvs.Deliver from to) ≡ true
delivers v from to (inl h) = rw announced refl
  where
    announced : is_announced v from to ≡ true
    announced = both-true _ _ (both-true _ _ (both-true _ _ (lt-true 0 to h.1.above) (lt-true to v.size h.0)) (eq-true _ _ h.1.sender)) h.1.some
delivers v from to (inr h) = by (is_announced v from to)
  where
    by : (b : Bool) → (b || list_any (is_on from to) v.rows) ≡ true
    by true = refl
    by false = h

no-delivery : (v : KeysValue) → IsFirstHop v None → (from to : ℕ) → can_step v (kvs.Deliver from to) ≡ false
no-delivery v is from to = by (can_step v (kvs.Deliver from to)) refl
  where
    by : (b : Bool) → can_step v (kvs.Deliver from to) ≡ b → can_step v (kvs.Deliver from to) ≡ false
    by false e = e
    by true e = absurd (leads v None is from to e)

-- the namespace in which something is ready first is the first that can land
test-passes : (p : SpaceValue → Bool) (spaces : List SpaceValue) (k : ℕ) → k < length spaces → ((d : SpaceValue) → p (get_or spaces k d) ≡ true) → option_map_or p (slice_get spaces k) false ≡ true
test-passes p spaces k l h = elim ((slice_get_cases spaces k).1) [
  | inl c ↦ ap (λ o. option_map_or p o false) c.2 ∙ ap p (sym c.3) ∙ h c.0
  | inr q ↦ absurd (let m = q.0 in omega arith)
]

test-fails : (p : SpaceValue → Bool) (spaces : List SpaceValue) (k : ℕ) → ((d : SpaceValue) → k < length spaces → p (get_or spaces k d) ≡ false) → option_map_or p (slice_get spaces k) false ≡ false
test-fails p spaces k h = elim ((slice_get_cases spaces k).1) [
  | inl c ↦ ap (λ o. option_map_or p o false) c.2 ∙ ap p (sym c.3) ∙ h c.0 c.1
  | inr q ↦ ap (λ o. option_map_or p o false) q.1
]

pub ready-lands : (v : KeysValue) (k : ℕ) → Some k ≡ position is_ready v.spaces → can_step v (kvs.Land k) ≡ true
ready-lands v k e = test-passes is_ready v.spaces k (found-within is_ready v.spaces k e) (λ d. found-passes is_ready v.spaces k d e)

pub ready-first : (v : KeysValue) (k : ℕ) → Some k ≡ position is_ready v.spaces → (lower : ℕ) → lower < k → can_step v (kvs.Land lower) ≡ false
ready-first v k e lower h = test-fails is_ready v.spaces lower (λ d l. (position-Some is_ready v.spaces k d (sym e)).2 lower h)

pub unready-none : (v : KeysValue) → None ≡ position is_ready v.spaces → (number : ℕ) → can_step v (kvs.Land number) ≡ false
unready-none v e number = test-fails is_ready v.spaces number (λ d l. none-before is_ready v.spaces (sym e) number d l)

-- the parts of the list of all steps
abbrev links : KeysValue → List KvsStep
links v = flat_map (λ x. map (kvs.Deliver x) (range_with_len 0 v.size)) (range_with_len 0 v.size)

abbrev services : KeysValue → List KvsStep
services v = map kvs.Serve (range_with_len 0 v.size)

abbrev landings : KeysValue → List KvsStep
landings v = map kvs.Land (range_with_len 0 (length v.spaces))

abbrev resyncs : KeysValue → List KvsStep
resyncs v = map kvs.Resync (range_with_len 0 v.size)

abbrev behind-links : KeysValue → List KvsStep
behind-links v = services v ++ (landings v ++ resyncs v)

past-links : (v : KeysValue) → IsFirstHop v None → slice_get (possible v) 0 ≡ slice_get (filter (can_step v) (behind-links v)) 0
past-links v is = first-behind (can_step v) (links v) (behind-links v) (no-link (can_step v) (no-delivery v is) (range_with_len 0 v.size) (range_with_len 0 v.size))

past-services : (v : KeysValue) → ((broker : ℕ) → can_step v (kvs.Serve broker) ≡ false) → slice_get (filter (can_step v) (behind-links v)) 0 ≡ slice_get (filter (can_step v) (landings v ++ resyncs v)) 0
past-services v unserved = first-behind (can_step v) (services v) (landings v ++ resyncs v) (none-of (can_step v) kvs.Serve unserved (range_with_len 0 v.size))

past-landings : (v : KeysValue) → ((number : ℕ) → can_step v (kvs.Land number) ≡ false) → slice_get (filter (can_step v) (landings v ++ resyncs v)) 0 ≡ slice_get (filter (can_step v) (resyncs v)) 0
past-landings v unlanded = first-behind (can_step v) (landings v) (resyncs v) (none-of (can_step v) kvs.Land unlanded (range_with_len 0 (length v.spaces)))

-- a delivery is made before all else
pub delivery-first : (v : KeysValue) → IsSound v → (hop : Hop) → IsFirstHop v (Some hop) → ((hop.to < v.size) × IsAnnouncing v.fanout v.spaces hop.from hop.to) ⊎ (list_any (is_on hop.from hop.to) v.rows ≡ true)
    → Some (kvs.Deliver hop.from hop.to) ≡ slice_get (possible v) 0
delivery-first v sound hop is some =
    let can = delivers v hop.from hop.to some in
    let l = within v sound hop.from hop.to can in
    sym (first-front (can_step v) (links v) (behind-links v) (kvs.Deliver hop.from hop.to) (first-link (can_step v) v.size hop.from hop.to 0 v.size (omega arith) (omega (arith, l)) l.1 can (leads v (Some hop) is)))

-- where none can be made, the lowest broker serves that can
pub service-first : (v : KeysValue) (broker : ℕ) → IsFirstHop v None → can_step v (kvs.Serve broker) ≡ true → ((lower : ℕ) → lower < broker → can_step v (kvs.Serve lower) ≡ false)
    → Some (kvs.Serve broker) ≡ slice_get (possible v) 0
service-first v broker is can first =
    let l = lt-is broker v.size (and-left (nat_lt broker v.size) _ can) in
    sym (past-links v is ∙ first-front (can_step v) (services v) (landings v ++ resyncs v) (kvs.Serve broker) (first-range (can_step v) kvs.Serve broker 0 v.size (omega arith) (omega arith) can first))

-- then the namespace lands that was opened first
pub landing-first : (v : KeysValue) (number : ℕ) → IsFirstHop v None → ((broker : ℕ) → can_step v (kvs.Serve broker) ≡ false)
    → can_step v (kvs.Land number) ≡ true → ((lower : ℕ) → lower < number → can_step v (kvs.Land lower) ≡ false)
    → Some (kvs.Land number) ≡ slice_get (possible v) 0
landing-first v number is unserved can first =
    let l = named v.spaces number can in
    sym (past-links v is ∙ past-services v unserved ∙ first-front (can_step v) (landings v) (resyncs v) (kvs.Land number) (first-range (can_step v) kvs.Land number 0 (length v.spaces) (omega arith) (omega arith) can first))
  where
    named : (spaces : List SpaceValue) (k : ℕ) → option_map_or is_ready (slice_get spaces k) false ≡ true → k < length spaces
    named spaces k h = by (slice_get spaces k) refl
      where
        by : (o : Option SpaceValue) → slice_get spaces k ≡ o → k < length spaces
        by None e = absurd (true≢false (sym h ∙ ap (λ o. option_map_or is_ready o false) e))
        by (Some s) e = slice_get_within spaces k s e

-- then the lowest broker asks anew that has missed something
pub resync-first : (v : KeysValue) (broker : ℕ) → IsFirstHop v None → ((lower : ℕ) → can_step v (kvs.Serve lower) ≡ false) → ((number : ℕ) → can_step v (kvs.Land number) ≡ false)
    → can_step v (kvs.Resync broker) ≡ true → ((lower : ℕ) → lower < broker → can_step v (kvs.Resync lower) ≡ false)
    → Some (kvs.Resync broker) ≡ slice_get (possible v) 0
resync-first v broker is unserved unlanded can first =
    let l = lt-is broker v.size (and-left (nat_lt broker v.size) _ (and-left _ (list_any (is_behind v.fanout broker) v.spaces) can)) in
    sym (past-links v is ∙ past-services v unserved ∙ past-landings v unlanded ∙ first-range (can_step v) kvs.Resync broker 0 v.size (omega arith) (omega arith) can first)

-- and where none of these can be made, the list is empty
pub no-step : (v : KeysValue) → IsFirstHop v None → ((broker : ℕ) → can_step v (kvs.Serve broker) ≡ false) → ((number : ℕ) → can_step v (kvs.Land number) ≡ false) → ((broker : ℕ) → can_step v (kvs.Resync broker) ≡ false)
    → None ≡ slice_get (possible v) 0
no-step v is unserved unlanded unsynced =
    sym (past-links v is ∙ past-services v unserved ∙ past-landings v unlanded ∙ ap (λ xs. slice_get xs 0) (none-of (can_step v) kvs.Resync unsynced (range_with_len 0 v.size)))

-- nor a loss
pub no-more : (v : KeysValue) → IsFirstHop v None → ((broker : ℕ) → can_step v (kvs.Serve broker) ≡ false) → ((number : ℕ) → can_step v (kvs.Land number) ≡ false) → ((broker : ℕ) → can_step v (kvs.Resync broker) ≡ false)
    → (step : KvsStep) → can_step v step ≡ false
no-more v is unserved unlanded unsynced (kvs.Deliver from to) = no-delivery v is from to
no-more v is unserved unlanded unsynced (kvs.Land number) = unlanded number
no-more v is unserved unlanded unsynced (kvs.Serve broker) = unserved broker
no-more v is unserved unlanded unsynced (kvs.Lose from to) = or-left (is_announced v from to) _ (no-delivery v is from to)
no-more v is unserved unlanded unsynced (kvs.Repeat from to) = or-left (is_announced v from to) _ (no-delivery v is from to)
no-more v is unserved unlanded unsynced (kvs.Swap from to) = or-left (is_announced v from to) _ (no-delivery v is from to)
no-more v is unserved unlanded unsynced (kvs.Resync broker) = unsynced broker

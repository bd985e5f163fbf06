-- A broker sends to the broker above it and to those below it alone.
use Rattle.std.proofs.Common.{◌≡◌, ◌∙◌, ℕ, zero, suc, ◌+◌, ◌-◌, ◌*◌, ◌<◌, ◌≤◌, ◌⊎◌, inl, inr, min, ◌==◌, List, [], ◌∷◌, ◌++◌, map, Bool, true, false, refl, sym, ap, subst, arith, append-nil, get_or}
use Rattle.std.specs.List.{filter, range_with_len}
use Rattle.std.proofs.lemmas.List.{map-append}
use Rattle.std.proofs.lemmas.List.Elements.{filter-append}
use Rattle.std.proofs.lemmas.Nat.{mod_below}
use native.Mathlib.Nat.{div-add-mod', mul-le-mul_left}
use Rattle.kvs_rules.specs.Brokers.{parent}
use Rattle.kvs_rules.specs.declared.events.KvsStep.TheVariants as kvs
use Rattle.kvs_space.specs.Space.{SpaceValue}
use Rattle.kvs_space.proofs.Finding.{and-left, and-right, eq-is, false-or-else}
use Rattle.kvs_requests.specs.declared.rows.Row.{Row}
use Rattle.kvs_requests.specs.declared.rows.Stage.{Stage}
use Rattle.kvs_requests.specs.declared.rows.Stage.TheVariants as stage
use Rattle.kvs_requests.specs.declared.rows.Work.TheVariants as work
use Rattle.kvs_requests.specs.Rows.{AtPlace}
use Rattle.kvs_keys.specs.Sound.{IsSound}
use Rattle.kvs_keys.specs.Steps.{can_step, is_announced}
use Rattle.kvs_requests.specs.Stages.{is_message, is_on}
use Rattle.kvs_keys.specs.Value.{KeysValue}
use Rattle.kvs_space.specs.declared.links.Loss.{Loss}
use Rattle.kvs_space.specs.declared.links.Loss.TheVariants as loss
use Rattle.kvs_keys.specs.Order.{loss_step}
use Rattle.kvs_keys.specs.Walk.{between, lost, sent}
use Rattle.kvs_keys.proofs.Delivering.{coming}
use Rattle.kvs_keys.proofs.Ordering.{any-at}
use Rattle.kvs_requests.proofs.Ways.{parent-le}

module _ {X : Type 0} (can : X → Bool) (f : ℕ → X) where
  none-from : (a n : ℕ) → ((k : ℕ) → a ≤ k → k < a + n → can (f k) ≡ false) → filter can (map f (range_with_len a n)) ≡ []
  none-from a zero fails = refl
  none-from a (suc n) fails = rw (fails a (omega arith) (omega arith)) (none-from (a + 1) n (λ k low high. fails k (omega (arith, low)) (omega (arith, high))))

  cut : (a m n : ℕ) → range_with_len a (m + n) ≡ range_with_len a m ++ range_with_len (a + m) n
  cut a zero n =
      let none : 0 + n ≡ n = omega arith in
      let here : a ≡ a + 0 = omega arith in
      ap (range_with_len a) none ∙ ap (λ b. range_with_len b n) here
  cut a (suc m) n =
      let more : suc m + n ≡ suc (m + n) = omega arith in
      let there : a + 1 + m ≡ a + suc m = omega arith in
      ap (range_with_len a) more ∙ ap (λ ns. a ∷ ns) (cut (a + 1) m n ∙ ap (λ b. range_with_len (a + 1) m ++ range_with_len b n) there)

  passing : ℕ → ℕ → List X
  passing a b = filter can (map f (between a b))

  split : (a b d : ℕ) → a ≤ b → b ≤ d → passing a d ≡ passing a b ++ passing b d
  unfolding passing
  split a b d l m =
      let all : d - a ≡ (b - a) + (d - b) = omega (arith, l, m) in
      let there : a + (b - a) ≡ b = omega (arith, l) in
      ap (λ n. filter can (map f (range_with_len a n))) all
      ∙ ap (λ ns. filter can (map f ns)) (cut a (b - a) (d - b) ∙ ap (λ k. range_with_len a (b - a) ++ range_with_len k (d - b)) there)
      ∙ ap (filter can) (map-append f (between a b) (between b d)) ∙ filter-append can (map f (between a b)) (map f (between b d))

  -- what passes is at one place, or in one range behind it
  pub two-parts : (p c e size : ℕ) → p < c → c ≤ e → e ≤ size → ((k : ℕ) → can (f k) ≡ true → (k ≡ p) ⊎ ((c ≤ k) × (k < e)))
      → filter can (map f (range_with_len 0 size)) ≡ filter can (map f (between p (p + 1))) ++ filter can (map f (between c e))
  unfolding passing
  two-parts p c e size l m n only =
      ap (λ k. filter can (map f (range_with_len 0 k))) whole
      ∙ split 0 p size (omega arith) (omega (arith, l, m, n))
      ∙ ap (λ xs. xs ++ passing p size) (none 0 p (λ k low high o. elim o [
        | inl q ↦ omega (arith, high, q)
        | inr q ↦ omega (arith, high, q.0, l)
      ]))
      ∙ split p (p + 1) size (omega arith) (omega (arith, l, m, n))
      ∙ ap (λ xs. passing p (p + 1) ++ xs) (split (p + 1) c size (omega (arith, l)) (omega (arith, m, n))
      ∙ ap (λ xs. xs ++ passing c size) (none (p + 1) c (λ k low high o. elim o [
        | inl q ↦ omega (arith, low, q)
        | inr q ↦ omega (arith, high, q.0)
      ]))
      ∙ split c e size m n
      ∙ ap (λ xs. passing c e ++ xs) (none e size (λ k low high o. elim o [
        | inl q ↦ omega (arith, low, q, l, m)
        | inr q ↦ omega (arith, low, q.1)
      ]))
      ∙ append-nil (passing c e))
    where
      whole : size ≡ size - 0
      whole = omega arith

      fails : (k : ℕ) → ((k ≡ p) ⊎ ((c ≤ k) × (k < e)) → ⊥) → can (f k) ≡ false
      fails k off = by (can (f k)) refl
        where
          by : (b : Bool) → can (f k) ≡ b → can (f k) ≡ false
          by false q = q
          by true q = absurd (off (only k q))

      none : (a b : ℕ) → ((k : ℕ) → a ≤ k → k < b → (k ≡ p) ⊎ ((c ≤ k) × (k < e)) → ⊥) → passing a b ≡ []
      none a b off = none-from a (b - a) (λ k low high. fails k (off k low (omega (arith, low, high))))

  -- what passes is in one range
  pub one-part : (c e size : ℕ) → c ≤ e → e ≤ size → ((k : ℕ) → can (f k) ≡ true → (c ≤ k) × (k < e))
      → filter can (map f (range_with_len 0 size)) ≡ filter can (map f (between c e))
  unfolding passing
  one-part c e size m n only =
      ap (λ k. filter can (map f (range_with_len 0 k))) whole
      ∙ split 0 c size (omega arith) (omega (arith, m, n))
      ∙ ap (λ xs. xs ++ passing c size) (none 0 c (λ k low high o. omega (arith, high, o.0)))
      ∙ split c e size m n
      ∙ ap (λ xs. passing c e ++ xs) (none e size (λ k low high o. omega (arith, low, o.1)))
      ∙ append-nil (passing c e)
    where
      whole : size ≡ size - 0
      whole = omega arith

      fails : (k : ℕ) → ((c ≤ k) × (k < e) → ⊥) → can (f k) ≡ false
      fails k off = by (can (f k)) refl
        where
          by : (b : Bool) → can (f k) ≡ b → can (f k) ≡ false
          by false q = q
          by true q = absurd (off (only k q))

      none : (a b : ℕ) → ((k : ℕ) → a ≤ k → k < b → (c ≤ k) × (k < e) → ⊥) → passing a b ≡ []
      none a b off = none-from a (b - a) (λ k low high. fails k (off k low (omega (arith, low, high))))

-- a link joins a broker and the one above it
linked : (fanout size : ℕ) (spaces : List SpaceValue) (from to : ℕ) (st : Stage) → is_message from to st ≡ true → AtPlace fanout size spaces st
    → (to ≡ parent fanout from) ⊎ ((0 < to) × (to < size) × (parent fanout to ≡ from))
linked fanout size spaces from to (stage.Rising a b asked) h at =
    let e = eq-is a from (and-left (a == from) _ h) in
    let f = eq-is b to (and-right (a == from) _ h) in
    inl (sym f ∙ at.1 ∙ ap (parent fanout) e)
linked fanout size spaces from to (stage.Falling a b given) h at =
    let e = eq-is a from (and-left (a == from) _ h) in
    let f = eq-is b to (and-right (a == from) _ h) in
    inr (subst (λ n. 0 < n) f at.0, subst (λ n. n < size) f at.2, ap (parent fanout) (sym f) ∙ sym at.1 ∙ e)
linked fanout size spaces from to (stage.Returning a b space asked) h at =
    let e = eq-is a from (and-left (a == from) _ h) in
    let f = eq-is b to (and-right (a == from) _ h) in
    inr (subst (λ n. 0 < n) f at.0, subst (λ n. n < size) f at.2, ap (parent fanout) (sym f) ∙ sym at.1 ∙ e)
linked fanout size spaces from to _ h at = cc

pub link-of : (v : KeysValue) → IsSound v → (from to : ℕ) → can_step v (kvs.Deliver from to) ≡ true
    → (to ≡ parent v.fanout from) ⊎ ((0 < to) × (to < v.size) × (parent v.fanout to ≡ from))
link-of v sound from to h = by (is_announced v from to) refl
  where
    by : (b : Bool) → is_announced v from to ≡ b → (to ≡ parent v.fanout from) ⊎ ((0 < to) × (to < v.size) × (parent v.fanout to ≡ from))
    by true e = let c = coming v from to e in inr (c.above, c.within, eq-is _ _ c.sender)
    by false e =
        let at = any-at (is_on from to) v.rows (sym (false-or-else (is_announced v from to) _ e) ∙ h) in
        linked v.fanout v.size v.spaces from to (get_or v.rows at.0 any).stage (at.2 any) (sound.placed at.0 any at.1).place
      where
        any : Row
        any = record { by = record { actor = 0; command = 0 }; broker = 0; namespace = []; need = 0; stage = stage.Joined 0 work.Commit }

-- the brokers below one
pub children : (fanout from to : ℕ) → 0 < fanout → 0 < to → parent fanout to ≡ from → (from * fanout + 1 ≤ to) × (to < from * fanout + 1 + fanout)
children fanout from to some pos e =
    let whole = div-add-mod' (to - 1) fanout in
    let part = mod_below (to - 1) fanout some in
    let same : parent fanout to * fanout ≡ from * fanout = ap (λ q. q * fanout) e in
    (omega (arith, whole, part, same, pos), omega (arith, whole, part, same, pos))

pub times-le : (a f : ℕ) → 0 < f → a ≤ a * f
times-le a f some = omega (arith, mul-le-mul_left a some)

-- the deliveries from a broker that can be made
pub sent-parts : (v : KeysValue) → IsSound v → (from above below end : ℕ) → from < v.size → above ≡ parent v.fanout from
    → below ≡ min (from * v.fanout + 1) v.size → end ≡ min (below + v.fanout) v.size
    → filter (can_step v) (sent v.size from)
    ≡ filter (can_step v) (map (kvs.Deliver from) (between above (above + 1))) ++ filter (can_step v) (map (kvs.Deliver from) (between below end))
sent-parts v sound from above below end within at first last =
    two-parts (can_step v) (kvs.Deliver from) above below end v.size
    (let p = parent-le v.fanout from in let t = times-le from v.fanout sound.fanout in omega (arith, p, t, within, at, first))
    (omega (arith, first, last)) (omega (arith, last)) only
  where
    only : (k : ℕ) → can_step v (kvs.Deliver from k) ≡ true → (k ≡ above) ⊎ ((below ≤ k) × (k < end))
    only k h = by (link-of v sound from k h)
      where
        by : (k ≡ parent v.fanout from) ⊎ ((0 < k) × (k < v.size) × (parent v.fanout k ≡ from)) → (k ≡ above) ⊎ ((below ≤ k) × (k < end))
        by (inl e) = inl (e ∙ sym at)
        by (inr c) =
            let b = children v.fanout from k sound.fanout c.0 c.2 in
            let s = c.1 in
            inr (omega (arith, b.0, first), omega (arith, b.0, b.1, s, first, last))

-- the losses on the links from a broker that can be made
pub lost-part : (v : KeysValue) → IsSound v → (kind : Loss) (from below end : ℕ) → below ≡ min (from * v.fanout + 1) v.size → end ≡ min (below + v.fanout) v.size
    → filter (can_step v) (lost kind v.size from) ≡ filter (can_step v) (map (loss_step kind from) (between below end))
lost-part v sound kind from below end first last = one-part (can_step v) (loss_step kind from) below end v.size (omega (arith, first, last)) (omega (arith, last)) only
  where
    announced : (kind : Loss) (k : ℕ) → can_step v (loss_step kind from k) ≡ true → is_announced v from k ≡ true
    announced loss.Lost k h = h
    announced loss.Repeated k h = h
    announced loss.Swapped k h = h

    only : (k : ℕ) → can_step v (loss_step kind from k) ≡ true → (below ≤ k) × (k < end)
    only k h =
        let c = coming v from k (announced kind k h) in
        let b = children v.fanout from k sound.fanout c.above (eq-is _ _ c.sender) in
        let s = c.within in
        (omega (arith, b.0, s, first), omega (arith, b.0, b.1, s, first, last))

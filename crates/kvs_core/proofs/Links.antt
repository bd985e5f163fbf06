-- A broker sends to the broker above it and to those below it alone.
use Rattle.std.proofs.Common.{◌≡◌, ◌∙◌, ℕ, ◌+◌, ◌*◌, ◌<◌, ◌≤◌, ◌⊎◌, inl, inr, min, ◌++◌, map, true, sym, arith}
use Rattle.std.specs.List.{filter}
use Rattle.kvs_rules.specs.Brokers.{parent}
use Rattle.kvs_rules.specs.declared.events.KvsStep.TheVariants as kvs
use Rattle.kvs_keys.specs.Walk.{between, sent}
use Rattle.kvs_keys.proofs.Links.{children, times-le, two-parts}
use Rattle.kvs_requests.proofs.Ways.{parent-le}
use Rattle.kvs_core.specs.Steps.{can_step}
use Rattle.kvs_core.specs.Value.{CoreValue}

-- between a broker and the one above it, in either direction
abbrev pub IsLink : ℕ → ℕ → ℕ → ℕ → Type 0
IsLink fanout size from to = (from < size) × ((to ≡ parent fanout from) ⊎ ((0 < to) × (to < size) × (parent fanout to ≡ from)))

-- what is delivered is on such a link
abbrev pub AreLinked : CoreValue → Type 0
AreLinked v = (from to : ℕ) → can_step v (kvs.Deliver from to) ≡ true → IsLink v.fanout v.size from to

-- the deliveries from a broker that can be made
pub sent-parts : (v : CoreValue) → 0 < v.fanout → AreLinked v → (from above below end : ℕ) → from < v.size → above ≡ parent v.fanout from
    → below ≡ min (from * v.fanout + 1) v.size → end ≡ min (below + v.fanout) v.size
    → filter (can_step v) (sent v.size from)
    ≡ filter (can_step v) (map (kvs.Deliver from) (between above (above + 1))) ++ filter (can_step v) (map (kvs.Deliver from) (between below end))
sent-parts v some linked from above below end within at first last =
    two-parts (can_step v) (kvs.Deliver from) above below end v.size
    (let p = parent-le v.fanout from in let t = times-le from v.fanout some in omega (arith, p, t, within, at, first))
    (omega (arith, first, last)) (omega (arith, last)) only
  where
    only : (k : ℕ) → can_step v (kvs.Deliver from k) ≡ true → (k ≡ above) ⊎ ((below ≤ k) × (k < end))
    only k h = by (linked from k h).1
      where
        by : (k ≡ parent v.fanout from) ⊎ ((0 < k) × (k < v.size) × (parent v.fanout k ≡ from)) → (k ≡ above) ⊎ ((below ≤ k) × (k < end))
        by (inl e) = inl (e ∙ sym at)
        by (inr c) =
            let b = children v.fanout from k some c.0 c.2 in
            let s = c.1 in
            inr (omega (arith, b.0, first), omega (arith, b.0, b.1, s, first, last))

-- The way down the tree to a broker.
use Rattle.std.proofs.Common.{◌≡◌, ◌≢◌, ℕ, zero, suc, ◌<◌, ◌≤◌, ◌∙◌, ap, arith, refl}
use Rattle.kvs_rules.specs.Brokers.{parent}
use Rattle.kvs_content.specs.Messages.{ancestor, IsAbove}
use Rattle.kvs_content.proofs.Resting.{parent-below}

pub parent-le : (fanout b : ℕ) → parent fanout b ≤ b
parent-le fanout zero = grind arith
parent-le fanout (suc b) = let p = parent-below fanout (suc b) (omega arith) in omega arith

ancestor-le : (fanout links b : ℕ) → ancestor fanout links b ≤ b
ancestor-le fanout zero b = omega arith
ancestor-le fanout (suc links) b = let p = parent-le fanout (ancestor fanout links b) in let q = ancestor-le fanout links b in omega arith

pub above-le : (fanout upper lower : ℕ) → IsAbove fanout upper lower → upper ≤ lower
above-le fanout upper lower h = let p = ancestor-le fanout h.0 lower in let e = h.1 in omega arith

ancestor-of-parent : (fanout links b : ℕ) → ancestor fanout links (parent fanout b) ≡ ancestor fanout (suc links) b
ancestor-of-parent fanout zero b = refl
ancestor-of-parent fanout (suc links) b = ap (parent fanout) (ancestor-of-parent fanout links b)

pub above-itself : (fanout b : ℕ) → IsAbove fanout b b
above-itself fanout b = (0, refl)

-- one link further up, the way still leads down to the broker
pub climbed : (fanout next home : ℕ) → IsAbove fanout next home → IsAbove fanout (parent fanout next) home
climbed fanout next home h = (suc h.0, ap (parent fanout) h.1)

-- what stands above a broker, and is not the next one up, stands above that
pub passed : (fanout at next : ℕ) → at < next → parent fanout next ≢ at → IsAbove fanout at next → (at < parent fanout next) × IsAbove fanout at (parent fanout next)
passed fanout at next l ne h = by h.0 h.1
  where
    by : (links : ℕ) → ancestor fanout links next ≡ at → (at < parent fanout next) × IsAbove fanout at (parent fanout next)
    by zero e = absurd (omega arith)
    by (suc links) e =
        let up : IsAbove fanout at (parent fanout next) = (links, ancestor-of-parent fanout links next ∙ e) in
        let le = above-le fanout at (parent fanout next) up in
        (omega arith, up)

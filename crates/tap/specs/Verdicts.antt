-- What a callback may answer of a submission.
use Rattle.std.specs.Prelude.{◌≡◌, ℕ, ◌≤◌}

-- 0 lets the submission pass, and 1 to 99 is the reason for which it is turned away
abbrev pub IsVerdict : ℕ → Type 0
IsVerdict answer = answer ≤ 99

-- each ask has one answer at most, and that is a verdict
pub record JudgesOnce {Ask : Type 0} (Answers : Ask → ℕ → Type 0) : Type 0 where
  pub in_range : (ask : Ask) (n : ℕ) → Answers ask n → IsVerdict n
  pub one : (ask : Ask) (m n : ℕ) → Answers ask m → Answers ask n → n ≡ m

-- What a callback may answer.
use Rattle.std.specs.Prelude.{◌≡◌, ℕ, ◌≤◌}

-- a priority of a job that is neither held nor expedited
abbrev pub IsPriority : ℕ → Type 0
IsPriority answer = (1 ≤ answer) × (answer ≤ 4294967294)

-- each ask has one answer at most, and that is a priority
pub record AnswersOnce {Ask : Type 0} (Answers : Ask → ℕ → Type 0) : Type 0 where
  pub in_range : (ask : Ask) (n : ℕ) → Answers ask n → IsPriority n
  pub one : (ask : Ask) (m n : ℕ) → Answers ask m → Answers ask n → n ≡ m

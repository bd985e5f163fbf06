-- What a callback may answer of an event.
use Rattle.std.specs.Prelude.{◌≡◌, ℕ, ◌≤◌}

-- 1 shows the event, and 0 doesn't
abbrev pub IsShowing : ℕ → Type 0
IsShowing answer = answer ≤ 1

-- each event has one answer at most, and that is 0 or 1
pub record ShowsOnce {Event : Type 0} (Answers : Event → ℕ → Type 0) : Type 0 where
  pub in_range : (event : Event) (n : ℕ) → Answers event n → IsShowing n
  pub one : (event : Event) (m n : ℕ) → Answers event m → Answers event n → n ≡ m

use Rattle.std.proofs.Common.{◌≡◌, ℕ, ◌<◌, ◌≤◌, true, None}
use Rattle.std.specs.Prelude.{IfSome}
use Rattle.instance.specs.Steps.{has_issue, next_of}
use Rattle.instance.proofs.seats.issue_from.Given as goal

abbrev pub invariant-loop-actor : goal.invariant-loop-actor
invariant-loop-actor l = record {
  within : l.line ≤ l.lines;
  found : IfSome l.first (λ a. has_issue l.lines l.seats a ≡ true);
  behind : IfSome l.first (λ a. l.from ≤ next_of l.seats a);
  here : IfSome l.first (λ a. next_of l.seats a ≡ l.line);
  least : (other : ℕ) → other < l.actor → has_issue l.lines l.seats other ≡ true → l.from ≤ next_of l.seats other → l.line ≤ next_of l.seats other;
  none : l.first ≡ None → l.line ≡ l.lines;
  passed : l.first ≡ None → (a : ℕ) → a < l.actor → has_issue l.lines l.seats a ≡ true → next_of l.seats a < l.from;
}

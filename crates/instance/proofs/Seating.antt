-- On who can be issued a command or replied to.
use Rattle.std.proofs.Common.{◌≡◌, ℕ, ◌<◌, ◌≤◌, inl, inr, List, length, Bool, true, false, ◌&&◌, ap, arith, Option, Some, None}
use Rattle.std.specs.Prelude.{slice_get, nat_lt}
use Rattle.std.specs.Option.{option_map_or}
use Rattle.std.proofs.lemmas.Bool.{cases_lt, lt-ltb, ltb-true}
use Rattle.std.proofs.lemmas.Option.{slice_get_past}
use Rattle.services.specs.Value.{ServicesValue}
use Rattle.instance.specs.declared.seats.Seat.{Seat}
use Rattle.instance.specs.Seats.{is_free, last_command, has_come}
use Rattle.instance.specs.Steps.{has_issue, has_answer}

-- nobody sits past the last seat
pub answer_past : (services : ServicesValue) (seats : List Seat) (a : ℕ) → length seats ≤ a → has_answer services seats a ≡ false
answer_past services seats a past = ap (λ o. option_map_or (λ seat. has_come services (last_command a seat) seat.waiting) o false) (slice_get_past seats a past)

pub issue_past : (lines : ℕ) (seats : List Seat) (a : ℕ) → length seats ≤ a → has_issue lines seats a ≡ false
issue_past lines seats a past = ap (λ o. option_map_or (λ seat. is_free seat.waiting && nat_lt seat.next lines) o false) (slice_get_past seats a past)

-- what holds of all that sit holds of all
pub all_answers : (services : ServicesValue) (seats : List Seat) → ((a : ℕ) → a < length seats → has_answer services seats a ≡ false) → (a : ℕ) → has_answer services seats a ≡ false
all_answers services seats h a = elim (cases_lt a (length seats)) [ inl below ↦ h a below | inr past ↦ answer_past services seats a past ]

pub all_issues : (lines : ℕ) (seats : List Seat) → ((a : ℕ) → a < length seats → has_issue lines seats a ≡ false) → (a : ℕ) → has_issue lines seats a ≡ false
all_issues lines seats h a = elim (cases_lt a (length seats)) [ inl below ↦ h a below | inr past ↦ issue_past lines seats a past ]

-- who can be issued one of fewer lines can be issued one of more
pub issue_more : (line lines : ℕ) (seats : List Seat) (a : ℕ) → line ≤ lines → has_issue line seats a ≡ true → has_issue lines seats a ≡ true
issue_more line lines seats a less = on (slice_get seats a)
  where
    both : (free : Bool) (next : ℕ) → (free && nat_lt next line) ≡ true → (free && nat_lt next lines) ≡ true
    both true next t = let below : next < line = ltb-true next line t in lt-ltb next lines (omega arith)
    both false next t = t

    on : (o : Option Seat) → option_map_or (λ seat. is_free seat.waiting && nat_lt seat.next line) o false ≡ true → option_map_or (λ seat. is_free seat.waiting && nat_lt seat.next lines) o false ≡ true
    on None t = t
    on (Some seat) t = both (is_free seat.waiting) seat.next t

-- Where the next line of an actor stands, and whether there is one.
use Rattle.std.proofs.Common.{◌≡◌, ◌≢◌, ◌∙◌, ℕ, zero, suc, ◌+◌, ◌-◌, ◌<◌, ◌≤◌, ◌==◌, inl, inr, List, [], ◌∷◌, ◌++◌, Bool, true, false, Option, Some, None, cond, filter_map, count_by, length, ne_eqb, take, drop, refl, sym, ap, subst, true≢false, arith}
use Rattle.std.specs.List.{cons_option}
use Rattle.std.specs.Prelude.{nat_lt, slice_get, slice_index_or}
use Rattle.std.proofs.lemmas.Bool.{cases_lt, eq-eqb, lt-ltb, ltb-true}
use Rattle.std.proofs.lemmas.List.{take-append-drop, take_all}
use Rattle.std.proofs.lemmas.List.Sums.{count_by_more_no, count_by_more_yes, sum_by-append, sum_by-cons}
use Rattle.std.proofs.lemmas.List.Elements.{filter_map-append}
use Rattle.std.proofs.Math.Seq.{drop-cons}
use Rattle.instance.specs.workload.declared.work.Command.{Command}
use Rattle.instance.specs.workload.declared.work.Line.{Line}
use Rattle.instance.specs.workload.declared.work.Workload.{Workload}
use Rattle.instance.specs.answers.Commands.{command_at, commands_of}
use Rattle.instance.specs.Agrees.{IsPlaced, is_of}
use Rattle.instance.specs.declared.seats.Seat.{Seat}
use Rattle.homes.specs.Homes.{IsNextLine}

-- lines that are others' are passed without one of the actor's
passed_more : (a : ℕ) (lines : List Line) (from gap : ℕ) → from + gap ≤ length lines → ((k : ℕ) (d : Line) → from ≤ k → k < from + gap → (slice_index_or lines k d).actor ≢ a)
    → count_by (is_of a) (take (from + gap) lines) ≡ count_by (is_of a) (take from lines)
passed_more a lines from zero h none = ap (λ n. count_by (is_of a) (take n lines)) (plus_none from)
  where
    plus_none : (n : ℕ) → n + 0 ≡ n
    plus_none n = omega arith
passed_more a [] from (suc gap) h none = absurd (omega arith)
passed_more a (l ∷ lines) from (suc gap) h none =
    ap (λ n. count_by (is_of a) (take n (l ∷ lines))) (plus_more from gap)
    ∙ count_by_more_no (is_of a) (l ∷ lines) (from + gap) l (omega arith) (ne_eqb _ a (none (from + gap) l (omega arith) (omega arith)))
    ∙ passed_more a (l ∷ lines) from gap (omega arith) (λ k d low high. none k d low (omega arith))
  where
    plus_more : (n m : ℕ) → n + suc m ≡ (n + m) + 1
    plus_more n m = omega arith

pub passed_on : (a : ℕ) (lines : List Line) (from at : ℕ) → from ≤ at → at ≤ length lines → ((k : ℕ) (d : Line) → from ≤ k → k < at → (slice_index_or lines k d).actor ≢ a)
    → count_by (is_of a) (take at lines) ≡ count_by (is_of a) (take from lines)
passed_on a lines from at low high none =
    let e : from + (at - from) ≡ at = omega arith in
    ap (λ n. count_by (is_of a) (take n lines)) (sym e) ∙ passed_more a lines from (at - from) (omega arith) (λ k d l h. none k d l (omega arith))

-- a beginning of the lines has no more of an actor than all
count_front : (a : ℕ) (lines : List Line) (n : ℕ) → count_by (is_of a) (take n lines) ≤ count_by (is_of a) lines
count_front a lines n =
    let all : count_by (is_of a) (take n lines ++ drop n lines) ≡ count_by (is_of a) (take n lines) + count_by (is_of a) (drop n lines) = sum_by-append (λ x. cond (is_of a x) 1 0) (take n lines) (drop n lines) in
    let same : count_by (is_of a) (take n lines ++ drop n lines) ≡ count_by (is_of a) lines = ap (count_by (is_of a)) (take-append-drop n lines) in
    omega (arith, all, same)

module _ (lines : List Line) (a issued next : ℕ) (h : IsNextLine lines a issued next) where
  -- the lines behind and this one
  pub one_more : (d : Line) → next < length lines → count_by (is_of a) (take (next + 1) lines) ≡ issued + 1
  one_more d below = count_by_more_yes (is_of a) lines next d below (eq-eqb (slice_index_or lines next d).actor a (h.here d below)) ∙ ap (λ n. n + 1) h.passed

  pub has_more : (d : Line) → next < length lines → issued < count_by (is_of a) lines
  has_more d below = let one = one_more d below in let front = count_front a lines (next + 1) in omega (arith, one, front)

  pub has_next : issued < count_by (is_of a) lines → next < length lines
  has_next more = elim (cases_lt next (length lines)) [
    | inl below ↦ below
    | inr past ↦
        let all : count_by (is_of a) lines ≡ issued = ap (count_by (is_of a)) (sym (take_all next lines past)) ∙ h.passed in
        absurd (omega (arith, all, more))
  ]

  -- the line behind that is the actor's next again
  pub next_line_on : (d : Line) → next < length lines → (at : ℕ) → next + 1 ≤ at → at ≤ length lines
      → ((k : ℕ) (d : Line) → next + 1 ≤ k → k < at → (slice_index_or lines k d).actor ≢ a)
      → ((d : Line) → at < length lines → (slice_index_or lines at d).actor ≡ a)
      → IsNextLine lines a (issued + 1) at
  next_line_on d below at low high none here = record {
    within = high;
    passed = passed_on a lines (next + 1) at low high none ∙ one_more d below;
    here = here;
  }

  -- with none ahead all are behind
  pub all_behind : length lines ≤ next → issued ≡ count_by (is_of a) lines
  all_behind past = sym h.passed ∙ ap (count_by (is_of a)) (take_all next lines past)

-- so for a seat
pub seat_line : (lines : List Line) (a : ℕ) (seat : Seat) → IsPlaced lines a seat → IsNextLine lines a seat.issued seat.next
seat_line lines a seat h = record { within = h.within; passed = h.passed; here = h.here }

-- an actor has a line ahead among its own exactly where it has one among all
pub same_ahead : (lines own : List Line) (a issued one other : ℕ) → Line → IsNextLine lines a issued one → IsNextLine own a issued other
    → count_by (is_of a) own ≡ count_by (is_of a) lines → nat_lt other (length own) ≡ nat_lt one (length lines)
same_ahead lines own a issued one other d h g counts = by (nat_lt one (length lines)) refl
  where
    by : (b : Bool) → nat_lt one (length lines) ≡ b → nat_lt other (length own) ≡ b
    by true is =
        let more = has_more lines a issued one h d (ltb-true one (length lines) is) in
        lt-ltb other (length own) (has_next own a issued other g (subst (λ n. issued < n) (sym counts) more))
    by false is = no (nat_lt other (length own)) refl
      where
        no : (b : Bool) → nat_lt other (length own) ≡ b → nat_lt other (length own) ≡ false
        no false at = at
        no true at =
            let more = has_more own a issued other g d (ltb-true other (length own) at) in
            let below = has_next lines a issued one h (subst (λ n. issued < n) counts more) in
            absurd (true≢false (sym (lt-ltb one (length lines) below) ∙ is))

-- ---- the commands of the lines

-- the command of a line, if the line is the actor's
abbrev own : ℕ → Line → Option Command
own actor line = cond (line.actor == actor) (Some line.command) None

own_length : (a : ℕ) (lines : List Line) → length (filter_map (own a) lines) ≡ count_by (is_of a) lines
own_length a [] = refl
own_length a (l ∷ lines) = by (l.actor == a) (own_length a lines) ∙ sym (sum_by-cons (λ x. cond (is_of a x) 1 0) l lines)
  where
    by : (b : Bool) → length (filter_map (own a) lines) ≡ count_by (is_of a) lines → length (cons_option (cond b (Some l.command) None) (filter_map (own a) lines)) ≡ cond b 1 0 + count_by (is_of a) lines
    by true e = omega arith
    by false e = omega arith

get_behind : {A : Type 0} (xs : List A) (y : A) (ys : List A) → slice_get (xs ++ y ∷ ys) (length xs) ≡ Some y
get_behind [] y ys = refl
get_behind (x ∷ xs) y ys = get_behind xs y ys

own_at : (a : ℕ) (lines : List Line) (n : ℕ) (d : Line) → n < length lines → (slice_index_or lines n d).actor ≡ a → slice_get (filter_map (own a) lines) (count_by (is_of a) (take n lines)) ≡ Some (slice_index_or lines n d).command
own_at a lines n d below is =
    let split : lines ≡ take n lines ++ slice_index_or lines n d ∷ drop (suc n) lines = sym (take-append-drop n lines) ∙ ap (λ r. take n lines ++ r) (drop-cons lines n d below) in
    let cut : filter_map (own a) lines ≡ filter_map (own a) (take n lines) ++ (slice_index_or lines n d).command ∷ filter_map (own a) (drop (suc n) lines) =
    ap (filter_map (own a)) split
    ∙ filter_map-append (own a) (take n lines) (slice_index_or lines n d ∷ drop (suc n) lines)
    ∙ ap (λ b. filter_map (own a) (take n lines) ++ cons_option (cond b (Some (slice_index_or lines n d).command) None) (filter_map (own a) (drop (suc n) lines))) (eq-eqb (slice_index_or lines n d).actor a is) in
    ap (λ xs. slice_get xs (count_by (is_of a) (take n lines))) cut
    ∙ ap (slice_get (filter_map (own a) (take n lines) ++ (slice_index_or lines n d).command ∷ filter_map (own a) (drop (suc n) lines))) (sym (own_length a (take n lines)))
    ∙ get_behind (filter_map (own a) (take n lines)) (slice_index_or lines n d).command (filter_map (own a) (drop (suc n) lines))

-- the command of an actor's next line is its next command
pub next_command : (work : Workload) (a issued next : ℕ) → IsNextLine work.lines a issued next → (d : Line) → next < length work.lines
    → command_at work (record { actor = a; command = issued }) ≡ Some (slice_index_or work.lines next d).command
next_command work a issued next h d below = ap (slice_get (commands_of work a)) (sym h.passed) ∙ own_at a work.lines next d below (h.here d below)

-- The lines that aren't issued yet: all of them at the beginning, and one less after each issue.
use Rattle.std.proofs.Common.{◌≡◌, ◌≢◌, inl, inr, ℕ, zero, suc, ◌+◌, ◌<◌, ◌≤◌, List, [], ◌∷◌, length, map, filter, take, Bool, true, false, cond, Option, Some, None, get_or, set, count_by, All, refl, sym, ap, ap₂, ◌∙◌, subst, arith, eq-eqb, true≢false}
use Rattle.std.specs.Prelude.{nat_le, slice_get}
use Rattle.std.specs.Option.{option_map, option_map_or}
use Rattle.std.specs.List.{enumerate_from, sum_by}
use Rattle.std.proofs.lemmas.Bool.{cases_eq, cases_lt, le-leb, lt-leb}
use Rattle.std.proofs.lemmas.List.Sums.{sum_by-cons}
use Rattle.std.proofs.lemmas.Option.{get_or_from_slice_get, slice_get_within}
use Rattle.services.specs.workload.declared.work.Line.{Line}
use Rattle.services.specs.workload.declared.work.Workload.{Workload}
use Rattle.services.specs.workload.Laws.{IsWithin}
use Rattle.instance.specs.declared.seats.Seat.{Seat}
use Rattle.instance.specs.Agrees.{IsPlaced, is_ahead, is_of, lines_ahead}
use Rattle.instance.specs.First.{AreFirstSeats}
use Rattle.instance.proofs.Listing.{get-set_other, get-set_same}

-- ---- the lines at places that pass

abbrev picked : (ℕ × Line → Bool) → ℕ → List Line → List Line
picked p n lines = map (λ at. at.1) (filter p (enumerate_from n lines))

picked-cons : (p : ℕ × Line → Bool) (n : ℕ) (l : Line) (lines : List Line) → picked p n (l ∷ lines) ≡ cond (p (n, l)) (l ∷ picked p (n + 1) lines) (picked p (n + 1) lines)
picked-cons p n l lines = on (p (n, l))
  where
    on : (b : Bool) → map (λ (at : ℕ × Line). at.1) (cond b ((n, l) ∷ filter p (enumerate_from (n + 1) lines)) (filter p (enumerate_from (n + 1) lines))) ≡ cond b (l ∷ picked p (n + 1) lines) (picked p (n + 1) lines)
    on true = refl
    on false = refl

-- what is at a place behind one is at the place behind that of the others
place_on : (n k : ℕ) → n + suc k ≡ n + 1 + k
place_on n k = omega arith

place_here : (n : ℕ) → n + 0 ≡ n
place_here n = omega arith

-- all lines, where each passes
picked_all : (p : ℕ × Line → Bool) (n : ℕ) (lines : List Line) → ((k : ℕ) (d : Line) → k < length lines → p (n + k, get_or lines k d) ≡ true) → picked p n lines ≡ lines
picked_all p n [] h = refl
picked_all p n (l ∷ lines) h =
    picked-cons p n l lines
    ∙ ap (λ b. cond b (l ∷ picked p (n + 1) lines) (picked p (n + 1) lines)) (subst (λ m. p (m, l) ≡ true) (place_here n) (h 0 l (omega arith)))
    ∙ ap (λ ls. l ∷ ls) (picked_all p (n + 1) lines (λ k d low. subst (λ m. p (m, get_or lines k d) ≡ true) (place_on n k) (h (suc k) d (omega arith))))

-- the same lines, where the same pass
picked_alike : (p q : ℕ × Line → Bool) (n : ℕ) (lines : List Line) → ((k : ℕ) (d : Line) → k < length lines → p (n + k, get_or lines k d) ≡ q (n + k, get_or lines k d)) → picked p n lines ≡ picked q n lines
picked_alike p q n [] h = refl
picked_alike p q n (l ∷ lines) h =
    picked-cons p n l lines
    ∙ ap₂ (λ b ls. cond b (l ∷ ls) ls) (subst (λ m. p (m, l) ≡ q (m, l)) (place_here n) (h 0 l (omega arith)))
    (picked_alike p q (n + 1) lines (λ k d low. subst (λ m. p (m, get_or lines k d) ≡ q (m, get_or lines k d)) (place_on n k) (h (suc k) d (omega arith))))
    ∙ sym (picked-cons q n l lines)

-- one line less, where one passes no more
module _ (f : Line → ℕ) where
  sum_picked : (p : ℕ × Line → Bool) (n : ℕ) (l : Line) (lines : List Line) → sum_by f (picked p n (l ∷ lines)) ≡ cond (p (n, l)) (f l) 0 + sum_by f (picked p (n + 1) lines)
  sum_picked p n l lines = ap (sum_by f) (picked-cons p n l lines) ∙ on (p (n, l))
    where
      on : (b : Bool) → sum_by f (cond b (l ∷ picked p (n + 1) lines) (picked p (n + 1) lines)) ≡ cond b (f l) 0 + sum_by f (picked p (n + 1) lines)
      on true = sum_by-cons f l (picked p (n + 1) lines)
      on false = omega arith

  one_less : (p q : ℕ × Line → Bool) (n i : ℕ) (lines : List Line) (d : Line) → i < length lines → p (n + i, get_or lines i d) ≡ true → q (n + i, get_or lines i d) ≡ false
      → ((k : ℕ) (d : Line) → k < length lines → k ≢ i → p (n + k, get_or lines k d) ≡ q (n + k, get_or lines k d))
      → sum_by f (picked p n lines) ≡ sum_by f (picked q n lines) + f (get_or lines i d)
  one_less p q n i [] d low passes fails same = absurd (omega arith)
  one_less p q n zero (l ∷ lines) d low passes fails same =
      let here : cond (p (n, l)) (f l) 0 ≡ f l = ap (λ b. cond b (f l) 0) (subst (λ m. p (m, l) ≡ true) (place_here n) passes) in
      let gone : cond (q (n, l)) (f l) 0 ≡ 0 = ap (λ b. cond b (f l) 0) (subst (λ m. q (m, l) ≡ false) (place_here n) fails) in
      let rest : sum_by f (picked p (n + 1) lines) ≡ sum_by f (picked q (n + 1) lines) = ap (sum_by f) (picked_alike p q (n + 1) lines (λ k e below. subst (λ m. p (m, get_or lines k e) ≡ q (m, get_or lines k e)) (place_on n k) (same (suc k) e (omega arith) (λ is. absurd (omega (arith, is)))))) in
      let one = sum_picked p n l lines in
      let other = sum_picked q n l lines in
      plus_here _ _ (f l) _ _ one other here gone rest
    where
      plus_here : (a b x s t : ℕ) {y z : ℕ} → a ≡ y + s → b ≡ z + t → y ≡ x → z ≡ 0 → s ≡ t → a ≡ b + x
      plus_here a b x s t e g h i j = omega arith
  one_less p q n (suc i) (l ∷ lines) d low passes fails same =
      let here : p (n, l) ≡ q (n, l) = subst (λ m. p (m, l) ≡ q (m, l)) (place_here n) (same 0 l (omega arith) (λ is. absurd (omega (arith, is)))) in
      let rest : sum_by f (picked p (n + 1) lines) ≡ sum_by f (picked q (n + 1) lines) + f (get_or lines i d) =
      one_less p q (n + 1) i lines d (omega arith) (subst (λ m. p (m, get_or lines i d) ≡ true) (place_on n i) passes) (subst (λ m. q (m, get_or lines i d) ≡ false) (place_on n i) fails)
      (λ k e below other. subst (λ m. p (m, get_or lines k e) ≡ q (m, get_or lines k e)) (place_on n k) (same (suc k) e (omega arith) (λ is. other (omega (arith, is))))) in
      let one = sum_picked p n l lines in
      let other = sum_picked q n l lines in
      plus_there _ _ (f (get_or lines i d)) _ _ one other (ap (λ b. cond b (f l) 0) here) rest
    where
      plus_there : (a b x s t : ℕ) {y z : ℕ} → a ≡ y + s → b ≡ z + t → y ≡ z → s ≡ t + x → a ≡ b + x
      plus_there a b x s t e g h i = omega arith

-- ---- by seats

-- whether a place is ahead of one that a seat has next
abbrev next_before : ℕ → Option ℕ → Bool
next_before place o = option_map_or (λ next. nat_le next place) o false

by_next : (place : ℕ) (o : Option Seat) → option_map_or (λ seat. nat_le seat.next place) o false ≡ next_before place (option_map (λ seat. seat.next) o)
by_next place None = refl
by_next place (Some seat) = refl

-- seats that keep their next lines keep what is ahead
pub same_ahead : (old new : List Seat) (lines : List Line) → ((a : ℕ) → option_map (λ (seat : Seat). seat.next) (slice_get new a) ≡ option_map (λ (seat : Seat). seat.next) (slice_get old a)) → lines_ahead new lines ≡ lines_ahead old lines
same_ahead old new lines same = picked_alike (is_ahead new) (is_ahead old) 0 lines (λ k d low.
    by_next (0 + k) (slice_get new (get_or lines k d).actor)
    ∙ ap (next_before (0 + k)) (same (get_or lines k d).actor)
    ∙ sym (by_next (0 + k) (slice_get old (get_or lines k d).actor)))

-- so one seat that keeps it
pub kept_ahead : (seats : List Seat) (a : ℕ) (seat new : Seat) (lines : List Line) → slice_get seats a ≡ Some seat → new.next ≡ seat.next → lines_ahead (set seats a new) lines ≡ lines_ahead seats lines
kept_ahead seats a seat new lines sits keeps = same_ahead seats (set seats a new) lines (λ b. elim (cases_eq b a) [
  | inl same ↦ subst (λ n. option_map (λ (s : Seat). s.next) (slice_get (set seats a new) n) ≡ option_map (λ (s : Seat). s.next) (slice_get seats n)) (sym same)
      (ap (option_map (λ (s : Seat). s.next)) (get-set_same seats a seat new sits) ∙ ap Some keeps ∙ sym (ap (option_map (λ (s : Seat). s.next)) sits))
  | inr other ↦ ap (option_map (λ (s : Seat). s.next)) (get-set_other seats a b new other)
])

-- ---- at the beginning

-- a line that is the actor's isn't passed where none of its lines is
none_passed : (lines : List Line) (a k next : ℕ) (d : Line) → count_by (is_of a) (take next lines) ≡ 0 → k < length lines → (get_or lines k d).actor ≡ a → next ≤ k
none_passed [] a k next d none low is = absurd (omega arith)
none_passed (l ∷ lines) a k zero d none low is = omega arith
none_passed (l ∷ lines) a zero (suc next) d none low is = absurd (first (is_of a l) (eq-eqb l.actor a is) (sym (sum_by-cons (λ x. cond (is_of a x) 1 0) l (take next lines)) ∙ none))
  where
    first : (b : Bool) → b ≡ true → cond b 1 0 + count_by (is_of a) (take next lines) ≡ 0 → ⊥
    first true e h = omega arith
    first false e h = true≢false (sym e)
none_passed (l ∷ lines) a (suc k) (suc next) d none low is =
    let less : next ≤ k = none_passed lines a k next d (later (is_of a l) (sym (sum_by-cons (λ x. cond (is_of a x) 1 0) l (take next lines)) ∙ none)) (omega arith) is in omega arith
  where
    later : (b : Bool) → cond b 1 0 + count_by (is_of a) (take next lines) ≡ 0 → count_by (is_of a) (take next lines) ≡ 0
    later true h = omega arith
    later false h = omega arith

some_there : {A : Type 0} (xs : List A) (k : ℕ) → k < length xs → (x : A) × (slice_get xs k ≡ Some x)
some_there [] k low = absurd (omega arith)
some_there (x ∷ xs) zero low = (x, refl)
some_there (x ∷ xs) (suc k) low = some_there xs k (omega arith)

pub all_ahead : (seats : List Seat) (lines : List Line) → All (λ l. l.actor < length seats) lines
    → ((a : ℕ) (seat : Seat) → slice_get seats a ≡ Some seat → IsPlaced lines a seat × (seat.issued ≡ 0)) → lines_ahead seats lines ≡ lines
all_ahead seats lines known first = picked_all (is_ahead seats) 0 lines (λ k d low.
    let a = (get_or lines k d).actor in
    let s = some_there seats a (known k d low) in
    let placed = first a s.0 s.1 in
    let behind : s.0.next ≤ k = none_passed lines a k s.0.next d (placed.0.passed ∙ placed.1) low refl in
    ap (λ o. option_map_or (λ (seat : Seat). nat_le seat.next (0 + k)) o false) s.1 ∙ le-leb s.0.next (0 + k) (omega arith))

-- so of the seats of a workload before anything has happened
pub first_ahead : (size : ℕ) (work : Workload) (seats : List Seat) → IsWithin size work → AreFirstSeats work seats → lines_ahead seats work.lines ≡ work.lines
first_ahead size work seats within first = all_ahead seats work.lines (subst (λ n. All (λ l. l.actor < n) work.lines) (sym first.seated) within.known) sits
  where
    sits : (a : ℕ) (seat : Seat) → slice_get seats a ≡ Some seat → IsPlaced work.lines a seat × (seat.issued ≡ 0)
    sits a seat at =
        let low : a < length seats = slice_get_within seats a seat at in
        let actor = some_there work.actors a (subst (λ n. a < n) first.seated low) in
        let one = first.each a seat actor.0 low in
        let is : get_or seats a seat ≡ seat = get_or_from_slice_get seats a seat seat at in
        (subst (IsPlaced work.lines a) is one.placed, ap (λ s. s.issued) (sym is) ∙ one.fresh)

-- ---- an issue

-- the seat of the actor moves on from its line to a later one, and none of its lines stands in between
pub record MovesOn (seats : List Seat) (lines : List Line) (a : ℕ) (seat : Seat) (next : ℕ) : Type 0 where
  pub sits : slice_get seats a ≡ Some seat
  pub below : seat.next < length lines
  pub own : (d : Line) → (get_or lines seat.next d).actor ≡ a
  pub after : seat.next + 1 ≤ next
  pub passed : (k : ℕ) (d : Line) → seat.next + 1 ≤ k → k < next → (get_or lines k d).actor ≢ a

module _ (seats : List Seat) (lines : List Line) (a : ℕ) (seat new : Seat) (m : MovesOn seats lines a seat new.next) where
  ahead_at : (b place : ℕ) (one : Seat) → slice_get seats b ≡ Some one → option_map_or (λ (s : Seat). nat_le s.next place) (slice_get seats b) false ≡ nat_le one.next place
  ahead_at b place one e = ap (λ o. option_map_or (λ (s : Seat). nat_le s.next place) o false) e

  moved : (place : ℕ) → option_map_or (λ (s : Seat). nat_le s.next place) (slice_get (set seats a new) a) false ≡ nat_le new.next place
  moved place = ap (λ o. option_map_or (λ (s : Seat). nat_le s.next place) o false) (get-set_same seats a seat new m.sits)

  mine_alike : (k : ℕ) (d : Line) → (get_or lines k d).actor ≡ a → k ≢ seat.next → nat_le seat.next k ≡ nat_le new.next k
  mine_alike k d is other = elim (cases_lt k new.next) [
    | inl below ↦ elim (cases_lt k seat.next) [
      | inl early ↦ lt-leb seat.next k early ∙ sym (lt-leb new.next k below)
      | inr late ↦ absurd (m.passed k d (omega (arith, late, other)) below is)
    ]
    | inr past ↦ let after = m.after in le-leb seat.next k (omega arith) ∙ sym (le-leb new.next k past)
  ]

  others_alike : (k : ℕ) (d : Line) → k < length lines → k ≢ seat.next → is_ahead seats (0 + k, get_or lines k d) ≡ is_ahead (set seats a new) (0 + k, get_or lines k d)
  others_alike k d low other = elim (cases_eq (get_or lines k d).actor a) [
    | inl mine ↦
        ap (λ b. option_map_or (λ (s : Seat). nat_le s.next (0 + k)) (slice_get seats b) false) mine
        ∙ ahead_at a (0 + k) seat m.sits
        ∙ ap (nat_le seat.next) (plain k)
        ∙ mine_alike k d mine other
        ∙ ap (nat_le new.next) (sym (plain k))
        ∙ sym (moved (0 + k))
        ∙ ap (λ b. option_map_or (λ (s : Seat). nat_le s.next (0 + k)) (slice_get (set seats a new) b) false) (sym mine)
    | inr theirs ↦ ap (λ o. option_map_or (λ (s : Seat). nat_le s.next (0 + k)) o false) (sym (get-set_other seats a (get_or lines k d).actor new theirs))
  ]
    where
      plain : (n : ℕ) → 0 + n ≡ n
      plain n = omega arith

  -- what is ahead has the line that is issued less
  pub issue_ahead : (f : Line → ℕ) (d : Line) → sum_by f (lines_ahead seats lines) ≡ sum_by f (lines_ahead (set seats a new) lines) + f (get_or lines seat.next d)
  issue_ahead f d = one_less f (is_ahead seats) (is_ahead (set seats a new)) 0 seat.next lines d m.below here gone others_alike
    where
      here : is_ahead seats (0 + seat.next, get_or lines seat.next d) ≡ true
      here = ap (λ b. option_map_or (λ (s : Seat). nat_le s.next (0 + seat.next)) (slice_get seats b) false) (m.own d) ∙ ahead_at a (0 + seat.next) seat m.sits ∙ le-leb seat.next (0 + seat.next) (omega arith)

      gone : is_ahead (set seats a new) (0 + seat.next, get_or lines seat.next d) ≡ false
      gone = let after = m.after in ap (λ b. option_map_or (λ (s : Seat). nat_le s.next (0 + seat.next)) (slice_get (set seats a new) b) false) (m.own d) ∙ moved (0 + seat.next) ∙ lt-leb new.next (0 + seat.next) (omega arith)

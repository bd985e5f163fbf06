-- On seats of which one tells another what it saw.
use Rattle.std.proofs.Common.{◌≡◌, ℕ, zero, suc, refl, ◌∷◌, max, ◌<◌, ◌≤◌, List, length, ap, sym, ◌∙◌, arith, Option, Some, None, [], get_or, set}
use Rattle.std.specs.Prelude.{slice_get}
use Rattle.std.specs.Option.{option_map_or}
use Rattle.std.proofs.lemmas.Option.{slice_get-get_or, slice_get_past}
use Rattle.services.specs.kvs_model.Store.{Name}
use Rattle.instance.specs.declared.seats.Seat.{Seat}
use Rattle.instance.specs.Floors.{Floors, floor_in}
use Rattle.instance.specs.Seats.{AreTold, with_floors}

one_seat : (x y : Seat) → ◌≡◌ {A = Option Seat} (Some x) (Some y) → x ≡ y
one_seat x y e = cc

no_seat : {A : Type 0} (x : Seat) → ◌≡◌ {A = Option Seat} None (Some x) → A
no_seat x e = cc

-- the floors of both are joined, from nothing
pub told_so : (seats : List Seat) (from to : ℕ) (teller seat : Seat) → from < length seats → to < length seats → teller ≡ get_or seats from teller → seat ≡ get_or seats to seat →
    (none first last : Floors) → ((q : Name) → floor_in none q ≡ 0) → ((q : Name) → floor_in first q ≡ max (floor_in none q) (floor_in teller.floors q)) →
    ((q : Name) → floor_in last q ≡ max (floor_in first q) (floor_in seat.floors q)) → AreTold from to seats (set seats to (with_floors last seat))
told_so seats from to teller seat low high t s none first last n f l = record {
  floors = last;
  seats = sym (ap (λ o. option_map_or (λ x. set seats to (with_floors last x)) o seats) there);
  joined = joined_so;
}
  where
    there : slice_get seats to ≡ Some seat
    there = slice_get-get_or seats to seat high ∙ ap Some (sym s)

    joined_so : (x y : Seat) → slice_get seats from ≡ Some x → slice_get seats to ≡ Some y → (q : Name) → floor_in last q ≡ max (floor_in y.floors q) (floor_in x.floors q)
    joined_so x y ex ey q =
        let nothing : floor_in none q ≡ 0 = n q in
        let begun : floor_in first q ≡ max (floor_in none q) (floor_in teller.floors q) = f q in
        let both : floor_in last q ≡ max (floor_in first q) (floor_in seat.floors q) = l q in
        let own : floor_in teller.floors q ≡ floor_in x.floors q = ap (λ z. floor_in z.floors q) (one_seat teller x (sym (slice_get-get_or seats from teller low ∙ ap Some (sym t)) ∙ ex)) in
        let other : floor_in seat.floors q ≡ floor_in y.floors q = ap (λ z. floor_in z.floors q) (one_seat seat y (sym there ∙ ey)) in
        omega arith

-- nobody sits there
pub told_nobody : (seats : List Seat) (from to : ℕ) → length seats ≤ to → AreTold from to seats seats
told_nobody seats from to past = record {
  floors = [];
  seats = sym (ap (λ o. option_map_or (λ x. set seats to (with_floors [] x)) o seats) (slice_get_past seats to past));
  joined = λ x y ex ey. no_seat y (sym (slice_get_past seats to past) ∙ ey);
}

-- somebody sits there
pub seat_there : (seats : List Seat) (a : ℕ) → a < length seats → (seat : Seat) × ((d : Seat) → get_or seats a d ≡ seat)
seat_there [] a low = absurd (omega arith)
seat_there (s ∷ seats) zero low = (s, λ d. refl)
seat_there (s ∷ seats) (suc a) low = seat_there seats a (omega arith)

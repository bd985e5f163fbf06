-- How the places of actors stand to the seats of their instances.
use Rattle.std.proofs.Common.{◌≡◌, ◌∙◌, ℕ, ◌+◌, ◌-◌, ◌<◌, ◌≤◌, inl, inr, List, [], ◌∷◌, Bool, true, false, ◌||◌, cond, count_by, refl, sym, ap, arith}
use Rattle.std.specs.Prelude.{not, nat_lt}
use Rattle.std.specs.List.{list_any}
use Rattle.std.proofs.lemmas.Bool.{cases_lt, le-ltb, lt-ltb}
use Rattle.std.proofs.lemmas.List.Sums.{sum_by-cons}
use Rattle.instance.specs.answers.Chronicle.{Setup}
use Rattle.instance.specs.answers.declared.chronicle.Entry.{Entry}
use Rattle.hierarchy.specs.Growing.{ActsAlike}
use Rattle.instance.specs.Agrees.{Stands, Waits}
use Rattle.instance.specs.Seats.{is_free, replied_of}
use Rattle.instance.specs.declared.seats.Seat.{Seat}
use Rattle.instance.specs.declared.seats.Waiting.{Waiting}
use Rattle.instance.specs.declared.seats.Waiting.TheVariants as waiting
use Rattle.instance.specs.kvs_rules.Log.{Log}
use Rattle.homes.specs.Homes.{IsPlace, answered}
use Rattle.homes.specs.declared.homes.Place.{Place}

one_more : (p : Entry → Bool) (x : Entry) (es : List Entry) (b : Bool) → p x ≡ b → count_by p (x ∷ es) ≡ cond b 1 0 + count_by p es
one_more p x es b is = sum_by-cons (λ y. cond (p y) 1 0) x es ∙ ap (λ b. cond b 1 0 + count_by p es) is

-- what is counted is there, and what isn't isn't
pub any_counted : (p : Entry → Bool) (es : List Entry) → 1 ≤ count_by p es → list_any p es ≡ true
any_counted p [] e = absurd (omega arith)
any_counted p (x ∷ es) e = by (p x) refl (any_counted p es)
  where
    by : (b : Bool) → p x ≡ b → (1 ≤ count_by p es → list_any p es ≡ true) → (p x || list_any p es) ≡ true
    by true is more = ap (λ b. b || list_any p es) is
    by false is more =
        let one = one_more p x es false is in
        ap (λ b. b || list_any p es) is ∙ more (omega arith)

pub none_counted : (p : Entry → Bool) (es : List Entry) → count_by p es ≡ 0 → list_any p es ≡ false
none_counted p [] e = refl
none_counted p (x ∷ es) e = by (p x) refl (none_counted p es)
  where
    by : (b : Bool) → p x ≡ b → (count_by p es ≡ 0 → list_any p es ≡ false) → (p x || list_any p es) ≡ false
    by true is more = let one = one_more p x es true is in absurd (omega arith)
    by false is more =
        let one = one_more p x es false is in
        ap (λ b. b || list_any p es) is ∙ more (omega arith)

-- a count of the first ones tells how many they are
abbrev first : ℕ → ℕ → ℕ
first k n = cond (nat_lt k n) 1 0

not_less : (one other : ℕ) → ((k : ℕ) → first k one ≡ first k other) → one < other → ⊥
not_less one other same below =
    let here : first one one ≡ 0 = ap (λ (b : Bool). cond {A = ℕ} b 1 0) (le-ltb one one (omega arith)) in
    let there : first one other ≡ 1 = ap (λ (b : Bool). cond {A = ℕ} b 1 0) (lt-ltb one other below) in
    let both : ◌≡◌ {A = ℕ} 0 1 = sym here ∙ same one ∙ there in
    omega arith

same_first : (one other : ℕ) → ((k : ℕ) → first k one ≡ first k other) → one ≡ other
same_first one other same = elim (cases_lt one other) [
  | inl below ↦ absurd (not_less one other same below)
  | inr past ↦ elim (cases_lt other one) [
    | inl below ↦ absurd (not_less other one (λ k. sym (same k)) below)
    | inr low ↦ omega arith
  ]
]

-- whoever waits has a command
waits_some : (set : Setup) (log : Log) (a issued : ℕ) (w : Waiting) → Waits set log a issued w → is_free w ≡ false → 0 < issued
waits_some set log a issued waiting.Nothing h e = cc
waits_some set log a issued waiting.Staged h e = h.0
waits_some set log a issued waiting.TxnFull h e = h.0
waits_some set log a issued (waiting.Tell to) h e = h.0
waits_some set log a issued waiting.Using h e = h.0
waits_some set log a issued waiting.Look h e = h.0
waits_some set log a issued waiting.Service h e = h.0
waits_some set log a issued waiting.Jobs h e = h.0
waits_some set log a issued waiting.Shutdown h e = h.0

module _ (set given : Setup) (log : Log) (c own : List Entry) (a : ℕ) (p : Place) (seat : Seat)
    (place : IsPlace set c a p) (acts : ActsAlike own c a) (stands : Stands log own a seat.issued (replied_of seat)) where
  -- as many commands are issued and replied at both
  pub same_issued : seat.issued ≡ p.issued
  same_issued = sym stands.counted ∙ acts.issued ∙ place.issued

  pub same_replied : replied_of seat ≡ answered p
  same_replied = same_first (replied_of seat) (answered p) (λ k. sym (stands.ended k) ∙ acts.counted k ∙ place.replied k)

  -- an actor waits at its place exactly where it does at its seat
  pub same_waits : Waits given log a seat.issued seat.waiting → p.waits ≡ not (is_free seat.waiting)
  same_waits waits = by p.waits (is_free seat.waiting) refl refl
    where
      by : (w f : Bool) → p.waits ≡ w → is_free seat.waiting ≡ f → w ≡ not f
      by true false e g = refl
      by false true e g = refl
      by true true e g =
          let some = place.begun e in
          let here : answered p ≡ p.issued - 1 = ap (λ b. cond b (p.issued - 1) p.issued) e in
          let there : replied_of seat ≡ seat.issued = ap (λ b. cond b seat.issued (seat.issued - 1)) g in
          let both = same_replied in
          let many = same_issued in
          absurd (omega arith)
      by false false e g =
          let some = waits_some given log a seat.issued seat.waiting waits g in
          let here : answered p ≡ p.issued = ap (λ b. cond b (p.issued - 1) p.issued) e in
          let there : replied_of seat ≡ seat.issued - 1 = ap (λ b. cond b seat.issued (seat.issued - 1)) g in
          let both = same_replied in
          let many = same_issued in
          absurd (omega arith)

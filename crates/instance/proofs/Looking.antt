-- What a look tells: its broker has heard of it, and its actor had seen no more at the issue.
use Rattle.std.proofs.Common.{◌≡◌, ℕ, ◌-◌, ◌≤◌, Option, Some, None, refl, sym, ap, ◌∙◌, subst, arith}
use Rattle.std.specs.Prelude.{IsSomeAnd, option_and_then, slice_get, if◌then◌else◌}
use Rattle.std.proofs.lemmas.Option.{none-some}
use Rattle.services.specs.kvs_rules.Brokers.{HasHeard}
use Rattle.services.specs.kvs_rules.Log.{Log}
use Rattle.services.specs.kvs_rules.Namespaces.{primary}
use Rattle.services.specs.kvs_txn.declared.txn.By.{By}
use Rattle.services.specs.answers.Chronicle.{before_issue, issues, top}
use Rattle.services.specs.answers.Commands.{broker_of}
use Rattle.services.specs.answers.Floors.{floor}
use Rattle.services.specs.answers.Legal.{SeesRoot}
use Rattle.services.specs.answers.Services.{log_of}
use Rattle.services.proofs.answers_proofs.Carried.{until_begins}
use Rattle.services.proofs.answers_proofs.Floors.{floor_rises, look_about}
use Rattle.instance.specs.declared.seats.OpenLook.{OpenLook}
use Rattle.instance.specs.declared.seats.Seat.{Seat}
use Rattle.instance.specs.declared.seats.Waiting.{Waiting}
use Rattle.instance.specs.declared.seats.Waiting.TheVariants as waiting
use Rattle.instance.specs.Agrees.{ActorStands, Waits, command_of}
use Rattle.instance.specs.Floors.{floor_in}
use Rattle.instance.specs.Seats.{is_look, look_in}
use Rattle.instance.specs.Steps.{look_of}
use Rattle.instance.specs.Value.{InstanceValue}
use Rattle.instance.proofs.Owning.{Own, DoesAgree}

module _ (v : Own) (h : DoesAgree v) (a : ℕ) (seat : Seat) (sits : slice_get v.instance.seats a ≡ Some seat) (looks : seat.waiting ≡ waiting.Look) where
  abbrev log : Log
  log = log_of v.set.work top v.chronicle

  abbrev by : By
  by = command_of a (seat.issued - 1)

  mine : ActorStands v.set log v.chronicle a (Some seat)
  mine = subst (ActorStands v.set log v.chronicle a) sits (h.actors a)

  waits : Waits v.set log a seat.issued waiting.Look
  waits = subst (Waits v.set log a seat.issued) looks mine.1.waits

  about : seat.subject ≡ primary
  about = sym (mine.1.about waits.0) ∙ look_about v.set.work by waits.2

  seen : floor v.set.work v.chronicle a primary ≡ floor_in seat.floors seat.subject
  seen = mine.1.floored primary ∙ ap (floor_in seat.floors) (sym about)

  pub sees_root : (number : ℕ) → floor_in seat.floors seat.subject ≤ number → HasHeard log (broker_of v.set.work a) primary number → SeesRoot v.set v.chronicle by number
  sees_root number least known =
      let begins = until_begins (issues by) v.chronicle in
      let rises : floor v.set.work (before_issue by v.chronicle) a primary ≤ floor v.set.work v.chronicle a primary =
      subst (λ d. floor v.set.work (before_issue by v.chronicle) a primary ≤ floor v.set.work d a primary) (sym begins.split) (floor_rises v.set.work (before_issue by v.chronicle) begins.rest primary a) in
      let now = seen in
      record { asked = waits.2; fresh = omega (arith, rises, now, least); known = known }

-- an actor with an open look has a seat
pub look_within : (v : InstanceValue) (a : ℕ) (P : OpenLook → Type 0) → IsSomeAnd (look_of v a) P
    → (seat : Seat) × (slice_get v.seats a ≡ Some seat) × (seat.waiting ≡ waiting.Look) × P (record { broker = seat.broker; need = floor_in seat.floors seat.subject })
look_within v a P open_ = on (slice_get v.seats a) refl open_
  where
    looks_so : (seat : Seat) (w : Waiting) → IsSomeAnd (if is_look w then Some (record { broker = seat.broker; need = floor_in seat.floors seat.subject }) else None) P
        → (w ≡ waiting.Look) × P (record { broker = seat.broker; need = floor_in seat.floors seat.subject })
    looks_so seat waiting.Look t = (refl, t)
    looks_so seat _ t = absurd t

    on : (o : Option Seat) → slice_get v.seats a ≡ o → IsSomeAnd (option_and_then look_in o) P
        → (seat : Seat) × (slice_get v.seats a ≡ Some seat) × (seat.waiting ≡ waiting.Look) × P (record { broker = seat.broker; need = floor_in seat.floors seat.subject })
    on None e t = absurd t
    on (Some seat) e t = let is = looks_so seat seat.waiting t in (seat, e, is.0, is.1)

-- one whose actor looks has an open look
pub looks_on : (v : InstanceValue) (a : ℕ) (seat : Seat) → slice_get v.seats a ≡ Some seat → seat.waiting ≡ waiting.Look → look_of v a ≡ None → ⊥
looks_on v a seat sits looks none =
    let look : OpenLook = record { broker = seat.broker; need = floor_in seat.floors seat.subject } in
    let here : look_of v a ≡ Some look = ap (option_and_then look_in) sits ∙ ap (λ w. if is_look w then Some look else None) looks in
    none-some look (sym none ∙ here)

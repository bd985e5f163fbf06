-- Where a command is open of an actor whose instance has gone, the actor waits at its place.
use Rattle.std.proofs.Common.{◌≡◌, ◌∙◌, ℕ, zero, suc, ◌<◌, ◌≤◌, List, [], ◌∷◌, Bool, true, false, not, length, Option, refl, sym, ap, subst, true≢false, arith, count_by}
use Rattle.std.specs.Prelude.{Some, None, ◌-◌, option_and_then, slice_get, if◌then◌else◌}
use Rattle.std.proofs.lemmas.Bool.{and_parts, lt-ltb}
use Rattle.instance.specs.kvs_txn.declared.txn.By.{By}
use Rattle.instance.specs.answers.Chronicle.{IsOpenCommand, replies_to, top}
use Rattle.instance.specs.workload.Actors.{are_together}
use Rattle.instance.specs.workload.declared.work.Actor.{Actor}
use Rattle.hierarchy.specs.Births.{has_lost_home, is_at, is_born, is_gone, label_of}
use Rattle.hierarchy.proofs.Homes.{left_so}
use Rattle.hierarchy.proofs.Members.{gone_was_born}
use Rattle.hierarchy.proofs.Numbering.{born_exactly, top_lives}
use Rattle.hierarchy.proofs.OneEntry.{one_home}
use Rattle.hierarchy.proofs.Open.{issued_below}
use Rattle.homes.specs.Homes.{answered}
use Rattle.world.specs.Sound.{IsSound}
use Rattle.world.specs.Value.{WorldValue}
use Rattle.homes.specs.declared.homes.Home.{Home}
use Rattle.homes.specs.declared.homes.Place.{Place}
use Rattle.world.proofs.Housing.{home_is}
use Rattle.homes.proofs.Seating.{any_counted}
use Rattle.homes.proofs.Standing.{item_at}

not_so : (b : Bool) → not b ≡ true → b ≡ false
not_so true e = cc
not_so false e = refl

none_past : {X : Type 0} (xs : List X) (i : ℕ) → slice_get xs i ≡ None → length xs ≤ i
none_past [] i e = omega arith
none_past (x ∷ xs) zero e = cc
none_past (x ∷ xs) (suc i) e = (let more = none_past xs i e in omega (arith, more))

past_none : {X : Type 0} (xs : List X) (i : ℕ) → length xs ≤ i → slice_get xs i ≡ None
past_none [] i past = refl
past_none (x ∷ xs) zero past = absurd (omega arith)
past_none (x ∷ xs) (suc i) past = past_none xs i (omega (arith, past))

module _ (v : WorldValue) (sound : IsSound v) (runs : v.closed ≡ false)
    (by : By) (lost : has_lost_home v.set.work.actors v.chronicle by.actor ≡ true) (waiting : IsOpenCommand by v.chronicle) where
  pub record IsWaiting : Type 0 where
    pub p : Place
    pub standing : slice_get v.places by.actor ≡ Some p
    pub waits : p.waits ≡ true
    pub i : ℕ
    pub home : p.home ≡ Some i
    pub h : Home
    pub here : slice_get v.homes i ≡ Some h
    pub gone : h.gone ≡ true

  at_place : (o : Option Place) → slice_get v.places by.actor ≡ o → IsWaiting
  at_place None e =
      let running = sound.runs runs in
      let found = left_so v.set v.chronicle by.actor lost in
      let past : length v.set.work.actors ≤ by.actor = subst (λ n. n ≤ by.actor) running.places.all (none_past v.places by.actor e) in
      let home : slice_get v.set.work.actors by.actor ≡ None = past_none v.set.work.actors by.actor past in
      let alive = top_lives v.set v.chronicle sound.legal in
      let parts = and_parts (is_born v.chronicle top) (not (is_gone v.chronicle top)) alive in
      let there : is_at v.set.work.actors (label_of v.chronicle top) by.actor ≡ true = ap (λ o. are_together (option_and_then (λ (a : Actor). a.of) o) None) home in
      let same = one_home v.set.work.actors v.chronicle running.on.labelled found.0 top by.actor (gone_was_born v.set v.chronicle sound.legal found.0 found.1) parts.0 found.2 there in
      absurd (true≢false (sym found.1 ∙ ap (is_gone v.chronicle) same ∙ not_so (is_gone v.chronicle top) parts.1))
  at_place (Some p) e =
      let running = sound.runs runs in
      let found = left_so v.set v.chronicle by.actor lost in
      let i = found.0 in
      let below = (born_exactly v.set v.chronicle i sound.legal).0 (gone_was_born v.set v.chronicle sound.legal i found.1) in
      let h = item_at v.homes i (subst (λ n. i < n) (sym running.homes.all) below) in
      record {
        p = p;
        standing = e;
        waits = on p.waits refl;
        i = i;
        home = (running.places.each by.actor p e).home ∙ home_is v.set v.chronicle running.on i by.actor below found.2;
        h = h.0;
        here = h.1;
        gone = (running.homes.each i h.0 h.1).gone ∙ found.1;
      }
    where
      on : (b : Bool) → p.waits ≡ b → b ≡ true
      on true is = refl
      on false is =
          let place = (sound.runs runs).places.each by.actor p e in
          let low = issued_below v.set v.chronicle sound.legal by waiting.0 in
          let issued = place.issued in
          let all : answered p ≡ p.issued = ap (λ b. if b then p.issued - 1 else p.issued) is in
          let one : count_by (replies_to by) v.chronicle ≡ 1 = place.replied by.command ∙ ap (λ b. if b then 1 else 0) (lt-ltb by.command (answered p) (omega (arith, low, issued, all))) in
          absurd (true≢false (sym (any_counted (replies_to by) v.chronicle (omega (arith, one))) ∙ waiting.1))

  pub still_waits : IsWaiting
  still_waits = at_place (slice_get v.places by.actor) refl

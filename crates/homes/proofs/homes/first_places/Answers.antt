use Rattle.std.proofs.Common.{◌≡◌, ◌≢◌, ◌∙◌, ◌<◌, ◌≤◌, ◌++◌, ◌∷◌, ◌+◌, ◌⊎◌, ℕ, List, [], Some, None, inl, inr, false, length, refl, sym, ap, subst, arith}
use Rattle.std.specs.Prelude.{slice_get, slice_index_or}
use Rattle.std.proofs.lemmas.List.{length-append}
use Rattle.std.proofs.lemmas.Option.{slice_get_read}
use Rattle.instance.specs.answers.Chronicle.{Setup}
use Rattle.instance.specs.workload.declared.work.Line.{Line}
use Rattle.homes.specs.Homes.{IsPlace}
use Rattle.homes.specs.declared.homes.Place.{Place}
use Rattle.homes.proofs.Beginning.{first_place, get_pushed, home_at}
use Rattle.homes.proofs.homes.first_places.Goals as goal
use Rattle.homes.proofs.homes.first_places.Goals.{in-None, in-Some}

pub loop-number-preserved : goal.loop-number-preserved
loop-number-preserved c =
    let k = c.loop-number.number in
    let below : k < length c.as_slice-actor-items.result.now = omega arith in
    let here : slice_get c.args.work.now.actors k ≡ Some c.actor-item.result = subst (λ xs. slice_get xs k ≡ Some c.actor-item.result) c.as_slice-actor-items.ensures (slice_get_read c.as_slice-actor-items.result.now (length c.as_slice-actor-items.result.now) k c.actor-item.result refl below c.actor-item.is) in
    let one : Place = record { home = c.match-actor.home; next = c.next_line.result; issued = 0; waits = false } in
    let added : c.push.new.self.items ≡ c.loop-number.places.items ++ one ∷ [] = c.in_ok-push.ensures.items in
    let home : ((c.actor-item.result.of ≡ None) × (c.match-actor.home ≡ Some 0)) ⊎ ((label : List ℕ) × (c.actor-item.result.of ≡ Some label) × (c.match-actor.home ≡ None))
    = elim c.match-actor.branch [ in-None w ↦ inl (w.in-None.is, w.home-is) | in-Some w ↦ inr (_, w.in-Some.is, w.home-is) ] in
    let lines = c.as_slice.ensures in
    let stands : (set : Setup) → set.work ≡ c.args.work.now → IsPlace set [] k one = λ set same.
    let from = subst (λ w. slice_get w.actors k ≡ Some c.actor-item.result) (sym same) here in
    let text : c.as_slice.result.now ≡ set.work.lines = lines ∙ ap (λ w. w.lines) (sym same) in
    first_place set k c.next_line.result c.match-actor.home (home_at set k c.actor-item.result c.match-actor.home from home)
    (subst (λ ls. c.next_line.result ≤ length ls) text c.next_line.ensures.within.1)
    (subst (λ ls. (j : ℕ) (d : Line) → 0 ≤ j → j < c.next_line.result → (slice_index_or ls j d).actor ≢ k) text c.next_line.ensures.passed)
    (subst (λ ls. (d : Line) → c.next_line.result < length ls → (slice_index_or ls c.next_line.result d).actor ≡ k) text c.next_line.ensures.here) in
    record {
      long = ap length added ∙ length-append c.loop-number.places.items (one ∷ []) ∙ ap (λ n. n + 1) c.loop-number.invariant.long;
      each = λ set same j p e. elim (get_pushed c.loop-number.places.items one p j (subst (λ ps. slice_get ps j ≡ Some p) added e)) [
        | inl there ↦ c.loop-number.invariant.each set same j p there
        | inr last ↦ subst (λ n. IsPlace set [] n p) (sym (last.0 ∙ c.loop-number.invariant.long)) (subst (IsPlace set [] k) last.1 (stands set same))
      ];
    }

pub returns : goal.returns
returns c = λ set same. record {
  all = c.loop-number.invariant.long ∙ (let over : c.loop-number.number ≡ length c.as_slice-actor-items.result.now = omega arith in over) ∙ ap length (c.as_slice-actor-items.ensures ∙ ap (λ w. w.actors) (sym same));
  each = c.loop-number.invariant.each set same;
}

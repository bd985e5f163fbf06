use Rattle.std.proofs.Common.{◌≡◌, ◌∙◌, Bool, None, ap, false, get_or, refl, true}
use Rattle.std.specs.Prelude.{not}
use Rattle.std.proofs.lemmas.Option.{slice_get-get_or}
use Rattle.homes.proofs.Telling.{told_more, untold_more}
use Rattle.homes.proofs.closing.tell_all_unborn.Goals as goal
use Rattle.homes.proofs.closing.tell_all_unborn.Goals.{then-is_none+in_ok-tell_unborn, else-is_none}

pub loop-actor-preserved : goal.loop-actor-preserved
loop-actor-preserved c =
    let n = c.loop-actor.actor in
    let here = slice_get-get_or c.args.places.now n (record { home = None; next = 0; issued = 0; waits = false }) c.loop-actor-test.true in
    let p = get_or c.args.places.now n (record { home = None; next = 0; issued = 0; waits = false }) in
    elim c.if-is_none.branch [
      | then-is_none+in_ok-tell_unborn w ↦
          w.chronicle-is
          ∙ told_more c.args.work.now c.args.places.now n p here c.args.chronicle.now c.loop-actor.chronicle c.loop-actor.invariant (ap not c.is_none.ensures ∙ twice c.is_none.result ∙ w.if-is_none.true) w.tell_unborn.new.chronicle w.in_ok-tell_unborn.ensures
      | else-is_none w ↦
          w.chronicle-is
          ∙ untold_more c.args.work.now c.args.places.now n p here c.args.chronicle.now c.loop-actor.chronicle c.loop-actor.invariant (ap not c.is_none.ensures ∙ twice c.is_none.result ∙ w.if-is_none.false)
    ]
  where
    twice : (b : Bool) → not (not b) ≡ b
    twice true = refl
    twice false = refl

use Rattle.std.proofs.Common.{ℕ, List, refl}
use Rattle.std.specs.Prelude.{Ok, Err, Bool, IfOk, Result}
use Rattle.world.specs.answers.Chronicle.{Setup}
use Rattle.world.specs.answers.declared.chronicle.Entry.{Entry}
use Rattle.world.specs.hierarchy.Headline.{IsTrueRun}
use Rattle.world.specs.hierarchy.Laws.{AreValid}
use Rattle.world.specs.hierarchy.Promises.{KeepsItsPromises}
use Rattle.world.specs.kvs_core.declared.service.CoreFault.{CoreFault}
use Rattle.flux.specs.Runs.{is_settled, setup_of}
use Rattle.flux.specs.declared.playing.Played.{Played}
use Rattle.flux.proofs.playing.play.Goals as goal

-- a run that is played keeps what true ones do
of_played : (set : Setup) (settled journal : Bool) → ((d : List Entry) (written : List ℕ) → AreValid set d → IsTrueRun set settled journal d written → KeepsItsPromises set d) → (r : Result Played CoreFault)
    → IfOk r (λ p. IsTrueRun set settled journal p.ended.chronicle p.text.items) → IfOk r (λ p. AreValid set p.ended.chronicle) → IfOk r (λ p. KeepsItsPromises set p.ended.chronicle)
of_played set settled journal law (Ok p) run valid = law p.ended.chronicle p.text.items valid run
of_played set settled journal law (Err fault) run valid = tt

pub returns-clause-promises : goal.returns-clause-promises
returns-clause-promises g c =
    let set = setup_of c.args.terms c.args.options c.args.work in
    let settled = is_settled c.args.options in
    let journal = c.args.options.journal in
    of_played set settled journal
    (λ d written valid run. c.a_true_run_keeps_its_promises.ensures set settled journal d written (c.time_stays_within.ensures.fits set refl c.requires.few) valid run) c.run.result c.run.ensures.run c.run.ensures.valid

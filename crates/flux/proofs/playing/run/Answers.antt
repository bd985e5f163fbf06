use Rattle.std.proofs.Common.{◌≡◌, ◌∙◌, ◌≤◌, arith, count_by, ap, ap₂, sym, subst, length}
use Rattle.world.specs.answers.Headline.{output_text}
use Rattle.world.specs.hierarchy.Laws.{AreValid}
use Rattle.world.specs.hierarchy.Legal.{IsLegalRun, IsSettledRun}
use Rattle.world.specs.hierarchy.Whole.{IsWholeRun}
use Rattle.world.specs.workload.declared.work.Workload.{Workload}
use Rattle.world.specs.Choice.{is_alone, is_loss, losses_left}
use Rattle.flux.specs.Runs.{setup_of}
use Rattle.flux.proofs.Orders.{calm_alone, calm_order, few_left, one_lane}
use Rattle.flux.proofs.playing.run.Goals as goal

pub run-requires-clause-size : goal.run-requires-clause-size
run-requires-clause-size g c = λ _ _.
    let same = ap (λ s. s.size) c.in_ok-begun.ensures.set in
    let low = c.requires.options.size.0 in
    let high = c.requires.options.size.1 in
    (omega (arith, same, low), omega (arith, same, high))

pub run-requires-clause-few : goal.run-requires-clause-few
run-requires-clause-few g c = λ _ _.
    subst (λ (w : Workload). length w.actors ≤ 256) (sym (ap (λ s. s.work) c.in_ok-begun.ensures.set)) c.requires.within.actors

pub run-requires-clause-alone : goal.run-requires-clause-alone
run-requires-clause-alone g c = λ _ _ one. ap is_alone c.in_ok-begun.ensures.order ∙ one_lane c.args.options one

pub returns-in-Ok-clause-run : goal.returns-in-Ok-clause-run
returns-in-Ok-clause-run g c =
    let w = c.in_ok-world.world in
    let o = c.args.options in
    let set : w.set ≡ setup_of c.args.terms c.args.options c.args.work = c.in_ok-world.ensures.set ∙ c.in_ok-begun.ensures.set in
    let told : c.finish.result.chronicle ≡ w.chronicle = c.finish.ensures.chronicle in
    let whole : IsWholeRun w.set w.chronicle = c.quiet.ensures.whole (c.quiet.ensures.value ∙ c.in_ok-world.ensures.ended) in
    record {
      legal = subst (λ s. IsLegalRun s c.finish.result.chronicle) set (subst (IsLegalRun w.set) (sym told) c.chronicle.ensures.legal);
      whole = subst (λ s. IsWholeRun s c.finish.result.chronicle) set (subst (IsWholeRun w.set) (sym told) whole);
      at_rest = λ calm.
          let one = calm_alone o c.requires.options.workers.0 calm in
          let there : IsSettledRun w.set w.chronicle = c.in_ok-world.ensures.settled one (c.in_ok-begun.ensures.order ∙ calm_order o calm) in
          subst (λ s. IsSettledRun s c.finish.result.chronicle) set (subst (IsSettledRun w.set) (sym told) there);
      printed = c.in-Ok.ensures c.args.terms
          ∙ ap₂ (λ work chronicle. output_text o.journal (setup_of c.args.terms o work) chronicle) (c.work.ensures ∙ ap (λ s. s.work) set) (c.chronicle.ensures.value ∙ sym told);
    }

pub returns-in-Ok-clause-valid : goal.returns-in-Ok-clause-valid
returns-in-Ok-clause-valid g c =
    let w = c.in_ok-world.world in
    let set : w.set ≡ setup_of c.args.terms c.args.options c.args.work = c.in_ok-world.ensures.set ∙ c.in_ok-begun.ensures.set in
    subst (λ s. AreValid s c.finish.result.chronicle) set (subst (AreValid w.set) (sym c.finish.ensures.chronicle) c.chronicle.ensures.valid)

pub returns-in-Ok-clause-losses : goal.returns-in-Ok-clause-losses
returns-in-Ok-clause-losses g c =
    let made = c.in_ok-world.ensures.losses in
    let given = ap losses_left c.in_ok-begun.ensures.order in
    let few = few_left c.args.options in
    let told = ap (count_by is_loss) c.finish.ensures.steps in
    omega (arith, made, given, few, told)

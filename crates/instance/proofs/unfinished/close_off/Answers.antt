use Rattle.std.proofs.Common.{[], ◌≡◌, ◌++◌, ◌∙◌, length, sym, ap, arith}
use Rattle.std.specs.Prelude.{flat_map}
use Rattle.std.specs.List.{range_with_len}
use Rattle.std.proofs.lemmas.List.{flat_map_more}
use Rattle.services.specs.job_service.Still.{awaited}
use Rattle.instance.specs.Closings.{closings_of, numbers_in}
use Rattle.instance.proofs.Ranges.{first_more}
use Rattle.instance.proofs.unfinished.close_off.Goals as goal

pub loop-actor-preserved : goal.loop-actor-preserved
loop-actor-preserved c = λ set log a.
    let f = closings_of (numbers_in log) (awaited c.args.jobs.now) c.args.lines.now c.args.seats.now in
    let at = c.loop-actor.actor in
    c.in_ok-close_actor.ensures set log a
    ∙ ap (λ es. es ++ f at) (c.loop-actor.invariant set log a)
    ∙ flat_map_more f [] (range_with_len 0 at) at
    ∙ ap (λ l. flat_map f l) (sym (first_more at))

pub returns : goal.returns
returns c = λ set log a.
    let f = closings_of (numbers_in log) (awaited c.args.jobs.now) c.args.lines.now c.args.seats.now in
    let ends : c.loop-actor.actor ≡ length c.args.seats.now = omega (arith, c.loop-actor-test.false, c.loop-actor.auto.actor-end) in
    c.loop-actor.invariant set log a ∙ ap (λ n. flat_map f (range_with_len 0 n)) ends

use Rattle.std.proofs.Common.{◌∙◌, ◌++◌, map, ap, refl, subst}
use Rattle.job_service.specs.job_landings.Landings.{happening}
use Rattle.services.specs.Makes.{Makes}
use Rattle.services.specs.View.{IsFit, value_of}
use Rattle.services.proofs.Turning.{jobs-fit, onward, with_jobs}
use Rattle.services.proofs.services.Services.turn.Goals as goal

pub invariant_of-self-2 : goal.invariant_of-self-2
invariant_of-self-2 c = λ _.
    let v = value_of c.self.inside in
    let fit : IsFit v = c.self.invariant (ap (λ v. v.spent) c.self.view_is ∙ c.requires.ready) in
    let e = c.in_ok-events.ensures in
    jobs-fit v fit c.turn.new.self e.ready e.counts.size

pub returns-clause-makes : goal.returns-clause-makes
returns-clause-makes c =
    let v = value_of c.self.inside in
    let e = c.in_ok-events.ensures in
    let events = c.in_ok-events.events in
    subst (λ w. Makes c.args.step w (with_jobs v c.turn.new.self) events) c.self.view_is (record {
      ready = refl;
      keeps = record { size = refl; counts = e.counts };
      made = λ inst log a. e.makes.made inst log a.jobs;
      legal = λ inst log a. e.makes.legal inst log a.jobs;
      agrees = λ inst log a. onward v c.turn.new.self inst log (log ++ map happening events) a (e.makes.agrees inst log a.jobs);
    })

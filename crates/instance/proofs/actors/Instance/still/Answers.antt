use Rattle.std.proofs.Common.{◌∙◌, ap, sym, subst}
use Rattle.services.specs.Steps.{can_step}
use Rattle.instance.specs.Agrees.{AgreesOwn}
use Rattle.instance.specs.Family.{bearing, is_due}
use Rattle.instance.specs.Steps.{can_answer, can_post}
use Rattle.instance.specs.View.{value_of}
use Rattle.instance.proofs.Stilling.{IsStillSo, free_so}
use Rattle.instance.proofs.Owning.{own_of}
use Rattle.instance.proofs.Settling.{settled_so}
use Rattle.instance.proofs.actors.Instance.still.Goals as goal

pub returns : goal.returns
returns c = record {
  rests = λ set own agrees rest.
      let promise : IsStillSo (own_of (value_of c.self.inside) set own) = record {
        quiet = c.still.ensures.quiet;
        heard = c.still.ensures.heard;
        last = c.still.ensures.last;
        idle = c.still.ensures.idle;
        advanced = c.still.ensures.advanced;
        left = c.still.ensures.left;
        results = c.still.ensures.results;
      } in
      settled_so (own_of c.args.self.now set own) agrees
      (record { steps = rest.steps; feeds = rest.feeds; answers = rest.answers; looks = rest.looks; due = rest.due })
      (subst (λ v. IsStillSo (own_of v set own)) c.self.view_is promise);
  free = λ set own agrees steps answers posts unborn.
      let v = value_of c.self.inside in
      sym (ap is_due c.self.view_is)
      ∙ free_so (own_of v set own) (subst (λ x. AgreesOwn x set own) (sym c.self.view_is) agrees) c.still.ensures.free
      (λ s. ap (λ x. can_step x.services s) c.self.view_is ∙ steps s)
      (λ a. ap (λ x. can_answer x a) c.self.view_is ∙ answers a)
      (ap can_post c.self.view_is ∙ posts)
      (ap bearing c.self.view_is ∙ unborn);
}

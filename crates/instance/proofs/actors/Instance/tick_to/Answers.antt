use Rattle.std.proofs.Common.{◌<◌, ◌≤◌, ◌+◌, ◌∙◌, All, ap, sym, subst}
use Rattle.services.specs.run_limits.Limits.{most_seconds}
use Rattle.instance.specs.Agrees.{AgreesOwn}
use Rattle.instance.specs.Family.{birth_of, ends_left, is_due, present}
use Rattle.instance.specs.View.{value_of}
use Rattle.instance.proofs.Bearing.{may_pass, passes_follow}
use Rattle.instance.proofs.Owning.{own_of}
use Rattle.instance.proofs.actors.Instance.tick_to.Goals as goal

pub tick-requires-clause-may : goal.tick-requires-clause-may
tick-requires-clause-may c =
    may_pass (value_of c.self.inside) c.args.second (ap is_due c.self.view_is ∙ c.requires.idle) (subst (λ w. present w < c.args.second) (sym c.self.view_is) c.requires.above)
    (subst (λ w. All (λ other. c.args.second ≤ other) (ends_left w)) (sym c.self.view_is) c.requires.before) (subst (λ w. c.args.second ≤ birth_of w + most_seconds) (sym c.self.view_is) c.requires.near)

pub returns-clause-makes : goal.returns-clause-makes
returns-clause-makes c = λ set own agrees.
    passes_follow (own_of (value_of c.self.inside) set own) (subst (λ x. AgreesOwn x set own) (sym c.self.view_is) agrees) c.args.second c.tick.new.self
    (record { keeps = c.in_ok-tick.ensures.keeps; legal = c.in_ok-tick.ensures.legal; agrees = c.in_ok-tick.ensures.agrees })

use Rattle.std.proofs.Common.{sym, subst}
use Rattle.instance.specs.Agrees.{AgreesOwn}
use Rattle.instance.specs.View.{value_of}
use Rattle.instance.proofs.Owning.{own_of}
use Rattle.instance.proofs.Serving.{serve_follows}
use Rattle.instance.proofs.actors.Instance.turn.Goals as goal

pub returns-clause-makes : goal.returns-clause-makes
returns-clause-makes c = λ set own agrees.
    serve_follows (own_of (value_of c.self.inside) set own) (subst (λ x. AgreesOwn x set own) (sym c.self.view_is) agrees) c.args.step c.turn.new.self c.in_ok-events.events c.in_ok-events.ensures.makes
    c.in_ok-made.made c.in_ok-made.ensures

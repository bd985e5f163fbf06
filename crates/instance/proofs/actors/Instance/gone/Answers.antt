use Rattle.std.proofs.Common.{sym, subst}
use Rattle.instance.specs.Agrees.{AgreesOwn}
use Rattle.instance.specs.View.{value_of}
use Rattle.instance.proofs.Bearing.{gone_follows}
use Rattle.instance.proofs.Owning.{own_of}
use Rattle.instance.proofs.actors.Instance.gone.Goals as goal

pub returns-clause-makes : goal.returns-clause-makes
returns-clause-makes c = λ set own agrees.
    gone_follows (own_of (value_of c.self.inside) set own) (subst (λ x. AgreesOwn x set own) (sym c.self.view_is) agrees) c.args.job c.args.shut c.gone.new.self
    (record { keeps = c.in_ok-gone.ensures.keeps; legal = c.in_ok-gone.ensures.legal; agrees = c.in_ok-gone.ensures.agrees })

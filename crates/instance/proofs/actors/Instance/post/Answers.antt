use Rattle.std.proofs.Common.{sym, subst}
use Rattle.instance.specs.Agrees.{AgreesOwn}
use Rattle.instance.specs.View.{value_of}
use Rattle.instance.proofs.Owning.{own_of}
use Rattle.instance.proofs.Posting.{post_follows}
use Rattle.instance.proofs.actors.Instance.post.Goals as goal

pub returns-clause-makes : goal.returns-clause-makes
returns-clause-makes c = λ set own agrees.
    post_follows (own_of (value_of c.self.inside) set own) (subst (λ x. AgreesOwn x set own) (sym c.self.view_is) agrees) c.post.new.self
    c.in_ok-post.ensures.keeps c.in_ok-post.ensures.agrees

use Rattle.std.proofs.Common.{◌≡◌, subst}
use Rattle.std.specs.Prelude.{slice_get}
use Rattle.instance.specs.Order.{answers}
use Rattle.instance.specs.View.{value_of}
use Rattle.instance.proofs.Ordering.{answer-chosen}
use Rattle.instance.proofs.actors.Instance.first_answer.Goals as goal

pub returns-clause-first : goal.returns-clause-first
returns-clause-first c =
    subst (λ w. c.first_answer.result ≡ slice_get (answers w) 0) c.self.view_is
    (answer-chosen (value_of c.self.inside) c.deref.result.now c.deref.ensures.value c.first_answer.result
    c.first_answer.ensures.some c.first_answer.ensures.first c.first_answer.ensures.none)

use Rattle.std.proofs.Common.{◌≡◌, refl, sym, subst, length}
use Rattle.std.specs.Prelude.{slice_get}
use Rattle.instance.specs.Agrees.{AreLinesOf}
use Rattle.instance.specs.Order.{issues}
use Rattle.instance.specs.View.{value_of}
use Rattle.instance.proofs.Ordering.{issue-chosen, next_lines}
use Rattle.instance.proofs.actors.Instance.first_issue.Goals as goal

pub returns-clause-first : goal.returns-clause-first
returns-clause-first c =
    let w = value_of c.self.inside in
    let lines = c.args.lines.now in
    subst (λ w. c.issue_from.result ≡ slice_get (issues lines w) 0) c.self.view_is
    (issue-chosen lines w (length lines) c.deref.result.now refl c.deref.ensures.value (next_lines w lines (subst (λ x. AreLinesOf x lines) (sym c.self.view_is) c.requires.lines))
    c.issue_from.result c.issue_from.ensures.some c.issue_from.ensures.first c.issue_from.ensures.none)

use Rattle.std.proofs.Common.{rules}
use Rattle.std.specs.Fn.{FnReturnsAt}
use Rattle.tap.proofs.check.Check.answer.Goals as goal

pub returns-clause-in_range : goal.returns-clause-in_range
returns-clause-in_range g c =
    let said : FnReturnsAt g.C.Fn c.args.self.now c.args.ask.now c.call.result = search rules in
    c.requires.once.in_range _ _ said

pub returns-clause-only : goal.returns-clause-only
returns-clause-only g c =
    let said : FnReturnsAt g.C.Fn c.args.self.now c.args.ask.now c.call.result = search rules in
    λ n answers. c.requires.once.one _ _ _ said answers

use Rattle.std.proofs.Common.{◌≡◌, subst, sym, rules}
use Rattle.std.specs.Prelude.{All, Contains}
use Rattle.manager_rules.specs.Scene.{IsAsked}
use Rattle.job_commands.specs.Desks.{asked_of}
use Rattle.job_commands.proofs.Desks.{asked_range, asked_there, asked_true}
use Rattle.job_commands.proofs.commands.Commands.asked.Goals as goal

pub returns-clause-exact : goal.returns-clause-exact
returns-clause-exact c = λ inst log h a.
    let is : c.add_children.new.list ≡ asked_of c.args.self.now = search rules in (
      λ i. asked_true c.args.self.now inst log h a (subst (λ l. Contains l a) is i),
      λ s. subst (λ l. Contains l a) (sym is) (asked_there c.args.self.now inst log h a s),
    )

pub returns-clause-ranges : goal.returns-clause-ranges
returns-clause-ranges c = λ inst log h valid.
    let is : c.add_children.new.list ≡ asked_of c.args.self.now = search rules in
    subst (All IsAsked) (sym is) (asked_range c.args.self.now inst log h valid)

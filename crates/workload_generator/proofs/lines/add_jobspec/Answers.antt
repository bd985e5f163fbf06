use Rattle.std.proofs.Common.{◌≡◌, OnOk, codes, decimal, subst}
use Rattle.workload_generator.specs.Texts.{jobspec}
use Rattle.workload_generator.proofs.Pieces.{five}
use Rattle.workload_generator.proofs.lines.add_jobspec.Goals as goal

pub returns : goal.returns
unfolding jobspec
returns c = subst (λ text. OnOk c.add-3.result (c.add-3.new.self ≡ text))
    (five c.args.text.now _ _ _ _ _ _ (codes "\"tasks\":[{\"command\":[\"sleep\",\"") (decimal c.args.seconds) _ _
    c.in_ok-add_numbered.ensures c.in_ok-add.ensures.added c.in_ok-add_numbered-2.ensures c.in_ok-add-2.ensures.added)
    c.add-3.ensures.added

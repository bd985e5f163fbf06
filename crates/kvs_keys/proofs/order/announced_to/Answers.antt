use Rattle.std.proofs.Common.{◌∙◌, ap, sym, refl}
use Rattle.kvs_space.specs.Space.{has_news}
use Rattle.std.specs.Option.{is_some}
use Rattle.kvs_space.proofs.Finding.{found-any, found-none}
use Rattle.kvs_keys.proofs.order.announced_to.Goals as goal

pub returns-in-Some-clause-some : goal.returns-in-Some-clause-some
returns-in-Some-clause-some c = (refl, record { above = c.requires.above; sender = refl; some = sym (found-any (has_news c.args.to) c.args.spaces.now.items) ∙ ap is_some (sym c.in-Some.ensures) })

pub returns-in-None-clause-first : goal.returns-in-None-clause-first
returns-in-None-clause-first c = λ h. found-none (has_news c.args.to) c.args.spaces.now.items c.in-None.ensures h

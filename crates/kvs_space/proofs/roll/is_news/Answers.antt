use Rattle.std.proofs.Common.{◌∙◌, ap}
use Rattle.std.specs.Option.{is_some}
use Rattle.kvs_space.specs.Space.{has_news}
use Rattle.kvs_space.proofs.Finding.{found-any}
use Rattle.kvs_space.proofs.roll.is_news.Goals as goal

pub returns : goal.returns
returns c = c.is_some.ensures ∙ ap is_some c.first_news.ensures ∙ found-any (has_news c.args.broker) c.args.spaces.now.items

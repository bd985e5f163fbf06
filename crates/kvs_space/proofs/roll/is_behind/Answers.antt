use Rattle.std.proofs.Common.{◌∙◌, ap}
use Rattle.std.specs.Option.{is_some}
use Rattle.kvs_space.specs.Space.{is_behind}
use Rattle.kvs_space.proofs.Finding.{found-any}
use Rattle.kvs_space.proofs.roll.is_behind.Goals as goal

pub returns : goal.returns
returns c = c.is_some.ensures ∙ ap is_some c.first_behind.ensures ∙ found-any (is_behind c.args.fanout c.args.broker) c.args.spaces.now.items

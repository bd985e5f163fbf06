use Rattle.std.proofs.Common.{◌∙◌, ap}
use Rattle.cache_node.specs.Cache.{dirty_at}
use Rattle.kvs_content.proofs.Sounding.{refused-out}
use Rattle.kvs_content.proofs.node.Node.reject.Goals as goal

pub returns-in_ok-push_back-clause-out : goal.returns-in_ok-push_back-clause-out
returns-in_ok-push_back-clause-out c = ap (dirty_at c.args.reference) c.nack.ensures.rest ∙ refused-out c.self.inside.cache c.args.reference c.is_sound.ensures.once

pub returns-else-is_some-clause-out : goal.returns-else-is_some-clause-out
returns-else-is_some-clause-out c = ap (dirty_at c.args.reference) c.nack.ensures.rest ∙ refused-out c.self.inside.cache c.args.reference c.is_sound.ensures.once

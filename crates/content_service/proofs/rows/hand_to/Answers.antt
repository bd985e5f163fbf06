use Rattle.content_service.specs.Rows.{is_loading}
use Rattle.content_service.proofs.Lists.{found-none}
use Rattle.content_service.proofs.rows.hand_to.Goals as goal

pub unreachable-requires : goal.unreachable-requires
unreachable-requires c = found-none (is_loading c.args.answer.by) c.args.rows.now.items c.in-None.ensures c.requires

use Rattle.job_service.proofs.Bearing.{bearing_of}
use Rattle.job_service.proofs.children.bearing.Goals as goal

pub returns : goal.returns
returns c = bearing_of c.args.commands.now c.args.book.now c.in_ok-children.children c.birth.result c.in_ok-children.ensures c.birth.ensures.some c.birth.ensures.none

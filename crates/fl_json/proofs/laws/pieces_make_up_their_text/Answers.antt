use Rattle.fl_json.proofs.Pieces.{pieces_each, pieces_whole}
use Rattle.fl_json.proofs.laws.pieces_make_up_their_text.Goals as goal

pub returns-clause-whole : goal.returns-clause-whole
returns-clause-whole c = pieces_whole

pub returns-clause-each : goal.returns-clause-each
returns-clause-each c = pieces_each

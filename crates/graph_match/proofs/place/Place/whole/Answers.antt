use Rattle.graph_match.proofs.Spots.{spots_length}
use Rattle.graph_match.proofs.place.Place.whole.Goals as goal

pub whole-requires : goal.whole-requires
whole-requires c = spots_length c.args.self.now.cores c.requires.0

pub whole-requires-2 : goal.whole-requires-2
whole-requires-2 c = spots_length c.args.self.now.gpus c.requires.1

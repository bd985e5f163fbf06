use Rattle.graph_match.proofs.Spots.{spots_length}
use Rattle.graph_match.proofs.place.Place.mark.Goals as goal

pub mark-requires : goal.mark-requires
mark-requires c = spots_length c.args.self.now.cores c.requires.0

pub mark-requires-2 : goal.mark-requires-2
mark-requires-2 c = spots_length c.args.self.now.gpus c.requires.1

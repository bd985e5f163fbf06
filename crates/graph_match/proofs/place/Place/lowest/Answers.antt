use Rattle.std.proofs.Common.{arith}
use Rattle.graph_match.specs.Places.{free_node}
use Rattle.graph_match.specs.Rooms.{room_of}
use Rattle.graph_match.proofs.Spots.{free_length}
use Rattle.graph_match.proofs.Turns.{slots_fit}
use Rattle.graph_match.proofs.place.Place.lowest.Goals as goal

pub overflow_mul-slots : goal.overflow_mul-slots
overflow_mul-slots c =
    let fit = slots_fit c.args.spec.now c.args.slots (room_of (free_node c.args.self.now)) c.requires.spec c.requires.room in
    omega (arith, fit.0, free_length c.args.self.now.cores c.requires.sets.0)

pub overflow_mul-slots-2 : goal.overflow_mul-slots-2
overflow_mul-slots-2 c =
    let fit = slots_fit c.args.spec.now c.args.slots (room_of (free_node c.args.self.now)) c.requires.spec c.requires.room in
    omega (arith, fit.1, free_length c.args.self.now.gpus c.requires.sets.1)

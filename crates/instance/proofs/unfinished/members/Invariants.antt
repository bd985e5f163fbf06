use Rattle.std.proofs.Common.{◌≡◌, length, filter}
use Rattle.std.specs.List.{range_with_len}
use Rattle.instance.specs.Closings.{waits_in}
use Rattle.instance.proofs.unfinished.members.Given as goal

abbrev pub invariant-loop-actor : goal.invariant-loop-actor
invariant-loop-actor l = l.count ≡ length (filter (waits_in l.lines l.seats l.space l.name) (range_with_len 0 l.actor))

use Rattle.std.proofs.Common.{◌≡◌, take}
use Rattle.std.specs.Prelude.{filter, option_map}
use Rattle.hierarchy.specs.Births.{is_at}
use Rattle.homes.proofs.homes.lines_of.Given as goal

abbrev pub invariant-loop-line : goal.invariant-loop-line
invariant-loop-line l = l.lines ≡ filter (λ line. is_at l.work.actors (option_map (λ x. x.now) l.label) line.actor) (take l.line-index l.work.lines)

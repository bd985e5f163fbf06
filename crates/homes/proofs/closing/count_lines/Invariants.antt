use Rattle.std.proofs.Common.{◌≡◌, ◌≤◌, count_by, take}
use Rattle.instance.specs.Agrees.{is_of}
use Rattle.homes.proofs.closing.count_lines.Given as goal

abbrev pub invariant-loop-line : goal.invariant-loop-line
invariant-loop-line l = (l.count ≡ count_by (is_of l.actor) (take l.line-index l.lines)) × (l.count ≤ l.line-index)

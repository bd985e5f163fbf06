use Rattle.std.proofs.Common.{◌≡◌, ◌≤◌, ◌+◌, length}
use denote.Text.{Utf8}
use denote.Shadow.{shadow}
use Rattle.workload.specs.Limits.{most_actors}
use Rattle.workload_reader.specs.Lines.{lines_of}
use Rattle.workload.specs.Laws.{empty}
use Rattle.workload_reader.specs.Reading.{fault_in, with_lines}
use Rattle.workload_reader.proofs.reader.read_lines.Given as goal

abbrev pub invariant-loop-piece : goal.invariant-loop-piece
invariant-loop-piece l = record {
  utf8 : shadow (Utf8 l.rest);
  few : length l.work.actors ≤ most_actors;
  counted : l.number + length l.rest ≤ length l.text + 1;
  fault : fault_in l.size l.work l.number (lines_of l.rest) ≡ fault_in l.size empty 1 (lines_of l.text);
  value : with_lines l.work (lines_of l.rest) ≡ with_lines empty (lines_of l.text);
}

abbrev pub decreases-loop-piece : goal.decreases-loop-piece
decreases-loop-piece l = length l.rest

use Rattle.std.proofs.Common.{◌≡◌, ◌-◌, ◌≤◌, ◌++◌, length, map, All}
use Rattle.std.specs.List.{slice_split}
use Rattle.idset.specs.Ranges.{IsRange}
use Rattle.idset.specs.Text.{is_comma, faults_in, range_of}
use Rattle.idset.proofs.reader.ranges.Given as goal

abbrev pub invariant-loop-ranges : goal.invariant-loop-ranges
invariant-loop-ranges l = record {
  within : length l.rest ≤ l.end;
  fault : faults_in (l.end - length l.rest) (slice_split is_comma l.rest) ≡ faults_in (l.end - length l.text) (slice_split is_comma l.text);
  read : l.ranges.items ++ map range_of (slice_split is_comma l.rest) ≡ map range_of (slice_split is_comma l.text);
  each : All IsRange l.ranges.items;
}

abbrev pub decreases-loop-ranges : goal.decreases-loop-ranges
decreases-loop-ranges l = length l.rest

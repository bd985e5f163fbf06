use Rattle.std.proofs.Common.{◌≡◌, ◌-◌, ◌≤◌, ◌++◌, length}
use Rattle.fl_json.specs.Numbers.{pieces, first_lost, first_bad_number, all_kept, rewritten}
use Rattle.fl_json.proofs.numbers.with_whole_numbers.Given as goal

abbrev pub invariant-pieces : goal.invariant-pieces
invariant-pieces l = record {
  within : length l.rest ≤ length l.text;
  lost : first_lost (length l.text - length l.rest) (pieces l.rest) ≡ first_bad_number l.text;
  kept : l.out.items ++ all_kept (pieces l.rest) ≡ rewritten l.text;
}

abbrev pub decreases-pieces : goal.decreases-pieces
decreases-pieces l = length l.rest

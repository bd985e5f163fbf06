use Rattle.std.proofs.Common.{◌≡◌, length, eqb, take, filter_map}
use Rattle.std.specs.List.{slice_split}
use Rattle.workload_reader.specs.Submits.{needed_of}
use Rattle.workload_reader.proofs.submits.needs_of.Given as goal

abbrev pub invariant-loop-word : goal.invariant-loop-word
invariant-loop-word l = l.needs ≡ filter_map needed_of (take (length l.yielded) (slice_split (λ b. eqb b 32) l.text))

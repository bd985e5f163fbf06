use Rattle.std.proofs.Common.{◌≡◌, ◌+◌, ◌*◌, ◌≤◌, drop}
use Rattle.job_rules.specs.Worths.{total}
use Rattle.graph_match.proofs.Blocks.{cores_of, gpus_of}
use Rattle.graph_match.proofs.racks.sum.Given as goal

abbrev pub invariant-loop-place : goal.invariant-loop-place
invariant-loop-place l = record {
  cores : l.cores + total cores_of (drop l.place-index l.places) ≡ total cores_of l.places;
  gpus : l.gpus + total gpus_of (drop l.place-index l.places) ≡ total gpus_of l.places;
  few_cores : l.cores ≤ l.place-index * 4294967296;
  few_gpus : l.gpus ≤ l.place-index * 4294967296;
}

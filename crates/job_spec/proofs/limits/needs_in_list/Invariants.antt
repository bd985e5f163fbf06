use Rattle.std.proofs.Common.{◌≡◌}
use Rattle.std.specs.Prelude.{map}
use Rattle.serde_json.specs.View.{view}
use Rattle.job_spec.specs.Fields.{each}
use Rattle.job_spec.specs.Limits.{need_of}
use Rattle.job_spec.proofs.Lists.{so_far}
use Rattle.job_spec.proofs.limits.needs_in_list.Given as goal

abbrev pub invariant-loop-value : goal.invariant-loop-value
invariant-loop-value l = so_far need_of l.needs l.values l.value-index ≡ each need_of (map view l.values)

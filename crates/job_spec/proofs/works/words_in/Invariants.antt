use Rattle.std.proofs.Common.{◌≡◌, length}
use Rattle.std.specs.Prelude.{map}
use Rattle.serde_json.specs.Find.{as_str}
use Rattle.serde_json.specs.View.{view}
use Rattle.job_spec.specs.declared.faults.Place.TheVariants.{Command}
use Rattle.job_spec.specs.Fields.{each, of_kind}
use Rattle.job_spec.proofs.Lists.{so_far}
use Rattle.job_spec.proofs.works.words_in.Given as goal

abbrev pub invariant-loop-value : goal.invariant-loop-value
invariant-loop-value l = record {
  made : so_far (of_kind as_str Command) l.words l.values l.value-index ≡ each (of_kind as_str Command) (map view l.values);
  same : length l.words ≡ l.value-index;
}

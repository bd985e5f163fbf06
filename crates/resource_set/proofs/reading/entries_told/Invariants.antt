use Rattle.std.proofs.Common.{◌≡◌, drop}
use Rattle.serde_json.specs.View.{items_view}
use Rattle.resource_set.specs.Reading.{entries_in}
use Rattle.resource_set.proofs.Told.{with_front}
use Rattle.resource_set.proofs.reading.entries_told.Given as goal

abbrev pub invariant-loop-value : goal.invariant-loop-value
invariant-loop-value l = with_front l.entries.items (entries_in (items_view (drop l.value-index l.values))) ≡ entries_in (items_view l.values)

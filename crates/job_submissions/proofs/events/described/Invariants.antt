use Rattle.std.proofs.Common.{◌≡◌, map, take}
use Rattle.serde_json.specs.View.{view}
use Rattle.job_submissions.proofs.Described.{described_one}
use Rattle.job_submissions.proofs.events.described.Given as goal

abbrev pub invariant-loop-need : goal.invariant-loop-need
invariant-loop-need l = map view l.values.items ≡ map described_one (take l.need-index l.needs)

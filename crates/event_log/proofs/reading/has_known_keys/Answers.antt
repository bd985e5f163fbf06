use Rattle.std.proofs.Common.{◌∙◌, sym}
use Rattle.serde_json.specs.View.{view, members_view}
use Rattle.event_log.proofs.Lines.{keys_known, keys_viewed}
use Rattle.event_log.proofs.reading.has_known_keys.Goals as goal

pub returns-in-Some : goal.returns-in-Some
returns-in-Some c = c.are_known.ensures ∙ sym (keys_known (view c.args.value.now) (members_view c.in-Some.members.now.entries) c.in-Some.ensures ∙ keys_viewed c.in-Some.members.now.entries)

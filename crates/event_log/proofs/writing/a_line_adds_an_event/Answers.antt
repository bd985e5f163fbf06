use Rattle.std.proofs.Common.{[], sym}
use Rattle.std.proofs.lemmas.List.{flat_map_more}
use Rattle.event_log.specs.Events.{line_text}
use Rattle.event_log.proofs.writing.a_line_adds_an_event.Goals as goal

pub returns : goal.returns
returns c = λ events event. sym (flat_map_more line_text [] events event)

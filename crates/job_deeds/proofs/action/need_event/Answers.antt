use Rattle.std.proofs.Common.{sym, ◌∙◌, subst}
use Rattle.std.specs.Str.{IsUtf8}
use Rattle.manager_rules.proofs.Texts.{description_utf8}
use Rattle.job_deeds.proofs.action.need_event.Goals as goal

pub described_event-requires : goal.described_event-requires
described_event-requires c = subst IsUtf8 (sym (c.as_slice.ensures ∙ c.in_ok-description.ensures)) (description_utf8 c.args.need.now)

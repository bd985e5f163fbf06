use Rattle.std.proofs.Common.{sym, ◌∙◌, subst}
use Rattle.std.specs.Str.{IsUtf8}
use Rattle.manager_rules.proofs.Texts.{description_utf8}
use Rattle.job_deeds.proofs.action.loss_event.Goals as goal

pub fatal-requires : goal.fatal-requires
fatal-requires c = subst IsUtf8 (sym (c.as_slice.ensures ∙ c.in_ok-description.ensures)) (description_utf8 c.args.need.now)

use Rattle.std.proofs.Common.{◌∙◌, sym, subst}
use Rattle.std.specs.Str.{IsUtf8}
use Rattle.manager_rules.proofs.Texts.{description_utf8}
use Rattle.job_submissions.proofs.events.description_value.Goals as goal

pub unwrap-requires : goal.unwrap-requires
unwrap-requires c = c.from_utf8.ensures.succeeds (subst IsUtf8 (sym (c.into_vec.ensures ∙ c.in_ok-text.ensures)) (description_utf8 c.args.need.now))

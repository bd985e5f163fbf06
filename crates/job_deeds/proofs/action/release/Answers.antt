use Rattle.std.proofs.Common.{◌≡◌, ap, sym, ◌∙◌, subst, []}
use Rattle.std.specs.Option.{option_map_or}
use Rattle.std.specs.Str.{IsUtf8}
use Rattle.manager_rules.specs.Deeds.{ranks_text}
use Rattle.manager_rules.proofs.Texts.{held_ranks_utf8}
use Rattle.job_deeds.proofs.action.release.Goals as goal

pub release_event-requires : goal.release_event-requires
release_event-requires c =
    let is : c.as_slice.result.now ≡ option_map_or ranks_text c.args.row.now.r [] = c.as_slice.ensures ∙ c.in_ok-ranks.ensures ∙ ap (λ j. option_map_or ranks_text j.r []) c.row.view_is in
    subst IsUtf8 (sym is) (held_ranks_utf8 c.args.row.now.r c.requires)

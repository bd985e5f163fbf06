use Rattle.std.proofs.Common.{ap, ◌∙◌}
use Rattle.std.specs.Option.{unwrap_or}
use Rattle.plain_store.proofs.Counted.{kept_lookup}
use Rattle.plain_store.proofs.counts.count_in.Goals as goal

pub returns : goal.returns
returns c = c.unwrap_or.ensures ∙ ap (λ o. unwrap_or o 0) (c.copied.ensures ∙ c.get.ensures.value ∙ kept_lookup c.args.counts.now.entries c.args.place.now)

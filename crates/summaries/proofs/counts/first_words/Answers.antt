use Rattle.std.proofs.Common.{◌==◌, rules}
use Rattle.std.proofs.lemmas.Iterator.{YieldsList-from_map_by}
use Rattle.std.proofs.lemmas.Iterator.Consumers.{map_from_collect}
use Rattle.std.proofs.lemmas.Iterator.Splits.{YieldsList-from_slice_split}
use Rattle.summaries.specs.Counts.{first_word}
use Rattle.summaries.proofs.counts.first_words.Goals as goal

pub returns : goal.returns
returns c = map_from_collect _ c.collect.ensures.ran
    (YieldsList-from_map_by _ (λ w. w.now) first_word
    (YieldsList-from_slice_split _ (λ b. b == 10) c.args.text.now (search rules) (search rules) (search rules) (λ x b q k. search rules))
    c.map.ensures.closure (λ x r q k. search rules))

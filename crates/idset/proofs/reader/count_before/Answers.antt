use Rattle.std.proofs.Common.{◌==◌, ◌∙◌, rules, tests, not}
use Rattle.std.proofs.lemmas.Iterator.{YieldsList-from_slice}
use Rattle.std.proofs.lemmas.Iterator.Search.{position_from_yields_List}
use Rattle.std.proofs.lemmas.List.Sums.{prefix_len-le-length}
use Rattle.idset.proofs.Numbers.{place_is}
use Rattle.idset.proofs.reader.count_before.Goals as goal

pub returns-clause-count : goal.returns-clause-count
returns-clause-count c = c.unwrap_or.ensures ∙ place_is (λ b. b == c.args.byte) c.args.text.now _ (position_from_yields_List (λ b. b == c.args.byte) _ _ c.position.result c.position.ensures.ran (YieldsList-from_slice _ c.iter.ensures.rest) (λ x b q k. search (rules, tests)))

pub returns-clause-within : goal.returns-clause-within
returns-clause-within c = rw (returns-clause-count c) (prefix_len-le-length (λ b. not (b == c.args.byte)) c.args.text.now)

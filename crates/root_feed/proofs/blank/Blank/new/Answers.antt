use Rattle.std.proofs.Common.{◌≡◌, ℕ, List, length, replicate, slice_index, subst, arith}
use Rattle.root_feed.proofs.Steps.{starts, zeros}
use Rattle.root_feed.proofs.blank.Blank.new.Goals as goal

pub of_words-requires : goal.of_words-requires
of_words-requires c =
    let count : length c.as_slice.result.now ≡ c.len-count.result = grind (arith, c.as_slice.ensures.value, c.len-count.ensures) in
    let same : replicate c.args.brokers 0 ≡ c.as_slice.result.now = grind (arith, c.as_slice.ensures.value, c.in_ok-words.ensures.items) in
    starts _ _ count (λ r. subst (λ (ws : List ℕ). slice_index ws r ≡ 0) same (zeros c.args.brokers r))

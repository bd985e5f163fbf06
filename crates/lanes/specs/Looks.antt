-- Looks by passes.
use Rattle.std.specs.Prelude.{◌≡◌, ℕ, ◌≤◌, [], ◌∷◌, ◌++◌, slice_index}
use Rattle.root_feed.specs.Numbers.{load_of}
use Rattle.root_feed.specs.Values.{PassValue}

-- what was seen is as much as was needed: the number of one load more by the pass, which is none below
-- what the pass saw or heard by a note
pub record IsSeenBy (before after : PassValue) (need : ℕ) (seen : ℕ × ℕ) : Type 0 where
  pub enough : need ≤ seen.1
  pub broker : seen.0 ≡ before.broker
  pub loaded : after.loads ≡ before.loads ++ load_of before.broker seen.1 ∷ []
  pub no_older : slice_index before.seen before.broker ≤ seen.1

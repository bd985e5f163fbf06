use Rattle.std.proofs.Common.{◌≡◌, ◌<◌, ◌++◌, ℕ}
use Rattle.tree_store.specs.Fresh.{AreNew, AddsSome, HasLongAt}
use Rattle.tree_store.specs.Shown.{long_values}
use Rattle.tree_store.proofs.Shortening.{first_shortened}
use Rattle.tree_store.proofs.fresh.Fresh.shorten.Given as goal

abbrev pub invariant-loop-index : goal.invariant-loop-index
invariant-loop-index l = record {
  shortened : l.directory ≡ first_shortened l.hash l.index l.initial.directory;
  apart : AreNew l.store l.self;
  held : (k : ℕ) → k < l.index → HasLongAt l.hash l.initial.directory k (l.store ++ l.self);
  only : AddsSome l.hash (long_values l.initial.directory) l.initial.self l.self;
}

use Rattle.std.proofs.Common.{◌≡◌, Some}
use Rattle.kvs_model.specs.Store.{Store as Contents}
use Rattle.kvs_model.specs.History.{after}
use Rattle.kvs_space.proofs.space.catch_up.Given as goal

abbrev pub invariant-loop-number : goal.invariant-loop-number
invariant-loop-number l = (first : Contents) → after l.scope l.history.items l.from first ≡ Some l.initial.store → after l.scope l.history.items l.number first ≡ Some l.store

use Rattle.std.proofs.Common.{◌≤◌, ◌-◌}
use Rattle.fl_digest.specs.declared.Hash.{Hash}
use Rattle.kvs_model.specs.Store.{Store}
use Rattle.tree_look.specs.Looks.{Reads}
use Rattle.tree_look.proofs.Following.{IsAfter}
use Rattle.tree_look.proofs.legs.look_in.Given as goal

abbrev pub invariant-loop-links : goal.invariant-loop-links
invariant-loop-links g l = record {
  bound : l.links ≤ 11;
  after : (hash : Hash) (st : Store) → Reads hash st l.root (g.T.Texts.seen l.texts) → IsAfter hash st l.asked l.path (g.T.Texts.seen l.texts) l.initial.passed.items l.passed.items l.links l.here.items;
}

abbrev pub decreases-loop-links : goal.decreases-loop-links
decreases-loop-links g l = 11 - l.links

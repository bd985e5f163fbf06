use Rattle.std.proofs.Common.{◌≡◌, ◌+◌, ◌*◌, ◌++◌, drop}
use Rattle.tree_rules.specs.Objects.{entries_of, listed}
use Rattle.tree_objects.specs.Directories.{tree_size, entries_size}
use Rattle.tree_objects.specs.Level.{tree_of}
use Rattle.tree_objects.specs.Reading.{HaveTextNames}
use Rattle.tree_objects.proofs.Tokens.{members_rest}
use Rattle.tree_objects.proofs.writing.+written.Given as goal

abbrev pub decreases-add_object : goal.decreases-add_object
decreases-add_object l = 2 * tree_size (tree_of l.object.now) + 1

abbrev pub decreases-add_members : goal.decreases-add_members
decreases-add_members l = 2 * entries_size l.map.now

abbrev pub invariant-add_members-loop-index : goal.invariant-add_members-loop-index
invariant-add_members-loop-index l = record {
  before : l.out.before ≡ l.initial.out.before;
  tokens : l.out.tokens ++ members_rest (drop l.index (listed l.map)) ≡ l.initial.out.tokens ++ members_rest (listed l.map);
  names : HaveTextNames (entries_of (drop l.index (listed l.map))) → HaveTextNames l.map;
}

use Rattle.std.proofs.Common.{◌≡◌, ℕ, length}
use Rattle.std.specs.Prelude.{slice_index_or}
use Rattle.kvs_content.specs.Node.{empty_node}
use Rattle.kvs_content.proofs.contents.Contents.new.Given as goal

abbrev pub invariant-loop-broker : goal.invariant-loop-broker
invariant-loop-broker l = record {
  count : length l.nodes.items ≡ l.broker;
  empty : (k : ℕ) → slice_index_or l.nodes.items k empty_node ≡ empty_node;
}

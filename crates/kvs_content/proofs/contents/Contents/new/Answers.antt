use Rattle.std.proofs.Common.{◌≡◌, ◌∙◌, ap, length, length-append, arith}
use Rattle.std.specs.Prelude.{slice_index_or}
use Rattle.kvs_content.specs.Node.{empty_node}
use Rattle.kvs_content.proofs.Beginning.{empty-agrees, empty-sound, pushed-empty}
use Rattle.kvs_content.proofs.contents.Contents.new.Goals as goal

pub loop-broker-preserved : goal.loop-broker-preserved
loop-broker-preserved c = record {
  count = ap length c.in_ok-push.ensures.items ∙ length-append c.loop-broker.nodes.items _ ∙ omega arith;
  empty = λ k. ap (λ ns. slice_index_or ns k empty_node) c.in_ok-push.ensures.items ∙ pushed-empty c.loop-broker.nodes.items _ c.in_ok-new.ensures c.loop-broker.invariant.empty k;
}

pub returns-clause-sound : goal.returns-clause-sound
returns-clause-sound c = empty-sound _ c.new-2.ensures c.new-3.ensures.items c.new-4.ensures.items c.loop-broker.invariant.empty c.requires.fanout (omega arith)

pub returns-clause-agrees : goal.returns-clause-agrees
returns-clause-agrees c = λ set size fanout hash.
    let count : c.args.size ≡ length c.loop-broker.nodes.items = omega arith in
    empty-agrees _ c.new-2.ensures c.new-3.ensures.items c.new-4.ensures.items c.loop-broker.invariant.empty set (size ∙ count) fanout hash

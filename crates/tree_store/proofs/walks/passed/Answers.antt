use Rattle.std.proofs.Common.{◌≡◌, take, IsSome, true, false, sym, ◌∙◌, arith}
use Rattle.kvs_model.specs.Store.{node_at}
use Rattle.tree_store.specs.Shown.{opened_at}
use Rattle.kvs_model.specs.Operation.{is_directory}
use Rattle.plain_store.proofs.Walking.{stop_more, stop_here, stop_end}
use Rattle.tree_store.proofs.Walked.{opens_upto}
use borrow.Author.Count.{below_more}
use Rattle.tree_store.proofs.walks.passed.Goals as goal

pub enter-requires : goal.enter-requires
enter-requires c = (c.requires.0, c.requires.1, c.loop-count.invariant.shown c.requires.0 c.requires.1 c.requires.2)

pub returns-then-not-branch-clause-stop : goal.returns-then-not-branch-clause-stop
returns-then-not-branch-clause-stop c = λ h st shows.
    let path = c.args.path.now in
    let count = c.loop-count.count in
    let above = opens_upto c.loop-count.opened st path count c.loop-count.invariant.opens in
    let none : is_directory (node_at st (take count path)) ≡ false = sym (c.in_ok-enter.ensures.is h st (c.loop-count.invariant.shown h st shows) above) ∙ c.if-not-branch.true in
    c.loop-count.invariant.stop h st shows ∙ stop_here st path count c.loop-count-test.true none

pub returns-then-not-branch-clause-ends : goal.returns-then-not-branch-clause-ends
returns-then-not-branch-clause-ends c = λ h st shows less.
    let path = c.args.path.now in
    let count = c.loop-count.count in
    let above = opens_upto c.loop-count.opened st path count c.loop-count.invariant.opens in
    sym (c.in_ok-enter.ensures.is h st (c.loop-count.invariant.shown h st shows) above) ∙ c.if-not-branch.true

pub returns-then-not-branch-clause-shown : goal.returns-then-not-branch-clause-shown
returns-then-not-branch-clause-shown c = λ h st shows. c.in_ok-enter.ensures.shown h st (c.loop-count.invariant.shown h st shows)

pub loop-count-preserved : goal.loop-count-preserved
loop-count-preserved c =
    let path = c.args.path.now in
    let count = c.loop-count.count in
    record {
      bound = omega arith;
      opens = below_more (λ k. IsSome (opened_at c.enter.new.self (take k path))) count (λ k w. c.in_ok-enter.ensures.kept (take k path) (c.loop-count.invariant.opens k w)) (c.in_ok-enter.ensures.opens c.if-not-branch.false);
      stop = λ h st shows. (
          let above = opens_upto c.loop-count.opened st path count c.loop-count.invariant.opens in
          let there : is_directory (node_at st (take count path)) ≡ true = sym (c.in_ok-enter.ensures.is h st (c.loop-count.invariant.shown h st shows) above) ∙ c.if-not-branch.false in
          c.loop-count.invariant.stop h st shows ∙ stop_more st path count c.loop-count-test.true there);
      shown = λ h st shows. c.in_ok-enter.ensures.shown h st (c.loop-count.invariant.shown h st shows);
    }

pub returns-clause-stop : goal.returns-clause-stop
returns-clause-stop c = λ h st shows. c.loop-count.invariant.stop h st shows ∙ stop_end st c.args.path.now c.loop-count.count c.loop-count-test.false

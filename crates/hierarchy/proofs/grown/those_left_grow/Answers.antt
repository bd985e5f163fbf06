use Rattle.hierarchy.proofs.Growth.{issue_grown, reply_grown}
use Rattle.hierarchy.proofs.grown.those_left_grow.Goals as goal

pub returns : goal.returns
returns c = record {
  issued = λ set d actor command on lost legal. issue_grown set d actor command on lost legal;
  told = λ set d actor command on lost waits. reply_grown set d actor command on lost waits;
}

use Rattle.hierarchy.proofs.Within.{built, own_labels, tallies, within}
use Rattle.hierarchy.proofs.workloads.lines_of_a_home_are_within.Goals as goal

pub returns : goal.returns
returns c = record {
  within = λ work label all size some h. within work label size all some h;
  built = λ work label size h. built work label size h;
  labels = λ work label size h. own_labels work label size h;
  tallies = λ work label size h. tallies work label size h;
}

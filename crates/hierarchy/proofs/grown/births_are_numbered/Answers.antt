use Rattle.hierarchy.proofs.Nested.{parent_lives}
use Rattle.hierarchy.proofs.Numbering.{birth_at, born_exactly, number_of, numbers_are, parents_first, top_lives}
use Rattle.hierarchy.proofs.grown.births_are_numbered.Goals as goal

pub returns : goal.returns
returns c = record {
  numbered = λ set d l. numbers_are set d l;
  born = λ set d i l. born_exactly set d i l;
  births = λ set d k l. birth_at set d k l;
  parents = λ set d i b l is. (number_of d i b is, parents_first set d l i b is);
  live = λ set d i b l h is. parent_lives set d l i b h is;
  top = λ set d l. top_lives set d l;
}

use Rattle.hierarchy.proofs.Homes.{are_numbered, in_family_only}
use Rattle.hierarchy.proofs.Nested.{in_family}
use Rattle.hierarchy.proofs.family.the_family_is_who_lives.Goals as goal

pub returns : goal.returns
returns c = record {
  has = λ set d i h. in_family set d i h;
  only = λ set d l here. in_family_only set d l here;
  numbered = λ set d. are_numbered set d;
}

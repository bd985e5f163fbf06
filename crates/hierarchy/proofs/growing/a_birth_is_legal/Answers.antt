use Rattle.hierarchy.proofs.Bearing.{birth_fits, birth_goes_on, born_own, born_setup}
use Rattle.hierarchy.proofs.growing.a_birth_is_legal.Goals as goal

pub returns : goal.returns
returns c = record {
  legal = λ set d child parent job label second grant on l follows new. record {
    legal = birth_fits set d on child parent job label second grant l follows new;
    on = birth_goes_on set d on child parent job label second grant l follows new;
  };
  begins = λ set d child parent job label second grant on l. born_own set d on child parent job label second grant l;
  given = λ set d child parent job label second grant on l. born_setup set d on child parent job label second grant l;
}

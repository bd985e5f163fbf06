use Rattle.hierarchy.proofs.Labels.{new_label}
use Rattle.hierarchy.proofs.growing.a_birth_has_a_new_label.Goals as goal

pub returns : goal.returns
returns c = λ set d child parent job label second grant i on l labels h. new_label set d on child parent job label second grant l labels i h

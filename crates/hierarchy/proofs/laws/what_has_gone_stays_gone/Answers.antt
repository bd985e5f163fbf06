use Rattle.kvs_rules.proofs.Sequences.{each_parts}
use Rattle.std.proofs.Common.{[]}
use Rattle.hierarchy.specs.Legal.{IsLegalRunEntry}
use Rattle.hierarchy.proofs.Members.{all_of_others, ends_with_it}
use Rattle.hierarchy.proofs.laws.what_has_gone_stays_gone.Goals as goal

pub returns : goal.returns
returns c = record {
  ended = λ set d more i l gone. ends_with_it set d more i l gone;
  quiet = λ set d more i l gone. all_of_others set i d more gone (each_parts (IsLegalRunEntry set) [] d more l).1;
}

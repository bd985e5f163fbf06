use Rattle.std.proofs.Common.{[]}
use Rattle.kvs_rules.proofs.Sequences.{each_at}
use Rattle.run_laws.proofs.Sounds.{only_grow, stay_sound}
use Rattle.hierarchy.specs.Legal.{IsLegalRunEntry}
use Rattle.hierarchy.specs.Own.{own_of, setup_in}
use Rattle.std.proofs.Common.{◌∷◌, ◌++◌}
use Rattle.hierarchy.proofs.laws.logs_only_grow_in_all.Goals as goal

pub returns : goal.returns
returns c = record {
  sound = λ set d e i l n h k. stay_sound (setup_in set (d ++ e ∷ []) i) k.valid (own_of set (d ++ e ∷ []) i) ((each_at (IsLegalRunEntry set) d e [] l).own n i h) k.timely;
  grows = λ set d e i l n h k. only_grow (setup_in set (d ++ e ∷ []) i) k.valid (own_of set (d ++ e ∷ []) i) ((each_at (IsLegalRunEntry set) d e [] l).own n i h) k.timely;
}

use Rattle.std.proofs.Common.{◌++◌, [], refl, sym, subst}
use Rattle.kvs_rules.proofs.Sequences.{each_at}
use Rattle.answers.specs.declared.chronicle.Entry.TheVariants as entry
use Rattle.hierarchy.specs.Legal.{AreOwnLegal, IsLegalRun, IsLegalRunEntry}
use Rattle.hierarchy.proofs.laws.a_whole_run_is_legal_in_all.Goals as goal

pub returns : goal.returns
returns c = λ set d l w.
    subst (AreOwnLegal set) (sym w.split)
    ((each_at (IsLegalRunEntry set) (w.earlier ++ w.closings) entry.Closed [] (subst (IsLegalRun set) w.split l)).own refl)

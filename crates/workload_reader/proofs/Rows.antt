-- Texts by hand: what they spell, and which fault they have, by the definitions alone.
use Rattle.std.proofs.Common.{◌≡◌, [], ◌∷◌, refl}
use Rattle.std.specs.Prelude.{Some, None, codes}
use Rattle.workload.specs.Laws.{empty}
use Rattle.workload_reader.specs.Reading.{fault_in, verb_faults, with_lines}
use Rattle.workload.specs.declared.work.Command.TheVariants as command
use Rattle.workload_reader.specs.declared.faults.LineFault.TheVariants as line_fault
use Rattle.workload_reader.specs.declared.faults.Which.TheVariants as which
use Rattle.workload_reader.specs.Lines.{lines_of}

a_put_with_a_text : with_lines empty (lines_of (codes "actor a 0\r\n  a  put .k.  h e")) ≡ record {
  actors = record { name = codes "a"; rank = 0; of = None } ∷ [];
  lines = record { actor = 0; command = command.Put (codes "k" ∷ []) (codes " h e") } ∷ [];
  grant = None;
}
a_put_with_a_text = refl

first_path : with_lines empty (lines_of (codes "actor a 0\na put k hello\n# a note\na commit\na get k")) ≡ record {
  actors = record { name = codes "a"; rank = 0; of = None } ∷ [];
  lines = record { actor = 0; command = command.Put (codes "k" ∷ []) (codes "hello") }
      ∷ record { actor = 0; command = command.Commit }
      ∷ record { actor = 0; command = command.Get (codes "k" ∷ []) }
      ∷ [];
  grant = None;
}
first_path = refl

sound : fault_in 4 empty 1 (lines_of (codes "actor a 0\na put k hello\n# a note\na commit\na get k")) ≡ None
unfolding verb_faults
sound = refl

no_actor : fault_in 4 empty 1 (lines_of (codes "b put k v")) ≡ Some (line_fault.NoActor 1)
no_actor = refl

rank : fault_in 4 empty 1 (lines_of (codes "actor a 9")) ≡ Some (line_fault.Limit 1 which.Rank)
rank = refl

too_large : fault_in 4 empty 1 (lines_of (codes "actor a 18446744073709551616")) ≡ Some (line_fault.BadNumber 1)
too_large = refl

no_key : fault_in 4 empty 1 (lines_of (codes "actor a 0\na put")) ≡ Some (line_fault.BadCommand 2)
unfolding verb_faults
no_key = refl

twice : fault_in 4 empty 1 (lines_of (codes "actor a 0\n\n# a note\r\nactor a 1")) ≡ Some (line_fault.BadCommand 4)
twice = refl

every_verb : with_lines empty (lines_of (codes "actor a 0\na append k hello\na unlink k\na mkdir d.e\na symlink l d.e\na ls .\na readlink l")) ≡ record {
  actors = record { name = codes "a"; rank = 0; of = None } ∷ [];
  lines = record { actor = 0; command = command.Append (codes "k" ∷ []) (codes "hello") }
      ∷ record { actor = 0; command = command.Unlink (codes "k" ∷ []) }
      ∷ record { actor = 0; command = command.Mkdir (codes "d" ∷ codes "e" ∷ []) }
      ∷ record { actor = 0; command = command.Symlink (codes "l" ∷ []) (record { path = codes "d" ∷ codes "e" ∷ []; namespace = None }) }
      ∷ record { actor = 0; command = command.Ls [] }
      ∷ record { actor = 0; command = command.Readlink (codes "l" ∷ []) }
      ∷ [];
  grant = None;
}
every_verb = refl

-- a watch has a label alone, which nobody need submit
a_watch : with_lines empty (lines_of (codes "actor a 0\na watch j")) ≡ record {
  actors = record { name = codes "a"; rank = 0; of = None } ∷ [];
  lines = record { actor = 0; command = command.Watch (codes "j") } ∷ [];
  grant = None;
}
a_watch = refl

watched_by_nobodys_label : fault_in 4 empty 1 (lines_of (codes "actor a 0\na watch j")) ≡ None
unfolding verb_faults
watched_by_nobodys_label = refl

watch_without_label : fault_in 4 empty 1 (lines_of (codes "actor a 0\na watch")) ≡ Some (line_fault.BadCommand 2)
unfolding verb_faults
watch_without_label = refl

watch_of_two : fault_in 4 empty 1 (lines_of (codes "actor a 0\na watch j k")) ≡ Some (line_fault.BadCommand 2)
unfolding verb_faults
watch_of_two = refl

one_target : fault_in 4 empty 1 (lines_of (codes "actor a 0\na symlink l")) ≡ Some (line_fault.BadCommand 2)
unfolding verb_faults
one_target = refl

late_grant : fault_in 4 empty 1 (lines_of (codes "actor a 0\na commit\ngrant {}")) ≡ Some (line_fault.BadCommand 3)
unfolding verb_faults
late_grant = refl

-- a look stands alone, and only in the top
a_look : with_lines empty (lines_of (codes "actor a 0\na look")) ≡ record {
  actors = record { name = codes "a"; rank = 0; of = None } ∷ [];
  lines = record { actor = 0; command = command.Look } ∷ [];
  grant = None;
}
a_look = refl

look_in_a_child : fault_in 4 empty 1 (lines_of (codes "actor a 0\nactor b 0 of j\nb look")) ≡ Some (line_fault.BadCommand 3)
unfolding verb_faults
look_in_a_child = refl

look_at_a_key : fault_in 4 empty 1 (lines_of (codes "actor a 0\na look k")) ≡ Some (line_fault.BadCommand 2)
unfolding verb_faults
look_at_a_key = refl

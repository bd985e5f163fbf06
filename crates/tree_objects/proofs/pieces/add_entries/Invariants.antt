use Rattle.std.proofs.Common.{◌≡◌, ◌++◌, length, drop, false}
use Rattle.tree_rules.specs.Objects.{listed}
use Rattle.tree_objects.specs.Level.{paired}
use Rattle.tree_objects.specs.Pieces.{AreTexts}
use Rattle.tree_objects.proofs.Texts.{rest_text}
use Rattle.tree_objects.proofs.pieces.add_entries.Given as goal

abbrev pub invariant-loop-index : goal.invariant-loop-index
invariant-loop-index l = record {
  counted : length l.texts ≡ length l.initial.texts;
  texts : AreTexts l.names l.objects l.texts;
  added : l.out.items ++ rest_text l.later (drop l.index (listed (paired l.names l.objects))) ≡ l.initial.out.items ++ rest_text false (listed (paired l.names l.objects));
}

use Rattle.std.proofs.Common.{◌≡◌, ◌++◌, drop}
use Rattle.tree_objects.proofs.Tokens.{references_rest}
use Rattle.tree_objects.proofs.writing.add_references.Given as goal

abbrev pub invariant-loop-reference : goal.invariant-loop-reference
invariant-loop-reference l = record {
  before : l.out.before ≡ l.initial.out.before;
  tokens : l.out.tokens ++ references_rest (drop l.reference-index l.references) ≡ l.initial.out.tokens ++ references_rest l.references;
}

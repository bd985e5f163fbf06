use Rattle.std.proofs.Common.{[], ◌∷◌, ◌++◌, ap, ◌∙◌, append_assoc, drop}
use Rattle.std.proofs.lemmas.Result.{on_ok_weaker}
use Rattle.json.specs.Token.{begin_array, end_array}
use Rattle.tree_objects.proofs.Tokens.{references_rest, references_end, added_last}
use Rattle.tree_objects.proofs.writing.add_references.Goals as goal

pub returns : goal.returns
returns c =
    let refs = c.args.references.now in
    let i = c.loop-reference.reference-index in
    on_ok_weaker c.end_array.result (λ e. (
      c.end_array.ensures.room.0 ∙ c.loop-reference.invariant.before ∙ c.in_ok-begin_array.ensures.room.0,
      added_last c.loop-reference.out.tokens c.end_array.new.self.tokens (end_array ∷ []) (references_rest (drop i refs)) (c.begin_array.new.self.tokens ++ references_rest refs) e (references_end refs i c.loop-reference-test.false) c.loop-reference.invariant.tokens
          ∙ ap (λ l. l ++ references_rest refs) c.in_ok-begin_array.ensures.ok
          ∙ append_assoc c.args.out.now.tokens (begin_array ∷ []) (references_rest refs),
    )) c.end_array.ensures.ok

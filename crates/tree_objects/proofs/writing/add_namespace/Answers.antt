use Rattle.std.proofs.Common.{[], ◌∷◌, ◌++◌, ap₂, ◌∙◌, append_assoc, codes}
use Rattle.std.proofs.lemmas.Result.{on_ok_weaker}
use Rattle.json.specs.Token.{Token, key, string}
use Rattle.std.specs.Prelude.{List, ℕ}
use Rattle.tree_objects.proofs.writing.add_namespace.Goals as goal

pub returns : goal.returns
returns c =
    let before = c.args.out.now.tokens in
    on_ok_weaker c.add_text.result (λ e. (
      e.0 ∙ c.in_ok-key.ensures.room.0,
      e.1 ∙ ap₂ (λ (l : List Token) (t : List ℕ). l ++ string t ∷ []) c.in_ok-key.ensures.ok c.as_slice.ensures
          ∙ append_assoc before (key (codes "namespace") ∷ []) (string c.args.name.now ∷ []),
    )) c.add_text.ensures

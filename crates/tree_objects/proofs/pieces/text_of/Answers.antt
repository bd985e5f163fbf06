use Rattle.std.proofs.Common.{◌≡◌, ℕ, List, [], ◌∷◌, ◌++◌, ap, ap₂, ◌∙◌}
use Rattle.std.proofs.lemmas.Result.{IfOk-weaker}
use Rattle.json.specs.Print.{quoted}
use Rattle.json.specs.Token.{Token, string}
use Rattle.tree_rules.specs.Objects.{tree_text}
use Rattle.tree_objects.specs.Level.{tree_of}
use Rattle.tree_objects.specs.Pieces.{entry_text}
use Rattle.tree_objects.proofs.Texts.{key_text, made_text}
use Rattle.tree_objects.proofs.pieces.text_of.Goals as goal

pub returns : goal.returns
returns c =
    let name = c.args.name.now in
    let tree = tree_of c.args.object.now in
    let key = c.into_inner-text.result.items in
    let none : c.add_text.new.out.before ≡ [] = c.in_ok-add_text.ensures.0 ∙ c.new-key.ensures.before ∙ c.new.ensures.items in
    let tokens : c.add_text.new.out.tokens ≡ string name ∷ [] = c.in_ok-add_text.ensures.1 ∙ ap₂ (λ (l : List Token) (s : List ℕ). l ++ string s ∷ []) c.new-key.ensures.tokens c.as_slice.ensures in
    let quoted_name : key ≡ quoted name = key_text name key c.add_text.new.out.before c.add_text.new.out.tokens c.into_inner-text.ensures.items none tokens in
    let text : c.as_slice-2.result.now ≡ tree_text tree = c.as_slice-2.ensures.value ∙ c.in_ok-print.ensures.canonical in
    let last : c.extend_from_slice.new.self.items ≡ c.push.new.self.items ++ tree_text tree = c.in_ok-extend_from_slice.ensures.items ∙ ap (λ (l : List ℕ). c.push.new.self.items ++ l) text in
    let made : c.as_slice-3.result.now ≡ entry_text name tree = c.as_slice-3.ensures.value ∙ made_text name tree key c.push.new.self.items c.extend_from_slice.new.self.items quoted_name c.in_ok-push.ensures.items last in
    IfOk-weaker c.of.result (λ t. t ≡ c.as_slice-3.result.now) (λ t. t ≡ entry_text name tree) (λ t is. is ∙ made) c.of.ensures

use Rattle.std.proofs.Common.{◌≡◌, ◌∙◌, ◌++◌, ◌∷◌, [], List, ℕ, reverse, ap}
use Rattle.std.proofs.lemmas.List.{reverse-append}
use Rattle.fluid_ids.specs.Texts.{base_58, digits_in, printed}
use Rattle.fluid_ids.proofs.printer.f58.Goals as goal

turned : (low text : List ℕ) (n : ℕ) → reverse low ≡ digits_in base_58 n → text ≡ low ++ 102 ∷ [] → reverse text ≡ 102 ∷ digits_in base_58 n
turned low text n e f = ap reverse f ∙ reverse-append low (102 ∷ []) ∙ ap (λ t. 102 ∷ t) e

pub returns : goal.returns
unfolding printed base_58
returns c = c.reverse.ensures.items ∙ turned c.in_ok-text.text.items c.push.new.self.items c.args.id c.in_ok-text.ensures c.in_ok-push.ensures.items

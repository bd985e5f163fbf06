use Rattle.std.proofs.Common.{◌≡◌, ℕ, ◌∙◌, ◌++◌, ◌∷◌, [], List, ap, append_assoc}
use Rattle.fluid_ids.specs.Texts.{printed}
use Rattle.fluid_ids.proofs.printer.dothex.Goals as goal

-- what is added one after another to nothing
seven : (t a b c d : List ℕ) → t ≡ [] → (((((((t ++ a) ++ 46 ∷ []) ++ b) ++ 46 ∷ []) ++ c) ++ 46 ∷ []) ++ d) ≡ a ++ (46 ∷ (b ++ (46 ∷ (c ++ (46 ∷ d)))))
seven t a b c d e = ap (λ x. (((((((x ++ a) ++ 46 ∷ []) ++ b) ++ 46 ∷ []) ++ c) ++ 46 ∷ []) ++ d)) e
    ∙ append_assoc ((((a ++ 46 ∷ []) ++ b) ++ 46 ∷ []) ++ c) (46 ∷ []) d
    ∙ append_assoc (((a ++ 46 ∷ []) ++ b) ++ 46 ∷ []) c (46 ∷ d)
    ∙ append_assoc ((a ++ 46 ∷ []) ++ b) (46 ∷ []) (c ++ (46 ∷ d))
    ∙ append_assoc (a ++ 46 ∷ []) b (46 ∷ (c ++ (46 ∷ d)))
    ∙ append_assoc a (46 ∷ []) (b ++ (46 ∷ (c ++ (46 ∷ d))))

pub returns : goal.returns
unfolding printed
returns c = rw (c.in_ok-add_group-4.ensures, c.in_ok-push-3.ensures.items, c.in_ok-add_group-3.ensures, c.in_ok-push-2.ensures.items, c.in_ok-add_group-2.ensures, c.in_ok-push.ensures.items, c.in_ok-add_group.ensures) (seven _ _ _ _ _ c.in_ok-text.ensures.items)

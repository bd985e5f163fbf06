use Rattle.std.proofs.Common.{◌≡◌, ℕ, List, [], ◌∷◌, ◌++◌, ◌+◌, length, sym, ap, subst, ◌∙◌, arith, length-append}
use Rattle.std.specs.Prelude.{IsTrue}
use Rattle.std.specs.FinMap.Entries as finite
use Rattle.kvs_model.specs.Store.{Name}
use Rattle.tree_rules.specs.Objects.{Entries, listed}
use Rattle.tree_objects.specs.Directories.{IsDirectory}
use Rattle.tree_rules.specs.Names.{name_cmp}
use Rattle.tree_objects.specs.Level.{tree_of, paired}
use Rattle.tree_objects.specs.declared.object.Object.{Object}
use Rattle.tree_objects.proofs.Pairs.{paired_last, directory_last}
use Rattle.tree_objects.proofs.Texts.{same_texts, texts_last}
use Rattle.tree_objects.proofs.object.ObjectMap.push.Goals as goal

pub invariant_of-self-2 : goal.invariant_of-self-2
invariant_of-self-2 c =
    let names = c.self.inside.names.items in
    let objects = c.self.inside.objects.items in
    let name = c.args.name in
    let o = c.args.object in
    let ns : c.push.new.self.items ≡ names ++ name ∷ [] = c.in_ok-push.ensures.items in
    let os : c.push_reserved.new.self.items ≡ objects ++ o ∷ [] = c.push_reserved.ensures.items ∙ ap (λ (xs : List Object). xs ++ o ∷ []) c.in_ok-reserve.ensures.items in
    let texts = c.self.inside.texts.items in
    let t = c.new-text.result in
    let ts : c.push_reserved-2.new.self.items ≡ texts ++ t ∷ [] = c.push_reserved-2.ensures.items ∙ ap (λ (xs : List (List ℕ)). xs ++ t ∷ []) c.in_ok-reserve-2.ensures.items in
    let sorted : IsTrue (finite.is_sorted name_cmp (listed (paired names objects) ++ (name, tree_of o) ∷ [])) = subst (λ (es : Entries). IsTrue (finite.is_sorted name_cmp (listed es ++ (name, tree_of o) ∷ []))) (sym c.self.view_is) c.requires.sorted in
    let made : IsDirectory (paired (names ++ name ∷ []) (objects ++ o ∷ [])) = subst IsDirectory (sym (paired_last names objects c.self.invariant.0 name o)) (directory_last (paired names objects) name (tree_of o) c.self.invariant.1 sorted c.requires.text) in (
      ap length ns ∙ length-append names (name ∷ []) ∙ ap (λ n. n + 1) c.self.invariant.0 ∙ sym (length-append objects (o ∷ [])) ∙ sym (ap length os),
      subst (λ (xs : List Object). IsDirectory (paired c.push.new.self.items xs)) (sym os) (subst (λ (xs : List Name). IsDirectory (paired xs (objects ++ o ∷ []))) (sym ns) made),
      ap length ts ∙ length-append texts (t ∷ []) ∙ ap (λ n. n + 1) c.self.invariant.2 ∙ sym (length-append names (name ∷ [])) ∙ sym (ap length ns),
      same_texts ns os ts (texts_last names objects texts name o t c.new-text.ensures c.self.invariant.0 c.self.invariant.3),
    )

pub returns-clause-added : goal.returns-clause-added
returns-clause-added c = let h = paired_last _ _ c.self.invariant.0 c.args.name c.args.object in grind (arith, h, c.self.view_is)

use Rattle.std.proofs.Common.{◌≡◌, ◌<◌, List, length, sym, ap, ap₂, ◌∙◌, arith}
use Rattle.std.specs.FinMap.Entries as finite
use Rattle.std.specs.List.{remove}
use Rattle.kvs_model.specs.Store.{Name}
use Rattle.tree_rules.specs.Objects.{Entries, listed}
use Rattle.tree_rules.specs.Names.{name_cmp}
use Rattle.tree_objects.specs.Level.{paired}
use Rattle.tree_objects.specs.declared.object.Object.{Object}
use Rattle.tree_objects.proofs.Search.{get_found, get_missed}
use Rattle.tree_objects.proofs.Removing.{others, removed_found, kept_missed, others_directory, same_left}
use Rattle.tree_objects.proofs.Texts.{same_texts, texts_remove}
use Rattle.tree_objects.proofs.object.ObjectMap.remove.Goals as goal

pub invariant_of-self : goal.invariant_of-self
invariant_of-self c =
    let names = c.self.inside.names.items in
    let objects = c.self.inside.objects.items in
    let texts = c.self.inside.texts.items in
    let place = c.in-Ok.place in
    let within : place < length names = omega (arith, c.in-Ok.ensures.bound, ap length c.deref.ensures.value) in
    let left : listed (paired (remove names place) (remove objects place)) ≡ others c.args.name.now (listed (paired names objects)) = removed_found names objects c.self.invariant.0 c.self.invariant.1.sorted c.deref.result.now c.deref.ensures.value place c.args.name.now c.in-Ok.ensures.bound c.in-Ok.ensures.ok in
    let is : listed (paired c.remove-name.new.self.items c.remove.new.self.items) ≡ others c.args.name.now (listed (paired names objects)) = ap₂ (λ (ns : List Name) (os : List Object). listed (paired ns os)) c.remove-name.ensures.items c.remove.ensures.items ∙ left in (
      ap length c.remove-name.ensures.items ∙ same_left names objects place c.self.invariant.0 within ∙ sym (ap length c.remove.ensures.items),
      others_directory (paired names objects) (paired c.remove-name.new.self.items c.remove.new.self.items) c.args.name.now is c.self.invariant.1,
      ap length c.remove-text.ensures.items ∙ same_left texts names place c.self.invariant.2 (omega arith) ∙ sym (ap length c.remove-name.ensures.items),
      same_texts c.remove-name.ensures.items c.remove.ensures.items c.remove-text.ensures.items (texts_remove names objects texts place within c.self.invariant.3),
    )

pub returns-in-Ok-clause-taken : goal.returns-in-Ok-clause-taken
returns-in-Ok-clause-taken c =
    let n = c.args.name.now in
    sym (ap (λ (es : Entries). finite.find name_cmp n (listed es)) (sym c.self.view_is)
    ∙ get_found c.self.inside.names.items c.self.inside.objects.items c.self.invariant.0 c.self.invariant.1.sorted c.deref.result.now c.deref.ensures.value c.in-Ok.place n c.remove.result c.in-Ok.ensures.bound c.in-Ok.ensures.ok c.remove.ensures.value)

pub returns-in-Ok-clause-rest : goal.returns-in-Ok-clause-rest
returns-in-Ok-clause-rest c =
    let n = c.args.name.now in
    ap₂ (λ (ns : List Name) (os : List Object). listed (paired ns os)) c.remove-name.ensures.items c.remove.ensures.items
    ∙ removed_found c.self.inside.names.items c.self.inside.objects.items c.self.invariant.0 c.self.invariant.1.sorted c.deref.result.now c.deref.ensures.value c.in-Ok.place n c.in-Ok.ensures.bound c.in-Ok.ensures.ok
    ∙ ap (λ (es : Entries). others n (listed es)) c.self.view_is

pub returns-in-Err-clause-taken : goal.returns-in-Err-clause-taken
returns-in-Err-clause-taken c =
    let n = c.args.name.now in
    sym (ap (λ (es : Entries). finite.find name_cmp n (listed es)) (sym c.self.view_is)
    ∙ get_missed c.self.inside.names.items c.self.inside.objects.items c.self.invariant.0 c.self.invariant.1.sorted c.deref.result.now c.deref.ensures.value c.in-Err.field-0 n c.in-Err.ensures.position)

pub returns-in-Err-clause-rest : goal.returns-in-Err-clause-rest
returns-in-Err-clause-rest c =
    let n = c.args.name.now in
    ap listed (sym c.self.view_is)
    ∙ kept_missed c.self.inside.names.items c.self.inside.objects.items c.self.invariant.0 c.self.invariant.1.sorted c.deref.result.now c.deref.ensures.value c.in-Err.field-0 n c.in-Err.ensures.position
    ∙ ap (λ (es : Entries). others n (listed es)) c.self.view_is

use Rattle.std.proofs.Common.{◌≡◌, ◌≤◌, ℕ, List, length, cond, sym, ap, ap₂, ◌∙◌, arith}
use Rattle.std.specs.FinMap.Entries as finite
use Rattle.std.specs.List.{insert}
use Rattle.std.proofs.Math.ListN.{set, length-set}
use Rattle.kvs_model.specs.Store.{Name}
use Rattle.tree_rules.specs.Objects.{Entries, listed}
use Rattle.tree_rules.specs.Names.{name_cmp}
use Rattle.tree_objects.specs.Level.{tree_of, paired}
use Rattle.tree_objects.specs.declared.object.Object.{Object}
use Rattle.tree_objects.proofs.Putting.{put_found, put_missed, put_directory, is_ok_then, same_count}
use Rattle.tree_objects.proofs.Texts.{same_texts, texts_set, texts_insert}
use Rattle.tree_objects.proofs.object.ObjectMap.put.Goals as goal

pub invariant_of-self : goal.invariant_of-self
invariant_of-self c =
    let names = c.self.inside.names.items in
    let objects = c.self.inside.objects.items in
    let n = c.args.name.now in
    let o = c.args.object in
    let texts = c.self.inside.texts.items in
    let t = c.new-text.result in
    let is = put_found names objects c.self.invariant.0 c.self.invariant.1.sorted c.deref.result.now c.deref.ensures.value c.in-Ok.place n o c.in-Ok.ensures.bound c.in-Ok.ensures.ok in (
      c.self.invariant.0 ∙ sym (length-set objects c.in-Ok.place o),
      put_directory (paired names objects) (paired names (set objects c.in-Ok.place o)) n (tree_of o) is c.self.invariant.1 c.requires,
      length-set texts c.in-Ok.place t ∙ c.self.invariant.2,
      texts_set names objects texts c.in-Ok.place o t c.new-text.ensures c.self.invariant.3,
    )

pub returns-in-Ok-clause-put : goal.returns-in-Ok-clause-put
returns-in-Ok-clause-put c =
    let names = c.self.inside.names.items in
    let objects = c.self.inside.objects.items in
    let n = c.args.name.now in
    let o = c.args.object in
    put_found names objects c.self.invariant.0 c.self.invariant.1.sorted c.deref.result.now c.deref.ensures.value c.in-Ok.place n o c.in-Ok.ensures.bound c.in-Ok.ensures.ok
    ∙ ap (λ (es : Entries). finite.put name_cmp n (tree_of o) (listed es)) c.self.view_is

-- the names, the objects and the texts after all were added
made : (c : goal.After-insert_text) → (c.insert.new.self.items ≡ insert c.self.inside.names.items c.in-Err.place c.args.name.now) × (c.insert-in-Err.new.self.items ≡ insert c.self.inside.objects.items c.in-Err.place c.args.object)
    × (c.insert_text.new.texts.items ≡ insert c.self.inside.texts.items c.in-Err.place c.new-text.result)
made c =
    let objects = c.self.inside.objects.items in
    let added = c.insert-in-Err.ensures.items in
    let fine = is_ok_then c.insert-in-Err.result (sym c.if-is_err.ensures.value) in (
      c.in_ok-insert-in-Err.ensures.items ∙ ap (insert c.self.inside.names.items c.in-Err.place) c.in_ok-name-in-Err.ensures,
      added ∙ ap (λ b. cond b (insert c.reserve.new.self.items c.in-Err.place c.args.object) c.reserve.new.self.items) fine ∙ ap (λ (xs : List Object). insert xs c.in-Err.place c.args.object) c.in_ok-reserve-in-Err.ensures.items,
      c.insert_text.ensures ∙ ap (λ (xs : List (List ℕ)). insert xs c.in-Err.place c.new-text.result) c.in_ok-reserve-in-Err-2.ensures.items,
    )

listing : (c : goal.After-insert_text) → listed (paired c.insert.new.self.items c.insert-in-Err.new.self.items) ≡ finite.put name_cmp c.args.name.now (tree_of c.args.object) (listed (paired c.self.inside.names.items c.self.inside.objects.items))
listing c =
    let m = made c in
    ap₂ (λ (ns : List Name) (os : List Object). listed (paired ns os)) m.0 m.1
    ∙ put_missed c.self.inside.names.items c.self.inside.objects.items c.self.invariant.0 c.self.invariant.1.sorted c.deref.result.now c.deref.ensures.value c.in-Err.place c.args.name.now c.args.object c.in-Err.ensures.bound c.in-Err.ensures.position

pub invariant_of-self-in-Err : goal.invariant_of-self-in-Err
invariant_of-self-in-Err c =
    let names = c.self.inside.names.items in
    let objects = c.self.inside.objects.items in
    let texts = c.self.inside.texts.items in
    let place = c.in-Err.place in
    let t = c.new-text.result in
    let within : place ≤ length names = omega (arith, c.in-Err.ensures.bound, ap length c.deref.ensures.value) in
    let m = made c in (
      ap length m.0 ∙ same_count names objects c.in-Err.place c.args.name.now c.args.object c.self.invariant.0 ∙ sym (ap length m.1),
      put_directory (paired names objects) (paired c.insert.new.self.items c.insert-in-Err.new.self.items) c.args.name.now (tree_of c.args.object) (listing c) c.self.invariant.1 c.requires,
      ap length m.2 ∙ same_count texts names place t c.args.name.now c.self.invariant.2 ∙ sym (ap length m.0),
      same_texts m.0 m.1 m.2 (texts_insert names objects texts place c.args.name.now c.args.object t c.new-text.ensures within c.self.invariant.3),
    )

pub returns-else-is_err-clause-put : goal.returns-else-is_err-clause-put
returns-else-is_err-clause-put c = listing c ∙ ap (λ (es : Entries). finite.put name_cmp c.args.name.now (tree_of c.args.object) (listed es)) c.self.view_is

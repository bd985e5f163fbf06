use Rattle.std.proofs.Common.{◌≡◌, ◌<◌, List, length, get_or, sym, ap, ◌∙◌, subst, arith}
use Rattle.std.proofs.lemmas.List.{take_all}
use Rattle.kvs_model.specs.Store.{Name}
use Rattle.tree_objects.specs.Directories.{tree_size, entries_size, IsDirectory}
use Rattle.tree_objects.specs.Level.{tree_of, paired}
use Rattle.tree_objects.specs.declared.object.Object.{Object}
use Rattle.tree_objects.proofs.Pairs.{smaller}
use Rattle.tree_objects.proofs.Texts.{same_texts}
use Rattle.tree_objects.proofs.object.+copied.Goals as goal

pub copy_map-copy_object-requires : goal.copy_map-copy_object-requires
copy_map-copy_object-requires t c =
    let names = c.map.inside.names.items in
    let objects = c.map.inside.objects.items in
    let same = c.as_slice-objects.ensures.value in
    let i = c.loop-index.index in
    let o = c.index-objects-index.result in
    let within : i < length names = omega (arith, c.loop-index-test.true, ap length same, c.map.invariant.0) in
    let there : o ≡ get_or objects i o = subst (λ (os : List Object). o ≡ get_or os i o) same c.index-objects-index.is in
    let s : tree_size (tree_of o) < entries_size (paired names objects) = smaller names objects c.map.invariant.0 i o within there in
    let e : entries_size (paired names objects) ≡ entries_size c.args.map.now = ap entries_size c.map.view_is in
    omega arith

pub copy_map-invariant_of-result : goal.copy_map-invariant_of-result
copy_map-invariant_of-result t c =
    let names = c.map.inside.names.items in
    let objects = c.map.inside.objects.items in
    let texts = c.map.inside.texts.items in
    let ns : c.in_ok-names.names.items ≡ names = c.in_ok-names.ensures ∙ c.as_slice.ensures.value in
    let os : c.loop-index.twins.items ≡ objects = c.loop-index.invariant ∙ take_all c.loop-index.index c.as_slice-objects.result.now c.loop-index-test.false ∙ c.as_slice-objects.ensures.value in
    let ts : c.in_ok-texts.texts.items ≡ texts = c.in_ok-texts.ensures ∙ c.as_slice-2.ensures.value in
    let whole : IsDirectory (paired c.in_ok-names.names.items c.loop-index.twins.items) =
    subst (λ (xs : List Object). IsDirectory (paired c.in_ok-names.names.items xs)) (sym os) (subst (λ (xs : List Name). IsDirectory (paired xs objects)) (sym ns) c.map.invariant.1) in (
      ap length ns ∙ c.map.invariant.0 ∙ sym (ap length os),
      whole,
      ap length ts ∙ c.map.invariant.2 ∙ sym (ap length ns),
      same_texts ns os ts c.map.invariant.3,
    )

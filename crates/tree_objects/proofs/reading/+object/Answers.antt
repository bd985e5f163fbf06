use Rattle.std.proofs.Common.{◌≡◌, ◌≤◌, List, [], ◌∷◌, ◌++◌, refl, sym, ap, ◌∙◌, subst, arith, codes, append_assoc, rules, string_bytes, string_cmp, Some}
use Rattle.std.specs.Prelude.{IsTrue, Err}
use Rattle.std.specs.FinMap.Entries as finite
use Rattle.std.specs.List.Sorted.{IsStrictlySortedBy}
use Rattle.std.specs.Map.{keys_of}
use Rattle.fl_json.specs.Valid.{HaveValid}
use Rattle.fl_json.proofs.Inside.{valid_under, deep_under}
use Rattle.kvs_model.specs.Store.{Name}
use Rattle.serde_json.specs.Data.{Members, depth, members_depth}
use Rattle.serde_json.specs.Find.{get}
use Rattle.serde_json.specs.View.{view, members_view}
use Rattle.serde_json.proofs.Views.{Entry}
use Rattle.tree_rules.specs.Objects.{listed}
use Rattle.tree_objects.specs.Directories.{with_last}
use Rattle.tree_rules.specs.Names.{name_cmp}
use Rattle.tree_objects.specs.Level.{tree_of}
use Rattle.tree_objects.specs.Reading.{TellEntries, GivesPart}
use Rattle.tree_objects.specs.declared.faults.ObjectFault.{ObjectFault}
use Rattle.tree_objects.proofs.Told.{no_dir, typed_known, same_members, member_valid, member_within, entry_more, entry_none, told_sorted}
use Rattle.tree_objects.proofs.Refused.{object_refused, inside_refused}
use Rattle.tree_objects.proofs.reading.+object.Goals as goal

pub object_in-dir_in-requires : goal.object_in-dir_in-requires
object_in-dir_in-requires t c =
    let d = view c.args.value.now in
    let content = view c.in-Some-get.content.now in
    let is : get (codes "data") d ≡ Some content = sym c.in-Some-get.ensures in
    (omega (arith, deep_under (codes "data") d content is), valid_under (codes "data") d content is c.requires)

pub dir_in-returns-in-Err : goal.dir_in-returns-in-Err
dir_in-returns-in-Err t c d is =
    let content = view c.args.content.now in
    let ms = members_view c.in-Some.members.now.entries in
    object_refused (TellEntries ms) d c.in-Err.fault c.in-Err.ensures is.version (typed_known d (codes "dir") is.typed refl)
    (λ none. no_dir d content is (λ es ns same told. none es (subst (λ (m : Members). TellEntries m es) (sym (same_members content ms ns (sym c.in-Some.ensures) same)) told)))

pub entries_in-object_in-requires : goal.entries_in-object_in-requires
entries_in-object_in-requires t c =
    let done = c.loop-name.invariant.0 in
    let e : Entry = (c.in-Some.name.now, c.in-Some.value.now) in
    let left = c.next.new.self in
    let all : c.args.members.now.entries ≡ done ++ e ∷ left = c.loop-name.invariant.1 ∙ ap (λ (es : List Entry). done ++ es) c.in-Some.ensures.steps in
    let within : depth (view e.1) ≤ members_depth (members_view c.args.members.now.entries) = subst (λ (es : List Entry). depth (view e.1) ≤ members_depth (members_view es)) (sym all) (member_within done e left) in
    (omega arith, member_valid done e left (subst (λ (es : List Entry). HaveValid (members_view es)) all c.requires))

pub entries_in-push-requires-clause-sorted : goal.entries_in-push-requires-clause-sorted
entries_in-push-requires-clause-sorted t c =
    let done = c.loop-name.invariant.0 in
    let e : Entry = (c.in-Some.name.now, c.in-Some.value.now) in
    let left = c.next.new.self in
    let all : c.args.members.now.entries ≡ done ++ e ∷ left = c.loop-name.invariant.1 ∙ ap (λ (es : List Entry). done ++ es) c.in-Some.ensures.steps in
    let rising = subst (λ (es : List Entry). IsStrictlySortedBy string_cmp (keys_of es)) all c.iter-name-items.ensures.ordered in
    let named : c.in_ok-name.name ≡ string_bytes e.0 = search rules in
    subst (λ (n : Name). IsTrue (finite.is_sorted name_cmp (listed c.loop-name.entries ++ (n, tree_of c.in-Ok.object) ∷ []))) (sym named)
    (told_sorted done e left c.loop-name.entries (tree_of c.in-Ok.object) c.loop-name.invariant.2 rising)

pub entries_in-loop-name-preserved : goal.entries_in-loop-name-preserved
entries_in-loop-name-preserved t c =
    let done = c.loop-name.invariant.0 in
    let e : Entry = (c.in-Some.name.now, c.in-Some.value.now) in
    let left = c.next.new.self in
    let all : c.args.members.now.entries ≡ done ++ e ∷ left = c.loop-name.invariant.1 ∙ ap (λ (es : List Entry). done ++ es) c.in-Some.ensures.steps in
    let named : c.in_ok-name.name ≡ string_bytes e.0 = search rules in
    let told : TellEntries (members_view (done ++ e ∷ [])) (with_last c.loop-name.entries c.in_ok-name.name (tree_of c.in-Ok.object)) =
    subst (λ (n : Name). TellEntries (members_view (done ++ e ∷ [])) (with_last c.loop-name.entries n (tree_of c.in-Ok.object))) (sym named) (entry_more done e c.loop-name.entries (tree_of c.in-Ok.object) c.loop-name.invariant.2 c.in-Ok.ensures) in (
      done ++ e ∷ [],
      all ∙ sym (append_assoc done (e ∷ []) left),
      subst (TellEntries (members_view (done ++ e ∷ []))) (sym c.in_ok-push-in-Ok.ensures.added) told,
    )

pub entries_in-returns-in-Err : goal.entries_in-returns-in-Err
entries_in-returns-in-Err t c =
    let done = c.loop-name.invariant.0 in
    let e : Entry = (c.in-Some.name.now, c.in-Some.value.now) in
    let left = c.next.new.self in
    let all : c.args.members.now.entries ≡ done ++ e ∷ left = c.loop-name.invariant.1 ∙ ap (λ (es : List Entry). done ++ es) c.in-Some.ensures.steps in
    let Q = TellEntries (members_view c.args.members.now.entries) in
    subst (λ (f : ObjectFault). GivesPart Q (Err f)) (sym c.inner_fault.ensures)
    (inside_refused Q (view e.1) c.in-Err.fault c.in-Err.ensures (λ none es told. entry_none done e left none es (subst (λ (xs : List Entry). TellEntries (members_view xs) es) all told)))

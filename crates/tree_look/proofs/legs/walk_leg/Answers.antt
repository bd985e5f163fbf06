use Rattle.std.proofs.Common.{◌≡◌, ◌+◌, ◌++◌, ◌∷◌, [], List, Some, Option, length, sym, ap, ◌∙◌, subst, refl, arith}
use Rattle.std.specs.Prelude.{IfSome, is_some as is_there}
use Rattle.fl_digest.specs.declared.BlobRef.{BlobRef}
use Rattle.tree_rules.specs.Objects.{Entries, listed}
use Rattle.tree_rules.specs.Texts.{objects, objects_in}
use Rattle.tree_objects.specs.Level.{tree_of}
use Rattle.tree_objects.specs.declared.object.Object.TheVariants.{Dirref}
use Rattle.std.specs.Prelude.{option_map, take}
use Rattle.tree_look.proofs.Ending.{none_is, some_is}
use Rattle.tree_look.proofs.Passing.{OnWay, way_begins, way_directory, way_misses, found_under, way_on, way_stops, way_ends, leg_tells}
use Rattle.tree_look.proofs.legs.walk_leg.Goals as goal

pub loop-index-init : goal.loop-index-init
loop-index-init g c = λ h st reads. way_begins h st c.args.path.now (g.T.Texts.seen c.args.texts.now) c.args.passed.now.items c.args.root.now reads

pub returns-in_default-clause-told : goal.returns-in_default-clause-told
returns-in_default-clause-told g c = λ h st reads.
    let r = c.loop-index.reference in
    way_misses h st c.args.path.now (g.T.Texts.seen c.args.texts.now) c.args.passed.now.items c.loop-index.passed.items c.loop-index.index r (c.loop-index.invariant h st reads) c.loop-index-test.true
    (none_is ((g.T.Texts.seen c.args.texts.now) r) (sym c.in_ok-found.ensures.known ∙ ap is_there c.in_default.is))

pub returns-in_default-directory_in-clause-told : goal.returns-in_default-directory_in-clause-told
returns-in_default-directory_in-clause-told g c = λ h st reads.
    let path = c.args.path.now in
    let texts = (g.T.Texts.seen c.args.texts.now) in
    let old = c.args.passed.now.items in
    let new = c.loop-index.passed.items in
    let n = c.loop-index.index in
    let r = c.loop-index.reference in
    let way = c.loop-index.invariant h st reads in
    let is = way_directory h st path texts old new n r way in
    let rows = subst (λ (o : Option Entries). IfSome o (λ es. listed es ≡ objects_in (take n path) (objects h st))) c.in-Some.is (c.in_ok-found.ensures.told h st c.args.root.now (take n path) reads is.there is.named) in
    let next = found_under h st path texts n r c.index-path-index.result (listed c.in-Some.directory) (option_map tree_of c.remove-object.result) reads.holds.store c.loop-index-test.true c.index-path-index.is
    (some_is (texts r) (sym c.in_ok-found.ensures.known ∙ ap is_there c.in-Some.is)) rows c.remove-object.ensures.taken in
    leg_tells h st path texts old (new ++ r ∷ []) c.push.new.self.items (n + 1) c.remove-object.result c.in_ok-push.ensures.items
    (way_stops h st path texts old new n r c.remove-object.result way next c.in_default-directory_in.ensures)

pub loop-index-preserved : goal.loop-index-preserved
loop-index-preserved g c = λ h st reads.
    let path = c.args.path.now in
    let texts = (g.T.Texts.seen c.args.texts.now) in
    let old = c.args.passed.now.items in
    let new = c.loop-index.passed.items in
    let n = c.loop-index.index in
    let r = c.loop-index.reference in
    let way = c.loop-index.invariant h st reads in
    let is = way_directory h st path texts old new n r way in
    let rows = subst (λ (o : Option Entries). IfSome o (λ es. listed es ≡ objects_in (take n path) (objects h st))) c.in-Some.is (c.in_ok-found.ensures.told h st c.args.root.now (take n path) reads is.there is.named) in
    let next = found_under h st path texts n r c.index-path-index.result (listed c.in-Some.directory) (option_map tree_of c.remove-object.result) reads.holds.store c.loop-index-test.true c.index-path-index.is
    (some_is (texts r) (sym c.in_ok-found.ensures.known ∙ ap is_there c.in-Some.is)) rows c.remove-object.ensures.taken in
    subst (λ (l : List BlobRef). OnWay h st path texts old l (n + 1) c.in-Some-directory_in.next) (sym c.in_ok-push.ensures.items)
    (way_on h st path texts old new n r c.in-Some-directory_in.next (option_map tree_of c.remove-object.result) way next c.in-Some-directory_in.ensures)

pub returns-clause-told : goal.returns-clause-told
returns-clause-told g c = λ h st reads.
    let path = c.args.path.now in
    let new = c.loop-index.passed.items in
    let n = c.loop-index.index in
    leg_tells h st path (g.T.Texts.seen c.args.texts.now) c.args.passed.now.items new new (length path) (Some (Dirref c.loop-index.reference)) refl
    (way_ends h st path (g.T.Texts.seen c.args.texts.now) c.args.passed.now.items new n c.loop-index.reference (c.loop-index.invariant h st reads) (omega (arith, c.loop-index-test.false, c.loop-index.auto)))

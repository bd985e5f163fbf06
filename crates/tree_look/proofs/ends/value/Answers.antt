use Rattle.std.proofs.Common.{List, Some, sym, ap, ◌∙◌, subst}
use Rattle.fl_digest.specs.declared.BlobRef.{BlobRef}
use Rattle.kvs_txn.specs.declared.answers.Query.TheVariants as query
use Rattle.kvs_txn.specs.declared.answers.Found.TheVariants as found
use Rattle.tree_rules.specs.Objects.{valref}
use Rattle.tree_objects.specs.Level.{tree_of}
use Rattle.tree_objects.specs.declared.object.Object.{Object}
use Rattle.tree_look.specs.Looks.{EndTells}
use Rattle.tree_look.proofs.Ending.{IsOf, LastTells, value_last, long_there, long_last, is_dir_last, loop_last, no_dir}
use Rattle.tree_look.proofs.Stored.{ok_by}
use Rattle.tree_look.proofs.ends.value.Goals as goal

pub returns-in-Val : goal.returns-in-Val
returns-in-Val g c = λ h st top p node reads there stored.
    value_last h st p node (g.T.Texts.seen c.args.texts.now) c.args.passed.now.items c.in-Val.bytes (record { there = there; stored = ap (λ (o : Object). Some (tree_of o)) (sym c.in-Val.is) ∙ stored })

pub returns-in-Valref : goal.returns-in-Valref
returns-in-Valref g c = λ h st top p node reads there stored.
    let rs = c.in-Valref.references in
    let texts = (g.T.Texts.seen c.args.texts.now) in
    let old = c.args.passed.now.items in
    let new = c.long_value.new.passed.items in
    let of : IsOf h st p node (valref rs) = record { there = there; stored = ap (λ (o : Object). Some (tree_of o)) (sym c.in-Valref.is) ∙ stored } in
    let long = long_there h st p node rs of in
    ok_by (EndTells (found.Value long.0) c.as_slice.result.now texts old new) (LastTells h st query.Get p node texts old new)
    (λ told tells. long_last h st p node texts old new rs long.0 told long.1 (subst (λ (l : List BlobRef). EndTells (found.Value long.0) l texts old new told) c.as_slice.ensures tells))
    c.long_value.result (c.long_value.ensures h st top p long.0 reads long.1.there long.1.long (c.as_slice.ensures ∙ long.1.named))

pub returns-in-Dir : goal.returns-in-Dir
returns-in-Dir g c = λ h st top p node reads there stored.
    absurd (no_dir h st p node c.in-Dir.field-0 (record { there = there; stored = ap (λ (o : Object). Some (tree_of o)) (sym c.in-Dir.is) ∙ stored }))

pub returns-in-Dirref : goal.returns-in-Dirref
returns-in-Dirref g c = λ h st top p node reads there stored.
    is_dir_last h st p node (g.T.Texts.seen c.args.texts.now) c.args.passed.now.items c.in-Dirref.field-0 (record { there = there; stored = ap (λ (o : Object). Some (tree_of o)) (sym c.in-Dirref.is) ∙ stored })

pub returns : goal.returns
returns g c = λ h st top p node reads there stored.
    loop_last h st p node (g.T.Texts.seen c.args.texts.now) c.args.passed.now.items c.in-Symlink.field-0 (record { there = there; stored = ap (λ (o : Object). Some (tree_of o)) (sym c.in-Symlink.is) ∙ stored })

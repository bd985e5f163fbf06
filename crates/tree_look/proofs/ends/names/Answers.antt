use Rattle.std.proofs.Common.{◌∷◌, [], Some, sym, ap, ◌∙◌}
use Rattle.kvs_txn.specs.declared.answers.Query.TheVariants as query
use Rattle.kvs_txn.specs.declared.answers.Found.TheVariants as found
use Rattle.kvs_model.specs.Store.{names_in}
use Rattle.tree_rules.specs.Objects.{dirref}
use Rattle.tree_objects.specs.Level.{tree_of}
use Rattle.tree_objects.specs.declared.object.Object.{Object}
use Rattle.tree_look.specs.Looks.{EndTells}
use Rattle.tree_look.proofs.Ending.{IsOf, LastTells, directory_last, not_dir_val, not_dir_valref, list_loop_last, no_dir}
use Rattle.tree_look.proofs.Stored.{ok_by, directory_stored}
use Rattle.tree_look.proofs.ends.names.Goals as goal

pub returns-in-Dirref : goal.returns-in-Dirref
returns-in-Dirref g c = λ h st top p node reads there stored.
    let r = c.in-Dirref.reference in
    let texts = (g.T.Texts.seen c.args.texts.now) in
    let old = c.args.passed.now.items in
    let new = c.names_at.new.passed.items in
    let of : IsOf h st p node (dirref r) = record { there = there; stored = ap (λ (o : Object). Some (tree_of o)) (sym c.in-Dirref.is) ∙ stored } in
    let is = directory_stored h st p r of.stored in
    ok_by (EndTells (found.Names (names_in st p)) (r ∷ []) texts old new) (LastTells h st query.List p node texts old new)
    (λ told tells. directory_last h st p node texts old new r told of tells)
    c.names_at.result (c.names_at.ensures h st top p reads is.there is.named)

pub returns-in-Dir : goal.returns-in-Dir
returns-in-Dir g c = λ h st top p node reads there stored.
    absurd (no_dir h st p node c.in-Dir.directory (record { there = there; stored = ap (λ (o : Object). Some (tree_of o)) (sym c.in-Dir.is) ∙ stored }))

pub returns-in-Val : goal.returns-in-Val
returns-in-Val g c = λ h st top p node reads there stored.
    not_dir_val h st p node (g.T.Texts.seen c.args.texts.now) c.args.passed.now.items c.in-Val.field-0 (record { there = there; stored = ap (λ (o : Object). Some (tree_of o)) (sym c.in-Val.is) ∙ stored })

pub returns-in-Valref : goal.returns-in-Valref
returns-in-Valref g c = λ h st top p node reads there stored.
    not_dir_valref h st p node (g.T.Texts.seen c.args.texts.now) c.args.passed.now.items c.in-Valref.field-0 (record { there = there; stored = ap (λ (o : Object). Some (tree_of o)) (sym c.in-Valref.is) ∙ stored })

pub returns : goal.returns
returns g c = λ h st top p node reads there stored.
    list_loop_last h st p node (g.T.Texts.seen c.args.texts.now) c.args.passed.now.items c.in-Symlink.field-0 (record { there = there; stored = ap (λ (o : Object). Some (tree_of o)) (sym c.in-Symlink.is) ∙ stored })

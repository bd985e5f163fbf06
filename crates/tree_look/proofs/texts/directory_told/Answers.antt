use Rattle.std.proofs.Common.{◌≡◌}
use Rattle.std.specs.Prelude.{Ok, Err}
use Rattle.tree_rules.specs.Objects.{Entries, listed, entries_of}
use Rattle.tree_rules.specs.Texts.{objects, objects_in}
use Rattle.tree_store.proofs.Entered.{only_tree, only_memory}
use Rattle.tree_look.proofs.Stored.{only_directory, directory_listed, no_ok}
use Rattle.tree_look.proofs.texts.directory_told.Goals as goal

pub returns-in-Ok : goal.returns-in-Ok
returns-in-Ok c = λ h st p is storable same.
    let es : Entries = entries_of (objects_in p (objects h st)) in
    let o = c.in-Ok.object in
    directory_listed h st p c.directory_of.result (c.directory_of.ensures es (only_tree es o (only_directory h st p c.args.text.now (Ok o) is storable same c.in-Ok.ensures)))

pub returns-in-Err : goal.returns-in-Err
returns-in-Err c = λ h st p is storable same.
    let es : Entries = entries_of (objects_in p (objects h st)) in
    let fault = c.in-Err.fault in
    no_ok (λ (found : Entries). listed found ≡ objects_in p (objects h st)) c.without_names.result
    (c.without_names.ensures (only_memory es fault (only_directory h st p c.args.text.now (Err fault) is storable same c.in-Err.ensures)))

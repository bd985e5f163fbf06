use Rattle.std.proofs.Common.{◌≡◌, Some, sym, ap, ◌∙◌, Ok, Err}
use Rattle.tree_rules.specs.Objects.{Entries}
use Rattle.tree_store.specs.Shown.{entries_at}
use Rattle.blob_store.specs.Blobs.{blob_at}
use Rattle.tree_objects.specs.declared.object.Object.TheVariants.{Dir}
use Rattle.tree_store.proofs.Entered.{reads_only, only_tree, only_memory, same_entries}
use Rattle.tree_store.proofs.opened.directory_of.Goals as goal

pub returns-in-Some-take : goal.returns-in-Some-take
returns-in-Some-take c = λ h st path is.
    reads_only h c.args.store.now st path c.args.reference.now c.in-Some.text.now (Ok (Dir c.in-Some-take.directory)) is c.in-Some.ensures c.in-Some-take.ensures

pub directory_in-requires : goal.directory_in-requires
directory_in-requires c =
    let q = c.requires in
    let es : Entries = entries_at q.0 q.1 q.2 in
    let found : Some c.as_slice.result.now ≡ blob_at c.args.reference.now c.args.store.now = ap Some c.as_slice.ensures ∙ c.in-Some.ensures in
    (es, only_tree es c.in-Ok.object (reads_only q.0 c.args.store.now q.1 q.2 c.args.reference.now c.as_slice.result.now (Ok c.in-Ok.object) q.3 found c.in-Ok.ensures))

pub want_of_memory-requires : goal.want_of_memory-requires
want_of_memory-requires c =
    let q = c.requires in
    let es : Entries = entries_at q.0 q.1 q.2 in
    let found : Some c.as_slice.result.now ≡ blob_at c.args.reference.now c.args.store.now = ap Some c.as_slice.ensures ∙ c.in-Some.ensures in
    only_memory es c.in-Err.fault (reads_only q.0 c.args.store.now q.1 q.2 c.args.reference.now c.as_slice.result.now (Err c.in-Err.fault) q.3 found c.in-Err.ensures)

pub returns-in-Ok : goal.returns-in-Ok
returns-in-Ok c = λ h st path is.
    let es : Entries = entries_at h st path in
    let found : Some c.as_slice.result.now ≡ blob_at c.args.reference.now c.args.store.now = ap Some c.as_slice.ensures ∙ c.in-Some.ensures in
    same_entries c.directory_in.result es (sym c.directory_in.ensures ∙ only_tree es c.in-Ok.object (reads_only h c.args.store.now st path c.args.reference.now c.as_slice.result.now (Ok c.in-Ok.object) is found c.in-Ok.ensures))

use Rattle.std.proofs.Common.{rules, ◌≡◌, None, sym, ◌∙◌, subst}
use Rattle.blob_store.specs.Blobs.{blob_at}
use Rattle.fl_digest.specs.Reference.{same_reference}
use Rattle.tree_store.specs.Fresh.{AreNew}
use Rattle.indexmap.specs.IndexMap.{insert_entry}
use Rattle.indexmap.proofs.MapLemmas.{absent_from_lookup, insert_entry-absent}
use Rattle.tree_store.proofs.Adding.{new_last, free_behind}
use Rattle.tree_store.proofs.fresh.Fresh.insert.Goals as goal

pub returns-in-Ok-clause-added : goal.returns-in-Ok-clause-added
returns-in-Ok-clause-added c =
    let free : blob_at c.args.reference c.args.self.now ≡ None = free_behind c.args.reference c.args.store.now c.args.self.now c.requires.free in
    let put : c.insert.new.self.entries ≡ insert_entry same_reference c.args.self.now c.args.reference c.args.bytes = search rules in
    put ∙ insert_entry-absent same_reference c.args.reference c.args.bytes c.args.self.now (absent_from_lookup (same_reference c.args.reference) c.args.self.now free)

pub returns-in-Ok-clause-apart : goal.returns-in-Ok-clause-apart
returns-in-Ok-clause-apart c =
    subst (AreNew c.args.store.now) (sym (returns-in-Ok-clause-added c)) (new_last c.args.store.now c.args.self.now (c.args.reference, c.args.bytes) c.requires.apart c.requires.free)

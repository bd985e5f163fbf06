use Rattle.std.proofs.Common.{rules, ◌≡◌, ◌∙◌}
use Rattle.indexmap.specs.IndexMap.{insert_entry}
use Rattle.fl_digest.specs.Reference.{same_reference}
use Rattle.blob_store.proofs.Stores.{added}
use Rattle.blob_store.proofs.BlobStore.add.Goals as goal

pub returns-in-Ok-clause-stored : goal.returns-in-Ok-clause-stored
returns-in-Ok-clause-stored c =
    let put : c.insert.new.self.entries ≡ insert_entry same_reference c.args.self.now c.args.reference c.args.bytes = search rules in
    put ∙ added c.args.self.now c.args.reference c.args.bytes c.requires

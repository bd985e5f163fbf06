use Rattle.std.proofs.Common.{rules, ◌≡◌, Some, None, false}
use Rattle.std.specs.Str.{bytes_eq}
use Rattle.blob_store.specs.Blobs.{blob_at}
use Rattle.blob_store.proofs.Stores.{apart, none_clashes}
use Rattle.blob_store.proofs.BlobStore.put.Goals as goal

pub returns-in-Some-2-clause-clash : goal.returns-in-Some-2-clause-clash
returns-in-Some-2-clause-clash c =
    let found : blob_at c.args.reference c.args.self.now ≡ Some c.in-Some.kept.now = search rules in
    let other : bytes_eq c.in-Some.kept.now c.args.bytes ≡ false = search rules in
    (λ _. (c.in-Some.kept.now, found, apart c.in-Some.kept.now c.args.bytes other), λ _. tt)

pub returns-in-None-clause-clash : goal.returns-in-None-clause-clash
returns-in-None-clause-clash c =
    let absent : blob_at c.args.reference c.args.self.now ≡ None = search rules in
    none_clashes c.args.self.now c.args.reference c.args.bytes c.add.result absent c.add.ensures.memory

use Rattle.std.proofs.Common.{◌≡◌, ◌++◌, ◌∷◌, [], None, sym, ap, ◌∙◌}
use Rattle.blob_store.specs.Blobs.{blob_at}
use Rattle.fl_digest.specs.Reference.{reference_of}
use Rattle.tree_store.specs.Fresh.{Blobs}
use Rattle.std.proofs.lemmas.Result.{on_ok_weaker}
use Rattle.fl_digest.specs.declared.BlobRef.{BlobRef}
use Rattle.tree_store.proofs.Adding.{found_behind}
use Rattle.tree_store.proofs.fresh.Fresh.add.Goals as goal

pub returns-in-None-clause-held : goal.returns-in-None-clause-held
returns-in-None-clause-held c =
    let named = c.of-reference.ensures ∙ ap (reference_of c.args.hash) c.as_slice.ensures in
    let none : blob_at (reference_of c.args.hash c.args.bytes) (c.args.store.now ++ c.args.self.now) ≡ None = ap (λ (r : BlobRef). blob_at r (c.args.store.now ++ c.args.self.now)) (sym named) ∙ sym c.in-None.ensures in
    on_ok_weaker c.insert.result (λ added.
    ap (λ (xs : Blobs). blob_at (reference_of c.args.hash c.args.bytes) (c.args.store.now ++ xs)) (added ∙ ap (λ (r : BlobRef). c.args.self.now ++ (r, c.args.bytes) ∷ []) named)
    ∙ found_behind (reference_of c.args.hash c.args.bytes) c.args.store.now c.args.self.now c.args.bytes none) c.insert.ensures.added

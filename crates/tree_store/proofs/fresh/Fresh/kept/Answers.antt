use Rattle.std.proofs.Common.{rules, ◌≡◌, option_copied, ℕ, List, sym, ap, ◌∙◌}
use Rattle.blob_store.specs.Blobs.{blob_at}
use Rattle.std.specs.Prelude.{Option}
use Rattle.tree_store.proofs.Adding.{either, at_append}
use Rattle.tree_store.proofs.fresh.Fresh.kept.Goals as goal

pub returns-in-Some : goal.returns-in-Some
returns-in-Some c =
    ap (λ (o : Option (List ℕ)). either o (blob_at c.args.reference.now c.args.self.now)) c.in-Some.ensures
    ∙ sym (at_append c.args.reference.now c.args.store.now c.args.self.now)

pub returns-in-None : goal.returns-in-None
returns-in-None c =
    let found : option_copied c.get-in-None.result ≡ blob_at c.args.reference.now c.args.self.now = search rules in
    found
    ∙ ap (λ (o : Option (List ℕ)). either o (blob_at c.args.reference.now c.args.self.now)) c.in-None.ensures
    ∙ sym (at_append c.args.reference.now c.args.store.now c.args.self.now)

use Rattle.std.proofs.Common.{◌≡◌, ◌∷◌, [], ap, ap₂, ◌∙◌, Some, codes}
use Rattle.kvs_model.specs.Store.{Directory, Value, empty_store}
use Rattle.plain_store.specs.Held.{store_of, written}
use Rattle.plain_store.proofs.Working.{first_made}
use Rattle.plain_store.proofs.plain.fill.Goals as goal

pub returns : goal.returns
returns c =
    let one : store_of c.add_directory.new.table.slots.entries ≡ written empty_store (codes "job" ∷ []) (Some Directory) = c.in_ok-add_directory.ensures ∙ ap (λ st. written st (codes "job" ∷ []) (Some Directory)) c.requires in
    let two : store_of c.add_directory-2.new.table.slots.entries ≡ written (written empty_store (codes "job" ∷ []) (Some Directory)) (codes "resource" ∷ []) (Some Directory) = c.in_ok-add_directory-2.ensures ∙ ap (λ st. written st (codes "resource" ∷ []) (Some Directory)) one in
    c.in_ok-set.ensures.set
    ∙ ap₂ (λ st p. written st p (Some (Value c.in_ok-copy.field-0))) two (c.as_slice.ensures.value ∙ c.in_ok-place.ensures)
    ∙ ap (λ v. written (written (written empty_store (codes "job" ∷ []) (Some Directory)) (codes "resource" ∷ []) (Some Directory)) (codes "resource" ∷ codes "R" ∷ []) (Some (Value v))) c.in_ok-copy.ensures
    ∙ first_made c.args.grant.now

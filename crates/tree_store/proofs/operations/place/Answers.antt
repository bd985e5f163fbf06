use Rattle.std.proofs.Common.{sym, ap, ◌∙◌, subst}
use Rattle.kvs_model.specs.Operation.{placed}
use Rattle.tree_objects.specs.Level.{tree_of}
use Rattle.tree_store.specs.Shown.{Directories, Shows, with_object}
use Rattle.std.proofs.lemmas.Result.{on_ok_weaker}
use Rattle.tree_store.proofs.Entered.{text_above}
use Rattle.tree_store.proofs.Placed.{placed_shows}
use Rattle.tree_store.proofs.operations.place.Goals as goal

pub put-requires : goal.put-requires
put-requires c = text_above c.args.at.now c.requires

pub returns : goal.returns
returns c = λ h held st node shows opens some of small.
    let at = c.args.at.now in
    let made : Directories = c.make_places.new.opened in
    on_ok_weaker c.put.result (λ put.
    subst (λ (d : Directories). Shows h held d (placed st at node)) (sym (put ∙ ap (λ (d : Directories). with_object d at (tree_of c.args.object)) c.close.ensures))
    (placed_shows h held c.args.opened.now st at (tree_of c.args.object) node shows made (c.in_ok-make_places.ensures.made h held st shows opens) (c.in_ok-make_places.ensures.opens h held st shows opens) c.requires some small of)) c.put.ensures

use Rattle.std.proofs.Common.{IfOk, refl, sym, ap, ◌∙◌, subst}
use Rattle.run_picture.specs.Cells as cells
use Rattle.run_picture.specs.Columns.{AreColumns, ends_of}
use Rattle.run_picture.proofs.Drawn.{all_places}
use Rattle.run_picture.proofs.drawing.scene_of.Goals as goal

pub returns : goal.returns
returns c = λ set shown subject given.
    let drawn : AreColumns set c.args.subject.number c.as_slice.result.now (ends_of set c.args.chronicle.now c.args.subject.number) c.in_ok-following.following.columns =
    subst (λ r. IfOk r (λ f. AreColumns set c.args.subject.number c.as_slice.result.now (ends_of set c.args.chronicle.now c.args.subject.number) f.columns)) c.in_ok-following.was (c.followed.ensures set shown subject) in
    record {
      number = refl;
      places = c.places.view_is ∙ c.in_ok-places.ensures ∙ all_places c.args.rows c.args.grant.now.nodes ∙ ap (λ r. cells.places_of c.args.rows r.nodes) given;
      columns = subst (λ ps. AreColumns set c.args.subject.number ps (ends_of set c.args.chronicle.now c.args.subject.number) c.in_ok-following.following.columns) (c.as_slice.ensures ∙ sym c.places.view_is) drawn;
    }

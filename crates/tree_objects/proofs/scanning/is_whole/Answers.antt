use Rattle.std.proofs.Common.{sym, ◌∙◌, subst}
use Rattle.fl_digest.specs.Reference.{IsReferenceText}
use Rattle.tree_objects.proofs.Flat.{whole_reference}
use Rattle.tree_objects.proofs.scanning.is_whole.Goals as goal

pub returns-in-Ok : goal.returns-in-Ok
returns-in-Ok c = λ ok. whole_reference c.in-Ok.text c.args.reference.now c.in-Ok.ensures (subst IsReferenceText c.as_slice.ensures (c.read.ensures.well_formed.0 (sym c.is_ok.ensures.value ∙ ok)))

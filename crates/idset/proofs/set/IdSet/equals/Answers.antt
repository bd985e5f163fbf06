use Rattle.std.proofs.Common.{◌∙◌, sym, ap}
use Rattle.idset.specs.Runs.{runs}
use Rattle.idset.specs.Ranges.{ids_in}
use Rattle.idset.proofs.Sets.{runs_in}
use Rattle.idset.proofs.set.IdSet.equals.Goals as goal

pub returns : goal.returns
returns c =
    let a = c.self.inside.ranges.items in
    let b = c.other.inside.ranges.items in (
      λ t. sym c.self.view_is ∙ ap ids_in (sym c.deref.ensures.value ∙ c.are_same.ensures.0 t ∙ c.deref-2.ensures.value) ∙ c.other.view_is,
      λ e. c.are_same.ensures.1 (c.deref.ensures.value ∙ sym (runs_in a c.self.invariant) ∙ ap runs (c.self.view_is ∙ e ∙ sym c.other.view_is) ∙ runs_in b c.other.invariant ∙ sym c.deref-2.ensures.value),
    )

use Rattle.std.proofs.Common.{sym, ap, ◌∙◌}
use Rattle.std.specs.FinMap.Entries as finite
use Rattle.tree_rules.specs.Objects.{Entries, listed}
use Rattle.tree_rules.specs.Names.{name_cmp}
use Rattle.tree_objects.proofs.Search.{get_found, get_missed}
use Rattle.tree_objects.proofs.object.ObjectMap.get.Goals as goal

pub returns-in-Ok : goal.returns-in-Ok
returns-in-Ok c =
    let n = c.args.name.now in
    sym (ap (λ (es : Entries). finite.find name_cmp n (listed es)) (sym c.self.view_is)
    ∙ get_found c.self.inside.names.items c.self.inside.objects.items c.self.invariant.0 c.self.invariant.1.sorted c.deref.result.now c.deref.ensures.value c.in-Ok.place n c.index.result.now c.in-Ok.ensures.bound c.in-Ok.ensures.ok c.index.ensures)

pub returns-in-Err : goal.returns-in-Err
returns-in-Err c =
    let n = c.args.name.now in
    sym (ap (λ (es : Entries). finite.find name_cmp n (listed es)) (sym c.self.view_is)
    ∙ get_missed c.self.inside.names.items c.self.inside.objects.items c.self.invariant.0 c.self.invariant.1.sorted c.deref.result.now c.deref.ensures.value c.in-Err.field-0 n c.in-Err.ensures.position)

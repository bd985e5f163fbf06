use Rattle.std.proofs.Common.{◌≡◌, sym, ap₂, ◌∙◌}
use Rattle.std.specs.List.{list_all}
use Rattle.resource_set.specs.Units.{lies_on}
use Rattle.resource_set.proofs.UnitTests.{lies_in, lies_in_back}
use Rattle.resource_set.proofs.units.within.Goals as goal

pub returns : goal.returns
returns c =
    let part = c.args.a.now.nodes in
    let whole = c.args.b.now.nodes in
    let is : c.are_within.result ≡ list_all (lies_on whole) part = c.are_within.ensures ∙ ap₂ (λ w p. list_all (lies_on w) p) c.as_slice-2.ensures c.as_slice.ensures in
    ((λ t. lies_in whole part (sym is ∙ t)), (λ f. is ∙ lies_in_back whole part c.requires.hosts f))

use Rattle.std.proofs.Common.{◌≡◌, ◌<◌, ◌≤◌, ◌∷◌, [], ◌++◌, length, get_or, map, sym, ap, ap₂, ◌∙◌, subst, arith}
use Rattle.std.specs.Prelude.{Contains}
use Rattle.std.proofs.lemmas.List.{map_more, take_all}
use Rattle.resource_set.specs.declared.node.Resources.{Resources}
use Rattle.resource_set.specs.Units.{without_nodes, units_of}
use Rattle.resource_set.proofs.UnitTests.{units_left, units_left_back}
use Rattle.resource_set.proofs.LeftOver.{left_valid}
use Rattle.resource_set.proofs.units.minus.Goals as goal

pub loop-node-preserved : goal.loop-node-preserved
loop-node-preserved c =
    let nodes = c.args.a.now.nodes in
    let taken = c.args.b.now.nodes in
    let i = c.loop-node.node-index in
    let same : c.as_slice-node-items.result.now ≡ nodes = c.as_slice-node-items.ensures in
    let within : i < length c.as_slice-node-items.result.now = omega arith in
    let inside : i < length nodes = subst (λ l. i < length l) same within in
    let node = c.node-item.result in
    let is : node ≡ get_or nodes i node = c.node-item.is ∙ ap (λ l. get_or l i node) same in
    c.in_ok-push.ensures.added
    ∙ ap₂ (λ l x. l ++ x ∷ []) c.loop-node.invariant (c.in_ok-node_left.ensures ∙ ap₂ (λ t n. without_nodes t n) c.as_slice-taken.ensures is)
    ∙ sym (map_more (without_nodes taken) nodes i node inside)

pub returns : goal.returns
returns c =
    let nodes = c.args.a.now.nodes in
    let taken = c.args.b.now.nodes in
    let i = c.loop-node.node-index in
    let same : c.as_slice-node-items.result.now ≡ nodes = c.as_slice-node-items.ensures in
    let whole : length c.as_slice-node-items.result.now ≤ i = omega arith in
    let done : length nodes ≤ i = subst (λ l. length l ≤ i) same whole in
    let all : c.loop-node.nodes ≡ map (without_nodes taken) nodes = c.loop-node.invariant ∙ ap (map (without_nodes taken)) (take_all i nodes done) in
    record {
      left = ap (λ left. let r : Resources = record c.args.a.now { nodes = left } in r) all;
      units = λ u. ((λ h. units_left taken nodes u (subst (λ l. Contains (units_of l) u) all h)), (λ h. subst (λ l. Contains (units_of l) u) (sym all) (units_left_back taken nodes u h)));
      valid = λ v. left_valid c.args.a.now taken c.loop-node.nodes all v;
    }

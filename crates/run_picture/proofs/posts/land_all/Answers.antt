use Rattle.std.proofs.Common.{◌≡◌, ◌<◌, ◌≤◌, ◌+◌, ◌∷◌, length, drop, get_or, drop-cons, add-one, arith, sym, ap, ◌∙◌, subst}
use Rattle.std.proofs.Math.ListN.{drop_of_length-le}
use Rattle.run_picture.specs.Follows.{KeepGroup, KeepGroups}
use Rattle.run_picture.proofs.Groups.{none_keep, one_more}
use Rattle.run_picture.proofs.posts.land_all.Goals as goal

pub loop-group-preserved : goal.loop-group-preserved
loop-group-preserved c = λ last rest.
    let groups = c.args.groups.now in
    let k = c.loop-group.group-index in
    let here : k < length groups = omega (arith, c.loop-group-test.true) in
    let one : KeepGroup c.loop-group.rows.items c.group-item.result c.land_group.new.rows.items = c.in_ok-land_group.ensures in
    let split : drop k groups ≡ c.group-item.result ∷ drop (k + 1) groups =
    subst (λ n. drop k groups ≡ get_or groups k c.group-item.result ∷ drop n groups) (sym (add-one k)) (drop-cons groups k c.group-item.result here)
    ∙ ap (λ x. x ∷ drop (k + 1) groups) (sym c.group-item.is) in
    c.loop-group.invariant last (subst (λ gs. KeepGroups c.loop-group.rows.items gs last) (sym split)
    (one_more c.loop-group.rows.items c.land_group.new.rows.items last c.group-item.result (drop (k + 1) groups) one rest))

pub returns : goal.returns
returns c =
    let groups = c.args.groups.now in
    let k = c.loop-group.group-index in
    let over : length groups ≤ k = omega (arith, c.loop-group-test.false) in
    c.loop-group.invariant c.loop-group.rows.items (subst (λ gs. KeepGroups c.loop-group.rows.items gs c.loop-group.rows.items) (sym (drop_of_length-le groups over)) (none_keep c.loop-group.rows.items))

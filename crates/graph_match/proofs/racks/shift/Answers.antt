use Rattle.std.proofs.Common.{rules, ◌≡◌, ◌+◌, ◌-◌, ◌/◌, ◌≤◌, ap, get_or, sym, subst, ◌∙◌}
use Rattle.graph_match.proofs.Blocks.{counts_set, counts_small, free_with, room_there}
use Rattle.graph_match.proofs.racks.shift.Goals.{After-index}
use Rattle.graph_match.proofs.racks.shift.Goals as goal

-- the count of the block
is : (c : After-index) → c.index.result.now ≡ get_or c.args.counts.now.items (c.args.at / c.args.width) c.index.result.now
is c = search rules

pub moved-requires-clause-cores : goal.moved-requires-clause-cores
moved-requires-clause-cores c =
    let k = c.requires.counted in
    let s = (goal.at.moved-requires-clause-cores c).After-index in
    subst (λ n. c.args.old.cores ≤ n.cores) (sym (is s)) (room_there c.requires.width k.1 c.args.old k.2 (search rules) c.index.result.now).0

pub moved-requires-clause-gpus : goal.moved-requires-clause-gpus
moved-requires-clause-gpus c =
    let k = c.requires.counted in
    let s = (goal.at.moved-requires-clause-gpus c).After-index in
    subst (λ n. c.args.old.gpus ≤ n.gpus) (sym (is s)) (room_there c.requires.width k.1 c.args.old k.2 (search rules) c.index.result.now).1

pub moved-requires-clause-fits : goal.moved-requires-clause-fits
moved-requires-clause-fits c =
    let k = c.requires.counted in
    let s = (goal.at.moved-requires-clause-fits c).After-index in
    let small = counts_small c.args.width k.0 c.args.counts.now.items k.1 k.3 k.4 (c.args.at / c.args.width) c.index.result.now (search rules) in
    (subst (λ n. n.cores ≤ 281474976710656) (sym (is s)) small.0, subst (λ n. n.gpus ≤ 281474976710656) (sym (is s)) small.1)

pub returns-then-block-len : goal.returns-then-block-len
returns-then-block-len c = λ hosts host counted room new.
    let s = (goal.at.returns-then-block-len c).After-index in
    counts_set c.requires.width counted host c.args.old c.args.new c.moved.result c.index.result.now room new (search rules)
    (c.moved.ensures ∙ ap (λ n. free_with (n.cores - c.args.old.cores + c.args.new.cores) (n.gpus - c.args.old.gpus + c.args.new.gpus)) (is s))

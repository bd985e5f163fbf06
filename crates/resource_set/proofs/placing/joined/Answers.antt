use Rattle.std.proofs.Common.{◌<◌, ◌≤◌, ◌∷◌, [], ◌++◌, length, get_or, sym, ap, ◌∙◌, unwrap_or, arith}
use Rattle.std.proofs.lemmas.List.{take_all}
use Rattle.resource_set.specs.Reading.{nodes_with, node_with, no_entry}
use Rattle.resource_set.proofs.Placed.{node_next, length-nodes_with}
use Rattle.resource_set.proofs.placing.joined.Goals as goal

pub loop-i-preserved : goal.loop-i-preserved
loop-i-preserved c =
    let entries = c.args.entries.now in
    let ranks = c.args.ranks.now in
    let hosts = c.args.hosts.now in
    let i = c.loop-i.i in
    let inside : i < length ranks = omega arith in
    let node = c.in_ok-node_of.field-0 in
    let is = c.in_ok-node_of.ensures ∙ ap (λ o. node_with (unwrap_or o no_entry) (get_or ranks i 0) c.index-hosts-i.result) c.entry_with-entry.ensures in
    c.in_ok-push.ensures.items ∙ ap (λ ns. ns ++ node ∷ []) c.loop-i.invariant ∙ sym (node_next entries ranks hosts i node c.index-hosts-i.result c.requires.same inside c.index-hosts-i.is is)

pub returns : goal.returns
returns c =
    let ranks = c.args.ranks.now in
    let all : length (nodes_with c.args.entries.now ranks c.args.hosts.now) ≤ c.loop-i.i = omega (arith, length-nodes_with c.args.entries.now ranks c.args.hosts.now c.requires.same) in
    c.loop-i.invariant ∙ take_all c.loop-i.i (nodes_with c.args.entries.now ranks c.args.hosts.now) all

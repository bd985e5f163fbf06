use Rattle.std.proofs.Common.{◌≡◌, ◌<◌, sym, ap, ◌∙◌, Some, None, take, drop, length, arith, length-drop}
use Rattle.kvs_model.specs.Store.{node_at}
use Rattle.plain_store.specs.Held.{link_target, store_of}
use Rattle.plain_store.specs.Next.{is_outside}
use Rattle.plain_store.proofs.Walking.{outside_end, outside_is}
use Rattle.plain_store.proofs.walks.leads_outside.Goals as goal

pub returns-then-count-path : goal.returns-then-count-path
returns-then-count-path c =
    sym (outside_end (store_of c.args.table.now.slots.entries) c.args.path.now c.passed-count.result c.passed-count.ensures.stop (omega (arith, c.if-count-path.true)))

pub returns-in-None : goal.returns-in-None
returns-in-None c =
    let st = store_of c.args.table.now.slots.entries in
    let path = c.args.path.now in
    let count = c.passed-count.result in
    let more : 0 < length (drop count path) = omega (arith, length-drop count path, c.passed-count.ensures.bound, c.if-count-path.false) in
    let none : None ≡ link_target (node_at st (take count path)) = c.in-None.ensures in
    sym (outside_is st path count c.passed-count.ensures.stop more ∙ ap is_outside (sym none))

pub returns-in-Some : goal.returns-in-Some
returns-in-Some c =
    let st = store_of c.args.table.now.slots.entries in
    let path = c.args.path.now in
    let count = c.passed-count.result in
    let more : 0 < length (drop count path) = omega (arith, length-drop count path, c.passed-count.ensures.bound, c.if-count-path.false) in
    let some : Some c.in-Some.target.now ≡ link_target (node_at st (take count path)) = c.in-Some.ensures in
    c.is_some.ensures ∙ sym (outside_is st path count c.passed-count.ensures.stop more ∙ ap is_outside (sym some))

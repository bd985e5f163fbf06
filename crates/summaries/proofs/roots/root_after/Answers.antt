use Rattle.summaries.proofs.Rooted.{never_refused, root_is}
use Rattle.summaries.proofs.roots.root_after.Goals as goal

pub apply-requires : goal.apply-requires
apply-requires c = let begun = c.in-Ok.ensures in (begun.0, begun.2)

pub unreachable-requires : goal.unreachable-requires
unreachable-requires c =
    let begun = c.in-Ok.ensures in
    let txn = c.in_ok-txn in
    let refused = rw c.in-Err-Refused.field-0-is at c.in-Err-Refused.ensures in
    never_refused c.args.grant.now c.args.landings.now txn.txn begun.0 _ txn.ensures.author txn.ensures.ops c.requires begun.1 (refused begun.0 begun.2).0

pub returns-in-Ok-apply : goal.returns-in-Ok-apply
returns-in-Ok-apply c = λ st left.
    let begun = c.in-Ok.ensures in
    let txn = c.in_ok-txn in
    let done = c.in-Ok-apply.ensures begun.0 begun.2 in
    root_is c.args.hash c.args.grant.now c.args.landings.now txn.txn st begun.0 done.0 _ txn.ensures.author txn.ensures.ops left begun.1 done.1 done.2.reference

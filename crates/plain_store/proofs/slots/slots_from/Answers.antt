use Rattle.std.proofs.Common.{◌≡◌, rules}
use Rattle.plain_store.specs.Counted.{from_on}
use Rattle.plain_store.proofs.Ranged.{from_together}
use Rattle.plain_store.proofs.slots.slots_from.Goals as goal

pub returns-clause-together : goal.returns-clause-together
returns-clause-together c =
    let is : c.range.result ≡ from_on c.args.path.items c.args.slots.now.entries = search rules in
    from_together c.args.path.items c.args.slots.now.entries c.range.result c.range.ensures.ordered is

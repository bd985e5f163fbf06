use Rattle.std.proofs.Common.{◌≡◌, Some, filter, rules}
use Rattle.std.specs.Ordering.{nat_cmp}
use Rattle.std.specs.BTreeMap.{is_at}
use Rattle.std.specs.Map.{lookup, set_value}
use Rattle.job_queue.specs.Dependencies.{Table, stays_open}
use Rattle.job_queue.proofs.OpenTables.{rewritten}
use Rattle.job_queue.proofs.open_table.drop_decided_on.Goals as goal

pub returns : goal.returns
returns c =
    let found : lookup (is_at (nat_cmp c.args.job)) c.args.table.now.entries ≡ Some c.in-Some.list.now = search rules in
    let new : Table = (c.get_mut.follows.lender c.shorten.new.list).entries in
    let written : new ≡ set_value (is_at (nat_cmp c.args.job)) c.args.table.now.entries c.shorten.new.list = search rules in
    rewritten (filter (stays_open c.args.job c.args.outcome)) c.args.table.now.entries new c.args.job c.in-Some.list.now c.shorten.new.list found written c.shorten.ensures

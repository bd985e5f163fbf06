use Rattle.std.proofs.Common.{◌≡◌, Some, filter, rules}
use Rattle.std.specs.Ordering.{nat_cmp}
use Rattle.std.specs.BTreeMap.{is_at}
use Rattle.std.specs.Map.{lookup, set_value}
use Rattle.job_queue.specs.Dependencies.{Table, is_of_another}
use Rattle.job_queue.proofs.OpenTables.{rewritten}
use Rattle.job_queue.proofs.open_table.drop_job_on.Goals as goal

pub returns : goal.returns
returns c =
    let found : lookup (is_at (nat_cmp c.args.on)) c.args.table.now.entries ≡ Some c.in-Some.list.now = search rules in
    let new : Table = (c.get_mut.follows.lender c.drop_job.new.list).entries in
    let written : new ≡ set_value (is_at (nat_cmp c.args.on)) c.args.table.now.entries c.drop_job.new.list = search rules in
    rewritten (filter (is_of_another c.args.id)) c.args.table.now.entries new c.args.on c.in-Some.list.now c.drop_job.new.list found written c.drop_job.ensures

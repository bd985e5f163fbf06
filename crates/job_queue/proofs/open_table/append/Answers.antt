use Rattle.std.proofs.Common.{◌≡◌, [], ◌∷◌, ◌++◌, Some, rules}
use Rattle.std.specs.Ordering.{nat_cmp}
use Rattle.std.specs.BTreeMap.{is_at}
use Rattle.std.specs.Map.{lookup, set_value}
use Rattle.job_queue.specs.Dependencies.{Table}
use Rattle.std.proofs.lemmas.Result.{on_ok_weaker, on_err_weaker}
use Rattle.job_queue.proofs.OpenTables.{rewritten, written_back}
use Rattle.job_queue.proofs.open_table.append.Goals as goal

pub returns-clause-added : goal.returns-clause-added
returns-clause-added c =
    let found : lookup (is_at (nat_cmp c.args.dependency.on)) c.args.table.now.entries ≡ Some c.in-Some.list.now = search rules in
    let new : Table = (c.get_mut.follows.lender c.push.new.self).entries in
    let written : new ≡ set_value (is_at (nat_cmp c.args.dependency.on)) c.args.table.now.entries c.push.new.self = search rules in
    on_ok_weaker c.push.result (λ added. rewritten (λ l. l ++ c.args.dependency ∷ []) c.args.table.now.entries new c.args.dependency.on c.in-Some.list.now c.push.new.self found written added) c.push.ensures.added

pub returns-clause-kept : goal.returns-clause-kept
returns-clause-kept c =
    let found : lookup (is_at (nat_cmp c.args.dependency.on)) c.args.table.now.entries ≡ Some c.in-Some.list.now = search rules in
    let new : Table = (c.get_mut.follows.lender c.push.new.self).entries in
    let written : new ≡ set_value (is_at (nat_cmp c.args.dependency.on)) c.args.table.now.entries c.push.new.self = search rules in
    on_err_weaker c.push.result (λ kept. written_back c.args.table.now.entries new c.args.dependency.on c.in-Some.list.now c.push.new.self found written kept) c.push.ensures.kept

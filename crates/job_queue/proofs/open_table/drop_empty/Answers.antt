use Rattle.std.proofs.Common.{◌≡◌, length, rules}
use Rattle.std.proofs.lemmas.Bool.{eqb-true}
use Rattle.std.proofs.lemmas.List.{nil_from_length}
use Rattle.job_queue.specs.Dependencies.{open_on}
use Rattle.job_queue.proofs.OpenTables.{empty_goes}
use Rattle.job_queue.proofs.open_table.drop_empty.Goals as goal

pub returns : goal.returns
returns c =
    let length_is : length (open_on c.args.table.now.entries c.args.job) ≡ 0 = eqb-true (length (open_on c.args.table.now.entries c.args.job)) 0 (search rules) in
    let empty = nil_from_length (open_on c.args.table.now.entries c.args.job) length_is in
    empty_goes c.args.table.now.entries c.remove.new.self.entries c.args.job empty (λ other. c.remove.ensures.updates.0 other)

use Rattle.std.proofs.Common.{◌≡◌, [], ◌∷◌, subst, rules}
use Rattle.job_queue.specs.Dependencies.{ChangesOpen}
use Rattle.job_queue.proofs.OpenTables.{changes_open}
use Rattle.job_queue.proofs.open_table.begin.Goals as goal

pub returns-clause-added : goal.returns-clause-added
returns-clause-added c =
    let only : c.push.new.self ≡ c.args.dependency ∷ [] = search rules in
    subst (ChangesOpen c.args.table.now.entries c.insert.new.self.entries c.args.dependency.on) only (changes_open c.args.table.now.entries c.insert.new.self.entries c.args.dependency.on c.push.new.self (λ other. c.in_ok-insert.ensures.updates.0 other))

use Rattle.std.proofs.Common.{◌≡◌, Some, cond, ap, ◌∙◌, rules}
use Rattle.std.specs.Str.{bytes_eq}
use Rattle.indexmap.specs.IndexMap.{insert_entry}
use Rattle.job_commands.specs.Rows.{job_at}
use Rattle.job_commands.specs.Shown.{shown}
use Rattle.job_commands.proofs.Finding.{lookup_put}
use Rattle.job_commands.proofs.labels.Labels.put.Goals as goal

pub returns-clause-put : goal.returns-clause-put
returns-clause-put c = λ other.
    let es = c.self.inside.jobs.entries in
    let put : c.insert.new.self.entries ≡ insert_entry (λ a b. bytes_eq a.items b.items) es c.into_vec.result c.args.id = search rules in
    ap (λ l. job_at other (shown l)) put
    ∙ lookup_put other es c.into_vec.result c.args.id
    ∙ (λ j. cond (bytes_eq other (c.into_vec.ensures j)) (Some c.args.id) (job_at other (c.self.view_is j)))

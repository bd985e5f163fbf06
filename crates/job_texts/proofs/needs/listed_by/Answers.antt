use Rattle.std.proofs.Common.{◌≡◌, None, ap, sym, ◌∙◌, codes, rules}
use Rattle.serde_json.specs.Find.{get}
use Rattle.serde_json.specs.View.{view}
use Rattle.manager_rules.specs.Jobs.{texts_in}
use Rattle.job_texts.proofs.Listing.{none_listed}
use Rattle.job_texts.proofs.needs.listed_by.Goals as goal

pub returns-in-None : goal.returns-in-None
returns-in-None c = λ listed small e.
    let none : get (codes "depends") (view c.args.context.now) ≡ None = search rules in
    c.new.ensures ∙ none_listed listed (sym (ap texts_in none) ∙ e)

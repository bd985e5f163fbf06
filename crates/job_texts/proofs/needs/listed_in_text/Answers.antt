use Rattle.std.proofs.Common.{◌≡◌, None, ap, sym, ◌∙◌, codes, rules}
use Rattle.std.specs.Prelude.{option_and_then}
use Rattle.std.specs.Result.{result_ok}
use Rattle.serde_json.specs.Find.{get}
use Rattle.fl_json.specs.Reading.{reading}
use Rattle.manager_rules.specs.Jobs.{texts_in}
use Rattle.job_texts.proofs.Listing.{none_listed}
use Rattle.job_texts.proofs.needs.listed_in_text.Goals as goal

pub returns-in-None : goal.returns-in-None
returns-in-None c = λ listed small e.
    let none : result_ok (reading c.args.context.now) ≡ None = search rules in
    c.new.ensures ∙ none_listed listed (sym (ap (λ o. texts_in (option_and_then (get (codes "depends")) o)) none) ∙ e)

use Rattle.std.proofs.Common.{◌≡◌, ◌≤◌, ap, ◌∙◌}
use Rattle.std.specs.Prelude.{Ok}
use Rattle.serde_json.specs.View.{view}
use Rattle.serde_json.specs.Written.{compact_text}
use Rattle.serde_json.specs.Read.{max_depth}
use Rattle.serde_json.specs.Data.{depth}
use Rattle.fl_json.specs.Reading.{reading}
use Rattle.fl_json.specs.Valid.{IsValid}
use Rattle.resource_set.specs.Reading.{told}
use Rattle.resource_set.specs.Writing.{r_text}
use Rattle.resource_set.proofs.Again.{told_again, if_ok}
use Rattle.resource_set.proofs.printing.print.Goals as goal

pub returns-clause-canonical : goal.returns-clause-canonical
returns-clause-canonical c =
    let d = view c.in_ok-value.value in
    if_ok c.text.result (λ t. IsValid d → t.items ≡ compact_text d) (λ t. t.items ≡ r_text c.args.r.now) (λ t f. f c.in_ok-value.ensures.valid ∙ ap compact_text c.in_ok-value.ensures.value) c.text.ensures.canonical

pub returns-clause-read_again : goal.returns-clause-read_again
returns-clause-read_again c =
    let d = view c.in_ok-value.value in
    if_ok c.text.result (λ t. IsValid d → depth d ≤ max_depth → reading t.items ≡ Ok d) (λ t. told t.items ≡ Ok c.args.r.now)
    (λ t f. told_again t.items d c.args.r.now (f c.in_ok-value.ensures.valid c.in_ok-value.ensures.nests) c.in_ok-value.ensures.value c.requires.hosts c.in_ok-value.ensures.entries c.in_ok-value.ensures.hosts) c.text.ensures.reads_back

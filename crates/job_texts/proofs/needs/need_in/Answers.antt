use Rattle.std.proofs.Common.{◌≡◌, ap, ap₂, ◌∙◌, sym, Some, Ok}
use Rattle.fluid_ids.specs.Texts.{meaning, printed}
use Rattle.fluid_ids.specs.declared.forms.Form.TheVariants.{F58}
use Rattle.fluid_ids.proofs.Rereads.{printed_again}
use Rattle.job_texts.proofs.Descriptions.{described}
use Rattle.job_texts.proofs.Listing.{tells}
use Rattle.job_texts.proofs.needs.need_in.Goals as goal

pub returns-in_err-scheme : goal.returns-in_err-scheme
returns-in_err-scheme c = λ need small e. absurd (c.in_err-scheme.ensures.none need.scheme (printed F58 need.on) (e ∙ described need))

pub returns-in-Ok : goal.returns-in-Ok
returns-in-Ok c = λ need small e.
    let parts = tells need c.in_ok-scheme.scheme c.in_ok-scheme.id.now c.args.text.now c.in_ok-scheme.ensures.some e in
    let both : Ok c.in-Ok.on ≡ Ok need.on = sym c.in-Ok.is ∙ c.read.ensures ∙ ap meaning parts.1 ∙ printed_again F58 need.on small in
    let on : c.in-Ok.on ≡ need.on = cc in
    ap₂ (λ s n. Some (record { scheme = s; on = n })) parts.0 on

pub returns-in-Err : goal.returns-in-Err
returns-in-Err c = λ need small e.
    let parts = tells need c.in_ok-scheme.scheme c.in_ok-scheme.id.now c.args.text.now c.in_ok-scheme.ensures.some e in
    let both = sym c.in-Err.is ∙ c.read.ensures ∙ ap meaning parts.1 ∙ printed_again F58 need.on small in
    cc

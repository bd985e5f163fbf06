use Rattle.std.proofs.Common.{◌∙◌, ◌<◌, ◌^◌, ap, arith}
use Rattle.fluid_ids.specs.Texts.{meaning}
use Rattle.fluid_ids.specs.declared.forms.Form.TheVariants.{F58, Dothex, Decimal}
use Rattle.fluid_ids.proofs.Rereads.{printed_again}
use Rattle.fluid_ids.proofs.printer.print.Goals.{in-F58+in_ok-text-in-F58, in-Dothex+in_ok-text-in-Dothex, in-Decimal+in_ok-text-in-Decimal}
use Rattle.fluid_ids.proofs.printer.print.Goals as goal

pub returns-clause-read : goal.returns-clause-read
returns-clause-read c =
    let id = c.args.id in
    let small : id < 2 ^ 64 = omega arith in
    elim c.match-form.branch [
      | in-F58+in_ok-text-in-F58 w ↦ ap (λ t. meaning t.items) w.text-is ∙ ap meaning w.in_ok-text-in-F58.ensures ∙ printed_again F58 id small
      | in-Dothex+in_ok-text-in-Dothex w ↦ ap (λ t. meaning t.items) w.text-is ∙ ap meaning w.in_ok-text-in-Dothex.ensures ∙ printed_again Dothex id small
      | in-Decimal+in_ok-text-in-Decimal w ↦ ap (λ t. meaning t.items) w.text-is ∙ ap meaning w.in_ok-text-in-Decimal.ensures ∙ printed_again Decimal id small
    ]

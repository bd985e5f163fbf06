use Rattle.std.proofs.Common.{ap, sym, ◌∙◌, subst}
use Rattle.std.specs.Str.{IsUtf8}
use Rattle.idset.specs.Text.{first_fault, spelled}
use Rattle.resource_set.specs.Writing.{IsSpelled}
use Rattle.resource_set.proofs.Ascii.{printed_utf8}
use Rattle.resource_set.proofs.printing.group_value.Goals as goal

pub text_value-rank-requires : goal.text_value-rank-requires
text_value-rank-requires c =
    let ids = c.in_ok-ranks.ranks in
    let is = c.in_ok-print.ensures.text in
    let read = c.in_ok-print.ensures.read in
    let again : IsSpelled ids = record { sound = ap first_fault (sym is) ∙ read.0; same = ap spelled (sym is) ∙ read.1 } in
    subst IsUtf8 (sym is) (printed_utf8 ids again)

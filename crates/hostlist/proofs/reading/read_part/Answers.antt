use Rattle.std.proofs.Common.{◌≡◌, ap, ◌∙◌, sym, subst}
use Rattle.std.specs.Prelude.{Some, option_copied}
use Rattle.outcomes.specs.Outcomes.{Faults}
use Rattle.hostlist.specs.Reading.{piece_fault, piece_hosts, bracket_behind, lasting}
use Rattle.hostlist.proofs.ReadingLemmas.{ranged_inside, kept_hosts, kept_bracket, err_reads}
use Rattle.hostlist.proofs.reading.read_part.Goals as goal

pub returns-in_err-range-clause-read : goal.returns-in_err-range-clause-read
returns-in_err-range-clause-read c =
    let piece = c.args.piece.now in
    let p = ranged_inside c.args.place c.in-Some.prefix.now piece in
    let bracket : option_copied c.args.bracket ≡ Some c.in-Some.prefix.now = ap option_copied c.in-Some.is in
    let fault : piece_fault c.args.place (option_copied c.args.bracket) piece ≡ _ = ap (λ b. piece_fault c.args.place b piece) bracket ∙ p.fault in
    err_reads c.from_residual.result c.in_err-range.field-0.0 _ _ c.from_residual.ensures.1 (subst (Faults lasting c.in_err-range.field-0.0) (sym fault) c.in_err-range.ensures)

pub returns-clause-read : goal.returns-clause-read
returns-clause-read c =
    let piece = c.args.piece.now in
    let prefix = c.in-Some.prefix in
    let p = ranged_inside c.args.place prefix.now piece in
    let bracket : option_copied c.args.bracket ≡ Some prefix.now = ap option_copied c.in-Some.is in (
      ap (λ b. piece_fault c.args.place b piece) bracket ∙ p.fault ∙ c.in_ok-range.ensures.0,
      (
        kept_hosts prefix _ piece c.in_ok-range.ensures.1 ∙ sym p.hosts ∙ ap (λ b. piece_hosts b piece) (sym bracket),
        kept_bracket prefix _ piece c.in_ok-range.ensures.1 ∙ sym p.next ∙ ap (λ b. bracket_behind b piece) (sym bracket),
      ),
    )

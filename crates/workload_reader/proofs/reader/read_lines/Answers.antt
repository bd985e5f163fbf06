use Rattle.std.proofs.Common.{rules, ◌+◌, ◌∙◌, [], ap, sym, subst, length, lit<, arith}
use Rattle.std.specs.Prelude.{Some, None}
use Rattle.std.proofs.lemmas.Str.Pattern.{split_once_first, split_parts}
use Rattle.outcomes.specs.Outcomes.{Faults}
use Rattle.workload_reader.specs.Lines.{TextLine, lines_of}
use Rattle.workload_reader.specs.Verbs.{lasting}
use Rattle.workload_reader.specs.Reading.{fault_in, with_lines}
use Rattle.workload_reader.proofs.LineLemmas.{first_line, only_line, shorter, fault_behind, fault_here, value_behind, err_reads}
use Rattle.workload_reader.proofs.reader.read_lines.Goals as goal

pub loop-piece-preserved : goal.loop-piece-preserved
loop-piece-preserved c =
    let size = c.args.size in
    let number = c.loop-piece.number in
    let work = c.loop-piece.work in
    let rest = c.loop-piece.rest.now in
    let behind = c.in-Some.behind.now in
    let line : TextLine = record { bytes = length c.in-Some.piece.now; text = c.without_return-line.result.now } in
    let here = first_line rest c.in-Some.piece.now behind line.text (split_once_first 10 rest (Some (c.in-Some.piece, c.in-Some.behind)) c.in-Some.ensures.cases (lit< tt)) c.without_return-line.ensures in
    let less = shorter rest c.in-Some.piece.now behind (split_parts 10 rest (Some (c.in-Some.piece, c.in-Some.behind)) c.in-Some.ensures.cases (lit< tt)).0 in
    let read = c.in_ok-add_line.ensures.read in
    record {
      utf8 = search rules;
      few = c.in_ok-add_line.ensures.few;
      counted = omega (arith, less, c.loop-piece.invariant.counted);
      fault = ap (λ w. fault_in size w (number + 1) (lines_of behind)) read.1
          ∙ sym (fault_behind size work number (lines_of rest) (lines_of behind) line here read.0)
          ∙ c.loop-piece.invariant.fault;
      value = ap (λ w. with_lines w (lines_of behind)) read.1
          ∙ sym (value_behind work (lines_of rest) (lines_of behind) line here)
          ∙ c.loop-piece.invariant.value;
    }

pub returns-in_err-add_line : goal.returns-in_err-add_line
returns-in_err-add_line c =
    let rest = c.loop-piece.rest.now in
    let behind = c.in-Some.behind.now in
    let line : TextLine = record { bytes = length c.in-Some.piece.now; text = c.without_return-line.result.now } in
    let here = first_line rest c.in-Some.piece.now behind line.text (split_once_first 10 rest (Some (c.in-Some.piece, c.in-Some.behind)) c.in-Some.ensures.cases (lit< tt)) c.without_return-line.ensures in
    let h = fault_here c.args.size c.loop-piece.work c.loop-piece.number (lines_of rest) (lines_of behind) line _ here c.in_err-add_line.ensures.read in
    err_reads c.from_residual.result c.in_err-add_line.field-0.0 _ _ c.from_residual.ensures.1 (subst (Faults lasting c.in_err-add_line.field-0.0) c.loop-piece.invariant.fault h)

pub returns-in_err-add_line-2 : goal.returns-in_err-add_line-2
returns-in_err-add_line-2 c =
    let rest = c.loop-piece.rest.now in
    let line : TextLine = record { bytes = length rest; text = rest } in
    let here = only_line rest (split_once_first 10 rest None c.in_default.ensures.cases (lit< tt)) in
    let h = fault_here c.args.size c.loop-piece.work c.loop-piece.number (lines_of rest) [] line _ here c.in_err-add_line-2.ensures.read in
    err_reads c.from_residual-in_err-add_line-2.result c.in_err-add_line-2.field-0.0 _ _ c.from_residual-in_err-add_line-2.ensures.1 (subst (Faults lasting c.in_err-add_line-2.field-0.0) c.loop-piece.invariant.fault h)

pub returns : goal.returns
returns c =
    let rest = c.loop-piece.rest.now in
    let line : TextLine = record { bytes = length rest; text = rest } in
    let here = only_line rest (split_once_first 10 rest None c.in_default.ensures.cases (lit< tt)) in
    let read = c.in_ok-add_line-2.ensures.read in (
      sym c.loop-piece.invariant.fault ∙ fault_behind c.args.size c.loop-piece.work c.loop-piece.number (lines_of rest) [] line here read.0,
      read.1 ∙ sym (value_behind c.loop-piece.work (lines_of rest) [] line here) ∙ c.loop-piece.invariant.value,
    )

use Rattle.std.proofs.Common.{◌≡◌, ◌+◌, ◌<◌, ap, arith, ◌∙◌, length, sym, subst, take, drop, [], ◌∷◌, ◌==◌, if◌then◌else◌}
use Rattle.std.specs.Prelude.{Some, None}
use Rattle.std.specs.List.{take_while, prefix_len}
use Rattle.std.proofs.lemmas.List.{nil_from_length}
use Rattle.std.proofs.lemmas.Bool.Decides.{nat_tests}
use Rattle.outcomes.specs.Outcomes.{Faults}
use Rattle.hostlist.specs.Names.{is_name_byte, IsHostName}
use Rattle.hostlist.specs.Reading.{behind, range_hosts, range_end, lasting}
use Rattle.hostlist.specs.declared.faults.HostFault.TheVariants.{BadText}
use Rattle.hostlist.proofs.ReadingLemmas.{no_name, plain, stray, ranged_item, kept_hosts, kept_bracket, plain_hosts, plain_bracket, front_name, err_reads}
use Rattle.hostlist.proofs.reading.read_item.Goals as goal

pub returns-then-count-eq0-clause-read : goal.returns-then-count-eq0-clause-read
returns-then-count-eq0-clause-read c = no_name c.args.place c.args.piece.now (omega (arith, c.name_count-count.ensures.count))

pub returns-then-is_empty-clause-read : goal.returns-then-is_empty-clause-read
returns-then-is_empty-clause-read c =
    let piece = c.args.piece.now in
    let some : 0 < prefix_len is_name_byte piece = omega (arith, c.name_count-count.ensures.count) in
    let rest : c.split_at.result.1.now ≡ drop (prefix_len is_name_byte piece) piece = c.split_at.ensures.back ∙ ap (λ n. drop n piece) c.name_count-count.ensures.count in
    let front : c.split_at.result.0.now ≡ take_while is_name_byte piece = c.split_at.ensures.front ∙ ap (λ n. take n piece) c.name_count-count.ensures.count in
    let none : length c.split_at.result.1.now ≡ 0 = grind (arith, nat_tests) in
    let p = plain c.args.place piece some (sym rest ∙ nil_from_length _ none) in
    (p.fault, (plain_hosts c.split_at.result.0 ∙ ap (λ x. x ∷ []) front ∙ sym p.hosts, plain_bracket c.split_at.result.0 ∙ sym p.bracket))

pub returns-then-is_empty-clause-named : goal.returns-then-is_empty-clause-named
returns-then-is_empty-clause-named c =
    let piece = c.args.piece.now in
    let front : c.split_at.result.0.now ≡ take_while is_name_byte piece = c.split_at.ensures.front ∙ ap (λ n. take n piece) c.name_count-count.ensures.count in
    subst IsHostName (sym front) (front_name piece (omega (arith, c.name_count-count.ensures.count)))

pub returns-in_default-clause-read : goal.returns-in_default-clause-read
returns-in_default-clause-read c =
    let piece = c.args.piece.now in
    let some : 0 < prefix_len is_name_byte piece = omega (arith, c.name_count-count.ensures.count) in
    let rest : c.split_at.result.1.now ≡ drop (prefix_len is_name_byte piece) piece = c.split_at.ensures.back ∙ ap (λ n. drop n piece) c.name_count-count.ensures.count in
    let more : 0 < length c.split_at.result.1.now = grind (arith, nat_tests) in
    let long : prefix_len is_name_byte piece < length piece = omega (arith, c.split_at.ensures.back_len, c.name_count-count.ensures.count) in
    stray c.args.place piece some long (ap (behind 91) (sym rest) ∙ sym c.in_default.ensures)
    ∙ ap (λ n. Some (BadText (c.args.place + n))) (sym c.name_count-count.ensures.count)

pub returns-in_err-range-clause-read : goal.returns-in_err-range-clause-read
returns-in_err-range-clause-read c =
    let piece = c.args.piece.now in
    let some : 0 < prefix_len is_name_byte piece = omega (arith, c.name_count-count.ensures.count) in
    let rest : c.split_at.result.1.now ≡ drop (prefix_len is_name_byte piece) piece = c.split_at.ensures.back ∙ ap (λ n. drop n piece) c.name_count-count.ensures.count in
    let p = ranged_item c.args.place piece c.in-Some.text.now some (ap (behind 91) (sym rest) ∙ sym c.in-Some.ensures) in
    err_reads c.from_residual.result c.in_err-range.field-0.0 _ _ c.from_residual.ensures.1 (subst (Faults lasting c.in_err-range.field-0.0) (sym p.fault) c.in_err-range.ensures)

pub returns-clause-read : goal.returns-clause-read
returns-clause-read c =
    let piece = c.args.piece.now in
    let some : 0 < prefix_len is_name_byte piece = omega (arith, c.name_count-count.ensures.count) in
    let rest : c.split_at.result.1.now ≡ drop (prefix_len is_name_byte piece) piece = c.split_at.ensures.back ∙ ap (λ n. drop n piece) c.name_count-count.ensures.count in
    let front : c.split_at.result.0.now ≡ take_while is_name_byte piece = c.split_at.ensures.front ∙ ap (λ n. take n piece) c.name_count-count.ensures.count in
    let text = c.in-Some.text.now in
    let p = ranged_item c.args.place piece text some (ap (behind 91) (sym rest) ∙ sym c.in-Some.ensures) in (
      p.fault ∙ c.in_ok-range.ensures.0,
      (
        kept_hosts c.split_at.result.0 _ text c.in_ok-range.ensures.1 ∙ ap (λ x. range_hosts x text) front ∙ sym p.hosts,
        kept_bracket c.split_at.result.0 _ text c.in_ok-range.ensures.1 ∙ ap (λ x. if length (range_end text) == 0 then Some x else None) front ∙ sym p.next,
      ),
    )

pub returns-clause-named : goal.returns-clause-named
returns-clause-named c =
    let piece = c.args.piece.now in
    let front : c.split_at.result.0.now ≡ take_while is_name_byte piece = c.split_at.ensures.front ∙ ap (λ n. take n piece) c.name_count-count.ensures.count in
    subst IsHostName (sym front) (front_name piece (omega (arith, c.name_count-count.ensures.count)))

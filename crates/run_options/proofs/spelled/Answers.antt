use Rattle.std.proofs.Common.{◌≡◌, ◌∙◌, true, false, Some, None, sym, subst, map, string_bytes, rules}
use Rattle.std.specs.List.{list_any}
use Rattle.clap.specs.Words.{found_of}
use Rattle.clap.proofs.WalkLemmas.{list_any-map}
use Rattle.run_options.specs.Command.{IsParse, is_dashes}
use Rattle.run_options.proofs.Readings.{dashes_refused, flag_written, refused, taken}
use Rattle.run_options.proofs.Walks.{by_journal, by_backfill}
use Rattle.run_options.proofs.spelled.Goals as goal

pub returns-then-has_dashes-clause-value : goal.returns-then-has_dashes-clause-value
returns-then-has_dashes-clause-value c =
    let some : list_any is_dashes (map string_bytes c.args.words.now) ≡ true = sym (list_any-map is_dashes string_bytes c.args.words.now) ∙ sym c.has_dashes.ensures ∙ c.if-has_dashes.true in
    sym (dashes_refused (map string_bytes c.args.words.now) some)

pub given_in-requires-clause-journal : goal.given_in-requires-clause-journal
given_in-requires-clause-journal c =
    let other : list_any is_dashes (map string_bytes c.args.words.now) ≡ false = sym (list_any-map is_dashes string_bytes c.args.words.now) ∙ sym c.has_dashes.ensures ∙ c.if-has_dashes.false in
    let is : c.in_ok-matches.field-0 ≡ Some c.in-Some.matches = search rules in
    let parse : IsParse (map string_bytes c.args.words.now) (Some c.in-Some.matches) = subst (IsParse (map string_bytes c.args.words.now)) is c.in_ok-matches.ensures in
    flag_written (map string_bytes c.args.words.now) (found_of c.in-Some.matches) parse.1 other parse.0 by_journal

pub given_in-requires-clause-backfill : goal.given_in-requires-clause-backfill
given_in-requires-clause-backfill c =
    let other : list_any is_dashes (map string_bytes c.args.words.now) ≡ false = sym (list_any-map is_dashes string_bytes c.args.words.now) ∙ sym c.has_dashes.ensures ∙ c.if-has_dashes.false in
    let is : c.in_ok-matches.field-0 ≡ Some c.in-Some.matches = search rules in
    let parse : IsParse (map string_bytes c.args.words.now) (Some c.in-Some.matches) = subst (IsParse (map string_bytes c.args.words.now)) is c.in_ok-matches.ensures in
    flag_written (map string_bytes c.args.words.now) (found_of c.in-Some.matches) parse.1 other parse.0 by_backfill

pub returns-in-Some-clause-value : goal.returns-in-Some-clause-value
returns-in-Some-clause-value c =
    let other : list_any is_dashes (map string_bytes c.args.words.now) ≡ false = sym (list_any-map is_dashes string_bytes c.args.words.now) ∙ sym c.has_dashes.ensures ∙ c.if-has_dashes.false in
    let is : c.in_ok-matches.field-0 ≡ Some c.in-Some.matches = search rules in
    let parse : IsParse (map string_bytes c.args.words.now) (Some c.in-Some.matches) = subst (IsParse (map string_bytes c.args.words.now)) is c.in_ok-matches.ensures in
    c.given_in.ensures.value ∙ sym (taken (map string_bytes c.args.words.now) (found_of c.in-Some.matches) parse.1 other parse.0)

pub returns-in-None-clause-value : goal.returns-in-None-clause-value
returns-in-None-clause-value c =
    let other : list_any is_dashes (map string_bytes c.args.words.now) ≡ false = sym (list_any-map is_dashes string_bytes c.args.words.now) ∙ sym c.has_dashes.ensures ∙ c.if-has_dashes.false in
    let is : c.in_ok-matches.field-0 ≡ None = search rules in
    let parse : IsParse (map string_bytes c.args.words.now) None = subst (IsParse (map string_bytes c.args.words.now)) is c.in_ok-matches.ensures in
    sym (refused (map string_bytes c.args.words.now) other parse)

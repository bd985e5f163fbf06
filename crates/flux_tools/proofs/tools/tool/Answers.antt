use Rattle.std.proofs.Common.{rules, arith, ◌≡◌, ◌∙◌, sym, Some, length, map, string_bytes}
use Rattle.std.proofs.lemmas.List.{length-map}
use Rattle.flux_tools.specs.Tools.{asked}
use Rattle.flux_tools.proofs.Causes.{read_cause}
use Rattle.flux_tools.proofs.tools.tool.Goals as goal

pub returns-in-Ok-clause-cause : goal.returns-in-Ok-clause-cause
returns-in-Ok-clause-cause g c =
    let known : asked (map string_bytes c.args.words.now) ≡ Some c.in-Some.name = sym c.asked.ensures ∙ c.in-Some.is in
    let n : length c.args.words.now ≡ 1 = omega arith in
    let one : length (map string_bytes c.args.words.now) ≡ 1 = length-map c.args.words.now string_bytes ∙ n in
    read_cause _ _ _ _ _ _ _ _ known one (search rules) (search rules) _ c.line_of.ensures

use Rattle.std.proofs.Common.{◌≡◌, ◌∙◌, List, ℕ, sym, ap}
use Rattle.std.specs.Prelude.{Some, None}
use Rattle.std.specs.Option.{option_map_or}
use Rattle.fluid_ids.specs.Texts.{plain, after_mark, read_in, base_58, base_10}
use Rattle.fluid_ids.proofs.reader.plain.Goals as goal

marked : (text digits : List ℕ) → after_mark text ≡ Some digits → read_in base_58 digits ≡ plain text
unfolding plain
marked text digits e = sym (ap (λ o. option_map_or (read_in base_58) o (read_in base_10 text)) e)

unmarked : (text : List ℕ) → after_mark text ≡ None → read_in base_10 text ≡ plain text
unfolding plain
unmarked text e = sym (ap (λ o. option_map_or (read_in base_58) o (read_in base_10 text)) e)

pub returns-in-Some : goal.returns-in-Some
unfolding base_58
returns-in-Some c = c.number.ensures ∙ marked c.args.text.now c.in-Some.digits.now c.in-Some.ensures

pub returns-in-None : goal.returns-in-None
unfolding base_10
returns-in-None c = c.number-in-None.ensures ∙ unmarked c.args.text.now c.in-None.ensures

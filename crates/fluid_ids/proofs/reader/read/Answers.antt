use Rattle.std.proofs.Common.{◌≡◌, ◌∙◌, ◌==◌, List, ℕ, true, false, refl, sym}
use Rattle.std.specs.Prelude.{Err}
use Rattle.std.specs.List.{list_any}
use Rattle.fluid_ids.specs.Texts.{meaning, plain, is_dotted, groups, read_in, base_16}
use Rattle.fluid_ids.specs.declared.faults.FluidFault.TheVariants.{BadText}
use Rattle.fluid_ids.proofs.reader.read.Goals as goal

undotted : (text : List ℕ) → list_any (λ b. b == 46) text ≡ false → plain text ≡ meaning text
unfolding meaning
undotted text e = sym (rw e refl)

misplaced : (text : List ℕ) → list_any (λ b. b == 46) text ≡ true → is_dotted text ≡ false → Err BadText ≡ meaning text
unfolding meaning
misplaced text e f = sym (rw (e, f) refl)

placed : (text : List ℕ) → list_any (λ b. b == 46) text ≡ true → is_dotted text ≡ true → read_in base_16 (groups text) ≡ meaning text
unfolding meaning
placed text e f = sym (rw (e, f) refl)

pub returns-then-not-contains : goal.returns-then-not-contains
returns-then-not-contains c = c.plain.ensures ∙ undotted c.args.text.now (sym c.contains.ensures.value ∙ c.if-not-contains.true)

pub returns-then-not-is_dotted : goal.returns-then-not-is_dotted
returns-then-not-is_dotted c = misplaced c.args.text.now (sym c.contains.ensures.value ∙ c.if-not-contains.false) (sym c.is_dotted.ensures ∙ c.if-not-is_dotted.true)

pub returns : goal.returns
returns c = c.dotted.ensures ∙ placed c.args.text.now (sym c.contains.ensures.value ∙ c.if-not-contains.false) (sym c.is_dotted.ensures ∙ c.if-not-is_dotted.false)

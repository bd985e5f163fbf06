use Rattle.std.proofs.Common.{◌≡◌, ◌+◌, ◌||◌, ℕ, List, [], ◌∷◌, length, cond, not, true, false, refl, lit<, arith}
use Rattle.std.specs.Prelude.{None}
use Rattle.std.specs.List.{list_any, position_or_len, prefix_len}
use Rattle.std.proofs.lemmas.Str.Pattern.{split_once_first}
use Rattle.workload_reader.specs.Submits.{is_equals}
use Rattle.workload_reader.proofs.submits.value_of.Goals as goal

-- where the first `=` stands at the end, there is none
none_passes : (word : List ℕ) → position_or_len is_equals word ≡ length word → list_any is_equals word ≡ false
none_passes [] h = refl
none_passes (b ∷ bs) h =
    (elim (is_equals b) as (λ t. cond (not t) (1 + prefix_len (λ x. not (is_equals x)) bs) 0 ≡ length (b ∷ bs) → (t || list_any is_equals bs) ≡ false) [
      | true ↦ λ h. absurd (omega (arith, h))
      | false ↦ λ h. none_passes bs (omega (arith, h))
    ]) h

pub returns-in-None : goal.returns-in-None
returns-in-None c =
    let word = c.args.word.now in
    rw (none_passes word (split_once_first 61 word None c.in-None.ensures.cases (lit< tt))) refl

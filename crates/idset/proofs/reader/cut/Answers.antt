use Rattle.std.proofs.Common.{◌≡◌, ℕ, ◌+◌, ◌-◌, ◌<◌, List, ◌∷◌, length, take, drop, refl, ◌∙◌, length-drop, arith}
use Rattle.std.specs.List.{slice_split, position_or_len}
use Rattle.std.proofs.lemmas.List.{take_all}
use Rattle.std.proofs.lemmas.List.Splits.{slice_split_first}
use Rattle.idset.specs.Text.{is_comma}
use Rattle.idset.proofs.Numbers.{uncut}
use Rattle.idset.proofs.reader.cut.Goals as goal

-- the text is cut at its first comma
cut_there : (text : List ℕ) (n : ℕ) → n ≡ position_or_len is_comma text → n < length text → slice_split is_comma text ≡ take n text ∷ slice_split is_comma (take (length text - (n + 1)) (drop (n + 1) text))
cut_there text n e h =
    let all = take_all (length text - (n + 1)) (drop (n + 1) text) (omega (arith, length-drop (n + 1) text)) in
    slice_split_first is_comma text 0 (omega arith) ∙ rw (all, e) refl

pub returns-then-count-text-clause-parts : goal.returns-then-count-text-clause-parts
returns-then-count-text-clause-parts c = uncut is_comma c.args.text.now (omega (arith, c.count_before-count.ensures.count))

pub returns-else-count-text-clause-parts : goal.returns-else-count-text-clause-parts
returns-else-count-text-clause-parts c = cut_there c.args.text.now c.count_before-count.result c.count_before-count.ensures.count (omega arith)

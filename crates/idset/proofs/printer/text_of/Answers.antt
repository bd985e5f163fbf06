use Rattle.std.proofs.Common.{◌≡◌, ◌≢◌, ℕ, ◌+◌, ◌<◌, true, false, eqb, List, [], ◌∷◌, ◌++◌, length, get_or, take, map, sym, ap, refl, ◌∙◌, append_assoc, lit<, arith}
use Rattle.std.specs.Prelude.{string_bytes}
use Rattle.std.specs.List.{join_with_byte}
use Rattle.std.proofs.lemmas.Bool.Decides.{nat_tests}
use Rattle.idset.specs.Runs.{range_text}
use Rattle.idset.specs.declared.ranges.IdRange.{IdRange}
use Rattle.idset.proofs.Gaps.{no_range}
use Rattle.idset.proofs.Rereads.{text_more}
use Rattle.idset.proofs.printer.text_of.Goals.{then-place-ne0+in_ok-push, else-place-ne0}
use Rattle.idset.proofs.printer.text_of.Goals as goal

-- one range more, behind a comma or at the start
later : (rs : List IdRange) (i : ℕ) (old new : List ℕ) → i < length rs → i ≢ 0 → old ≡ join_with_byte 44 (map range_text (take i rs)) → new ≡ (old ++ 44 ∷ []) ++ range_text (get_or rs i no_range) → new ≡ join_with_byte 44 (map range_text (take (i + 1) rs))
later rs i old new h some e n =
    let test : eqb i 0 ≡ false = grind (arith, nat_tests) in
    n ∙ append_assoc old (44 ∷ []) (range_text (get_or rs i no_range)) ∙ ap (λ t. t ++ (44 ∷ range_text (get_or rs i no_range))) e ∙ sym (text_more rs i no_range h ∙ rw test refl)

begun : (rs : List IdRange) (i : ℕ) (old new : List ℕ) → i < length rs → i ≡ 0 → old ≡ join_with_byte 44 (map range_text (take i rs)) → new ≡ old ++ range_text (get_or rs i no_range) → new ≡ join_with_byte 44 (map range_text (take (i + 1) rs))
begun rs i old new h none e n =
    let test : eqb i 0 ≡ true = grind (arith, nat_tests) in
    let empty : old ≡ [] = e ∙ ap (λ k. join_with_byte 44 (map range_text (take k rs))) none in
    n ∙ ap (λ t. t ++ range_text (get_or rs i no_range)) empty ∙ sym (text_more rs i no_range h ∙ rw test refl)

pub loop-place-preserved : goal.loop-place-preserved
loop-place-preserved c =
    let rs = c.args.ranges.now in
    let added = c.in_ok-add.ensures in
    elim c.if-place-ne0.branch [
      | then-place-ne0+in_ok-push w ↦ later rs c.loop-place.place _ _ c.loop-place-test.true w.if-place-ne0.true c.loop-place.invariant (added ∙ ap (λ t. t ++ range_text (get_or rs c.loop-place.place no_range)) (ap string_bytes w.text-is ∙ w.in_ok-push.ensures.bytes ∙ ap (λ t. string_bytes c.loop-place.text ++ t) (w.in_ok-push.ensures.ascii (lit< tt))))
      | else-place-ne0 w ↦ begun rs c.loop-place.place _ _ c.loop-place-test.true w.if-place-ne0.false c.loop-place.invariant (added ∙ ap (λ s. string_bytes s ++ range_text (get_or rs c.loop-place.place no_range)) w.text-is)
    ]

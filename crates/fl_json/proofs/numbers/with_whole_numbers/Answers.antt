use Rattle.std.proofs.Common.{◌≡◌, ◌<◌, ◌≤◌, ◌+◌, ◌-◌, ℕ, List, [], ◌∷◌, ◌++◌, length, take, drop, ap, ap₂, sym, ◌∙◌, refl, arith, append_assoc, append-nil}
use Rattle.std.specs.Prelude.{Some, None}
use Rattle.std.proofs.lemmas.Bool.Decides.{nat_tests}
use Rattle.fl_json.specs.Numbers.{pieces, piece_len, kept, first_lost, all_kept, rewritten}
use Rattle.fl_json.proofs.Cuts.{pieces-next, pieces-nil, lost_here, lost_later, kept_first, lost-nil, kept-nil, bad_at, not_bad}
use Rattle.fl_json.proofs.numbers.with_whole_numbers.Goals as goal

-- the pieces of what is left, where n is the length of the first
next : (rest piece behind : List ℕ) (n : ℕ) → n ≡ piece_len rest → 0 < length rest → piece ≡ take n rest → behind ≡ drop n rest → pieces rest ≡ piece ∷ pieces behind
next rest piece behind n e some front back = pieces-next rest some ∙ ap (λ k. take k rest ∷ pieces (drop k rest)) (sym e) ∙ ap₂ (λ p b. p ∷ pieces b) (sym front) (sym back)

empty : (rest : List ℕ) → length rest ≡ 0 → rest ≡ []
empty [] h = refl
empty (b ∷ bs) h = absurd (omega arith)

pub returns-in_default : goal.returns-in_default
returns-in_default c =
    let rest = c.pieces.rest.now in
    let some : 0 < length rest = grind (arith, nat_tests) in
    let e = next rest c.split_at.result.0.now c.split_at.result.1.now c.first_len.result c.first_len.ensures.value some c.split_at.ensures.front c.split_at.ensures.back in
    let place = length c.args.text.now - length rest in
    bad_at _ place _ (sym c.pieces.invariant.lost ∙ ap (first_lost place) e ∙ lost_here place _ _ (sym c.in_default.ensures))

pub pieces-preserved : goal.pieces-preserved
pieces-preserved c =
    let rest = c.pieces.rest.now in
    let some : 0 < length rest = grind (arith, nat_tests) in
    let piece = c.split_at.result.0.now in
    let behind = c.split_at.result.1.now in
    let e = next rest piece behind c.first_len.result c.first_len.ensures.value some c.split_at.ensures.front c.split_at.ensures.back in
    let place = length c.args.text.now - length rest in
    let is : kept piece ≡ Some c.in-Some.kept.now = sym c.in-Some.ensures in
    let within : length rest ≤ length c.args.text.now = c.pieces.invariant.within in
    let n : length piece ≡ c.first_len.result = c.split_at.ensures.front_len in
    let m : length behind + c.first_len.result ≡ length rest = c.split_at.ensures.back_len in
    let moved : place + length piece ≡ length c.args.text.now - length behind = omega arith in
    record {
      within = omega arith;
      lost = ap (λ k. first_lost k (pieces behind)) (sym moved) ∙ sym (lost_later place piece c.in-Some.kept.now (pieces behind) is) ∙ ap (first_lost place) (sym e) ∙ c.pieces.invariant.lost;
      kept = ap (λ o. o ++ all_kept (pieces behind)) c.in_ok-extend_from_slice.ensures.items ∙ append_assoc c.pieces.out.items c.in-Some.kept.now (all_kept (pieces behind))
          ∙ ap (λ t. c.pieces.out.items ++ t) (sym (kept_first piece c.in-Some.kept.now (pieces behind) is) ∙ ap all_kept (sym e)) ∙ c.pieces.invariant.kept;
    }

pub returns : goal.returns
returns c =
    let rest = c.pieces.rest.now in
    let none : length rest ≡ 0 = grind (arith, nat_tests) in
    let e : pieces rest ≡ [] = ap pieces (empty rest none) ∙ pieces-nil in
    let place = length c.args.text.now - length rest in
    let whole : c.pieces.out.items ≡ rewritten c.args.text.now = sym (append-nil c.pieces.out.items) ∙ ap (λ t. c.pieces.out.items ++ t) (sym (ap all_kept e ∙ kept-nil)) ∙ c.pieces.invariant.kept in
    not_bad _ _ (sym c.pieces.invariant.lost ∙ ap (first_lost place) e ∙ lost-nil place) ∙ ap Rattle.std.specs.Prelude.Ok (sym whole)

use Rattle.std.proofs.Common.{◌≡◌, length, ◌+◌, Bool, true, false, refl, sym, ap, ap₂, ◌∙◌, arith, take, drop}
use Rattle.kvs_model.specs.Operation.{enters_full_from, most_names}
use Rattle.kvs_model.specs.Store.{node_at, names_in}
use Rattle.std.specs.Prelude.{nat_le, is_none, ◌&&◌}
use Rattle.plain_store.proofs.Working.{enters_more, enters_end, or_true, or_false}
use Rattle.tree_store.proofs.Placed.{opens_within}
use Rattle.tree_store.proofs.operations.enters_full.Goals.{else-is_free-via-then-is_free+else-is_full, else-is_free-via-else-is_free}
use Rattle.tree_store.proofs.operations.enters_full.Goals as goal

and_false : (a : Bool) → (a && false) ≡ false
and_false true = refl
and_false false = refl

pub returns-then-is_full : goal.returns-then-is_full
returns-then-is_full c = λ h held st shows opens.
    let at = c.args.at.now in
    let count = c.loop-count.count in
    let free : is_none (node_at st (take (count + 1) at)) ≡ true = sym (c.is_free.ensures h held st shows (opens_within c.args.opened.now st at (count + 1) opens)) ∙ c.if-is_free.true in
    let full : nat_le most_names (length (names_in st (take count at))) ≡ true = sym (c.is_full.ensures h held st shows (λ d. opens count c.loop-count-test.true d)) ∙ c.if-is_full.true in
    sym (c.loop-count.invariant.rest h held st shows opens ∙ enters_more st at count c.loop-count-test.true ∙ or_true _ (enters_full_from st (take (count + 1) at) (drop (count + 1) at)) (ap₂ (λ a b. a && b) free full))

pub loop-count-preserved : goal.loop-count-preserved
loop-count-preserved c =
    let at = c.args.at.now in
    let count = c.loop-count.count in
    record {
      bound = omega arith;
      rest = λ h held st shows opens. (
          let not_new : (is_none (node_at st (take (count + 1) at)) && nat_le most_names (length (names_in st (take count at)))) ≡ false = elim c.else-is_free.branch [
            | else-is_free-via-then-is_free+else-is_full w ↦ (
                let full : nat_le most_names (length (names_in st (take count at))) ≡ false = sym (w.is_full.ensures h held st shows (λ d. opens count c.loop-count-test.true d)) ∙ w.if-is_full.false in
                ap (λ b. is_none (node_at st (take (count + 1) at)) && b) full ∙ and_false (is_none (node_at st (take (count + 1) at))))
            | else-is_free-via-else-is_free w ↦ (
                let free : is_none (node_at st (take (count + 1) at)) ≡ false = sym (c.is_free.ensures h held st shows (opens_within c.args.opened.now st at (count + 1) opens)) ∙ w.if-is_free.false in
                ap (λ b. b && nat_le most_names (length (names_in st (take count at)))) free)
          ] in
          c.loop-count.invariant.rest h held st shows opens ∙ enters_more st at count c.loop-count-test.true ∙ or_false _ (enters_full_from st (take (count + 1) at) (drop (count + 1) at)) not_new);
    }

pub returns : goal.returns
returns c = λ h held st shows opens.
    sym (c.loop-count.invariant.rest h held st shows opens ∙ enters_end st c.args.at.now c.loop-count.count c.loop-count-test.false)

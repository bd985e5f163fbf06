use Rattle.std.proofs.Common.{◌≡◌, ◌∙◌, ◌+◌, ◌≤◌, ◌==◌, ◌++◌, ◌∷◌, [], ℕ, List, Bor, true, false, not, ap, arith, get_or, length, map, subst, sym, take, unwrap_or}
use Rattle.std.specs.BTreeMap.{get, IsOrdered}
use Rattle.std.specs.Cmp.Lexicographic.{slice_cmp}
use Rattle.std.specs.Ordering.{nat_cmp}
use Rattle.std.proofs.lemmas.List.{take_all}
use Rattle.summaries.specs.Counts.{counted, times, CountsOneMore}
use Rattle.summaries.proofs.Counting.{counted_number, counts_more, lookup_by_bytes, times_before, times_same, word_more}
use Rattle.summaries.proofs.counts.tally.Goals.{then-not-is_empty+in_ok-of+in_ok-count, else-not-is_empty}
use Rattle.summaries.proofs.counts.tally.Goals as goal

pub count-requires : goal.count-requires
count-requires c =
    let q : List ℕ = c.in_ok-of.field-0 in
    let i = c.loop-word.word-index in
    let words = c.args.words.now in
    let here : unwrap_or (get (slice_cmp nat_cmp) c.loop-word.rows q) 0 ≡ times q (map (λ w. w.now) (take i words)) = ap (λ o. unwrap_or o 0) (c.loop-word.invariant.exact q) ∙ counted_number (times q (map (λ w. w.now) (take i words))) in
    let few : times q (map (λ w. w.now) (take i words)) ≤ i = times_before q words i in
    omega (arith, here, few)

pub loop-word-preserved : goal.loop-word-preserved
loop-word-preserved c =
    let i = c.loop-word.word-index in
    let words = c.args.words.now in
    let d : Bor (List ℕ) = record { ref_ptr = (0, 0); now = [] } in
    let word : List ℕ = (get_or words i d).now in
    let ws : List (List ℕ) = map (λ w. w.now) (take i words) in
    let more : map (λ w. w.now) (take (i + 1) words) ≡ ws ++ word ∷ [] = word_more words i d c.loop-word-test.true in
    elim c.if-not-is_empty.branch [
      | then-not-is_empty+in_ok-of+in_ok-count w ↦
          let whole : not (length word == 0) ≡ true = ap not (sym c.is_empty.ensures ∙ w.if-not-is_empty.true) in
          record {
            ordered = subst (IsOrdered (slice_cmp nat_cmp)) (sym w.rows-is) w.count.ensures.ordered;
            exact = λ v.
                ap (λ m. get (slice_cmp nat_cmp) m v) w.rows-is
                ∙ counts_more c.loop-word.rows w.count.new.rows word ws whole (subst (λ x. CountsOneMore c.loop-word.rows w.count.new.rows x) w.in_ok-of.ensures w.in_ok-count.ensures.counts) c.loop-word.invariant.exact v
                ∙ ap (λ l. counted (times v l)) (sym more);
          }
      | else-not-is_empty w ↦
          let none : not (length word == 0) ≡ false = ap not (sym c.is_empty.ensures ∙ w.if-not-is_empty.false) in
          record {
            ordered = subst (IsOrdered (slice_cmp nat_cmp)) (sym w.rows-is) c.loop-word.invariant.ordered;
            exact = λ v.
                ap (λ m. get (slice_cmp nat_cmp) m v) w.rows-is
                ∙ c.loop-word.invariant.exact v
                ∙ ap counted (sym (times_same v word ws none))
                ∙ ap (λ l. counted (times v l)) (sym more);
          }
    ]

pub returns : goal.returns
returns c =
    let words = c.args.words.now in
    record {
      rising = c.loop-word.invariant.ordered;
      exact = λ v.
          lookup_by_bytes v c.loop-word.rows.entries
          ∙ c.loop-word.invariant.exact v
          ∙ ap (λ l. counted (times v (map (λ w. w.now) l))) (take_all c.loop-word.word-index words c.loop-word-test.false);
    }

-- The counts and the marks of brokers, as they are kept together.
use Rattle.std.proofs.Common.{◌≡◌, ℕ, zero, suc, ◌+◌, ◌-◌, ◌<◌, List, length, map, replicate, true, Some, get_or, refl, sym, ap, ◌∙◌, subst}
use Rattle.std.specs.Prelude.{slice_index, slice_set}
use Rattle.std.proofs.lemmas.List.{get_or-map, length-map, map-set}
use Rattle.instance_rules.specs.Desks.{is_submission}
use Rattle.job_commands.specs.Asks.{told}
use Rattle.job_commands.specs.Rows.{CommandsValue, mark_at, mark_now, unmarked}
use Rattle.job_commands.specs.declared.row.Row.{Row}
use Rattle.job_commands.specs.declared.tally.Mark.{Mark}
use Rattle.job_commands.specs.declared.tally.Tally.{Tally}
use Rattle.job_commands.proofs.Marks.{IsMarked, mark_of, marked_more}
use Rattle.job_commands.proofs.Tables.{IsCounted, counted_more}

-- what is read of brokers at which nothing was issued
pub read_unset : {A : Type 0} (f : Tally → A) (n : ℕ) (t : Tally) (k : ℕ) → get_or (map f (replicate n t)) k (f t) ≡ f t
read_unset f zero t k = refl
read_unset f (suc n) t zero = refl
read_unset f (suc n) t (suc k) = read_unset f n t k

module _ (tallies : List Tally) (v : CommandsValue) (issued : map (λ (t : Tally). t.issued) tallies ≡ v.issued) (marks : map (λ (t : Tally). t.mark) tallies ≡ v.marks)
    (rank : ℕ) (low : rank < length v.issued) where
  short : rank < length tallies
  short = subst (λ n. rank < n) (length-map tallies (λ (t : Tally). t.issued)) (subst (λ l. rank < length l) (sym issued) low)

  short_marks : rank < length v.marks
  short_marks = subst (λ l. rank < length l) marks (subst (λ n. rank < n) (sym (length-map tallies (λ (t : Tally). t.mark))) short)

  module _ (t : Tally) (read : t ≡ get_or tallies rank t) where
    count_read : t.issued ≡ slice_index v.issued rank
    count_read = ap (λ (x : Tally). x.issued) read ∙ sym (get_or-map (λ (x : Tally). x.issued) tallies rank t 0 short) ∙ ap (λ l. slice_index l rank) issued

    mark_read : t.mark ≡ mark_at v.marks rank
    mark_read = ap (λ (x : Tally). x.mark) read ∙ sym (get_or-map (λ (x : Tally). x.mark) tallies rank t unmarked short) ∙ ap (λ l. mark_at l rank) marks

    module _ (row : Row) (its : row.rank ≡ rank) (mark : Mark) (is : mark ≡ mark_now t.mark t.issued row.issued) where
      pub mark_is : mark ≡ mark_of v row
      mark_is = is ∙ (λ i. mark_now (mark_read i) (count_read i) row.issued) ∙ ap (λ r. mark_now (mark_at v.marks r) (slice_index v.issued r) row.issued) (sym its)

      pub sequence_is : t.issued - mark.count ≡ slice_index v.issued row.rank - (mark_of v row).count
      sequence_is = (λ i. count_read i - (mark_is i).count) ∙ ap (λ r. slice_index v.issued r - (mark_of v row).count) (sym its)

      module _ (submits : is_submission (Some (told row.ask)) ≡ true) where
        abbrev next : List Tally
        next = slice_set tallies rank (let x : Tally = record { issued = t.issued + 1; mark = mark } in x)

        pub counted_set : IsCounted row v.issued (map (λ (x : Tally). x.issued) next)
        counted_set =
            subst (IsCounted row v.issued)
            (sym (map-set (λ (x : Tally). x.issued) tallies rank _ ∙ (λ i. slice_set (issued i) rank (count_read i + 1)) ∙ ap (λ r. slice_set v.issued r (slice_index v.issued r + 1)) (sym its)))
            (counted_more row v.issued (subst (λ r. r < length v.issued) (sym its) low) submits)

        pub marked_set : IsMarked row (mark_of v row) v.marks (map (λ (x : Tally). x.mark) next)
        marked_set =
            subst (IsMarked row (mark_of v row) v.marks)
            (sym (map-set (λ (x : Tally). x.mark) tallies rank _ ∙ (λ i. slice_set (marks i) rank (mark_is i)) ∙ ap (λ r. slice_set v.marks r (mark_of v row)) (sym its)))
            (marked_more row (mark_of v row) v.marks (subst (λ r. r < length v.marks) (sym its) short_marks) submits)

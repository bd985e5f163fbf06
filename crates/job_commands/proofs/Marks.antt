-- The marks of brokers, and what was given out by them.
use Rattle.std.proofs.Common.{◌≡◌, ℕ, ◌+◌, ◌<◌, ◌≤◌, ◌==◌, ◌&&◌, inl, inr, List, length, Bool, true, false, cond, Some, refl, sym, ap, ◌∙◌, subst, arith}
use Rattle.std.specs.Prelude.{slice_index, slice_set}
use Rattle.std.proofs.lemmas.Bool.{cases_eq, cond-false, cond-true, eq-eqb, eqb-true, ne_eqb}
use Rattle.std.proofs.lemmas.List.{get_or-set_other, get_or-set_same}
use Rattle.instance_rules.specs.Desks.{is_submission}
use Rattle.job_commands.specs.Agrees.{WasDrawn}
use Rattle.job_commands.specs.Asks.{told}
use Rattle.job_commands.specs.Rows.{AreMarkedBy, CommandsValue, mark_at, mark_now, unmarked}
use Rattle.job_commands.specs.declared.row.Row.{Row}
use Rattle.job_commands.specs.declared.tally.Mark.{Mark}

-- ---- a mark for a submission

abbrev begins : ℕ → ℕ → Mark
begins issued now = record { second = now; count = issued }

pub mark_second : (m : Mark) (issued now : ℕ) → (mark_now m issued now).second ≡ now
mark_second m issued now = at (m.second == now) refl
  where
    at : (b : Bool) → (m.second == now) ≡ b → (cond b m (begins issued now)).second ≡ now
    at true e = eqb-true m.second now e
    at false e = refl

pub mark_count : (m : Mark) (issued now : ℕ) → m.count ≤ issued → (mark_now m issued now).count ≤ issued
mark_count m issued now h = at (m.second == now)
  where
    at : (b : Bool) → (cond b m (begins issued now)).count ≤ issued
    at true = h
    at false = omega arith

pub mark_same : (m : Mark) (issued now : ℕ) → m.second ≡ now → mark_now m issued now ≡ m
mark_same m issued now e = cond-true (m.second == now) m (begins issued now) (eq-eqb m.second now e)

-- ---- the marks after one more submission at a broker, or none

abbrev pub mark_of : CommandsValue → Row → Mark
mark_of v row = mark_now (mark_at v.marks row.rank) (slice_index v.issued row.rank) row.issued

abbrev pub IsMarked : Row → Mark → List Mark → List Mark → Type 0
IsMarked row mark old new = (rank : ℕ) → mark_at new rank ≡ cond ((row.rank == rank) && is_submission (Some (told row.ask))) mark (mark_at old rank)

set_at : (xs : List Mark) (i : ℕ) (x : Mark) (k : ℕ) → i < length xs → mark_at (slice_set xs i x) k ≡ cond (i == k) x (mark_at xs k)
set_at xs i x k w = elim (cases_eq i k) [
  | inl same ↦ subst (λ j. mark_at (slice_set xs i x) j ≡ cond (i == j) x (mark_at xs j)) same (get_or-set_same xs i x unmarked w ∙ sym (cond-true (i == i) _ _ (eq-eqb i i refl)))
  | inr other ↦ get_or-set_other xs i k x unmarked (λ e. other (sym e)) ∙ sym (cond-false (i == k) _ _ (ne_eqb i k other))
]

pub marked_more : (row : Row) (mark : Mark) (old : List Mark) → row.rank < length old → is_submission (Some (told row.ask)) ≡ true → IsMarked row mark old (slice_set old row.rank mark)
marked_more row mark old w t rank = set_at old row.rank mark rank w ∙ at (row.rank == rank) (is_submission (Some (told row.ask))) t
  where
    at : (b c : Bool) → c ≡ true → cond b mark (mark_at old rank) ≡ cond (b && c) mark (mark_at old rank)
    at true true u = refl
    at false true u = refl
    at b false u = cc

pub marked_same : (row : Row) (mark : Mark) (old : List Mark) → is_submission (Some (told row.ask)) ≡ false → IsMarked row mark old old
marked_same row mark old t rank = at (row.rank == rank) (is_submission (Some (told row.ask))) t
  where
    at : (b c : Bool) → c ≡ false → mark_at old rank ≡ cond (b && c) mark (mark_at old rank)
    at true false u = refl
    at false false u = refl
    at b true u = cc

-- no mark is later than a second after a submission at it
pub marked_by : (v : CommandsValue) (new : List Mark) (row : Row) → IsMarked row (mark_of v row) v.marks new → AreMarkedBy v row.issued → (rank : ℕ) → (mark_at new rank).second ≤ row.issued
marked_by v new row marked h = λ rank. subst (λ m. m.second ≤ row.issued) (sym (marked rank)) (at rank ((row.rank == rank) && is_submission (Some (told row.ask))))
  where
    at : (rank : ℕ) (b : Bool) → (cond b (mark_of v row) (mark_at v.marks rank)).second ≤ row.issued
    at rank true = let is = mark_second (mark_at v.marks row.rank) (slice_index v.issued row.rank) row.issued in omega (arith, is)
    at rank false = h rank

-- ---- what was given out

-- where the count and the mark of the broker stay
pub drawn_kept : (old new : CommandsValue) (birth rank second sequence : ℕ) → slice_index new.issued rank ≡ slice_index old.issued rank → mark_at new.marks rank ≡ mark_at old.marks rank → WasDrawn old birth rank second sequence → WasDrawn new birth rank second sequence
drawn_kept old new birth rank second sequence count mark d = record {
  since = d.since;
  marked = subst (λ m. second ≤ m.second) (sym mark) d.marked;
  below = subst (λ n. sequence < n) (sym count) d.below;
  within = λ e. subst (λ n. sequence + (mark_at new.marks rank).count < n) (sym count)
      (subst (λ m. sequence + m.count < slice_index old.issued rank) (sym mark) (d.within (e ∙ ap (λ m. m.second) mark)));
}

pub drawn_same : (old new : CommandsValue) → new.issued ≡ old.issued → new.marks ≡ old.marks → (birth rank second sequence : ℕ) → WasDrawn old birth rank second sequence → WasDrawn new birth rank second sequence
drawn_same old new issued marks birth rank second sequence d =
    drawn_kept old new birth rank second sequence (ap (λ l. slice_index l rank) issued) (ap (λ l. mark_at l rank) marks) d

-- so where one more was issued there
pub drawn_more : (old new : CommandsValue) (birth rank second sequence now : ℕ) → slice_index new.issued rank ≡ slice_index old.issued rank + 1
    → mark_at new.marks rank ≡ mark_now (mark_at old.marks rank) (slice_index old.issued rank) now → (mark_at old.marks rank).second ≤ now
    → WasDrawn old birth rank second sequence → WasDrawn new birth rank second sequence
drawn_more old new birth rank second sequence now count mark later d =
    let m = mark_at old.marks rank in
    let issued = slice_index old.issued rank in
    let is_now : (mark_at new.marks rank).second ≡ now = ap (λ x. x.second) mark ∙ mark_second m issued now in
    let marked = d.marked in
    let below = d.below in
    record {
      since = d.since;
      marked = omega (arith, is_now, marked, later);
      below = omega (arith, count, below);
      within = λ e.
          let present : m.second ≡ now = omega (arith, e, is_now, marked, later) in
          let low = d.within (e ∙ is_now ∙ sym present) in
          let same : (mark_at new.marks rank).count ≡ m.count = ap (λ x. x.count) (mark ∙ mark_same m issued now present) in
          omega (arith, count, same, low);
    }

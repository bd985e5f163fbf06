-- Rows after a change, and the sequence numbers of submissions.
use Rattle.std.proofs.Common.{◌≡◌, ◌≢◌, ℕ, ◌+◌, ◌==◌, ◌&&◌, Bor, arith, ◌<◌, ◌≤◌, ◌⊎◌, inl, inr, List, [], ◌∷◌, length, Bool, true, false, cond, Option, Some, None, Contains, refl, sym, ap, ◌∙◌, subst, true≢false, get_or}
use Rattle.std.specs.Prelude.{IfNone, IfSome, filter, find, not, slice_index, slice_set}
use Rattle.std.specs.Option.{option_copied}
use Rattle.std.proofs.lemmas.Bool.{cases_eq, cond-false, cond-true, eq-eqb, eqb-true, ne_eqb, not-true}
use Rattle.std.proofs.lemmas.List.{get_or_default, get_or-set_other, get_or-set_same, length-set}
use Rattle.std.proofs.lemmas.List.Elements.{Contains-get_or}
use Rattle.job_rules.proofs.Among.{Among, among_filter, among_from, among_kept, contains_from}
use Rattle.kvs_rules.proofs.Asking.{command_is}
use Rattle.kvs_rules.specs.Log.{same_command}
use Rattle.kvs_txn.specs.declared.txn.By.{By}
use Rattle.instance_rules.specs.Desks.{is_submission}
use Rattle.job_commands.specs.Agrees.{AreDrawn, IsDrawn}
use Rattle.job_commands.specs.Asks.{told}
use Rattle.job_commands.specs.Rows.{AreCarried, CommandsValue, carried, is_of, is_submit, job_at, mark_at}
use Rattle.job_commands.specs.declared.row.Row.{Row}
use Rattle.job_commands.specs.declared.row.Stage.TheVariants as stage
use Rattle.job_commands.proofs.Logs.{differs, same_self}
use Rattle.job_commands.proofs.Marks.{drawn_same}

-- ---- carrying out

pub carried_at : (by : By) (number : ℕ) (row : Row) → is_of by row ≡ true → carried by number row ≡ record row { stage = stage.Landed number }
carried_at by number row e = cond-true (is_of by row) _ _ e

pub carried_past : (by : By) (number : ℕ) (row : Row) → is_of by row ≡ false → carried by number row ≡ row
carried_past by number row e = cond-false (is_of by row) _ _ e

pub from_carried : (by : By) (number : ℕ) (old new : List Row) → AreCarried by number old new → (x : Row) → Contains new x → (y : Row) × Contains old y × (x ≡ carried by number y)
from_carried by number old new h x c =
    let within : c.0 < length old = subst (λ n. c.0 < n) h.same_len c.1 in
    (get_or old c.0 x, Contains-get_or old c.0 x within, sym c.2 ∙ h.each c.0 x within)

pub to_carried : (by : By) (number : ℕ) (old new : List Row) → AreCarried by number old new → (y : Row) → Contains old y → Contains new (carried by number y)
to_carried by number old new h y c =
    let z = carried by number y in
    let within : c.0 < length new = subst (λ n. c.0 < n) (sym h.same_len) c.1 in
    (c.0, within, get_or_default new c.0 z y within ∙ h.each c.0 y c.1 ∙ ap (carried by number) c.2)

pub carried_by : (by : By) (number : ℕ) (row : Row) → (carried by number row).by ≡ row.by
carried_by by number row = at (is_of by row)
  where
    at : (b : Bool) → (cond b (record row { stage = stage.Landed number }) row).by ≡ row.by
    at true = refl
    at false = refl

-- a submission that waits still isn't one that was carried out
pub waits_past : (by : By) (number : ℕ) (row : Row) → is_submit (carried by number row) ≡ true → (is_of by row ≡ false) × (carried by number row ≡ row)
waits_past by number row e = at (is_of by row) refl
  where
    at : (b : Bool) → is_of by row ≡ b → (is_of by row ≡ false) × (carried by number row ≡ row)
    at true t = absurd (true≢false (sym e ∙ ap is_submit (carried_at by number row t)))
    at false t = (t, carried_past by number row t)

-- ---- rows of other commands

pub of_it : (by : By) (row : Row) → is_of by row ≡ true → row.by ≡ by
of_it by row e = sym (command_is by row.by e)

pub is_its : (by : By) (row : Row) → row.by ≡ by → is_of by row ≡ true
is_its by row e = subst (λ b. same_command b row.by ≡ true) e (same_self row.by)

pub of_other : (by : By) (row : Row) → is_of by row ≡ false → row.by ≢ by
of_other by row e same = true≢false (sym (is_its by row same) ∙ e)

pub from_forgotten : (by : By) (rows : List Row) (row : Row) → Contains (filter (λ r. not (is_of by r)) rows) row → Contains rows row × (row.by ≢ by)
from_forgotten by rows row c =
    let both = among_filter (λ r. not (is_of by r)) rows row (among_from _ row c) in
    (contains_from rows row both.0, of_other by row (not-true (is_of by row) both.1))

pub to_forgotten : (by : By) (rows : List Row) (row : Row) → Contains rows row → row.by ≢ by → Contains (filter (λ r. not (is_of by r)) rows) row
to_forgotten by rows row c ne =
    contains_from _ row (among_kept (λ r. not (is_of by r)) rows row (among_from rows row c) (ap not (differs by row.by (λ e. ne (sym e)))))

-- ---- look-ups

pub found : (by : By) (rows : List Row) (row : Row) → find (is_of by) rows ≡ Some row → Contains rows row × (row.by ≡ by)
found by rows row e = let f = at rows e in (contains_from rows row f.0, of_it by row f.1)
  where
    at : (rs : List Row) → find (is_of by) rs ≡ Some row → Among row rs × (is_of by row ≡ true)
    at [] e = cc
    at (r ∷ rs) e = pick (is_of by r) refl (at rs) e
      where
        pick : (b : Bool) → is_of by r ≡ b → (find (is_of by) rs ≡ Some row → Among row rs × (is_of by row ≡ true)) → cond b (Some r) (find (is_of by) rs) ≡ Some row → Among row (r ∷ rs) × (is_of by row ≡ true)
        pick true t more e = let same : r ≡ row = cc in (inl same, ap (is_of by) (sym same) ∙ t)
        pick false t more e = let m = more e in (inr m.0, m.1)

pub not_found : (by : By) (rows : List Row) → find (is_of by) rows ≡ None → (row : Row) → Contains rows row → row.by ≢ by
not_found by rows e row c = of_other by row (at rows e (among_from rows row c))
  where
    at : (rs : List Row) → find (is_of by) rs ≡ None → Among row rs → is_of by row ≡ false
    at [] e i = absurd i
    at (r ∷ rs) e i = pick (is_of by r) refl (at rs) e i
      where
        pick : (b : Bool) → is_of by r ≡ b → (find (is_of by) rs ≡ None → Among row rs → is_of by row ≡ false) → cond b (Some r) (find (is_of by) rs) ≡ None → (r ≡ row) ⊎ Among row rs → is_of by row ≡ false
        pick true t more e i = cc
        pick false t more e (inl same) = ap (is_of by) (sym same) ∙ t
        pick false t more e (inr j) = more e j

-- ---- sequence numbers

-- the submissions that wait are among those before
abbrev pub WaitAmong : CommandsValue → CommandsValue → Type 0
WaitAmong old new = (row : Row) → Contains new.rows row → is_submit row ≡ true → Contains old.rows row

pub drawn_still : (old new : CommandsValue) → WaitAmong old new → new.issued ≡ old.issued → new.marks ≡ old.marks → (birth id : ℕ) → IsDrawn old birth id → IsDrawn new birth id
drawn_still old new fewer same marks birth id d = record {
  rank = d.rank;
  second = d.second;
  sequence = d.sequence;
  made = d.made;
  drawn = drawn_same old new same marks birth d.rank d.second d.sequence d.drawn;
  other = λ row c w. d.other row (fewer row c w) w;
}

pub drawn_fewer : (old new : CommandsValue) → WaitAmong old new → new.issued ≡ old.issued → new.marks ≡ old.marks → (birth : ℕ) → ((label : List ℕ) (id : ℕ) → job_at label new.labels ≡ Some id → IsDrawn new birth id) → AreDrawn old birth → AreDrawn new birth
drawn_fewer old new fewer same marks birth used h = record {
  rows = λ row c w. drawn_same old new same marks birth row.rank row.issued row.sequence (h.rows row (fewer row c w) w);
  apart = λ a b ca cb wa wb. h.apart a b (fewer a ca wa) (fewer b cb wb) wa wb;
  used = used;
  few = λ rank. subst (λ l. slice_index l rank ≤ 1024) (sym same) (h.few rank);
  counts = λ rank. subst (λ l. (mark_at new.marks rank).count ≤ slice_index l rank) (sym same) (subst (λ l. (mark_at l rank).count ≤ slice_index old.issued rank) (sym marks) (h.counts rank));
}

-- ---- what a look-up of a row returns

module _ (by : By) (rows : List Row) where
  pub row_some : (r : Option (Bor Row)) → option_copied r ≡ find (is_of by) rows → IfSome r (λ row. Contains rows row.now × (row.now.by ≡ by))
  row_some None e = tt
  row_some (Some row) e = found by rows row.now (sym e)

  pub row_none : (r : Option (Bor Row)) → option_copied r ≡ find (is_of by) rows → IfNone r ((row : Row) → Contains rows row → row.by ≢ by)
  row_none None e = not_found by rows (sym e)
  row_none (Some row) e = tt

  pub row_has : (P : Row → Type 0) → ((row : Row) → Contains rows row → P row) → (r : Option (Bor Row)) → option_copied r ≡ find (is_of by) rows → IfSome r (λ row. P row.now)
  row_has P all None e = tt
  row_has P all (Some row) e = all row.now (found by rows row.now (sym e)).0

-- ---- the count of submissions

-- the numbers of submissions after one more at a broker, or none
abbrev pub IsCounted : Row → List ℕ → List ℕ → Type 0
IsCounted row old new = (length new ≡ length old) × ((rank : ℕ) → slice_index new rank ≡ slice_index old rank + cond ((row.rank == rank) && is_submission (Some (told row.ask))) 1 0)

set_at : (xs : List ℕ) (i x k : ℕ) → i < length xs → slice_index (slice_set xs i x) k ≡ cond (i == k) x (slice_index xs k)
set_at xs i x k w = elim (cases_eq i k) [
  | inl same ↦ subst (λ j. slice_index (slice_set xs i x) j ≡ cond (i == j) x (slice_index xs j)) same (get_or-set_same xs i x 0 w ∙ sym (cond-true (i == i) _ _ (eq-eqb i i refl)))
  | inr other ↦ get_or-set_other xs i k x 0 (λ e. other (sym e)) ∙ sym (cond-false (i == k) _ _ (ne_eqb i k other))
]

pub counted_more : (row : Row) (old : List ℕ) → row.rank < length old → is_submission (Some (told row.ask)) ≡ true → IsCounted row old (slice_set old row.rank (slice_index old row.rank + 1))
counted_more row old w t = (length-set old row.rank _, λ rank. set_at old row.rank (slice_index old row.rank + 1) rank w ∙ at rank (row.rank == rank) refl (is_submission (Some (told row.ask))) t)
  where
    at : (rank : ℕ) (b : Bool) → (row.rank == rank) ≡ b → (c : Bool) → c ≡ true → cond b (slice_index old row.rank + 1) (slice_index old rank) ≡ slice_index old rank + cond (b && c) 1 0
    at rank true e true u = let same : slice_index old row.rank ≡ slice_index old rank = ap (slice_index old) (eqb-true row.rank rank e) in omega arith
    at rank false e true u = omega arith
    at rank b e false u = absurd (true≢false (sym u))

pub counted_same : (row : Row) (old : List ℕ) → is_submission (Some (told row.ask)) ≡ false → IsCounted row old old
counted_same row old t = (refl, λ rank. at rank (row.rank == rank) (is_submission (Some (told row.ask))) t)
  where
    at : (rank : ℕ) (b c : Bool) → c ≡ false → slice_index old rank ≡ slice_index old rank + cond (b && c) 1 0
    at rank true false u = omega arith
    at rank false false u = omega arith
    at rank b true u = absurd (true≢false u)

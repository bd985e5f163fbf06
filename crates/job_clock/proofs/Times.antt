-- How far time can go from a birth, as commands come and go.
use Rattle.std.proofs.Common.{◌≡◌, ℕ, ◌+◌, ◌-◌, ◌<◌, ◌≤◌, ◌⊎◌, inl, inr, List, [], ◌∷◌, ◌++◌, length, get_or, Bool, true, false, cond, true≢false, Some, None, Contains, sym, ap, ◌∙◌, subst, arith}
use Rattle.std.specs.Prelude.{All, filter, max}
use Rattle.std.proofs.lemmas.List.Elements.{Contains-get_or}
use Rattle.job_rules.proofs.Among.{Among, all_at, all_from, among_append, among_filter, among_from, among_left, contains_from}
use Rattle.kvs_txn.specs.declared.txn.By.{By}
use Rattle.instance_rules.specs.Log.{Advance, Instance, Issued, Log, Moment, now_of}
use Rattle.job_commands.specs.Agrees.{AgreesCommands}
use Rattle.job_commands.specs.Rows.{AreCarried, CommandsValue, carried, is_of}
use Rattle.job_commands.specs.declared.ask.JobAsk.TheVariants as ask
use Rattle.job_commands.specs.declared.row.Row.{Row}
use Rattle.job_commands.specs.declared.row.Stage.TheVariants as stage
use Rattle.job_clock.proofs.Targets.{row_of_target, target_of_row, target_open, targets_go_on, waits_for}
use Rattle.job_clock.specs.Targets.{AreInTime, IsNewTarget, IsNextTick, target_in, targets_of}

-- ---- by the targets alone

pub in_time_with : (v new : CommandsValue) (birth now span more : ℕ) → ((target : ℕ) → Contains (targets_of new) target → Contains (targets_of v) target ⊎ (target ≤ now + more))
    → AreInTime v birth now span → AreInTime new birth now (span + more)
in_time_with v new birth now span more from h = record {
  present = omega (arith, h.present);
  targets = all_from (λ target. target ≤ birth + (span + more)) (targets_of new) (λ target i. elim (from target (contains_from (targets_of new) target i)) [
    | inl old ↦ let low : target ≤ birth + span = all_at (λ t. t ≤ birth + span) (targets_of v) target h.targets (among_from (targets_of v) target old) in omega (arith, low)
    | inr new_one ↦ omega (arith, new_one, h.present)
  ]);
}

pub in_time_as : (v new : CommandsValue) (birth now span : ℕ) → ((target : ℕ) → Contains (targets_of new) target → Contains (targets_of v) target) → AreInTime v birth now span → AreInTime new birth now span
in_time_as v new birth now span from h = record {
  present = h.present;
  targets = all_from (λ target. target ≤ birth + span) (targets_of new) (λ target i.
      all_at (λ t. t ≤ birth + span) (targets_of v) target h.targets (among_from (targets_of v) target (from target (contains_from (targets_of new) target i))));
}

pub in_time_at : (v : CommandsValue) (ends : List ℕ) (birth now second span : ℕ) → IsNextTick (targets_of v) ends now second → AreInTime v birth now span → AreInTime v birth second span
in_time_at v ends birth now second span next h =
    let known = among_from (targets_of v) next.target next.wanted in
    let low : second ≤ next.target = next.least next.target (contains_from (targets_of v ++ ends) next.target (among_left (targets_of v) ends next.target known)) next.unreached in
    let top : next.target ≤ birth + span = all_at (λ t. t ≤ birth + span) (targets_of v) next.target h.targets known in
    record { present = omega (arith, low, top); targets = h.targets }

pub in_time_later : (v : CommandsValue) (birth now second span : ℕ) → now ≤ second → AreInTime v birth now span → AreInTime v birth second (max span (second - birth))
in_time_later v birth now second span on h = record {
  present = omega arith;
  targets = all_from (λ target. target ≤ birth + max span (second - birth)) (targets_of v) (λ target i.
      (let low : target ≤ birth + span = all_at (λ t. t ≤ birth + span) (targets_of v) target h.targets i in omega (arith, low)));
}

pub in_time_below : (v : CommandsValue) (birth now span bound : ℕ) → AreInTime v birth now span → birth + span < bound → All (λ target. target < bound) (targets_of v)
in_time_below v birth now span bound h below = all_from (λ target. target < bound) (targets_of v) (λ target i.
    (let low : target ≤ birth + span = all_at (λ t. t ≤ birth + span) (targets_of v) target h.targets i in omega (arith, low, below)))

-- ---- by the rows

row_cases : (v new : CommandsValue) (row : Row) (target : ℕ) → new.rows ≡ v.rows ++ row ∷ [] → Contains (targets_of new) target → Contains (targets_of v) target ⊎ (target_in row ≡ Some target)
row_cases v new row target rows c =
    let r = row_of_target new target c in
    elim (among_append v.rows (row ∷ []) r.0 (subst (Among r.0) rows r.1)) [
      | inl old ↦ inl (target_of_row v r.0 target old r.2)
      | inr (inl same) ↦ inr (ap target_in same ∙ r.2)
      | inr (inr none) ↦ absurd none
    ]

same_seconds : (a b : ℕ) → ask.Advance a ≡ ask.Advance b → a ≡ b
same_seconds a b e = cc

pub advance_in_time : (v new : CommandsValue) (row : Row) (birth now span seconds : ℕ) → new.rows ≡ v.rows ++ row ∷ [] → row.ask ≡ ask.Advance seconds → row.issued ≡ now
    → AreInTime v birth now span → AreInTime new birth now (span + seconds)
advance_in_time v new row birth now span seconds rows asks issued h = in_time_with v new birth now span seconds (λ target c. elim (row_cases v new row target rows c) [
  | inl old ↦ inl old
  | inr e ↦
      let w = waits_for row target e in
      let same = same_seconds w.seconds seconds (sym w.asks ∙ asks) in
      inr (omega (arith, w.is, same, issued))
]) h

pub other_in_time : (v new : CommandsValue) (row : Row) (birth now span : ℕ) → new.rows ≡ v.rows ++ row ∷ [] → target_in row ≡ None → AreInTime v birth now span → AreInTime new birth now span
other_in_time v new row birth now span rows no_target h = in_time_as v new birth now span (λ target c. elim (row_cases v new row target rows c) [
  | inl old ↦ old
  | inr e ↦ absurd (nothing target (sym no_target ∙ e))
]) h
  where
    nothing : (n : ℕ) → None ≡ Some n → ⊥
    nothing n e = cc

pub fewer_in_time : (v new : CommandsValue) (kept : Row → Bool) (birth now span : ℕ) → new.rows ≡ filter kept v.rows → AreInTime v birth now span → AreInTime new birth now span
fewer_in_time v new kept birth now span rows h = in_time_as v new birth now span (λ target c.
    let r = row_of_target new target c in
    target_of_row v r.0 target (among_filter kept v.rows r.0 (subst (Among r.0) rows r.1)).0 r.2) h

carried_target : (by : By) (number : ℕ) (row : Row) (target : ℕ) → target_in (carried by number row) ≡ Some target → target_in row ≡ Some target
carried_target by number row target e = at (is_of by row) e
  where
    at : (b : Bool) → target_in (cond b (record row { stage = stage.Landed number }) row) ≡ Some target → target_in row ≡ Some target
    at true e = cc
    at false e = e

carried_row : (by : By) (number : ℕ) (old new : List Row) (row : Row) (target : ℕ) → AreCarried by number old new → Among row new → target_in row ≡ Some target → (one : Row) × Among one old × (target_in one ≡ Some target)
carried_row by number old new row target h i e =
    let c = contains_from new row i in
    let within : c.0 < length old = subst (λ n. c.0 < n) h.same_len c.1 in
    let was = get_or old c.0 row in
    let is : row ≡ carried by number was = sym c.2 ∙ h.each c.0 row within in
    (was, among_from old was (Contains-get_or old c.0 row within), carried_target by number was target (ap target_in (sym is) ∙ e))

pub carried_in_time : (v new : CommandsValue) (by : By) (number birth now span : ℕ) → AreCarried by number v.rows new.rows → AreInTime v birth now span → AreInTime new birth now span
carried_in_time v new by number birth now span are h = in_time_as v new birth now span (λ target c.
    let r = row_of_target new target c in
    let o = carried_row by number v.rows new.rows r.0 target are r.1 r.2 in
    target_of_row v o.0 target o.1 o.2) h

-- ---- by the log

pub begins_in_time : (v : CommandsValue) (inst : Instance) → AgreesCommands v inst [] → AreInTime v inst.birth inst.birth 0
begins_in_time v inst h = record {
  present = omega arith;
  targets = all_from (λ target. target ≤ inst.birth + 0) (targets_of v) (λ target i.
      (let o = target_open v inst [] h target (contains_from (targets_of v) target i) in absurd (true≢false (sym o.waits.issued))));
}

module _ (v new : CommandsValue) (inst : Instance) (log : Log) (m : Moment) (h : AgreesCommands v inst log) (k : AgreesCommands new inst (log ++ m ∷ [])) where
  same_issue : (a b : By) → Issued a ≡ Issued b → a ≡ b
  same_issue a b e = cc

  same_advance : (a b : ℕ) → Some (Advance a) ≡ Some (Advance b) → a ≡ b
  same_advance a b e = cc

  pub issued_in_time : (by : By) (birth span seconds : ℕ) → m ≡ Issued by → inst.asks by ≡ Some (Advance seconds) → AreInTime v birth (now_of inst log) span → AreInTime new birth (now_of inst log) (span + seconds)
  issued_in_time by birth span seconds is asks t = in_time_with v new birth (now_of inst log) span seconds (λ target c. elim (targets_go_on v new inst log m h k target c) [
    | inl old ↦ inl old
    | inr n ↦
        let one = same_issue n.by by (sym n.issues ∙ is) in
        let same = same_advance n.seconds seconds (sym n.asks ∙ ap inst.asks one ∙ asks) in
        inr (omega (arith, n.is, same))
  ]) t

  pub others_in_time : (birth now span : ℕ) → ((target : ℕ) → IsNewTarget inst log m target → ⊥) → AreInTime v birth now span → AreInTime new birth now span
  others_in_time birth now span none t = in_time_as v new birth now span (λ target c. elim (targets_go_on v new inst log m h k target c) [
    | inl old ↦ old
    | inr n ↦ absurd (none target n)
  ]) t

-- The oldest message on a link goes on.
use Rattle.std.proofs.Common.{◌≡◌, ℕ, ◌<◌, List, length, Bool, true, false, cond, Some, sym, ap, ◌∙◌, subst, arith, get_or, set}
use Rattle.std.specs.List.{count_by, position}
use Rattle.std.proofs.lemmas.List.{get_or_default}
use Rattle.std.proofs.lemmas.List.Elements.{All-set}
use Rattle.kvs_txn.specs.declared.txn.By.{By}
use Rattle.kvs_rules.specs.Log.{Log}
use Rattle.kvs_rules.specs.Namespaces.{Setting, Request}
use Rattle.kvs_requests.specs.declared.rows.Row.{Row}
use Rattle.kvs_requests.specs.declared.rows.Stage.{Stage}
use Rattle.kvs_requests.specs.Stages.{is_on, is_message, joined_in}
use Rattle.kvs_space.specs.Space.{SpaceValue}
use Rattle.kvs_requests.specs.Refused.{GoesOn, IsCarried}
use Rattle.kvs_requests.specs.Rows.{AtPlace, IsPlaced, ArePlaced, with_stage}
use Rattle.kvs_requests.specs.Agreement.{Entrants, RowAgrees, StageAgrees, RowsAgree}
use Rattle.kvs_space.proofs.Finding.{found-within, found-passes, set-count}
use Rattle.kvs_requests.proofs.Tables.{rows-moved}

-- the oldest message on a link goes on to this stage
module _ (from to : ℕ) (rows : List Row) (i : ℕ) (row : Row) (read : row ≡ get_or rows i row) (found : Some i ≡ position (is_on from to) rows) (st new : Stage) (was : st ≡ row.stage) where
  carry-within : i < length rows
  carry-within = found-within (is_on from to) rows i found

  carry-here : is_message from to row.stage ≡ true
  carry-here = ap (is_on from to) read ∙ found-passes (is_on from to) rows i row found

  carry-there : is_message from to st ≡ true
  carry-there = ap (is_message from to) was ∙ carry-here

  placed-there : (fanout size : ℕ) (spaces : List SpaceValue) → ArePlaced fanout size spaces rows → IsPlaced fanout size spaces row
  placed-there fanout size spaces all = subst (IsPlaced fanout size spaces) (sym read) (all i row carry-within)

  pub carry-placed : (fanout : ℕ) → ((size from : ℕ) (spaces : List SpaceValue) → row.broker < size → is_message from to st ≡ true → AtPlace fanout size spaces st → AtPlace fanout size spaces new) → (size : ℕ) (spaces : List SpaceValue) → ArePlaced fanout size spaces rows → ArePlaced fanout size spaces (set rows i (with_stage new row))
  carry-placed fanout on size spaces all =
      let p = placed-there fanout size spaces all in
      All-set (IsPlaced fanout size spaces) rows i (with_stage new row) (record { home = p.home; place = on size from spaces p.home carry-there (subst (AtPlace fanout size spaces) (sym was) p.place) }) all

  pub carry-agrees : ((entered : Entrants) (set₀ : Setting) (log : Log) (spaces : List SpaceValue) (by : By) (request : Request) → StageAgrees entered set₀ log spaces by request st → StageAgrees entered set₀ log spaces by request new) → ((k : ℕ) → joined_in k new ≡ joined_in k st) → (entered : Entrants) (set₀ : Setting) (log : Log) (spaces : List SpaceValue) → RowsAgree entered set₀ log spaces rows → RowsAgree entered set₀ log spaces (set rows i (with_stage new row))
  carry-agrees on joined entered set₀ log spaces all =
      let r : RowAgrees entered set₀ log spaces row = subst (RowAgrees entered set₀ log spaces) (sym read) (all.rows i row carry-within) in
      rows-moved all i carry-within (with_stage new row) (λ d. ap (λ x. x.by) read ∙ ap (λ x. x.by) (get_or_default rows i row d carry-within))
      (record { asked = r.asked; unanswered = r.unanswered; request = r.request; made = r.made; keys = r.keys; home = r.home; inside = r.inside; needed = r.needed; staged = on entered set₀ log spaces row.by r.request (subst (StageAgrees entered set₀ log spaces row.by r.request) (sym was) r.staged); tied = λ k d l. joined k ∙ ap (joined_in k) was ∙ r.tied k d l })

  pub carry-is : (fanout : ℕ) → GoesOn fanout to row.broker st new → IsCarried fanout from to rows (set rows i (with_stage new row))
  carry-is fanout goes = record {
    place = i;
    oldest = sym found;
    stage = new;
    others = λ d. ap (λ r. set rows i (with_stage new r)) (same d);
    goes = λ d. subst (λ r. GoesOn fanout to r.broker r.stage new) (same d) (subst (λ s. GoesOn fanout to row.broker s new) was goes);
  } where
    same : (d : Row) → row ≡ get_or rows i d
    same d = read ∙ get_or_default rows i row d carry-within

  pub carry-left : (fanout : ℕ) → ((size from : ℕ) (spaces : List SpaceValue) → is_message from to st ≡ true → AtPlace fanout size spaces st → is_message from to new ≡ false) → (size : ℕ) (spaces : List SpaceValue) → ArePlaced fanout size spaces rows → count_by (is_on from to) (set rows i (with_stage new row)) < count_by (is_on from to) rows
  carry-left fanout left size spaces all =
      let p = placed-there fanout size spaces all in
      let gone = left size from spaces carry-there (subst (AtPlace fanout size spaces) (sym was) p.place) in
      let one : Bool → ℕ = λ b. cond b 1 0 in
      let n = set-count (is_on from to) rows i (with_stage new row) row carry-within in
      let before : one (is_on from to (get_or rows i row)) ≡ 1 = ap one (found-passes (is_on from to) rows i row found) in
      let after₀ : one (is_message from to new) ≡ 0 = ap one gone in
      omega arith

-- Whose answer waits to be taken has asked, and waits.
use Rattle.std.proofs.Common.{◌≡◌, ℕ, zero, suc, ◌<◌, List, [], ◌∷◌, length, Bool, true, false, ◌||◌, ◌&&◌, Option, Some, None, refl, sym, ap, subst, arith, get_or}
use Rattle.std.specs.Option.{option_map_or}
use Rattle.kvs_txn.specs.declared.txn.By.{By}
use Rattle.kvs_rules.specs.Log.{IsOpen, Log, same_command}
use Rattle.kvs_rules.specs.Namespaces.{Request, Setting}
use Rattle.kvs_rules.proofs.Asking.{command_is}
use Rattle.kvs_requests.specs.Agreement.{RowAgrees as KeysRowAgrees}
use Rattle.kvs_requests.specs.Rows.{asks_contents, is_about_contents}
use Rattle.kvs_requests.specs.Stages.{is_held as keys_is_held}
use Rattle.kvs_space.proofs.Finding.{and-left}
use Rattle.kvs_keys.specs.Steps.{can_take as keys_can_take}
use Rattle.kvs_content.proofs.Linking.{some-one}
use Rattle.content_service.specs.Agrees.{RowAgrees}
use Rattle.content_service.specs.Rows.{is_held}
use Rattle.content_service.specs.Steps.{can_take as contents_can_take}
use Rattle.kvs_core.specs.Agrees.{Agrees}
use Rattle.kvs_core.specs.Steps.{can_take}
use Rattle.kvs_core.specs.Value.{CoreValue}

module _ (v : CoreValue) (set : Setting) (log : Log) (a : Agrees v set log) where
  -- whose answer waits to be taken is open
  pub taken_waits : (by : By) → can_take v by ≡ true → IsOpen by log
  taken_waits by can = on (keys_can_take v.keys by) refl can
    where
      on : (b : Bool) → keys_can_take v.keys by ≡ b → (b || contents_can_take v.contents by) ≡ true → IsOpen by log
      on true e g =
          let (row, r, passes) = some-one (λ row. same_command by row.by && keys_is_held row) (KeysRowAgrees a.keys.entered set log v.keys.spaces) v.keys.rows a.keys.rows e in
          let is = command_is by row.by (and-left (same_command by row.by) _ passes) in
          subst (λ b. IsOpen b log) (sym is) (record { asked = r.asked; unanswered = r.unanswered })
      on false e g =
          let (row, r, passes) = some-one (is_held by) (RowAgrees v.contents.content set log) v.contents.rows a.contents.rows g in
          let is = command_is by row.by (and-left (same_command by row.by) _ passes) in
          subst (λ b. IsOpen b log) (sym is) (record { asked = r.asked; unanswered = r.unanswered })

  -- an open command asks something
  pub open_asks : (by : By) → IsOpen by log → (request : Request) × (set.asks by ≡ Some request)
  open_asks by waits = on (set.asks by) refl
    where
      got : {A : Type 0} (xs : List A) (k : ℕ) → k < length xs → (x : A) × ((d : A) → get_or xs k d ≡ x)
      got [] k low = absurd (omega arith)
      got (x ∷ xs) zero low = (x, λ d. refl)
      got (x ∷ xs) (suc k) low = got xs k (omega arith)

      on : (o : Option Request) → set.asks by ≡ o → (request : Request) × (set.asks by ≡ Some request)
      on (Some request) e = (request, e)
      on None e =
          let plain : asks_contents set by ≡ false = ap (λ o. option_map_or (λ r. is_about_contents r.ask) o false) e in
          let (k, within, same) = a.keys.open_rows by plain waits in
          let (row, is) = got v.keys.rows k within in
          let r = a.keys.rows k row within in
          (r.request, subst (λ b. set.asks b ≡ Some r.request) (same row) r.made)

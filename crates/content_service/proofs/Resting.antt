-- Where no step can be made and no answer waits, nothing is open.
use Rattle.std.proofs.Common.{◌≡◌, ℕ, ◌<◌, ◌==◌, List, [], ◌∷◌, length, Bool, true, false, ◌&&◌, refl, sym, ap, ◌∙◌, subst, arith, true≢false, get_or}
use Rattle.std.specs.Prelude.{nat_lt}
use Rattle.std.specs.List.{list_any}
use Rattle.std.proofs.lemmas.Bool.Decides.{nat_tests}
use Rattle.std.proofs.lemmas.List.{get_or_default}
use Rattle.kvs_txn.specs.declared.txn.By.{By}
use Rattle.kvs_rules.specs.declared.events.KvsStep.{KvsStep}
use Rattle.kvs_rules.specs.declared.events.KvsStep.TheVariants as kvs
use Rattle.kvs_rules.specs.Log.{IsOpen, Log}
use Rattle.kvs_rules.specs.Namespaces.{Setting}
use Rattle.kvs_content.specs.Messages.{loads_of}
use Rattle.kvs_content.specs.Steps.{AreLinksEmpty}
use Rattle.kvs_content.proofs.Lists.{equal-itself, same-number}
use Rattle.kvs_content.proofs.Resting.{all-clean, no-wants}
use Rattle.content_service.specs.declared.rows.Row.{Row}
use Rattle.content_service.specs.declared.rows.Stage.{Stage}
use Rattle.content_service.specs.declared.rows.Stage.TheVariants as stage
use Rattle.content_service.specs.Agrees.{AgreesService}
use Rattle.content_service.specs.Asks.{asks_content}
use Rattle.content_service.specs.Rows.{is_due, is_held, is_held_stage, is_loading, is_loading_stage, loading, may_serve}
use Rattle.content_service.specs.Sound.{IsSound}
use Rattle.content_service.specs.Steps.{IsStill, are_none, can_step, is_flushed}
use Rattle.content_service.specs.Value.{ContentServiceValue}
use Rattle.content_service.proofs.Lists.{none-any, shows}
use Rattle.content_service.proofs.Stepping.{same-self}

module _ (v : ContentServiceValue) (sound : IsSound v) (still : IsStill v) where
  links : AreLinksEmpty v.content
  links from to = still.steps (kvs.Deliver from to)

  flushed : (broker : ℕ) → broker < v.size → is_flushed v.content broker ≡ true
  flushed broker l = ap are_none (all-clean v.content sound.content links broker (subst (λ n. broker < n) (sym sound.size) l))

  no-loads : (by : By) → loading by v.rows ≡ 0
  no-loads by = sym (sound.waits by) ∙ ap (loads_of by) (no-wants v.content sound.content links)

  module _ (k : ℕ) (d : Row) (within : k < length v.rows) where
    abbrev row : Row
    row = get_or v.rows k d

    same-there : (p : Row → Bool) → p row ≡ true → (e : Row) → p (get_or v.rows k e) ≡ true
    same-there p h e = ap p (get_or_default v.rows k e d within) ∙ h

    -- a request that is due could be served
    undue : is_due (is_flushed v.content row.broker) row.stage ≡ true → ⊥
    undue due =
        let home = sound.home k d within in
        let there : nat_lt row.broker v.size ≡ true = grind (arith, nat_tests, home) in
        let here : may_serve row.broker (is_flushed v.content row.broker) row ≡ true = ap (λ b. b && is_due (is_flushed v.content row.broker) row.stage) (equal-itself row.broker) ∙ due in
        let some = shows (may_serve row.broker (is_flushed v.content row.broker)) v.rows k within (same-there (may_serve row.broker (is_flushed v.content row.broker)) here) in
        true≢false (sym (ap (λ b. b && list_any (may_serve row.broker (is_flushed v.content row.broker)) v.rows) there ∙ some) ∙ still.steps (kvs.Serve row.broker))

    unheld : is_held_stage row.stage ≡ true → ⊥
    unheld held =
        let here : is_held row.by row ≡ true = ap (λ b. b && is_held_stage row.stage) (same-self row.by) ∙ held in
        true≢false (sym (shows (is_held row.by) v.rows k within (same-there (is_held row.by) here)) ∙ still.answers row.by)

    unloading : is_loading_stage row.stage ≡ true → ⊥
    unloading loads =
        let here : is_loading row.by row ≡ true = ap (λ b. b && is_loading_stage row.stage) (same-self row.by) ∙ loads in
        true≢false (sym (shows (is_loading row.by) v.rows k within (same-there (is_loading row.by) here)) ∙ none-any (is_loading row.by) v.rows (no-loads row.by))

    no-row : (s : Stage) → row.stage ≡ s → ⊥
    no-row (stage.Entered asks) e = undue (ap (is_due (is_flushed v.content row.broker)) e)
    no-row stage.Loading e = unloading (ap is_loading_stage e)
    no-row stage.Flushing e = undue (ap (is_due (is_flushed v.content row.broker)) e ∙ flushed row.broker (sound.home k d within))
    no-row (stage.Held given) e = unheld (ap is_held_stage e)

  pub none-open : (set : Setting) (log : Log) → AgreesService v set log → (by : By) → asks_content set by ≡ true → IsOpen by log → ⊥
  none-open set log a by asks o =
      let at = a.open_rows by asks o in
      no-row at.0 (any by) at.1 (get_or v.rows at.0 (any by)).stage refl
    where
      any : By → Row
      any by = record { by = by; broker = 0; stage = stage.Loading }

pub no-rows : (rows : List Row) → (length rows == 0) ≡ true → rows ≡ []
no-rows [] h = refl
no-rows (r ∷ rows) h = let none = same-number (length (r ∷ rows)) 0 h in absurd (omega (arith, none))

-- where nothing is asked and no message is on any link, no step can be made
pub idle-so : (v : ContentServiceValue) → v.rows ≡ [] → AreLinksEmpty v.content → (step : KvsStep) → can_step v step ≡ false
idle-so v none links (kvs.Deliver from to) = links from to
idle-so v none links (kvs.Serve broker) = ap (λ rows. nat_lt broker v.size && list_any (may_serve broker (is_flushed v.content broker)) rows) none ∙ and-false (nat_lt broker v.size)
  where
    and-false : (b : Bool) → (b && false) ≡ false
    and-false true = refl
    and-false false = refl
idle-so v none links (kvs.Land number) = refl
idle-so v none links (kvs.Lose from to) = refl
idle-so v none links (kvs.Repeat from to) = refl
idle-so v none links (kvs.Swap from to) = refl
idle-so v none links (kvs.Resync broker) = refl

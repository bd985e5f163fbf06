-- The label of a submission is found with its row.
use Rattle.std.proofs.Common.{◌≡◌, ℕ, List, Option, Some, None, Result, Ok, Err, Contains, refl, sym, ap, ◌∙◌, subst}
use Rattle.std.specs.Prelude.{IfOk, IfSome, find, option_and_then}
use Rattle.kvs_txn.specs.declared.txn.By.{By}
use Rattle.instance_rules.specs.Log.{Instance, Log, Named, Submit}
use Rattle.job_commands.specs.Agrees.{AgreesCommands}
use Rattle.job_commands.specs.Asks.{submitted_label, told}
use Rattle.job_commands.specs.Rows.{CommandsValue, is_of}
use Rattle.job_commands.specs.declared.ask.JobAsk.{JobAsk}
use Rattle.job_commands.specs.declared.ask.JobAsk.TheVariants as ask
use Rattle.job_commands.specs.declared.row.Row.{Row}
use Rattle.job_commands.proofs.Tables.{found, not_found}

label_told : (x : JobAsk) (label : List ℕ) (urgency : ℕ) (needs : List Named) (text : List ℕ) → told x ≡ Submit label urgency needs text → submitted_label x ≡ Some label
label_told (ask.Submit l u ns t) label urgency needs text e = let same : l ≡ label = cc in ap Some same
label_told _ label urgency needs text e = cc

module _ (v : CommandsValue) (inst : Instance) (log : Log) (h : AgreesCommands v inst log) (by : By)
    (label : List ℕ) (urgency : ℕ) (needs : List Named) (text : List ℕ) (asks : inst.asks by ≡ Some (Submit label urgency needs text)) where
  told_is : (row : Row) → Contains v.rows row → row.by ≡ by → told row.ask ≡ Submit label urgency needs text
  told_is row c e =
      let both : Some (told row.ask) ≡ Some (Submit label urgency needs text) = sym (h.rows row c).asks ∙ ap inst.asks e ∙ asks in
      cc

  pub label_is : (row : Row) → Contains v.rows row → row.by ≡ by → option_and_then (λ r. submitted_label r.ask) (find (is_of by) v.rows) ≡ Some label
  label_is row c e = at (find (is_of by) v.rows) refl
    where
      at : (o : Option Row) → find (is_of by) v.rows ≡ o → option_and_then (λ r. submitted_label r.ask) o ≡ Some label
      at None f = absurd (not_found by v.rows f row c e)
      at (Some r) f = let at_it = found by v.rows r f in label_told r.ask label urgency needs text (told_is r at_it.0 at_it.1)

pub at_some : (P : List ℕ → Type 0) (o : Option (List ℕ)) (label : List ℕ) → o ≡ Some label → IfSome o P → P label
at_some P o label e h = (let there : IfSome (Some label) P = subst (λ x. IfSome x P) e h in there)

pub of_ok : {A E : Type 0} {P Q : A → Type 0} (r : Result A E) → ((a : A) → P a → Q a) → IfOk r P → IfOk r Q
of_ok (Ok a) f h = f a h
of_ok (Err e) f h = tt

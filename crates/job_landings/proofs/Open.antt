-- The commands that due posts carry out are open.
use Rattle.std.proofs.Common.{◌≡◌, List, Some, refl, sym, ap, ◌∙◌, subst}
use Rattle.event_log.specs.Events.{line_text}
use Rattle.instance_rules.specs.Desks.{Begins}
use Rattle.instance_rules.specs.Log.{Cancel, Instance, IsPending, Log, Raise, Submit, Urge}
use Rattle.job_commands.proofs.Desks.{asked_true, submits_true}
use Rattle.job_commands.specs.Agrees.{AgreesCommands}
use Rattle.job_commands.specs.Desks.{desk_of}
use Rattle.job_commands.specs.Rows.{CommandsValue}
use Rattle.kvs_txn.specs.declared.txn.By.{By}
use Rattle.manager_rules.specs.Deeds.{Carries, Deed, command_carried}
use Rattle.manager_rules.specs.Due.{MayDo}
use Rattle.manager_rules.specs.Jobs.{StoredJob}
use Rattle.manager_rules.specs.Posts.{Does, IsDuePost, Submission, Submits, group_of, txn_of}
use Rattle.manager_rules.specs.declared.asked.Asked.TheVariants as asked
use Rattle.manager_rules.specs.declared.due.Due.{Due}
use Rattle.job_landings.specs.Commands.{IsOfSubmit, WaitsForEvent}

begins : (x : Submission) → Begins (group_of (Submits x)) x.id
unfolding txn_of
begins x = record { text = x.text; line = line_text x.event; ops = refl }

module _ (v : CommandsValue) (inst : Instance) (log : Log) (jobs : List StoredJob) (h : AgreesCommands v inst log) where
  pub submit_open : (x : Submission) → IsDuePost (desk_of v inst log jobs) (Submits x) → IsOfSubmit inst log x
  submit_open x due =
      let s = submits_true v inst log h due.from due.waits in
      record {
        label = s.label;
        urgency = due.from.urgency;
        needs = s.named;
        asks = ap inst.asks due.command ∙ s.asks ∙ ap (λ text. Some (Submit s.label due.from.urgency s.named text)) (sym due.text);
        pending = subst (λ by. IsPending by log) (sym due.command) s.pending;
        begins = begins x;
      }

  same_by : (a b : By) → Some a ≡ Some b → a ≡ b
  same_by a b e = cc

  deed_open : (j : StoredJob) (deed : Deed) (by : By) → MayDo (desk_of v inst log jobs).scene j deed → command_carried deed ≡ Some by → WaitsForEvent inst log by
  deed_open j (Carries (asked.Cancel b job)) by may e =
      let a = asked_true v inst log h (asked.Cancel b job) may.0 in
      subst (WaitsForEvent inst log) (same_by b by e) (record { ask = Cancel a.label; asks = a.asks; event = tt; pending = a.pending })
  deed_open j (Carries (asked.Raise b job kind severity note)) by may e =
      let a = asked_true v inst log h (asked.Raise b job kind severity note) may.0 in
      subst (WaitsForEvent inst log) (same_by b by e) (record { ask = Raise a.label kind severity note; asks = a.asks; event = tt; pending = a.pending })
  deed_open j (Carries (asked.Urgency b job urgency)) by may e =
      let a = asked_true v inst log h (asked.Urgency b job urgency) may.0 in
      subst (WaitsForEvent inst log) (same_by b by e) (record { ask = Urge a.label urgency; asks = a.asks; event = tt; pending = a.pending })
  deed_open j (Carries (asked.Child job living shut)) by may e = cc
  deed_open j _ by may e = cc

  pub event_open : (due : Due) (by : By) → IsDuePost (desk_of v inst log jobs) (Does due) → due.command ≡ Some by → WaitsForEvent inst log by
  event_open due by d e = deed_open d.j d.deed by d.may (sym (ap (λ x. x.command) d.is) ∙ e)

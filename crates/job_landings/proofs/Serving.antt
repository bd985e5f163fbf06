-- What happens in the service leaves the time and the open commands of the log, and so the desk.
use Rattle.std.proofs.Common.{false, ◌≡◌, ℕ, List, [], ◌∷◌, ◌++◌, map, cond, refl, sym, ap, ap₂, ◌∙◌, append_assoc, append-nil}
use Rattle.std.specs.Prelude.{filter_map, option_map, slice_index}
use Rattle.std.proofs.lemmas.List.Elements.{filter_map-append}
use Rattle.instance_rules.specs.Log.{Instance, Log, Served, Issued, Replied, Ticked, Born, Gone, Fed, now_of, seconds_from, ticked}
use Rattle.job_commands.specs.Desks.{asked_of, desk_of, needs_of, submit_at, submit_by, submits_of}
use Rattle.job_commands.specs.Rows.{CommandsValue}
use Rattle.job_commands.specs.declared.ask.JobAsk.{JobAsk}
use Rattle.job_commands.specs.declared.ask.JobAsk.TheVariants as ask
use Rattle.job_commands.specs.declared.row.Row.{Row}
use Rattle.job_commands.specs.declared.row.Stage.{Stage}
use Rattle.job_commands.specs.declared.row.Stage.TheVariants as stage
use Rattle.kvs_rules.proofs.Sequences.{latest_push}
use Rattle.kvs_rules.specs.Log as service
use Rattle.kvs_rules.specs.Log.{same_command}
use Rattle.kvs_txn.specs.declared.txn.By.{By}
use Rattle.manager_rules.specs.Jobs.{StoredJob}
use Rattle.manager_rules.specs.Posts.{Desk, Submit}

ticks_same : (log : Log) (m : service.Moment) → filter_map ticked (log ++ Served m ∷ []) ≡ filter_map ticked log
ticks_same log m = filter_map-append ticked log (Served m ∷ []) ∙ append-nil (filter_map ticked log)

seconds_same : (by : By) (now : ℕ) (log : Log) (m : service.Moment) → seconds_from by now (log ++ Served m ∷ []) ≡ seconds_from by now log
seconds_same by now [] m = refl
seconds_same by now (Issued other ∷ log) m = ap₂ (λ ticks more. cond (same_command by other) (now ∷ ticks) more) (ticks_same log m) (seconds_same by now log m)
seconds_same by now (Ticked second ∷ log) m = seconds_same by second log m
seconds_same by now (Served x ∷ log) m = seconds_same by now log m
seconds_same by now (Replied other reply number ∷ log) m = seconds_same by now log m
seconds_same by now (Born job ∷ log) m = seconds_same by now log m
seconds_same by now (Gone job shut ∷ log) m = seconds_same by now log m
seconds_same by now (Fed other number first count ∷ log) m = seconds_same by now log m

module _ (v : CommandsValue) (inst : Instance) (log : Log) (m : service.Moment) where
  abbrev later : Log
  later = log ++ Served m ∷ []

  submit_same : (row : Row) (x : JobAsk) → submit_by v inst later row x ≡ submit_by v inst log row x
  submit_same row (ask.Submit label urgency named text) =
      ap (λ seconds. option_map (λ needs. (let x : Submit = record { by = row.by; rank = row.rank; urgency = urgency; needs = needs; text = text; seconds = seconds; issued = slice_index v.issued row.rank } in x)) (needs_of v.labels named))
      (seconds_same row.by inst.start log m)
  submit_same row _ = refl

  stage_same : (row : Row) (s : Stage) → submit_at v inst later row s ≡ submit_at v inst log row s
  stage_same row stage.Waits = submit_same row row.ask
  stage_same row (stage.Landed number) = refl

  submits_same : submits_of v inst later ≡ submits_of v inst log
  submits_same = λ i. filter_map (λ row. stage_same row row.stage i) v.rows

  pub desk_same : (jobs : List StoredJob) → desk_of v inst later jobs ≡ desk_of v inst log jobs
  desk_same jobs =
      let now : now_of inst later ≡ now_of inst log = latest_push ticked inst.start log (Served m) in
      λ i. (let d : Desk = record {
        scene = record { now = now i; grant = inst.grant; jobs = jobs; asked = asked_of v; answer = inst.answer; policy = inst.policy; limits = inst.limits; old = λ id. false };
        birth = inst.birth;
        submits = submits_same i;
      } in d)

pub desk_still : (v : CommandsValue) (inst : Instance) (log : Log) (moments : List service.Moment) (jobs : List StoredJob) → desk_of v inst (log ++ map Served moments) jobs ≡ desk_of v inst log jobs
desk_still v inst log [] jobs = ap (λ l. desk_of v inst l jobs) (append-nil log)
desk_still v inst log (m ∷ moments) jobs =
    ap (λ l. desk_of v inst l jobs) (sym (append_assoc log (Served m ∷ []) (map Served moments)))
    ∙ desk_still v inst (log ++ Served m ∷ []) moments jobs
    ∙ desk_same v inst log m jobs

-- A command that shuts its instance down leaves the jobs where they are, when it is issued and when it is told so.
use Rattle.std.proofs.Common.{◌≡◌, ◌≢◌, ℕ, List, [], ◌∷◌, ◌++◌, Bool, true, false, cond, inl, inr, Option, Some, None, Contains, refl, sym, ap, ap₂, ◌∙◌, subst}
use Rattle.std.specs.Prelude.{filter, filter_map, not, option_map, slice_index}
use Rattle.std.specs.List.{cons_option}
use Rattle.job_deeds.proofs.job_rules_proofs.Among.{Among, contains_from}
use Rattle.kvs_core.specs.Agrees.{Agrees}
use Rattle.kvs_rules.proofs.Asking.{command_is}
use Rattle.kvs_rules.proofs.Sequences.{latest_push}
use Rattle.kvs_rules.specs.Answers.{IsLegalLog}
use Rattle.kvs_rules.specs.Log.{same_command}
use Rattle.job_deeds.specs.kvs_txn.declared.txn.By.{By}
use Rattle.instance_rules.specs.Log as rules
use Rattle.instance_rules.specs.Log.{Instance, IsOpen, Log, Moment, Served, Issued, Replied, Ticked, Born, Gone, Fed, Shut, Shutdown, is_issued, issues_now, now_of, seconds_from, service_of, ticked}
use Rattle.instance_rules.specs.Replies.{HasGrounds, IsLegalReply}
use Rattle.job_commands.proofs.Logs.{differs, undecided_kept}
use Rattle.job_commands.proofs.Steps.{reply_agrees, shutdown_agrees}
use Rattle.job_commands.specs.Agrees.{AgreesCommands}
use Rattle.job_commands.specs.Asks.{told}
use Rattle.job_commands.specs.Desks.{asked_of, desk_of, needs_of, submit_at, submit_by, submits_of}
use Rattle.job_commands.specs.Rows.{CommandsValue, is_of}
use Rattle.job_commands.specs.declared.ask.JobAsk.{JobAsk}
use Rattle.job_commands.specs.declared.ask.JobAsk.TheVariants as ask
use Rattle.job_commands.specs.declared.row.Row.{Row}
use Rattle.job_commands.specs.declared.row.Stage.{Stage}
use Rattle.job_commands.specs.declared.row.Stage.TheVariants as stage
use Rattle.job_deeds.specs.job_spec.declared.spec.Depend.{Depend}
use Rattle.job_submissions.specs.declared.faults.Fault.{Fault}
use Rattle.job_submissions.specs.declared.faults.Fault.TheVariants as fault
use Rattle.job_deeds.specs.manager_rules.Jobs.{StoredJob}
use Rattle.job_deeds.specs.manager_rules.Posts.{Desk, Submit}
use Rattle.job_service.specs.Agrees.{AgreesJobs}
use Rattle.job_service.specs.Due.{Owes}
use Rattle.job_service.specs.Refusals.{reply_to}
use Rattle.job_service.specs.Value.{JobServiceValue}
use Rattle.job_service.proofs.Feeding.{fed_kept}
use Rattle.job_service.proofs.Facts.{issued_service, legal_kept, replied_service, unissued_before, unissued_other, untold_kept}
use Rattle.job_service.proofs.Calls.{facts}

-- ---- it has no row, and is never refused

no_shutdown : (x : JobAsk) → told x ≡ Shutdown → ⊥
no_shutdown (ask.Submit label urgency needs text) e = cc
no_shutdown (ask.Cancel label) e = cc
no_shutdown (ask.Raise label kind severity note) e = cc
no_shutdown (ask.Urge label urgency) e = cc
no_shutdown (ask.StateOf label) e = cc
no_shutdown (ask.Info label key) e = cc
no_shutdown ask.Jobs e = cc
no_shutdown (ask.Why label) e = cc
no_shutdown (ask.ResultOf label) e = cc
no_shutdown (ask.Watch label) e = cc
no_shutdown (ask.Advance seconds) e = cc

some_is : (x y : rules.JobAsk) → ◌≡◌ {A = Option rules.JobAsk} (Some x) (Some y) → x ≡ y
some_is x y e = cc

rowless : (v : CommandsValue) (inst : Instance) (log : Log) → AgreesCommands v inst log → (by : By) → inst.asks by ≡ Some Shutdown → (row : Row) → Contains v.rows row → row.by ≢ by
rowless v inst log h by asks row c same =
    no_shutdown row.ask (some_is (told row.ask) Shutdown (sym (h.rows row c).asks ∙ ap inst.asks same ∙ asks))

grounded : (inst : Instance) (log : Log) (by : By) (f : Fault) → HasGrounds inst log by Shutdown (reply_to f) None → ⊥
grounded inst log by (fault.BadSpec n) h = absurd h.1
grounded inst log by (fault.Checked reason) h = absurd h.1
grounded inst log by fault.NoJob h = let never : None ≡ Some h.0 = h.1 in cc

unrefused : (inst : Instance) (log : Log) (by other : By) (f : Fault) → inst.asks by ≡ Some Shutdown → IsLegalReply inst log other (reply_to f) None → other ≢ by
unrefused inst log by other f asks h same =
    grounded inst log other f
    (subst (λ a. HasGrounds inst log other a (reply_to f) None) (some_is h.ask Shutdown (sym h.made ∙ ap inst.asks same ∙ asks)) h.grounds)

-- ---- the desk stays

-- the seconds at which a command has been open, after a moment that is no second and doesn't issue it
abbrev pub IsAside : By → Moment → Type 0
IsAside by (Issued other) = same_command by other ≡ false
IsAside by (Replied other reply number) = Unit {0}
IsAside by (Fed other number first count) = Unit {0}
IsAside by _ = ⊥

none_more : (log : Log) (m : Moment) (by : By) → IsAside by m → filter_map ticked (log ++ m ∷ []) ≡ filter_map ticked log
none_more [] (Issued other) by h = refl
none_more [] (Replied other reply number) by h = refl
none_more [] (Served x) by h = absurd h
none_more [] (Ticked second) by h = absurd h
none_more [] (Born job) by h = absurd h
none_more [] (Gone job shut) by h = absurd h
none_more [] (Fed other number first count) by h = refl
none_more (x ∷ log) m by h = ap (cons_option (ticked x)) (none_more log m by h)

opened_same : (by : By) (now : ℕ) (log : Log) (m : Moment) → IsAside by m → seconds_from by now (log ++ m ∷ []) ≡ seconds_from by now log
opened_same by now [] (Issued other) h = ap (λ b. cond b (now ∷ []) []) h
opened_same by now [] (Replied other reply number) h = refl
opened_same by now [] (Served x) h = absurd h
opened_same by now [] (Ticked second) h = absurd h
opened_same by now [] (Born job) h = absurd h
opened_same by now [] (Gone job shut) h = absurd h
opened_same by now [] (Fed other number first count) h = refl
opened_same by now (Issued other ∷ log) m h = ap₂ (λ ticks more. cond (same_command by other) (now ∷ ticks) more) (none_more log m by h) (opened_same by now log m h)
opened_same by now (Ticked second ∷ log) m h = opened_same by second log m h
opened_same by now (Served x ∷ log) m h = opened_same by now log m h
opened_same by now (Replied other reply number ∷ log) m h = opened_same by now log m h
opened_same by now (Born job ∷ log) m h = opened_same by now log m h
opened_same by now (Gone job shut ∷ log) m h = opened_same by now log m h
opened_same by now (Fed other number first count ∷ log) m h = opened_same by now log m h

same_map : {A B : Type 0} (f g : A → Option B) (xs : List A) → ((x : A) → Among x xs → f x ≡ g x) → filter_map f xs ≡ filter_map g xs
same_map f g [] h = refl
same_map f g (x ∷ xs) h = ap₂ cons_option (h x (inl refl)) (same_map f g xs (λ y i. h y (inr i)))

module _ (v : CommandsValue) (inst : Instance) (log : Log) (m : Moment) where
  asked_same : (row : Row) (a : JobAsk) → IsAside row.by m → submit_by v inst (log ++ m ∷ []) row a ≡ submit_by v inst log row a
  asked_same row (ask.Submit label urgency named text) h =
      ap (λ (seconds : List ℕ). option_map (λ (needs : List Depend). (let x : Submit = record {
        by = row.by;
        rank = row.rank;
        urgency = urgency;
        needs = needs;
        text = text;
        seconds = seconds;
        issued = slice_index v.issued row.rank;
      } in x)) (needs_of v.labels named)) (opened_same row.by inst.start log m h)
  asked_same row _ h = refl

  submit_same : (row : Row) (s : Stage) → IsAside row.by m → submit_at v inst (log ++ m ∷ []) row s ≡ submit_at v inst log row s
  submit_same row stage.Waits h = asked_same row row.ask h
  submit_same row (stage.Landed number) h = refl

  submits_same : ((row : Row) → Contains v.rows row → IsAside row.by m) → submits_of v inst (log ++ m ∷ []) ≡ submits_of v inst log
  submits_same aside = same_map _ _ v.rows (λ row i. submit_same row row.stage (aside row (contains_from v.rows row i)))

  pub desk_same : (jobs : List StoredJob) → now_of inst (log ++ m ∷ []) ≡ now_of inst log → ((row : Row) → Contains v.rows row → IsAside row.by m) → desk_of v inst (log ++ m ∷ []) jobs ≡ desk_of v inst log jobs
  desk_same jobs now aside =
      ap₂ (λ (n : ℕ) (s : List Submit). (let d : Desk = record {
        scene = record { now = n; grant = inst.grant; jobs = jobs; asked = asked_of v; answer = inst.answer; policy = inst.policy; limits = inst.limits; old = λ id. false };
        birth = inst.birth;
        submits = s;
      } in d)) now (submits_same aside)

-- ---- an issue

module _ (v : JobServiceValue) (inst : Instance) (log : Log) (a : AgreesJobs v inst log) (by : By) (asks : inst.asks by ≡ Some Shutdown) where
  other_rows : (row : Row) → Contains v.commands.rows row → row.by ≢ by
  other_rows = rowless v.commands inst log a.commands by asks

  pub shutdown_issued : AgreesJobs v inst (log ++ Issued by ∷ [])
  shutdown_issued =
      let m : Moment = Issued by in
      let same = issued_service v.commands v.commands v.refused v.second inst log by (facts v inst log a) in
      let now : now_of inst (log ++ m ∷ []) ≡ now_of inst log = latest_push ticked inst.start log m in
      let desk = desk_same v.commands inst log m v.manager.book.jobs now (λ row c. differs row.by by (other_rows row c)) in
      record {
        kind = a.kind;
        core = subst (Agrees v.manager.core inst.service) (sym same) a.core;
        legal = subst (IsLegalLog inst.service) (sym same) a.legal;
        commands = shutdown_agrees v.commands inst log by asks a.commands;
        second = now ∙ a.second;
        owes = subst (Owes v.manager.posted v.found) (sym desk) a.owes;
        labelled = a.labelled;
        refused = λ r c. legal_kept inst log m r.by r.fault refl refl (a.refused r c);
        fed = fed_kept v.feeds inst log m (λ other. refl) (λ other. refl) a.fed;
        untold = λ other some e. untold_kept other log m refl refl (a.untold other some (unissued_before other log m e));
        shutdowns = λ other e. undecided_kept other log m refl (a.shutdowns other e);
      }

  -- ---- a reply

  kept_rows : (rows : List Row) → ((row : Row) → Among row rows → row.by ≢ by) → rows ≡ filter (λ row. not (is_of by row)) rows
  kept_rows [] h = refl
  kept_rows (row ∷ rows) h = at (is_of by row) refl (kept_rows rows (λ x i. h x (inr i)))
    where
      at : (b : Bool) → is_of by row ≡ b → rows ≡ filter (λ x. not (is_of by x)) rows → row ∷ rows ≡ cond (not b) (row ∷ filter (λ x. not (is_of by x)) rows) (filter (λ x. not (is_of by x)) rows)
      at true is more = absurd (h row (inl refl) (sym (command_is by row.by is)))
      at false is more = ap (λ l. row ∷ l) more

  pub shutdown_replied : IsOpen by log → AgreesJobs v inst (log ++ Replied by Shut None ∷ [])
  shutdown_replied waits =
      let m : Moment = Replied by Shut None in
      let same = replied_service v.commands v.commands v.refused v.second inst log by Shut None (facts v inst log a) in
      let now : now_of inst (log ++ m ∷ []) ≡ now_of inst log = latest_push ticked inst.start log m in
      let desk = desk_same v.commands inst log m v.manager.book.jobs now (λ row c. tt) in
      record {
        kind = a.kind;
        core = subst (Agrees v.manager.core inst.service) (sym same) a.core;
        legal = subst (IsLegalLog inst.service) (sym same) a.legal;
        commands = reply_agrees v.commands v.commands inst log by Shut None refl (kept_rows v.commands.rows (λ row i. other_rows row (contains_from v.commands.rows row i))) refl refl refl a.commands;
        second = now ∙ a.second;
        owes = subst (Owes v.manager.posted v.found) (sym desk) a.owes;
        labelled = a.labelled;
        refused = λ r c.
            let l = a.refused r c in
            legal_kept inst log m r.by r.fault (differs r.by by (unrefused inst log by r.by r.fault asks l)) refl l;
        fed = fed_kept v.feeds inst log m (λ other. refl) (λ other. refl) a.fed;
        untold = λ other some e.
            let before = unissued_before other log m e in
            untold_kept other log m (differs other by (unissued_other by other log waits.issued before)) refl (a.untold other some before);
        shutdowns = λ other e. undecided_kept other log m refl (a.shutdowns other e);
      }

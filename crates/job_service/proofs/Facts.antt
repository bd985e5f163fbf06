-- What a log says of job commands, after a further moment.
use Rattle.std.proofs.Common.{◌≡◌, ◌≢◌, ℕ, inl, inr, List, [], ◌∷◌, ◌++◌, map, Bool, true, false, Option, Some, None, IsSome, Contains, refl, sym, ap, ◌∙◌, subst, true≢false, append_assoc, append-nil}
use Rattle.std.specs.Prelude.{filter, not}
use Rattle.std.specs.List.{AllByRecursion as Each}
use Rattle.std.proofs.lemmas.Bool.{not-true, or_from, or_parts, or_right}
use Rattle.std.proofs.lemmas.List.Elements.{Contains-append_cases}
use Rattle.job_deeds.proofs.job_rules_proofs.Among.{Among, among_filter, among_from, contains_from}
use Rattle.job_deeds.specs.kvs_model.Store.{Store}
use Rattle.kvs_rules.proofs.Sequences.{latest_push}
use Rattle.kvs_rules.proofs.Stores.{any_push}
use Rattle.kvs_rules.specs.Log as service
use Rattle.kvs_rules.specs.Log.{same_command}
use Rattle.kvs_rules.specs.Namespaces.{newest_store, primary}
use Rattle.kvs_rules.specs.declared.events.KvsEvent.{KvsEvent}
use Rattle.job_deeds.specs.kvs_txn.declared.txn.By.{By}
use Rattle.job_deeds.specs.kvs_txn.declared.txn.Group.{Group}
use Rattle.instance_rules.specs.Desks.{HasSubmitted, Names}
use Rattle.instance_rules.specs.Log as rules
use Rattle.instance_rules.specs.Log.{Instance, IsOpen, IsPending, JobAsk as Asks, JobReply, Log, Moment, Served, Issued, Replied, Born, Gone, Shutdown, SinceIssued, Submit, Ticked, is_decided, is_issued, is_replied, issues_now, now_of, replies_now, service_of, ticked}
use Rattle.instance_rules.specs.Replies.{FindsNoJob, IsLegalReply, LacksJob}
use Rattle.job_commands.proofs.Landings.{aside_other}
use Rattle.job_commands.proofs.Logs.{begun_before, differs, same_self, service_push, undecided_kept}
use Rattle.job_commands.proofs.Steps.{beside_agrees, tick_beside}
use Rattle.job_commands.specs.Agrees.{AgreesCommands}
use Rattle.job_commands.specs.Asks.{named_of, told}
use Rattle.job_commands.specs.Moments.{CarriesOut, IsAside, IsBeside, decides_now, landing as lands_at}
use Rattle.job_commands.specs.Rows.{CommandsValue}
use Rattle.job_commands.specs.declared.ask.JobAsk.{JobAsk}
use Rattle.job_commands.specs.declared.ask.JobAsk.TheVariants as ask
use Rattle.job_commands.specs.declared.ask.Named.{Named}
use Rattle.job_deeds.specs.job_spec.declared.spec.Depend.{Depend}
use Rattle.job_submissions.specs.Faults.{Lacks, LacksSome}
use Rattle.job_submissions.specs.declared.faults.Fault.{Fault}
use Rattle.job_submissions.specs.declared.faults.Fault.TheVariants as fault
use Rattle.job_deeds.specs.manager_rules.Jobs.{AreJobsOf, StoredJob}
use Rattle.job_service.specs.declared.refusals.Refused.{Refused}
use Rattle.job_service.specs.Agrees.{IsUntold}
use Rattle.job_landings.specs.Landings.{happening}
use Rattle.job_service.specs.Refusals.{IsFaultOf, is_refusal_of, refusals_of, reply_to}

-- what the log says of the commands, the refusals and the time
pub record Facts (v : CommandsValue) (list : List Refused) (now : ℕ) (inst : Instance) (log : Log) : Type 0 where
  pub commands : AgreesCommands v inst log
  pub second : now_of inst log ≡ now
  pub refused : (r : Refused) → Contains list r → IsLegalReply inst log r.by (reply_to r.fault) None
  pub untold : (by : By) → IsSome (inst.asks by) → is_issued by log ≡ false → IsUntold by log
  pub shutdowns : (by : By) → inst.asks by ≡ Some Shutdown → is_decided by log ≡ false

-- ---- refusals stay

pub open_kept : (by : By) (log : Log) (m : Moment) → replies_now by m ≡ false → IsOpen by log → IsOpen by (log ++ m ∷ [])
open_kept by log m quiet h = Rattle.job_commands.proofs.Logs.open_kept by log m quiet h

since_kept : (by : By) (P : Log → Type 0) (log : Log) (m : Moment) → SinceIssued by P log → SinceIssued by P (log ++ m ∷ [])
since_kept by P log m h = record {
  past = h.past;
  later = h.later ++ m ∷ [];
  split = ap (λ l. l ++ m ∷ []) h.split ∙ append_assoc h.past h.later (m ∷ []);
  issued = h.issued;
  held = h.held;
}

finds_kept : (inst : Instance) (log : Log) (m : Moment) (by : By) (a : Asks) → FindsNoJob inst log by a None → FindsNoJob inst (log ++ m ∷ []) by a None
finds_kept inst log m by (Submit label urgency named text) h = (h.0, (h.1.0, h.1.1, h.1.2, since_kept by (LacksJob inst h.1.0 named) log m h.1.3))
finds_kept inst log m by _ h = absurd h.2

pub legal_kept : (inst : Instance) (log : Log) (m : Moment) (by : By) (f : Fault) → replies_now by m ≡ false → decides_now by m ≡ false → IsLegalReply inst log by (reply_to f) None → IsLegalReply inst (log ++ m ∷ []) by (reply_to f) None
legal_kept inst log m by (fault.BadSpec n) quiet aside h = record {
  ask = h.ask;
  made = h.made;
  waits = open_kept by log m quiet h.waits;
  tells = undecided_kept by log m aside h.tells;
  grounds = h.grounds;
}
legal_kept inst log m by (fault.Checked reason) quiet aside h = record {
  ask = h.ask;
  made = h.made;
  waits = open_kept by log m quiet h.waits;
  tells = undecided_kept by log m aside h.tells;
  grounds = h.grounds;
}
legal_kept inst log m by fault.NoJob quiet aside h = record {
  ask = h.ask;
  made = h.made;
  waits = open_kept by log m quiet h.waits;
  tells = undecided_kept by log m aside h.tells;
  grounds = finds_kept inst log m by h.ask h.grounds;
}

refused_asks : (inst : Instance) (log : Log) (by : By) (r : JobReply) (n : Option ℕ) → IsLegalReply inst log by r n → IsSome (inst.asks by)
refused_asks inst log by r n h = subst IsSome (sym h.made) refl

-- ---- what a moment that is no issue leaves untold

pub unissued_before : (by : By) (log : Log) (m : Moment) → is_issued by (log ++ m ∷ []) ≡ false → is_issued by log ≡ false
unissued_before by log m e = (or_parts (is_issued by log) _ (sym (any_push (issues_now by) log m) ∙ e)).0

pub untold_kept : (by : By) (log : Log) (m : Moment) → replies_now by m ≡ false → decides_now by m ≡ false → IsUntold by log → IsUntold by (log ++ m ∷ [])
untold_kept by log m quiet aside h = record {
  unanswered = any_push (replies_now by) log m ∙ or_from (is_replied by log) _ h.unanswered quiet;
  undecided = undecided_kept by log m aside h.undecided;
}

-- ---- something in the service

module _ (v : CommandsValue) (list : List Refused) (now : ℕ) (inst : Instance) where
  pub served_facts : (log : Log) (m : service.Moment) → IsBeside inst (Served m) → Facts v list now inst log → Facts v list now inst (log ++ Served m ∷ [])
  served_facts log m beside h = record {
    commands = beside_agrees v inst log (Served m) beside (λ job. refl) h.commands;
    second = latest_push ticked inst.start log (Served m) ∙ h.second;
    refused = λ r c. let l = h.refused r c in legal_kept inst log (Served m) r.by r.fault refl (beside r.by (refused_asks inst log r.by _ None l)).decides l;
    untold = λ by some e. untold_kept by log (Served m) refl (beside by some).decides (h.untold by some (unissued_before by log (Served m) e));
    shutdowns = λ by e. undecided_kept by log (Served m) (beside by (subst IsSome (sym e) refl)).decides (h.shutdowns by e);
  }

  pub service_one : (log : Log) (m : service.Moment) → service_of (log ++ Served m ∷ []) ≡ service_of log ++ m ∷ []
  service_one log m = service_push log (Served m)

  -- ---- events that are about no job command

  pub besides_facts : (es : List KvsEvent) (log : Log) → Each (λ e. IsBeside inst (happening e)) es → Facts v list now inst log → Facts v list now inst (log ++ map happening es)
  besides_facts [] log beside h = subst (Facts v list now inst) (sym (append-nil log)) h
  besides_facts (e ∷ es) log beside h =
      subst (Facts v list now inst) (append_assoc log (happening e ∷ []) (map happening es))
      (besides_facts es (log ++ happening e ∷ []) beside.1 (served_facts log (service.Happened e) beside.0 h))

pub pending_kept : (inst : Instance) (by : By) → IsSome (inst.asks by) → (es : List KvsEvent) (log : Log) → Each (λ e. IsBeside inst (happening e)) es → IsPending by log → IsPending by (log ++ map happening es)
pending_kept inst by some [] log beside p = subst (IsPending by) (sym (append-nil log)) p
pending_kept inst by some (e ∷ es) log beside p =
    subst (IsPending by) (append_assoc log (happening e ∷ []) (map happening es))
    (pending_kept inst by some es (log ++ happening e ∷ []) beside.1 (record {
      waits = open_kept by log (happening e) refl p.waits;
      undecided = undecided_kept by log (happening e) (beside.0 by some).decides p.undecided;
    }))

-- ---- a second

pub ticked_facts : (v : CommandsValue) (list : List Refused) (now second : ℕ) (inst : Instance) (log : Log) → Facts v list now inst log → Facts v list second inst (log ++ Ticked second ∷ [])
ticked_facts v list now second inst log h = record {
  commands = beside_agrees v inst log (Ticked second) (tick_beside inst second) (λ job. refl) h.commands;
  second = latest_push ticked inst.start log (Ticked second);
  refused = λ r c. legal_kept inst log (Ticked second) r.by r.fault refl refl (h.refused r c);
  untold = λ by some e. untold_kept by log (Ticked second) refl refl (h.untold by some (unissued_before by log (Ticked second) e));
  shutdowns = λ other e. undecided_kept other log (Ticked second) refl (h.shutdowns other e);
}

-- ---- a child that is born or goes

module _ (v new : CommandsValue) (list : List Refused) (now : ℕ) (inst : Instance) (log : Log) (h : Facts v list now inst log) where
  pub born_facts : (job : ℕ) → AgreesCommands new inst (log ++ Born job ∷ []) → Facts new list now inst (log ++ Born job ∷ [])
  born_facts job agrees = record {
    commands = agrees;
    second = latest_push ticked inst.start log (Born job) ∙ h.second;
    refused = λ r c. legal_kept inst log (Born job) r.by r.fault refl refl (h.refused r c);
    untold = λ by some e. untold_kept by log (Born job) refl refl (h.untold by some (unissued_before by log (Born job) e));
    shutdowns = λ other e. undecided_kept other log (Born job) refl (h.shutdowns other e);
  }

  pub gone_facts : (job : ℕ) (shut : Bool) → AgreesCommands new inst (log ++ Gone job shut ∷ []) → Facts new list now inst (log ++ Gone job shut ∷ [])
  gone_facts job shut agrees = record {
    commands = agrees;
    second = latest_push ticked inst.start log (Gone job shut) ∙ h.second;
    refused = λ r c. legal_kept inst log (Gone job shut) r.by r.fault refl refl (h.refused r c);
    untold = λ by some e. untold_kept by log (Gone job shut) refl refl (h.untold by some (unissued_before by log (Gone job shut) e));
    shutdowns = λ other e. undecided_kept other log (Gone job shut) refl (h.shutdowns other e);
  }

pub born_service : (log : Log) (job : ℕ) → service_of (log ++ Born job ∷ []) ≡ service_of log
born_service log job = service_push log (Born job) ∙ append-nil (service_of log)

pub gone_service : (log : Log) (job : ℕ) (shut : Bool) → service_of (log ++ Gone job shut ∷ []) ≡ service_of log
gone_service log job shut = service_push log (Gone job shut) ∙ append-nil (service_of log)

pub ticked_service : (log : Log) (second : ℕ) → service_of (log ++ Ticked second ∷ []) ≡ service_of log
ticked_service log second = service_push log (Ticked second) ∙ append-nil (service_of log)

-- ---- refusals of other commands

left_refusal : (by : By) (list : List Refused) (r : Refused) → Contains (filter (λ x. not (is_refusal_of by x)) list) r → Contains list r × (r.by ≢ by)
left_refusal by list r c =
    let both = among_filter (λ x. not (is_refusal_of by x)) list r (among_from _ r c) in
    (contains_from list r both.0, λ e. true≢false (sym (same_self by) ∙ ap (same_command by) (sym e) ∙ not-true (is_refusal_of by r) both.1))

-- what was issued is no command that wasn't
pub unissued_other : (by other : By) (log : Log) → is_issued by log ≡ true → is_issued other log ≡ false → other ≢ by
unissued_other by other log was not_yet e = true≢false (sym was ∙ ap (λ b. is_issued b log) (sym e) ∙ not_yet)

-- ---- a landing that carries out a command

module _ (v new : CommandsValue) (list : List Refused) (now : ℕ) (inst : Instance) (log : Log) (by : By) (group : Group) (authors : List (Option By)) (groups : List Group) (number : ℕ)
    (w : CarriesOut inst by group authors groups) (h : Facts v list now inst log) where
  abbrev pub landed : Log
  landed = log ++ lands_at number authors groups ∷ []

  aside : (other : By) → IsSome (inst.asks other) → other ≢ by → IsAside other (lands_at number authors groups)
  aside other some ne = aside_other inst by group authors groups number w other some ne

  pub landed_facts : is_issued by log ≡ true → inst.asks by ≢ Some Shutdown → AgreesCommands new inst landed → Facts new (filter (λ x. not (is_refusal_of by x)) list) now inst landed
  landed_facts was alive agrees =
      let m = lands_at number authors groups in
      record {
        commands = agrees;
        second = latest_push ticked inst.start log m ∙ h.second;
        refused = λ r c.
            let o = left_refusal by list r c in
            let l = h.refused r o.0 in
            legal_kept inst log m r.by r.fault refl (aside r.by (refused_asks inst log r.by _ None l) o.1).decides l;
        untold = λ other some e.
            let before = unissued_before other log m e in
            untold_kept other log m refl (aside other some (unissued_other by other log was before)).decides (h.untold other some before);
        shutdowns = λ other e. undecided_kept other log m (aside other (subst IsSome (sym e) refl) (λ same. alive (sym (ap inst.asks same) ∙ e))).decides (h.shutdowns other e);
      }

-- ---- an issue

module _ (v new : CommandsValue) (list : List Refused) (now : ℕ) (inst : Instance) (log : Log) (by : By) (h : Facts v list now inst log) where
  abbrev pub issued : Log
  issued = log ++ Issued by ∷ []

  pub issued_service : service_of issued ≡ service_of log
  issued_service = service_push log (Issued by) ∙ append-nil (service_of log)

  begun_old : (other : By) (id : ℕ) → HasSubmitted issued other id → HasSubmitted log other id
  begun_old other id b = elim (begun_before log (Issued by) other id b.0 b.1) [
    | inl old ↦ (b.0, old)
    | inr now ↦ absurd (among_from [] now.group now.one)
  ]

  names_old : (label : List ℕ) (id : ℕ) → Names inst issued label id → Names inst log label id
  names_old label id n = record { by = n.by; urgency = n.urgency; needs = n.needs; text = n.text; asks = n.asks; landed = begun_old n.by id n.landed }

  lacks_still : (jobs : List StoredJob) (depends : List Depend) (named : List rules.Named) → LacksSome inst log jobs depends named → LacksSome inst issued jobs depends named
  lacks_still jobs depends named (inl need) = inl need
  lacks_still jobs depends named (inr l) = inr (l.0, l.1, λ id n c. l.2 id (names_old _ id n) c)

  module _ (asked : JobAsk) (asks : inst.asks by ≡ Some (told asked)) (fresh : is_issued by log ≡ false)
      (store : Store) (standing : newest_store inst.service (service_of log) primary ≡ Some store) (jobs : List StoredJob) (are : AreJobsOf store jobs)
      (lacking : (depends : List Depend) (named : List Named) → Lacks v.labels jobs depends named true → LacksSome inst log jobs depends (map named_of named)) where
    untold_now : IsUntold by log
    untold_now = h.untold by (subst IsSome (sym asks) refl) fresh

    waits_now : IsOpen by issued
    waits_now = record {
      issued = any_push (issues_now by) log (Issued by) ∙ or_right (is_issued by log) _ (same_self by);
      unanswered = any_push (replies_now by) log (Issued by) ∙ or_from (is_replied by log) _ untold_now.unanswered refl;
    }

    undecided_now : is_decided by issued ≡ false
    undecided_now = undecided_kept by log (Issued by) refl untold_now.undecided

    refused_now : (f : Fault) (a : JobAsk) → inst.asks by ≡ Some (told a) → IsFaultOf inst.limits v jobs a (Some f) → IsLegalReply inst issued by (reply_to f) None
    refused_now (fault.BadSpec n) (ask.Submit label urgency needs text) made is = record {
      ask = told (ask.Submit label urgency needs text);
      made = made;
      waits = waits_now;
      tells = undecided_now;
      grounds = (refl, is);
    }
    refused_now (fault.Checked reason) (ask.Submit label urgency needs text) made is = record {
      ask = told (ask.Submit label urgency needs text);
      made = made;
      waits = waits_now;
      tells = undecided_now;
      grounds = (refl, is);
    }
    refused_now fault.NoJob (ask.Submit label urgency needs text) made is = record {
      ask = told (ask.Submit label urgency needs text);
      made = made;
      waits = waits_now;
      tells = undecided_now;
      grounds = (
        refl,
        (
          is.0,
          is.1,
          is.2,
          record {
            past = issued;
            later = [];
            split = sym (append-nil issued);
            issued = waits_now.issued;
            held = record {
              store = store;
              standing = ap (λ l. newest_store inst.service l primary) issued_service ∙ standing;
              jobs = jobs;
              are = are;
              lacks = lacks_still jobs is.0.depends (map named_of needs) (lacking is.0.depends needs is.3);
            };
          },
        ),
      );
    }
    refused_now f _ made is = cc

    pub issue_facts : (found : Option Fault) → IsFaultOf inst.limits v jobs asked found → AgreesCommands new inst issued → Facts new (list ++ refusals_of by found) now inst issued
    issue_facts found is agrees = record {
      commands = agrees;
      second = latest_push ticked inst.start log (Issued by) ∙ h.second;
      refused = λ r c. elim (Contains-append_cases list (refusals_of by found) r c) [
        | inl old ↦ legal_kept inst log (Issued by) r.by r.fault refl refl (h.refused r old)
        | inr now ↦ at r found is (among_from _ r now)
      ];
      untold = λ other some e. untold_kept other log (Issued by) refl refl (h.untold other some (unissued_before other log (Issued by) e));
      shutdowns = λ other e. undecided_kept other log (Issued by) refl (h.shutdowns other e);
    }
      where
        at : (r : Refused) (o : Option Fault) → IsFaultOf inst.limits v jobs asked o → Among r (refusals_of by o) → IsLegalReply inst issued r.by (reply_to r.fault) None
        at r None is i = absurd i
        at r (Some f) is (inl same) = subst (λ x. IsLegalReply inst issued x.by (reply_to x.fault) None) same (refused_now f asked asks is)
        at r (Some f) is (inr none) = absurd none

-- ---- a reply

module _ (v new : CommandsValue) (list : List Refused) (now : ℕ) (inst : Instance) (log : Log) (by : By) (given : JobReply) (number : Option ℕ) (h : Facts v list now inst log) where
  abbrev pub replied : Log
  replied = log ++ Replied by given number ∷ []

  pub replied_service : service_of replied ≡ service_of log
  replied_service = service_push log (Replied by given number) ∙ append-nil (service_of log)

  pub reply_facts : is_issued by log ≡ true → AgreesCommands new inst replied → Facts new (filter (λ x. not (is_refusal_of by x)) list) now inst replied
  reply_facts was agrees = record {
    commands = agrees;
    second = latest_push ticked inst.start log (Replied by given number) ∙ h.second;
    refused = λ r c. let o = left_refusal by list r c in legal_kept inst log (Replied by given number) r.by r.fault (differs r.by by o.1) refl (h.refused r o.0);
    untold = λ other some e.
        let before = unissued_before other log (Replied by given number) e in
        untold_kept other log (Replied by given number) (differs other by (unissued_other by other log was before)) refl (h.untold other some before);
    shutdowns = λ other e. undecided_kept other log (Replied by given number) refl (h.shutdowns other e);
  }

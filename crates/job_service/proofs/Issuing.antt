-- A job service when a command is issued, and when one is told what became of it.
use Rattle.std.proofs.Common.{◌≡◌, ◌≢◌, ℕ, ◌+◌, ◌-◌, ◌*◌, ◌^◌, ◌<◌, ◌≤◌, inl, List, [], ◌∷◌, ◌++◌, length, map, Bool, true, false, cond, ◌&&◌, Option, Some, None, IsSome, Contains, count_by, refl, sym, ap, ◌∙◌, subst, arith, true≢false}
use Rattle.std.specs.Prelude.{◌==◌, filter, is_some, not, slice_index}
use Rattle.std.specs.List.{AllByRecursion as Each}
use Rattle.std.specs.Option.{option_map_or}
use Rattle.std.proofs.lemmas.Bool.{and_parts, not-true}
use mir.Val.{bool_byte}
use Rattle.answers.specs.declared.chronicle.Reply.{Reply}
use Rattle.instance_rules.specs.Desks.{is_submission, submits_at}
use Rattle.instance_rules.specs.Log as rules
use Rattle.instance_rules.specs.Log.{Instance, IsPending, JobAsk as Asks, JobReply, Log, Moment, Issued, Replied, child_told, is_decided, is_issued, is_replied, now_of, service_of}
use Rattle.instance_rules.specs.Replies.{AsksForEvent}
use Rattle.job_clock.proofs.Times.{advance_in_time, other_in_time}
use Rattle.job_clock.specs.Targets.{AreInTime}
use Rattle.run_limits.specs.Limits.{most_seconds, most_submits}
use Rattle.job_service.specs.Times.{HasTime, seconds_asked}
use Rattle.job_commands.proofs.Desks.{there_and_back}
use Rattle.job_commands.proofs.Logs.{differs}
use Rattle.job_commands.proofs.Tables.{found, not_found, to_forgotten}
use Rattle.job_commands.specs.Agrees.{AgreesCommands, StageAgrees}
use Rattle.job_commands.specs.Asks.{named_of, told}
use Rattle.job_commands.specs.Desks.{asked_of, desk_of}
use Rattle.job_commands.specs.Rows.{CommandsValue, is_of, is_submit, is_waiting, issued_row}
use Rattle.job_commands.specs.declared.ask.JobAsk.{JobAsk}
use Rattle.job_commands.specs.declared.ask.JobAsk.TheVariants as ask
use Rattle.job_commands.specs.declared.ask.Named.{Named}
use Rattle.job_commands.specs.declared.row.Row.{Row}
use Rattle.job_commands.specs.declared.row.Stage.{Stage}
use Rattle.job_commands.specs.declared.row.Stage.TheVariants as stage
use Rattle.job_landings.proofs.Open.{event_open, submit_open}
use Rattle.job_manager.specs.Managed.{IsManaged}
use Rattle.job_manager.specs.Posts.{command_of}
use Rattle.job_replies.specs.Told.{MayTell}
use Rattle.job_deeds.proofs.job_rules_proofs.Among.{among_from, among_left, contains_from}
use Rattle.job_deeds.specs.job_spec.declared.spec.Depend.{Depend}
use Rattle.job_submissions.specs.Faults.{Lacks, LacksSome}
use Rattle.job_submissions.specs.Made.{AreLabelled}
use Rattle.job_submissions.specs.declared.faults.Fault.{Fault}
use Rattle.kvs_core.specs.Agrees.{Agrees}
use Rattle.kvs_core.specs.Posted.{newest_of}
use Rattle.kvs_rules.specs.Answers.{IsLegalLog}
use Rattle.kvs_rules.specs.Namespaces.{newest_store, primary}
use Rattle.job_deeds.specs.kvs_txn.declared.txn.By.{By}
use Rattle.job_deeds.specs.manager_rules.Jobs.{StoredJob}
use Rattle.job_deeds.specs.manager_rules.Posts.{Does, IsDuePost, Post, Submits}
use Rattle.job_deeds.specs.manager_rules.declared.asked.Asked.{Asked}
use Rattle.job_service.specs.Agrees.{AgreesJobs, HasRoom, IsNewCommand}
use Rattle.job_service.specs.Due.{IsFoundBeside, LeavesChildOf, LeavesOpen, Owes}
use Rattle.job_service.specs.Posted.{IsNamed}
use Rattle.job_service.specs.Refusals.{IsFaultOf, is_refusal_of, refusals_of, row_in}
use Rattle.job_service.specs.Replies.{Answers, asks_manager, can_reply, is_kept_back, is_undone}
use Rattle.job_service.specs.Value.{JobServiceValue}
use Rattle.job_service.specs.View.{IsFit}
use Rattle.job_service.specs.declared.refusals.Refused.{Refused}
use Rattle.job_service.proofs.Feeding.{fed_kept}
use Rattle.job_service.proofs.Calls.{facts, joined, labelled_still, respan, spanned, with_parts}
use Rattle.job_service.proofs.Counting.{count_filter, count_more}
use Rattle.job_service.proofs.Facts.{Facts, issue_facts, issued_service, replied_service, reply_facts}
use Rattle.job_service.proofs.Owing.{MadeAreDue, UnmadeAreNot, beside-owes, posted-due}

-- what the law says of what waits
abbrev pub StaysDue : Type 0
StaysDue = (v new : CommandsValue) (inst : Instance) (log : Log) (m : Moment) (jobs : List StoredJob) (post : Post) → AgreesCommands v inst log → AgreesCommands new inst (log ++ m ∷ [])
    → now_of inst (log ++ m ∷ []) ≡ now_of inst log → LeavesOpen m post → LeavesChildOf (asked_of v) jobs m post → IsDuePost (desk_of v inst log jobs) post → IsDuePost (desk_of new inst (log ++ m ∷ []) jobs) post

-- a moment that is about no child leaves that of each job
pub leaves_children : (list : List Asked) (jobs : List StoredJob) (m : Moment) → ((id : ℕ) → child_told id m ≡ None) → (post : Post) → LeavesChildOf list jobs m post
leaves_children list jobs m none (Does due) = inl (none due.job)
leaves_children list jobs m none (Submits x) = tt

module _ (v : JobServiceValue) (inst : Instance) (log : Log) (a : AgreesJobs v inst log) where
  -- what is owed behind a further moment of the same second, which leaves the jobs
  module _ (commands : CommandsValue) (refused : List Refused) (m : Moment) (f : Facts commands refused v.second inst (log ++ m ∷ [])) (labelled : AreLabelled commands.labels v.manager.book.jobs)
      (smalls : Each (λ j. j.id < 2 ^ 64) v.manager.book.jobs) (soon : 1000 * (v.second - v.birth) < 2 ^ 40) (short : length commands.issued ≤ 32) (made-due : MadeAreDue) (unmade-not : UnmadeAreNot) (stays : StaysDue)
      (leaves : (post : Post) → v.manager.posted ≡ Some post → LeavesOpen m post) (children : (post : Post) → v.manager.posted ≡ Some post → LeavesChildOf (asked_of v.commands) v.manager.book.jobs m post) where
    pub owes_next : (later : Option Post) → IsFoundBeside v.terms v.manager.posted commands v.manager.book v.second v.birth later → Owes v.manager.posted later (desk_of commands inst (log ++ m ∷ []) v.manager.book.jobs)
    owes_next later h =
        beside-owes v.terms commands v.manager.book v.second v.birth inst (log ++ m ∷ []) f.commands a.kind.valid f.second a.kind.terms a.kind.birth a.kind.book labelled smalls soon short made-due unmade-not v.manager.posted later
        (λ post e. stays v.commands commands inst log m v.manager.book.jobs post a.commands f.commands (f.second ∙ sym a.second) (leaves post e) (children post e)
        (posted-due v.manager.posted v.found (desk_of v.commands inst log v.manager.book.jobs) a.owes post e))
        h

  -- ---- an issue

  module _ (spent : Bool) (commands : CommandsValue) (by : By) (rank : ℕ) (asked : JobAsk) (new : IsNewCommand inst log by rank asked) (m : IsManaged v.manager)
      (newest : newest_store inst.service (service_of log) primary ≡ Some (newest_of v.manager.core))
      (lacking : (x : CommandsValue) (i : Instance) (l : Log) (jobs : List StoredJob) (depends : List Depend) (named : List Named) → AgreesCommands x i l → Lacks x.labels jobs depends named true → LacksSome i l jobs depends (map named_of named))
      (fault : Option Fault) (is : IsFaultOf v.terms.limits v.commands v.manager.book.jobs asked fault)
      (order : v.birth ≤ v.second)
      (goes_on : (i : Instance) (l : Log) → AgreesCommands v.commands i l → i.asks by ≡ Some (told asked) → i.rank by ≡ rank → now_of i l ≡ v.second → i.birth ≤ v.second → is_issued by l ≡ false → is_replied by l ≡ false → is_decided by l ≡ false → AgreesCommands commands i (l ++ Issued by ∷ [])) where
    pub issued_commands : AgreesCommands commands inst (log ++ Issued by ∷ [])
    issued_commands =
        let untold = a.untold by (subst IsSome (sym new.asks) refl) new.new in
        goes_on inst log a.commands new.asks new.home a.second (subst (λ b. b ≤ v.second) (sym a.kind.birth) order) new.new untold.unanswered untold.undecided

    pub issued_facts : Facts commands (v.refused ++ refusals_of by fault) v.second inst (log ++ Issued by ∷ [])
    issued_facts =
        issue_facts v.commands commands v.refused v.second inst log by (facts v inst log a) asked new.asks new.new (newest_of v.manager.core) newest v.manager.book.jobs m.jobs
        (λ depends named lacks. lacking v.commands inst log v.manager.book.jobs depends named a.commands lacks) fault (subst (λ limits. IsFaultOf limits v.commands v.manager.book.jobs asked fault) (sym a.kind.terms.limits) is) issued_commands

    labelled_next : AreLabelled commands.labels v.manager.book.jobs
    labelled_next = labelled_still v.commands commands inst log (Issued by) v.manager.book.jobs a.commands issued_commands a.labelled

    pub issue_all : Each (λ j. j.id < 2 ^ 64) v.manager.book.jobs → 1000 * (v.second - v.birth) < 2 ^ 40 → length commands.issued ≤ 32 → MadeAreDue → UnmadeAreNot → StaysDue → (later : Option Post) (submitted : ℕ) → IsFoundBeside v.terms v.manager.posted commands v.manager.book v.second v.birth later
        → (span : ℕ) → AgreesJobs (spanned (with_parts v spent v.manager commands (v.refused ++ refusals_of by fault) later submitted) span v.bearing) inst (log ++ Issued by ∷ [])
    issue_all smalls soon short made-due unmade-not stays later submitted h span =
        let same = issued_service v.commands commands v.refused v.second inst log by (facts v inst log a) in
        respan (with_parts v spent v.manager commands (v.refused ++ refusals_of by fault) later submitted) inst (log ++ Issued by ∷ []) span v.bearing
        (joined v inst log a spent v.manager commands (v.refused ++ refusals_of by fault) later submitted (log ++ Issued by ∷ []) (fed_kept v.feeds inst log (Issued by) (λ other. refl) (λ other. refl) a.fed) a.kind.book
        (subst (Agrees v.manager.core inst.service) (sym same) a.core)
        (subst (IsLegalLog inst.service) (sym same) a.legal)
        labelled_next
        (owes_next commands (v.refused ++ refusals_of by fault) (Issued by) issued_facts labelled_next smalls soon short made-due unmade-not stays (λ post e other c. record { unanswered = refl; undecided = refl })
        (λ post e. leaves_children (asked_of v.commands) v.manager.book.jobs (Issued by) (λ id. refl) post) later h)
        issued_facts)

  -- ---- what is posted carries out no command that can be told

  abbrev back : rules.Named → Named
  back n = record { scheme = n.scheme; label = n.label }

  -- the command waits, and asks for what a post does
  record WaitsForPost (by : By) : Type 0 where
    asked : JobAsk
    asks : inst.asks by ≡ Some (told asked)
    manager : asks_manager asked ≡ true
    pending : IsPending by log

  event_waits : (by : By) (x : Asks) → inst.asks by ≡ Some x → AsksForEvent x → IsPending by log → WaitsForPost by
  event_waits by (rules.Cancel label) e event p = record { asked = ask.Cancel label; asks = e; manager = refl; pending = p }
  event_waits by (rules.Raise label kind severity note) e event p = record { asked = ask.Raise label kind severity note; asks = e; manager = refl; pending = p }
  event_waits by (rules.Urge label urgency) e event p = record { asked = ask.Urge label urgency; asks = e; manager = refl; pending = p }
  event_waits by _ e event p = absurd event

  post_waits : (post : Post) (by : By) → IsDuePost (desk_of v.commands inst log v.manager.book.jobs) post → command_of post ≡ Some by → WaitsForPost by
  post_waits (Submits x) by d e =
      let o = submit_open v.commands inst log v.manager.book.jobs a.commands x d in
      subst WaitsForPost (let same : x.command ≡ by = cc in same)
      (let w : WaitsForPost x.command = record {
        asked = ask.Submit o.label o.urgency (map back o.needs) x.text;
        asks = o.asks ∙ ap (λ ns. Some (rules.Submit o.label o.urgency ns x.text)) (sym (there_and_back o.needs));
        manager = refl;
        pending = o.pending;
      } in w)
  post_waits (Does due) by d e =
      let w = event_open v.commands inst log v.manager.book.jobs a.commands due by d e in
      event_waits by w.ask w.asks w.event w.pending

  asks_as : Asks → Bool
  asks_as (rules.Submit label urgency needs text) = true
  asks_as (rules.Cancel label) = true
  asks_as (rules.Raise label kind severity note) = true
  asks_as (rules.Urge label urgency) = true
  asks_as _ = false

  told_as : (x : JobAsk) → asks_as (told x) ≡ asks_manager x
  unfolding asks_as
  told_as (ask.Submit label urgency needs text) = refl
  told_as (ask.Cancel label) = refl
  told_as (ask.Raise label kind severity note) = refl
  told_as (ask.Urge label urgency) = refl
  told_as (ask.StateOf label) = refl
  told_as (ask.Info label key) = refl
  told_as ask.Jobs = refl
  told_as (ask.Why label) = refl
  told_as (ask.ResultOf label) = refl
  told_as (ask.Watch label) = refl
  told_as (ask.Advance seconds) = refl

  still_waits : (row : Row) (s : Stage) → StageAgrees log row.by row.ask s → is_decided row.by log ≡ false → is_waiting s ≡ true
  still_waits row stage.Waits h e = refl
  still_waits row (stage.Landed number) h e = absurd (true≢false (sym h.0 ∙ e))

  undone : (by : By) → WaitsForPost by → (row : Row) → Contains v.commands.rows row → row.by ≡ by → is_undone row ≡ true
  undone by w row c same =
      let r = a.commands.rows row c in
      let both : Some (told row.ask) ≡ Some (told w.asked) = sym r.asks ∙ ap inst.asks same ∙ w.asks in
      let one : told row.ask ≡ told w.asked = cc in
      let waits = still_waits row row.stage r.staged (subst (λ b. is_decided b log ≡ false) (sym same) w.pending.undecided) in
      let manager : asks_manager row.ask ≡ true = sym (told_as row.ask) ∙ ap asks_as one ∙ told_as w.asked ∙ w.manager in
      ap (λ b. b && asks_manager row.ask) waits ∙ manager

  kept_back : (by : By) → WaitsForPost by → (o : Option Row) → row_in v.commands by ≡ o → option_map_or is_undone o false ≡ true
  kept_back by w None e =
      let row = a.commands.all by w.asked w.asks w.pending.waits in
      absurd (not_found by v.commands.rows e row.0 row.1 row.2)
  kept_back by w (Some row) e = let at = found by v.commands.rows row e in undone by w row at.0 at.1

  pub not_kept : (by : By) → is_kept_back v by ≡ false → (post : Post) → v.manager.posted ≡ Some post → (other : By) → command_of post ≡ Some other → other ≢ by
  not_kept by free post is other e same =
      let d = posted-due v.manager.posted v.found (desk_of v.commands inst log v.manager.book.jobs) a.owes post is in
      let w = subst WaitsForPost same (post_waits post other d e) in
      true≢false (sym (ap (λ p. is_some p && option_map_or is_undone (row_in v.commands by) false) is ∙ kept_back by w (row_in v.commands by) refl) ∙ free)

  -- ---- a reply

  module _ (spent : Bool) (commands : CommandsValue) (by : By) (given : Reply) (number : Option ℕ) (t : MayTell inst log by given number)
      (goes_on : (i : Instance) (l : Log) (r : JobReply) (n : Option ℕ) → AgreesCommands v.commands i l → AgreesCommands commands i (l ++ Replied by r n ∷ [])) where
    pub replied_commands : AgreesCommands commands inst (log ++ Replied by t.reply number ∷ [])
    replied_commands = goes_on inst log t.reply number a.commands

    pub replied_facts : Facts commands (filter (λ x. not (is_refusal_of by x)) v.refused) v.second inst (log ++ Replied by t.reply number ∷ [])
    replied_facts = reply_facts v.commands commands v.refused v.second inst log by t.reply number (facts v inst log a) t.legal.waits.issued replied_commands

    labelled_told : AreLabelled commands.labels v.manager.book.jobs
    labelled_told = labelled_still v.commands commands inst log (Replied by t.reply number) v.manager.book.jobs a.commands replied_commands a.labelled

    pub reply_all : Each (λ j. j.id < 2 ^ 64) v.manager.book.jobs → 1000 * (v.second - v.birth) < 2 ^ 40 → length commands.issued ≤ 32 → MadeAreDue → UnmadeAreNot → StaysDue → is_kept_back v by ≡ false → (later : Option Post) → IsFoundBeside v.terms v.manager.posted commands v.manager.book v.second v.birth later
        → Answers (with_parts v spent v.manager commands (filter (λ x. not (is_refusal_of by x)) v.refused) later v.submitted) inst log by given number
    reply_all smalls soon short made-due unmade-not stays free later h =
        let same = replied_service v.commands commands v.refused v.second inst log by t.reply number (facts v inst log a) in
        record {
          reply = t.reply;
          hands = t.hands;
          legal = t.legal;
          agrees = joined v inst log a spent v.manager commands (filter (λ x. not (is_refusal_of by x)) v.refused) later v.submitted (log ++ Replied by t.reply number ∷ []) (fed_kept v.feeds inst log (Replied by t.reply number) (λ other. refl) (λ other. refl) a.fed) a.kind.book
              (subst (Agrees v.manager.core inst.service) (sym same) a.core)
              (subst (IsLegalLog inst.service) (sym same) a.legal)
              labelled_told
              (owes_next commands (filter (λ x. not (is_refusal_of by x)) v.refused) (Replied by t.reply number) replied_facts labelled_told smalls soon short made-due unmade-not stays
              (λ post e other c. record { unanswered = differs other by (not_kept by free post e other c); undecided = refl })
              (λ post e. leaves_children (asked_of v.commands) v.manager.book.jobs (Replied by t.reply number) (λ id. refl) post) later h)
              replied_facts;
        }

-- what can be told isn't kept back
pub is_free : (v : JobServiceValue) (by : By) → can_reply v by ≡ true → is_kept_back v by ≡ false
is_free v by can = not-true (is_kept_back v by) (and_parts (not (is_kept_back v by)) _ can).0

-- ---- ids and counts

pub named_more : (v new : CommandsValue) (birth : ℕ) (row : Row) (posted : Option Post) → new.rows ≡ v.rows ++ row ∷ [] → IsNamed v birth posted → IsNamed new birth posted
named_more v new birth row None rows h = tt
named_more v new birth row (Some (Does due)) rows h = tt
named_more v new birth row (Some (Submits x)) rows h = record {
  row = h.row;
  known = subst (λ l. Contains l h.row) (sym rows) (contains_from _ h.row (among_left v.rows (row ∷ []) h.row (among_from v.rows h.row h.known)));
  named = h.named;
  waits = h.waits;
  made = h.made;
}

pub named_less : (v new : CommandsValue) (birth : ℕ) (by : By) (posted : Option Post) → new.rows ≡ filter (λ r. not (is_of by r)) v.rows → ((post : Post) → posted ≡ Some post → (other : By) → command_of post ≡ Some other → other ≢ by) → IsNamed v birth posted → IsNamed new birth posted
named_less v new birth by None rows other h = tt
named_less v new birth by (Some (Does due)) rows other h = tt
named_less v new birth by (Some (Submits x)) rows other h = record {
  row = h.row;
  known = subst (λ l. Contains l h.row) (sym rows) (to_forgotten by v.rows h.row h.known (λ e. other (Submits x) refl x.command refl (sym h.named ∙ e)));
  named = h.named;
  waits = h.waits;
  made = h.made;
}

plus-none : (n : ℕ) → n + 0 ≡ n
plus-none n = omega arith

-- with one more command, which is a submission or none
pub counted_more : (jobs submitted more : ℕ) (v new : CommandsValue) (by : By) (rank now : ℕ) (asked : JobAsk) (submits : Bool) → new.rows ≡ v.rows ++ issued_row v by rank now asked ∷ [] → submits ≡ is_submission (Some (told asked)) → more ≡ bool_byte submits
    → jobs + count_by is_submit v.rows ≤ submitted → jobs + count_by is_submit new.rows ≤ submitted + more
counted_more jobs submitted more v new by rank now asked submits rows s is h =
    let row = issued_row v by rank now asked in
    let count : count_by is_submit new.rows ≡ count_by is_submit v.rows + cond (is_submit row) 1 0 = ap (count_by is_submit) rows ∙ count_more is_submit v.rows row in
    let one : more ≡ cond (is_submit row) 1 0 = is ∙ ap bool_byte s ∙ as_count (is_submit row) in
    omega (arith, count, one, h)
  where
    as_count : (b : Bool) → bool_byte b ≡ cond b 1 0
    as_count true = refl
    as_count false = refl

pub room_left : (v : JobServiceValue) (asked : JobAsk) (more : ℕ) (submits : Bool) → submits ≡ is_submission (Some (told asked)) → more ≡ bool_byte submits → (is_submission (Some (told asked)) ≡ true → HasRoom v) → v.submitted ≤ most_submits → v.submitted + more ≤ 1000
room_left v asked more true s is room h = let below = room (sym s) in let one : more ≡ 1 = is in omega (arith, below, one)
room_left v asked more false s is room h = let none : more ≡ 0 = is in omega (arith, h, none)

-- at each broker no more submissions are drawn than were issued
pub issued_drawn : (v : JobServiceValue) (inst : Instance) (log : Log) → AgreesCommands v.commands inst log → (commands : CommandsValue) (by : By) (asked : JobAsk) (more : ℕ) (submits : Bool) → inst.asks by ≡ Some (told asked) → AgreesCommands commands inst (log ++ Issued by ∷ []) → length commands.issued ≡ length v.commands.issued
    → submits ≡ is_submission (Some (told asked)) → more ≡ bool_byte submits → ((rank : ℕ) → rank < length v.commands.issued → slice_index v.commands.issued rank ≤ v.submitted) → (rank : ℕ) → rank < length commands.issued → slice_index commands.issued rank ≤ v.submitted + more
issued_drawn v inst log old commands by asked more submits asks later size s is h rank w =
    let within : rank < length v.commands.issued = subst (λ n. rank < n) size w in
    let before = h rank within in
    let was = old.issued rank within in
    let now = later.issued rank w in
    let counted = count_more (submits_at inst rank) log (Issued by) in
    let few : cond (submits_at inst rank (Issued by)) 1 0 ≤ more = subst (λ b. cond ((inst.rank by == rank) && b) 1 0 ≤ more) (s ∙ ap is_submission (sym asks)) (at_most (inst.rank by == rank) submits more is) in
    omega (arith, before, was, now, counted, few)
  where
    at_most : (x t : Bool) (n : ℕ) → n ≡ bool_byte t → cond (x && t) 1 0 ≤ n
    at_most true true n e = omega (arith, e)
    at_most true false n e = omega arith
    at_most false t n e = omega arith

-- ---- time

issued_time : (v new : CommandsValue) (by : By) (rank now birth span : ℕ) (asked : JobAsk) → new.rows ≡ v.rows ++ issued_row v by rank now asked ∷ [] → AreInTime v birth now span → AreInTime new birth now (span + seconds_asked asked)
issued_time v new by rank now birth span (ask.Advance seconds) rows h = advance_in_time v new (issued_row v by rank now (ask.Advance seconds)) birth now span seconds rows refl refl h
issued_time v new by rank now birth span (ask.Submit label urgency needs text) rows h = subst (AreInTime new birth now) (sym (plus-none span)) (other_in_time v new (issued_row v by rank now (ask.Submit label urgency needs text)) birth now span rows refl h)
issued_time v new by rank now birth span (ask.Cancel label) rows h = subst (AreInTime new birth now) (sym (plus-none span)) (other_in_time v new (issued_row v by rank now (ask.Cancel label)) birth now span rows refl h)
issued_time v new by rank now birth span (ask.Raise label kind severity note) rows h = subst (AreInTime new birth now) (sym (plus-none span)) (other_in_time v new (issued_row v by rank now (ask.Raise label kind severity note)) birth now span rows refl h)
issued_time v new by rank now birth span (ask.Urge label urgency) rows h = subst (AreInTime new birth now) (sym (plus-none span)) (other_in_time v new (issued_row v by rank now (ask.Urge label urgency)) birth now span rows refl h)
issued_time v new by rank now birth span (ask.StateOf label) rows h = subst (AreInTime new birth now) (sym (plus-none span)) (other_in_time v new (issued_row v by rank now (ask.StateOf label)) birth now span rows refl h)
issued_time v new by rank now birth span (ask.Info label key) rows h = subst (AreInTime new birth now) (sym (plus-none span)) (other_in_time v new (issued_row v by rank now (ask.Info label key)) birth now span rows refl h)
issued_time v new by rank now birth span ask.Jobs rows h = subst (AreInTime new birth now) (sym (plus-none span)) (other_in_time v new (issued_row v by rank now ask.Jobs) birth now span rows refl h)
issued_time v new by rank now birth span (ask.Why label) rows h = subst (AreInTime new birth now) (sym (plus-none span)) (other_in_time v new (issued_row v by rank now (ask.Why label)) birth now span rows refl h)
issued_time v new by rank now birth span (ask.ResultOf label) rows h = subst (AreInTime new birth now) (sym (plus-none span)) (other_in_time v new (issued_row v by rank now (ask.ResultOf label)) birth now span rows refl h)
issued_time v new by rank now birth span (ask.Watch label) rows h = subst (AreInTime new birth now) (sym (plus-none span)) (other_in_time v new (issued_row v by rank now (ask.Watch label)) birth now span rows refl h)

pub issued_within : (v new : CommandsValue) (by : By) (rank now birth span : ℕ) (asked : JobAsk) → new.rows ≡ v.rows ++ issued_row v by rank now asked ∷ [] → AreInTime v birth now (most_seconds + span) → AreInTime new birth now (most_seconds + (span + seconds_asked asked))
issued_within v new by rank now birth span asked rows h =
    let more = seconds_asked asked in
    let same : (most_seconds + span) + more ≡ most_seconds + (span + more) = omega arith in
    subst (AreInTime new birth now) same (issued_time v new by rank now birth (most_seconds + span) asked rows h)

pub time_left : (v : JobServiceValue) (asked : JobAsk) → HasTime v asked → v.span ≤ most_seconds → v.span + seconds_asked asked ≤ most_seconds
time_left v (ask.Advance seconds) h near = h
time_left v _ h near = omega (arith, near)

pub short_next : (v : JobServiceValue) → IsFit v → (commands : CommandsValue) → length commands.issued ≡ length v.commands.issued → length commands.issued ≤ 32
short_next v i commands same = let a = i.size in let b = i.few in omega (arith, same, a, b)

pub counted_less : (jobs submitted : ℕ) (v new : CommandsValue) (by : By) → new.rows ≡ filter (λ r. not (is_of by r)) v.rows → jobs + count_by is_submit v.rows ≤ submitted → jobs + count_by is_submit new.rows ≤ submitted
counted_less jobs submitted v new by rows h =
    let fewer : count_by is_submit new.rows ≤ count_by is_submit v.rows = subst (λ l. count_by is_submit l ≤ count_by is_submit v.rows) (sym rows) (count_filter is_submit (λ r. not (is_of by r)) v.rows) in
    omega (arith, fewer, h)

-- the broker at which a new command asks is one of the instance's
pub new_within : (v : JobServiceValue) → IsFit v → (inst : Instance) (log : Log) → AgreesJobs v inst log → (by : By) (rank : ℕ) (asked : JobAsk) → IsNewCommand inst log by rank asked → rank < length v.commands.issued
new_within v i inst log a by rank asked new =
    subst (λ n. rank < n) (a.core.size ∙ sym i.size) (subst (λ n. n < inst.service.size) new.home (a.kind.ranks by (subst IsSome (sym new.asks) refl)))

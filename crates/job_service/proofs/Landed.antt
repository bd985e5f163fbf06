-- A step of the service at which a post lands.
use Rattle.std.proofs.Common.{◌≡◌, ◌≢◌, ℕ, zero, suc, take, get_or, ◌+◌, ◌-◌, ◌*◌, ◌^◌, ◌<◌, ◌≤◌, inl, inr, List, [], ◌∷◌, ◌++◌, length, map, Bool, true, false, cond, ◌||◌, Option, Some, None, IsSome, count_by, refl, sym, ap, ◌∙◌, subst, arith, append_assoc}
use Rattle.std.specs.Prelude.{find, flat_map, option_and_then, slice_get, slice_index}
use Rattle.std.specs.List.{AllByRecursion as Each, list_any}
use Rattle.std.specs.Option.{option_map_or}
use Rattle.std.proofs.lemmas.List.{map-append}
use Rattle.instance_rules.specs.Desks.{Begins}
use Rattle.instance_rules.specs.Log as rules
use Rattle.instance_rules.specs.Log.{Instance, JobAsk as Asks, Log, service_of}
use Rattle.instance_rules.specs.Replies.{AsksForEvent}
use Rattle.job_clock.proofs.Times.{carried_in_time}
use Rattle.job_clock.specs.Targets.{AreInTime}
use Rattle.job_commands.proofs.Landings.{now_begun}
use Rattle.job_commands.specs.Desks.{desk_of}
use Rattle.job_commands.specs.Moments.{landing as lands_at}
use Rattle.job_commands.specs.Agrees.{IsIdOf}
use Rattle.job_commands.specs.Rows.{CommandsValue, is_submit}
use Rattle.job_landings.proofs.Landing.{service_all}
use Rattle.job_landings.proofs.Open.{event_open, submit_open}
use Rattle.job_landings.specs.Landings.{Carries, CarriesFor, LandsPost, happening, lands_post, number_in, number_of_post}
use Rattle.job_manager.specs.Follows.{Lands}
use Rattle.job_manager.specs.Posts.{command_of}
use Rattle.job_manager.specs.Value.{ManagerValue}
use Rattle.job_submissions.specs.Made.{AreLabelled}
use Rattle.kvs_core.specs.Agrees.{Agrees}
use Rattle.kvs_core.specs.Makes as core
use Rattle.kvs_keys.specs.Posted.{groups_in, posts_landed}
use Rattle.kvs_rules.proofs.Logs.{legal_joined}
use Rattle.kvs_rules.specs.Answers.{IsLegalLog}
use Rattle.kvs_rules.specs.Log as service
use Rattle.kvs_rules.specs.Namespaces.{primary}
use Rattle.kvs_rules.specs.declared.events.KvsEvent.{KvsEvent}
use Rattle.kvs_rules.specs.declared.events.KvsEvent.TheVariants as event
use Rattle.kvs_rules.specs.declared.events.KvsStep.{KvsStep}
use Rattle.kvs_space.proofs.Posting.{none-left, none-right, posts-append, with-post, with-user}
use Rattle.job_deeds.specs.kvs_txn.declared.txn.By.{By}
use Rattle.job_deeds.specs.kvs_txn.declared.txn.Group.{Group}
use Rattle.job_deeds.specs.kvs_txn.declared.txn.Txn.{Txn}
use Rattle.job_deeds.specs.manager_rules.Jobs.{StoredJob}
use Rattle.job_deeds.specs.manager_rules.Posts.{Desk, Does, IsDuePost, Post, Submits, group_of, jobs_after, txn_of}
use Rattle.job_deeds.specs.manager_rules.declared.due.Due.{Due}
use Rattle.job_deeds.specs.store_laws.Posts.{is_manager, posts_in}
use Rattle.job_service.specs.Agrees.{AgreesJobs, IsBookOf}
use Rattle.job_service.specs.Due.{IsFoundBeside}
use Rattle.job_service.specs.Judged.{AreJudged}
use Rattle.job_service.specs.Landed.{IsLanded, LandsAs, LandsEvent, LandsSubmission, command_of_first}
use Rattle.job_service.specs.Posted.{IsNamed, id_posted}
use Rattle.job_service.specs.Value.{JobServiceValue}
use Rattle.job_service.specs.declared.refusals.Refused.{Refused}
use Rattle.job_service.proofs.Feeding.{fed_events}
use Rattle.job_service.proofs.Calls.{facts, joined, labelled_still, with_parts, same-book}
use Rattle.job_service.proofs.Counting.{count_carried, count_submitted, ids_after, length_done, length_submitted}
use Rattle.job_service.proofs.Facts.{Facts, besides_facts, landed_facts, pending_kept, served_facts}
use Rattle.job_service.proofs.Judging.{KeepJobs, jobs_kept, judged_landed, labels_kept}
use Rattle.job_service.proofs.Owing.{MadeAreDue, UnmadeAreNot, beside-owes, posted-due}

-- ---- where nothing of the manager's lands

abbrev has : Group → Bool
has group = is_manager group.txn.author

lands_none : (gs : List Group) → posts_in gs ≡ [] → list_any has gs ≡ false
lands_none [] e = refl
lands_none (g ∷ gs) e = by (is_manager g.txn.author) refl (lands_none gs)
  where
    by : (b : Bool) → is_manager g.txn.author ≡ b → (posts_in gs ≡ [] → list_any has gs ≡ false) → (b || list_any has gs) ≡ false
    by true m more = (let wrong : g ∷ posts_in gs ≡ [] = sym (with-post g gs m) ∙ e in cc)
    by false m more = more (sym (with-user g gs m) ∙ e)

found_none : (es : List KvsEvent) → posts_landed es ≡ [] → find lands_post es ≡ None
found_none [] e = refl
found_none (x ∷ es) e =
    let both : posts_in (groups_in x) ++ posts_landed es ≡ [] = sym (posts-append (groups_in x) (flat_map groups_in es)) ∙ e in
    ap (λ b. cond b (Some x) (find lands_post es)) (lands_none (groups_in x) (none-left (posts_in (groups_in x)) (posts_landed es) both))
    ∙ found_none es (none-right (posts_in (groups_in x)) (posts_landed es) both)

pub none_numbered : (es : List KvsEvent) → posts_landed es ≡ [] → number_of_post es ≡ None
none_numbered es e = ap (option_and_then number_in) (found_none es e)

found_head : (gs : List Group) (g : Group) → find has gs ≡ Some g → (rest : List Group) × (posts_in gs ≡ g ∷ rest)
found_head [] g e = cc
found_head (x ∷ gs) g e = by (is_manager x.txn.author) refl (found_head gs g) e
  where
    by : (b : Bool) → is_manager x.txn.author ≡ b → (find has gs ≡ Some g → (rest : List Group) × (posts_in gs ≡ g ∷ rest)) → cond b (Some x) (find has gs) ≡ Some g → (rest : List Group) × (posts_in (x ∷ gs) ≡ g ∷ rest)
    by true m more f = let same : x ≡ g = cc in (posts_in gs, with-post x gs m ∙ ap (λ y. y ∷ posts_in gs) same)
    by false m more f = let r = more f in (r.0, with-user x gs m ∙ r.1)

found_nothing : (gs : List Group) → find has gs ≡ None → posts_in gs ≡ []
found_nothing [] e = refl
found_nothing (x ∷ gs) e = by (is_manager x.txn.author) refl (found_nothing gs) e
  where
    by : (b : Bool) → is_manager x.txn.author ≡ b → (find has gs ≡ None → posts_in gs ≡ []) → cond b (Some x) (find has gs) ≡ None → posts_in (x ∷ gs) ≡ []
    by true m more f = cc
    by false m more f = with-user x gs m ∙ more f

-- ---- the first transaction of the manager's among those of events

landed_cons : (e : KvsEvent) (es : List KvsEvent) → posts_landed (e ∷ es) ≡ posts_in (groups_in e) ++ posts_landed es
landed_cons e es = posts-append (groups_in e) (flat_map groups_in es)

first_there : (es : List KvsEvent) (i : ℕ) (e : KvsEvent) (g : Group) → i < length es → e ≡ get_or es i e → posts_landed (take i es) ≡ [] → find has (groups_in e) ≡ Some g → command_of_first (posts_landed es) ≡ slice_get g.authors 0
first_there [] i e g w is none f = absurd (omega (arith, w))
first_there (x ∷ es) zero e g w is none f =
    let head = found_head (groups_in x) g (ap (λ y. find has (groups_in y)) (sym is) ∙ f) in
    ap command_of_first (landed_cons x es ∙ ap (λ l. l ++ posts_landed es) head.1)
first_there (x ∷ es) (suc i) e g w is none f =
    let both : posts_in (groups_in x) ++ posts_landed (take i es) ≡ [] = sym (landed_cons x (take i es)) ∙ none in
    ap command_of_first (landed_cons x es ∙ ap (λ l. l ++ posts_landed es) (none-left (posts_in (groups_in x)) (posts_landed (take i es)) both))
    ∙ first_there es i e g (omega (arith, w)) is (none-right (posts_in (groups_in x)) (posts_landed (take i es)) both) f

none_there : (es : List KvsEvent) (i : ℕ) (e : KvsEvent) → i < length es → e ≡ get_or es i e → posts_landed (take i es) ≡ [] → find has (groups_in e) ≡ None → posts_landed (take (suc i) es) ≡ []
none_there [] i e w is none f = absurd (omega (arith, w))
none_there (x ∷ es) zero e w is none f =
    landed_cons x [] ∙ ap (λ l. l ++ []) (found_nothing (groups_in x) (ap (λ y. find has (groups_in y)) (sym is) ∙ f))
none_there (x ∷ es) (suc i) e w is none f =
    let both : posts_in (groups_in x) ++ posts_landed (take i es) ≡ [] = sym (landed_cons x (take i es)) ∙ none in
    landed_cons x (take (suc i) es)
    ∙ ap (λ l. l ++ posts_landed (take (suc i) es)) (none-left (posts_in (groups_in x)) (posts_landed (take i es)) both)
    ∙ none_there es i e (omega (arith, w)) is (none-right (posts_in (groups_in x)) (posts_landed (take i es)) both) f

pub first_found : (items es : List KvsEvent) → items ≡ es → (i : ℕ) (e : KvsEvent) (g : Group) → i < length items → e ≡ get_or items i e → posts_landed (take i es) ≡ [] → find has (groups_in e) ≡ Some g → command_of_first (posts_landed es) ≡ slice_get g.authors 0
first_found items es same i e g w is none f = first_there es i e g (subst (λ l. i < length l) same w) (is ∙ ap (λ l. get_or l i e) same) none f

pub none_found : (items es : List KvsEvent) → items ≡ es → (i : ℕ) (e : KvsEvent) → i < length items → e ≡ get_or items i e → posts_landed (take i es) ≡ [] → find has (groups_in e) ≡ None → posts_landed (take (i + 1) es) ≡ []
none_found items es same i e w is none f = subst (λ k. posts_landed (take k es) ≡ []) (let more : suc i ≡ i + 1 = omega arith in more) (none_there es i e (subst (λ l. i < length l) same w) (is ∙ ap (λ l. get_or l i e) same) none f)

-- ---- the command of the post

first_command : (t : Txn) (o : Option By) → command_of_first (record { txn = t; authors = option_map_or (λ by. by ∷ []) o [] } ∷ []) ≡ o
first_command t None = refl
first_command t (Some by) = refl

pub command_first : (post : Post) → command_of_first (group_of post ∷ []) ≡ command_of post
command_first (Submits x) = refl
command_first (Does due) = first_command (txn_of (Does due)) due.command

-- ---- what becomes of the commands and of the jobs

-- the number of jobs with the submissions that wait
abbrev all : List StoredJob → CommandsValue → ℕ
all jobs v = length jobs + count_by is_submit v.rows

pub landed_count : (jobs : List StoredJob) (v new : CommandsValue) (list left : List Refused) (id : Option ℕ) (number birth : ℕ) (post : Post) → id ≡ id_posted (Some post) → IsNamed v birth (Some post) → IsLanded (command_of post) id number v new list left
    → all (jobs_after post jobs) new ≤ all jobs v
landed_count jobs v new list left id number birth (Submits x) is named landed =
    let at : LandsSubmission x.command x.id number v new = subst (λ i. LandsAs i x.command number v new) is landed.0 in
    let fewer = count_submitted x.command number v.rows new.rows at.rows named.row named.known named.named named.waits in
    let more = length_submitted x jobs in
    omega (arith, fewer, more)
landed_count jobs v new list left id number birth (Does due) is named landed = does due.command landed
  where
    does : (o : Option By) → IsLanded o id number v new list left → all (jobs_after (Does due) jobs) new ≤ all jobs v
    does None l =
        let same : count_by is_submit new.rows ≡ count_by is_submit v.rows = ap (λ c. count_by is_submit c.rows) l.0 in
        let len = length_done due jobs in
        omega (arith, same, len)
    does (Some by) l =
        let at : LandsEvent by number v new = subst (λ i. LandsAs i by number v new) is l.0 in
        let fewer = count_carried by number v.rows new.rows at.rows in
        let len = length_done due jobs in
        omega (arith, fewer, len)

pub landed_size : (v new : CommandsValue) (list left : List Refused) (id : Option ℕ) (number : ℕ) (o : Option By) → IsLanded o id number v new list left → new.issued ≡ v.issued
landed_size v new list left id number None l = ap (λ c. c.issued) l.0
landed_size v new list left (Some id) number (Some by) l = l.0.size
landed_size v new list left None number (Some by) l = l.0.size

pub landed_marks : (v new : CommandsValue) (list left : List Refused) (id : Option ℕ) (number : ℕ) (o : Option By) → IsLanded o id number v new list left → new.marks ≡ v.marks
landed_marks v new list left id number None l = ap (λ c. c.marks) l.0
landed_marks v new list left (Some id) number (Some by) l = l.0.marks
landed_marks v new list left None number (Some by) l = l.0.marks

pub landed_drawn : (v new : CommandsValue) (list left : List Refused) (id : Option ℕ) (number submitted : ℕ) (o : Option By) → IsLanded o id number v new list left → ((rank : ℕ) → rank < length v.issued → slice_index v.issued rank ≤ submitted) → (rank : ℕ) → rank < length new.issued → slice_index new.issued rank ≤ submitted
landed_drawn v new list left id number submitted o l h =
    subst (λ issued. (rank : ℕ) → rank < length issued → slice_index issued rank ≤ submitted) (sym (landed_size v new list left id number o l)) h

pub landed_time : (v new : CommandsValue) (list left : List Refused) (id : Option ℕ) (number birth now span : ℕ) (o : Option By) → IsLanded o id number v new list left → AreInTime v birth now span → AreInTime new birth now span
landed_time v new list left id number birth now span None l h = subst (λ c. AreInTime c birth now span) (sym l.0) h
landed_time v new list left (Some id) number birth now span (Some by) l h = carried_in_time v new by number birth now span l.0.rows h
landed_time v new list left None number birth now span (Some by) l h = carried_in_time v new by number birth now span l.0.rows h

pub landed_children : (v new : CommandsValue) (list left : List Refused) (id : Option ℕ) (number : ℕ) (o : Option By) → IsLanded o id number v new list left → new.children ≡ v.children
landed_children v new list left id number None l = ap (λ c. c.children) l.0
landed_children v new list left (Some id) number (Some by) l = l.0.children
landed_children v new list left None number (Some by) l = l.0.children

-- ---- the whole step

-- a command that shuts the instance down asks for no event, and submits nothing
no_event : (asked : Option Asks) (a : Asks) → asked ≡ Some a → AsksForEvent a → asked ≢ Some rules.Shutdown
no_event asked a is event same = (let e : Some a ≡ Some rules.Shutdown = sym is ∙ same in let there : a ≡ rules.Shutdown = cc in subst AsksForEvent there event)

no_submission : (asked : Option Asks) (label : List ℕ) (urgency : ℕ) (needs : List rules.Named) (text : List ℕ) → asked ≡ Some (rules.Submit label urgency needs text) → asked ≢ Some rules.Shutdown
no_submission asked label urgency needs text is same = (let e : Some (rules.Submit label urgency needs text) ≡ Some rules.Shutdown = sym is ∙ same in cc)

log_split : (log : Log) (before behind : List KvsEvent) (e : KvsEvent) → log ++ map happening (before ++ e ∷ behind) ≡ ((log ++ map happening before) ++ happening e ∷ []) ++ map happening behind
log_split log before behind e =
    ap (λ l. log ++ l) (map-append happening before (e ∷ behind))
    ∙ sym (append_assoc log (map happening before) (map happening (e ∷ behind)))
    ∙ sym (append_assoc (log ++ map happening before) (happening e ∷ []) (map happening behind))

module _ (v : JobServiceValue) (inst : Instance) (log : Log) (a : AgreesJobs v inst log) (manager : ManagerValue) (step : KvsStep) (events : List KvsEvent)
    (makes : core.Makes step v.manager.core manager.core events) (l : Lands v.manager manager events) (p : LandsPost inst l.post events)
    (commands : CommandsValue) (refused : List Refused) (id : Option ℕ) where
  abbrev jobs : List StoredJob
  jobs = v.manager.book.jobs

  abbrev desk : Desk
  desk = desk_of v.commands inst log jobs

  abbrev before : Log
  before = log ++ map happening p.before

  abbrev there : Log
  there = before ++ lands_at p.number p.authors p.groups ∷ []

  facts_before : Facts v.commands v.refused v.second inst before
  facts_before = besides_facts v.commands v.refused v.second inst p.before log p.earlier (facts v inst log a)

  -- the commands, the refusals and the labels once the post has landed
  record After (post : Post) : Type 0 where
    facts : Facts commands refused v.second inst there
    labelled : AreLabelled commands.labels (jobs_after post jobs)

  some_asks : {A : Type 0} (o : Option A) (x : A) → o ≡ Some x → IsSome o
  some_asks o x e = subst IsSome (sym e) refl

  lands_event : (due : Due) (o : Option By) → due.command ≡ o → IsDuePost desk (Does due) → CarriesFor inst (Does due) p.number p.authors p.groups o → id ≡ None → IsLanded o id p.number v.commands commands v.refused refused → After (Does due)
  lands_event due None e d carries is landed = record {
    facts = subst (λ r. Facts commands r v.second inst there) (sym landed.1)
        (subst (λ c. Facts c v.refused v.second inst there) (sym landed.0)
        (served_facts v.commands v.refused v.second inst before (service.Happened (event.Landed primary p.number p.authors p.groups)) carries facts_before));
    labelled = λ job c. elim (ids_after (Does due) jobs job c) [
      | inl old ↦ subst (λ c. AreLabelled c.labels jobs) (sym landed.0) a.labelled job old
      | inr e ↦ absurd (let wrong : None ≡ Some job = e in cc)
    ];
  }
  lands_event due (Some by) e d carries is landed =
      let at : LandsEvent by p.number v.commands commands = subst (λ i. LandsAs i by p.number v.commands commands) is landed.0 in
      let w = event_open v.commands inst log jobs a.commands due by d e in
      let pending = pending_kept inst by (some_asks (inst.asks by) w.ask w.asks) p.before log p.earlier w.pending in
      let agrees = at.agrees inst before (group_of (Does due)) p.authors p.groups w.ask facts_before.commands w.asks w.event carries in
      record {
        facts = subst (λ r. Facts commands r v.second inst there) (sym landed.1)
            (landed_facts v.commands commands v.refused v.second inst before by (group_of (Does due)) p.authors p.groups p.number carries facts_before pending.waits.issued (no_event (inst.asks by) w.ask w.asks w.event) agrees);
        labelled = λ job c. elim (ids_after (Does due) jobs job c) [
          | inl old ↦ labelled_still v.commands commands inst before (lands_at p.number p.authors p.groups) jobs facts_before.commands agrees a.labelled job old
          | inr e ↦ absurd (let wrong : None ≡ Some job = e in cc)
        ];
      }

  same_id : (x y : ℕ) → Some x ≡ Some y → x ≡ y
  same_id x y e = cc

  lands : (post : Post) → IsDuePost desk post → Carries inst post p.number p.authors p.groups → id ≡ id_posted (Some post) → IsNamed v.commands v.birth (Some post) → IsLanded (command_of post) id p.number v.commands commands v.refused refused → After post
  lands (Does due) d carries is named landed = lands_event due due.command refl d carries is landed
  lands (Submits x) d carries is named landed =
      let o = submit_open v.commands inst log jobs a.commands x d in
      let at : LandsSubmission x.command x.id p.number v.commands commands = subst (λ i. LandsAs i x.command p.number v.commands commands) is landed.0 in
      let pending = pending_kept inst x.command (some_asks (inst.asks x.command) _ o.asks) p.before log p.earlier o.pending in
      let agrees = at.agrees inst before (group_of (Submits x)) p.authors p.groups o.label o.urgency o.needs x.text facts_before.commands a.kind.unique pending o.asks (subst (λ b. IsIdOf v.commands b x.command x.id) (sym a.kind.birth) named) carries o.begins in
      record {
        facts = subst (λ r. Facts commands r v.second inst there) (sym landed.1)
            (landed_facts v.commands commands v.refused v.second inst before x.command (group_of (Submits x)) p.authors p.groups p.number carries facts_before pending.waits.issued (no_submission (inst.asks x.command) o.label o.urgency o.needs x.text o.asks) agrees);
        labelled = λ job c. elim (ids_after (Submits x) jobs job c) [
          | inl old ↦ labelled_still v.commands commands inst before (lands_at p.number p.authors p.groups) jobs facts_before.commands agrees a.labelled job old
          | inr e ↦ (
            o.label,
            (agrees.labels o.label job).1 (record {
              by = x.command;
              urgency = o.urgency;
              needs = o.needs;
              text = x.text;
              asks = o.asks;
              landed = (p.number, now_begun inst x.command (group_of (Submits x)) p.authors p.groups p.number carries before job (subst (Begins (group_of (Submits x))) (same_id x.id job e) o.begins));
            }),
          )
        ];
      }

  module _ (is : id ≡ id_posted v.manager.posted) (named : IsNamed v.commands v.birth v.manager.posted) (landed : IsLanded (command_of l.post) id p.number v.commands commands v.refused refused) where
    after : After l.post
    after =
        lands l.post (posted-due v.manager.posted v.found desk a.owes l.post l.waited) p.carries (is ∙ ap id_posted l.waited) (subst (IsNamed v.commands v.birth) l.waited named) landed

    pub landed_counted : all manager.book.jobs commands ≤ all jobs v.commands
    landed_counted =
        subst (λ b. all b.jobs commands ≤ all jobs v.commands) (sym l.book)
        (landed_count jobs v.commands commands v.refused refused id p.number v.birth l.post (is ∙ ap id_posted l.waited) (subst (IsNamed v.commands v.birth) l.waited named) landed)

    abbrev later : Log
    later = log ++ map happening events

    pub facts_later : Facts commands refused v.second inst later
    facts_later =
        subst (Facts commands refused v.second inst) (sym (ap (λ es. log ++ map happening es) p.split ∙ log_split log p.before p.behind (event.Landed primary p.number p.authors p.groups)))
        (besides_facts commands refused v.second inst p.behind there p.later after.facts)

    pub later_judged : AreJudged v.terms.limits v.commands jobs v.refused → AreJudged v.terms.limits commands manager.book.jobs refused
    later_judged h =
        judged_landed v.commands commands jobs manager.book.jobs v.refused refused id p.number (command_of l.post) landed
        (labels_kept v.commands commands inst log (map happening events) a.commands facts_later.commands)
        (subst (λ b. KeepJobs jobs b.jobs) (sym l.book) (jobs_kept l.post jobs)) h

    labelled_later : AreLabelled commands.labels manager.book.jobs
    labelled_later = subst (λ b. AreLabelled commands.labels b.jobs) (sym l.book) after.labelled

    pub landed_agrees : (spent : Bool) (found : Option Post) → Each (λ j. j.id < 2 ^ 64) manager.book.jobs → 1000 * (v.second - v.birth) < 2 ^ 40 → length commands.issued ≤ 32 → MadeAreDue → UnmadeAreNot
        → IsFoundBeside v.terms manager.posted commands manager.book v.second v.birth found → AgreesJobs (with_parts v spent manager commands refused found v.submitted) inst later
    landed_agrees spent found smalls soon short made-due unmade-not h =
        let same = service_all events log in
        let of : IsBookOf inst manager.book = same-book inst v.manager.book manager.book (ap (λ b. b.grant) l.book) (ap (λ b. b.policy) l.book) a.kind.book in
        joined v inst log a spent manager commands refused found v.submitted later (fed_events v.feeds inst events log a.fed) of
        (subst (Agrees manager.core inst.service) (sym same) (makes.agrees inst.service (service_of log) a.core))
        (subst (IsLegalLog inst.service) (sym same) (legal_joined inst.service [] (service_of log) (map service.Happened events) a.legal (makes.legal inst.service (service_of log) a.core)))
        labelled_later
        (beside-owes v.terms commands manager.book v.second v.birth inst later facts_later.commands a.kind.valid facts_later.second a.kind.terms a.kind.birth of
        labelled_later smalls soon short made-due unmade-not manager.posted found
        (λ post e. absurd (let wrong : None ≡ Some post = sym l.posted ∙ e in cc)) h)
        facts_later

-- What open commands wait for where nothing can go on.
use Rattle.std.proofs.Common.{◌≡◌, ◌≢◌, ℕ, ◌+◌, ◌-◌, ◌<◌, ◌≤◌, ◌⊎◌, inl, inr, List, [], ◌∷◌, ◌++◌, map, Bool, true, false, ◌&&◌, ◌||◌, not, Option, Some, None, IsSome, Contains, cond, refl, sym, ap, ap₂, ◌∙◌, subst, arith, true≢false}
use Rattle.std.specs.Prelude.{filter_map, find, is_some, nat_le, option_and_then, option_map, unwrap_or}
use Rattle.std.specs.List.{list_any}
use Rattle.std.specs.Option.{option_map_or}
use Rattle.std.proofs.lemmas.Bool.{and_from, cases_lt, eqb-false, le-leb, or_parts}
use Rattle.instance_rules.specs.Desks.{HasBegun}
use Rattle.instance_rules.specs.Family.{IsLeftAdvance, Living}
use Rattle.instance_rules.specs.Log as rules
use Rattle.instance_rules.specs.Log.{Instance, IsOpen, JobAsk as Asks, Key as Part, Log, before_issue, now_of, service_of}
use Rattle.job_clock.proofs.Targets.{to_kept}
use Rattle.job_clock.specs.Standing.{IsLiving}
use Rattle.job_commands.proofs.Desks.{there_and_back}
use Rattle.job_commands.proofs.Logs.{same_self}
use Rattle.job_commands.proofs.Tables.{found, not_found}
use Rattle.job_commands.specs.Agrees.{StageAgrees}
use Rattle.job_commands.specs.Asks.{named_of, told}
use Rattle.job_commands.specs.Children.{all_children}
use Rattle.job_commands.specs.Desks.{asked_at, asked_by, asked_in, asked_of}
use Rattle.job_commands.specs.Rows.{Labels, job_at}
use Rattle.job_commands.specs.declared.ask.JobAsk.{JobAsk}
use Rattle.job_commands.specs.declared.ask.JobAsk.TheVariants as ask
use Rattle.job_commands.specs.declared.ask.Key.TheVariants as key
use Rattle.job_commands.specs.declared.ask.Named.{Named}
use Rattle.job_commands.specs.declared.row.Row.{Row}
use Rattle.job_commands.specs.declared.row.Stage.{Stage}
use Rattle.job_commands.specs.declared.row.Stage.TheVariants as stage
use Rattle.job_replies.specs.Ready.{fits, has_run, is_answered, is_ending, is_inactive, is_late_raise, is_ready, is_ready_at, job_in}
use Rattle.job_deeds.proofs.job_rules_proofs.Among.{Among, among_from, among_left, contains_from}
use Rattle.job_deeds.specs.job_states.Table.{is_state}
use Rattle.job_deeds.specs.job_states.declared.job.State.{State}
use Rattle.job_deeds.specs.job_states.declared.job.State.TheVariants as state
use Rattle.kvs_core.specs.Seen.{primary_heard}
use Rattle.kvs_rules.proofs.Logs.{landed_push, landed_rises, own_number}
use Rattle.kvs_rules.specs.Answers.{IsLegalLog}
use Rattle.kvs_rules.specs.Brokers.{heard}
use Rattle.kvs_rules.specs.Log as service
use Rattle.kvs_rules.specs.Log.{same_command}
use Rattle.kvs_rules.specs.Namespaces.{Setting, landed, primary}
use Rattle.kvs_rules.specs.Quiet.{AreAllTold}
use Rattle.kvs_rules.specs.declared.events.KvsEvent.TheVariants as event
use Rattle.job_deeds.specs.kvs_model.Store.{Name}
use Rattle.job_deeds.specs.kvs_txn.declared.txn.By.{By}
use Rattle.job_deeds.specs.kvs_txn.declared.txn.Group.{Group}
use Rattle.job_deeds.specs.manager_rules.Deeds.{Carries, Deed, Validates, due_of}
use Rattle.job_deeds.specs.manager_rules.Due.{MayCarry, MayDo}
use Rattle.job_deeds.specs.manager_rules.Jobs.{StoredJob}
use Rattle.job_deeds.specs.manager_rules.Scene.{Scene}
use Rattle.job_deeds.specs.manager_rules.declared.asked.Asked.{Asked}
use Rattle.job_deeds.specs.manager_rules.declared.asked.Asked.TheVariants as asked
use Rattle.job_service.specs.declared.refusals.Refused.{Refused}
use Rattle.job_service.specs.Agrees.{AgreesJobs}
use Rattle.job_service.specs.Due.{IsFound, IsFoundBeside, scene_now}
use Rattle.job_service.specs.Judged.{CanBeMade, WasRefused}
use Rattle.job_service.specs.Refusals.{fault_for, is_refusal_of, row_in}
use Rattle.job_service.specs.Replies.{has_come, is_ready_in, is_undone}
use Rattle.job_service.specs.Watching.{watched_by}
use Rattle.job_service.specs.Still.{IsStill, awaited, awaited_by, unless_over}
use Rattle.job_service.specs.Value.{JobServiceValue}
use Rattle.job_service.specs.View.{IsFit}
use Rattle.job_submissions.specs.Made.{Submits}
use Rattle.job_service.proofs.Calls.{rank_within}
use Rattle.job_service.proofs.Resting.{IsNamedBy, job_named}
use Rattle.job_service.proofs.Ticking.{free_parts}

-- ---- numbers of landings

record Split {A : Type 0} (xs : List A) (x : A) : Type 0 where
  before : List A
  after : List A
  is : xs ≡ (before ++ x ∷ []) ++ after

split_at : {A : Type 0} (xs : List A) (x : A) → Among x xs → Split xs x
split_at [] x i = absurd i
split_at (y ∷ ys) x (inl e) = record { before = []; after = ys; is = ap (λ z. z ∷ ys) e }
split_at (y ∷ ys) x (inr i) = let r = split_at ys x i in record { before = y ∷ r.before; after = r.after; is = ap (λ zs. y ∷ zs) r.is }

-- no landing has a number above that of the last
number_below : (set : Setting) (space : Name) (log : service.Log) → IsLegalLog set log → (number : ℕ) (authors : List (Option By)) (groups : List Group) → Contains log (service.Happened (event.Landed space number authors groups)) → number ≤ landed log space
number_below set space log legal number authors groups c =
    let m : service.Moment = service.Happened (event.Landed space number authors groups) in
    let s = split_at log m (among_from log m c) in
    let rises = landed_rises set space (s.before ++ m ∷ []) s.after (subst (IsLegalLog set) s.is legal) in
    let here : landed (s.before ++ m ∷ []) space ≡ number = landed_push s.before m space ∙ ap (λ o. unwrap_or o (landed s.before space)) (own_number space number authors groups) in
    subst (λ g. number ≤ landed g space) (sym s.is) (subst (λ n. n ≤ landed ((s.before ++ m ∷ []) ++ s.after) space) here rises)

-- ---- refusals

refused_found : (by : By) (list : List Refused) (r : Refused) → Among r list → r.by ≡ by → is_some (fault_for list by) ≡ true
refused_found by [] r i same = absurd i
refused_found by (x ∷ list) r i same = at (is_refusal_of by x) refl i (λ later. refused_found by list r later same)
  where
    at : (b : Bool) → is_refusal_of by x ≡ b → Among r (x ∷ list) → (Among r list → is_some (fault_for list by) ≡ true) → is_some (option_map (λ y. y.fault) (cond b (Some x) (find (is_refusal_of by) list))) ≡ true
    at true t j more = refl
    at false t (inl e) more = absurd (true≢false (sym (same_self by) ∙ ap (same_command by) (sym (ap (λ y. y.by) e ∙ same)) ∙ t))
    at false t (inr later) more = more later

-- ---- what a job in a state lets a command do

may_cancel : (j : StoredJob) (by : By) (where_ : State) → j.job.state ≡ where_ → is_ending where_ ≡ false → (j.job.state ≡ state.New) ⊎ MayCarry j (asked.Cancel by j.id)
may_cancel j by state.New is e = inl is
may_cancel j by state.Depend is e = inr (refl, ap (λ s. list_any (is_state s) (state.Depend ∷ state.Priority ∷ state.Sched ∷ state.Run ∷ state.Cleanup ∷ [])) is, λ wrong. (let x : state.Depend ≡ state.Cleanup = sym is ∙ wrong in cc))
may_cancel j by state.Priority is e = inr (refl, ap (λ s. list_any (is_state s) (state.Depend ∷ state.Priority ∷ state.Sched ∷ state.Run ∷ state.Cleanup ∷ [])) is, λ wrong. (let x : state.Priority ≡ state.Cleanup = sym is ∙ wrong in cc))
may_cancel j by state.Sched is e = inr (refl, ap (λ s. list_any (is_state s) (state.Depend ∷ state.Priority ∷ state.Sched ∷ state.Run ∷ state.Cleanup ∷ [])) is, λ wrong. (let x : state.Sched ≡ state.Cleanup = sym is ∙ wrong in cc))
may_cancel j by state.Run is e = inr (refl, ap (λ s. list_any (is_state s) (state.Depend ∷ state.Priority ∷ state.Sched ∷ state.Run ∷ state.Cleanup ∷ [])) is, λ wrong. (let x : state.Run ≡ state.Cleanup = sym is ∙ wrong in cc))
may_cancel j by state.Cleanup is e = cc
may_cancel j by state.Inactive is e = cc

may_raise : (j : StoredJob) (by : By) (kind note : List ℕ) (severity : ℕ) (where_ : State) → j.job.state ≡ where_ → is_late_raise severity where_ ≡ false → (j.job.state ≡ state.New) ⊎ MayCarry j (asked.Raise by j.id kind severity note)
may_raise j by kind note severity state.New is e = inl is
may_raise j by kind note severity state.Depend is e = inr (refl, ap (λ s. list_any (is_state s) (state.Depend ∷ state.Priority ∷ state.Sched ∷ state.Run ∷ state.Cleanup ∷ [])) is, λ zero wrong. (let x : state.Depend ≡ state.Cleanup = sym is ∙ wrong in cc))
may_raise j by kind note severity state.Priority is e = inr (refl, ap (λ s. list_any (is_state s) (state.Depend ∷ state.Priority ∷ state.Sched ∷ state.Run ∷ state.Cleanup ∷ [])) is, λ zero wrong. (let x : state.Priority ≡ state.Cleanup = sym is ∙ wrong in cc))
may_raise j by kind note severity state.Sched is e = inr (refl, ap (λ s. list_any (is_state s) (state.Depend ∷ state.Priority ∷ state.Sched ∷ state.Run ∷ state.Cleanup ∷ [])) is, λ zero wrong. (let x : state.Sched ≡ state.Cleanup = sym is ∙ wrong in cc))
may_raise j by kind note severity state.Run is e = inr (refl, ap (λ s. list_any (is_state s) (state.Depend ∷ state.Priority ∷ state.Sched ∷ state.Run ∷ state.Cleanup ∷ [])) is, λ zero wrong. (let x : state.Run ≡ state.Cleanup = sym is ∙ wrong in cc))
may_raise j by kind note severity state.Cleanup is e = inr (refl, ap (λ s. list_any (is_state s) (state.Depend ∷ state.Priority ∷ state.Sched ∷ state.Run ∷ state.Cleanup ∷ [])) is, λ zero wrong. eqb-false severity 0 e zero)
may_raise j by kind note severity state.Inactive is e = cc

may_urge : (j : StoredJob) (by : By) (urgency : ℕ) (where_ : State) → j.job.state ≡ where_ → has_run where_ ≡ false → (j.job.state ≡ state.New) ⊎ MayCarry j (asked.Urgency by j.id urgency)
may_urge j by urgency state.New is e = inl is
may_urge j by urgency state.Depend is e = inr (refl, ap (λ s. list_any (is_state s) (state.Depend ∷ state.Priority ∷ state.Sched ∷ [])) is)
may_urge j by urgency state.Priority is e = inr (refl, ap (λ s. list_any (is_state s) (state.Depend ∷ state.Priority ∷ state.Sched ∷ [])) is)
may_urge j by urgency state.Sched is e = inr (refl, ap (λ s. list_any (is_state s) (state.Depend ∷ state.Priority ∷ state.Sched ∷ [])) is)
may_urge j by urgency state.Run is e = cc
may_urge j by urgency state.Cleanup is e = cc
may_urge j by urgency state.Inactive is e = cc

-- ---- the commands

-- the job of the label stands there, and its state doesn't answer the command
record IsUnanswered (labels : Labels) (jobs : List StoredJob) (asks : JobAsk) (label : List ℕ) : Type 0 where
  j : StoredJob
  there : job_in labels jobs label ≡ Some j
  named : IsNamedBy labels jobs label j
  fails : fits asks j.job.state ≡ false

unanswered : (labels : Labels) (jobs : List StoredJob) (x : JobAsk) (label : List ℕ) → is_answered labels jobs x label ≡ false → IsUnanswered labels jobs x label
unanswered labels jobs x label e = at (job_in labels jobs label) refl e
  where
    at : (o : Option StoredJob) → job_in labels jobs label ≡ o → option_map_or (fits x) (option_map (λ j. j.job.state) o) true ≡ false → IsUnanswered labels jobs x label
    at None f e = absurd (true≢false e)
    at (Some j) f e = record { j = j; there = f; named = job_named labels jobs label j f; fails = e }

still_over : (s : State) → is_inactive s ≡ false → IsSome (unless_over s)
still_over s e = subst (λ b. IsSome (cond b None (Some s))) (sym e) refl

module _ (v : JobServiceValue) (i : IsFit v) (inst : Instance) (log : Log) (a : AgreesJobs v inst log) (still : IsStill v) where
  unposted : v.manager.posted ≡ None
  unposted = (free_parts v still.due).0

  abbrev labels : Labels
  labels = v.commands.labels

  abbrev jobs : List StoredJob
  jobs = v.manager.book.jobs

  abbrev scene : Scene
  scene = scene_now v.terms v.commands v.manager.book v.second

  nothing : IsFound v.terms v.commands v.manager.book v.second v.birth None
  nothing =
      subst (λ f. IsFoundBeside v.terms None v.commands v.manager.book v.second v.birth f) (free_parts v still.due).1
      (subst (λ p. IsFoundBeside v.terms p v.commands v.manager.book v.second v.birth v.found) unposted i.sought)

  none_due : (j : StoredJob) → Contains jobs j → (deed : Deed) → MayDo scene j deed → ⊥
  none_due j known deed may = nothing.1 (due_of v.second j deed) (record { j = j; known = known; deed = deed; may = may; is = refl })

  neither : (by : By) → (is_some (fault_for v.refused by) || is_ready_in v by) ≡ false
  neither by = sym (ap (λ p. not (is_some p && option_map_or is_undone (row_in v.commands by) false) && (is_some (fault_for v.refused by) || is_ready_in v by)) unposted) ∙ still.untold by

  -- a command that asks for an event is to be carried out
  none_asked : (row : Row) → Contains v.commands.rows row → (one : Asked) → asked_in labels row ≡ Some one → (j : StoredJob) → Contains jobs j → (j.job.state ≡ state.New) ⊎ MayCarry j one → ⊥
  none_asked row known one is j stands (inl new) = none_due j stands Validates new
  none_asked row known one is j stands (inr may) =
      none_due j stands (Carries one) (contains_from (asked_of v.commands) one (among_left (filter_map (asked_in labels) v.commands.rows) (all_children v.commands.children) one (to_kept (asked_in labels) v.commands.rows row one (among_from v.commands.rows row known) is)), may)

  asks_so : (row : Row) (x : JobAsk) → row.ask ≡ x → row.stage ≡ stage.Waits → asked_in labels row ≡ asked_by labels row.by x
  asks_so row x e w = ap (asked_at labels row.by row.ask) w ∙ ap (asked_by labels row.by) e

  module _ (told_all : AreAllTold inst.service (service_of log)) (hears : (broker : ℕ) → broker < v.manager.core.size → heard (service_of log) broker primary ≡ Some (primary_heard v.manager.core broker)) where
    heard_last : (rank : ℕ) → rank < v.manager.core.size → primary_heard v.manager.core rank ≡ landed (service_of log) primary
    heard_last rank within =
        let h = hears rank within in
        let t = told_all rank primary (subst (λ n. rank < n) (sym a.core.size) within) (subst IsSome (sym h) refl) in
        same (sym h ∙ t)
      where
        same : {x y : ℕ} → Some x ≡ Some y → x ≡ y
        same e = cc

    -- the job whose result is asked for isn't over, or the second of an advance hasn't come
    abbrev IsLeftBy : Row → JobAsk → Type 0
    IsLeftBy row x = IsSome (awaited_by labels jobs x) ⊎ ((seconds : ℕ) × (x ≡ ask.Advance seconds) × (v.second < row.issued + seconds))

    -- what is asked and not carried out
    waiting_left : (row : Row) → Contains v.commands.rows row → (x : JobAsk) → row.ask ≡ x → row.stage ≡ stage.Waits → is_some (fault_for v.refused row.by) ≡ false → is_ready_at labels v.manager v.second (record row { ask = x }) stage.Waits ≡ false → IsLeftBy row x
    waiting_left row known (ask.Submit label urgency named text) e w unrefused unready = at (i.judged row urgency named text known asks)
      where
        asks : Submits row urgency named text
        asks = record { waits = w; label = label; asks = e }

        at : WasRefused v.refused row.by ⊎ CanBeMade v.terms.limits labels jobs named text → IsLeftBy row (ask.Submit label urgency named text)
        at (inl r) = absurd (true≢false (sym (refused_found row.by v.refused r.one (among_from v.refused r.one r.known) r.named) ∙ unrefused))
        at (inr m) = absurd (nothing.0 row known urgency named text m.spec m.needs asks m.accepted)
    waiting_left row known (ask.Cancel label) e w unrefused unready =
        let u = unanswered labels jobs (ask.Cancel label) label unready in
        absurd (none_asked row known (asked.Cancel row.by u.j.id) (asks_so row (ask.Cancel label) e w ∙ ap (option_map (asked.Cancel row.by)) u.named.names) u.j u.named.known (may_cancel u.j row.by u.j.job.state refl u.fails))
    waiting_left row known (ask.Raise label kind severity note) e w unrefused unready =
        let u = unanswered labels jobs (ask.Raise label kind severity note) label unready in
        absurd (none_asked row known (asked.Raise row.by u.j.id kind severity note) (asks_so row (ask.Raise label kind severity note) e w ∙ ap (option_map (λ job. asked.Raise row.by job kind severity note)) u.named.names) u.j u.named.known (may_raise u.j row.by kind note severity u.j.job.state refl u.fails))
    waiting_left row known (ask.Urge label urgency) e w unrefused unready =
        let u = unanswered labels jobs (ask.Urge label urgency) label unready in
        absurd (none_asked row known (asked.Urgency row.by u.j.id urgency) (asks_so row (ask.Urge label urgency) e w ∙ ap (option_map (λ job. asked.Urgency row.by job urgency)) u.named.names) u.j u.named.known (may_urge u.j row.by urgency u.j.job.state refl u.fails))
    waiting_left row known (ask.StateOf label) e w unrefused unready = absurd (true≢false (unanswered labels jobs (ask.StateOf label) label unready).fails)
    waiting_left row known (ask.Info label k) e w unrefused unready = absurd (true≢false (unanswered labels jobs (ask.Info label k) label unready).fails)
    waiting_left row known ask.Jobs e w unrefused unready = absurd (true≢false unready)
    waiting_left row known (ask.Why label) e w unrefused unready = absurd (true≢false (unanswered labels jobs (ask.Why label) label unready).fails)
    waiting_left row known (ask.ResultOf label) e w unrefused unready =
        let u = unanswered labels jobs (ask.ResultOf label) label unready in
        inl (subst (λ o. IsSome (option_and_then unless_over (option_map (λ j. j.job.state) o))) (sym u.there) (still_over u.j.job.state u.fails))
    waiting_left row known (ask.Watch label) e w unrefused unready =
        let u = unanswered labels jobs (ask.Watch label) label unready in
        inl (subst (λ o. IsSome (option_map (λ j. j.job.state) o)) (sym u.there) refl)
    waiting_left row known (ask.Advance seconds) e w unrefused unready = inr (
      seconds,
      refl,
      elim (cases_lt v.second (row.issued + seconds)) [
        | inl ahead ↦ ahead
        | inr low ↦ absurd (true≢false (sym (and_from (nat_le row.issued v.second) (nat_le seconds (v.second - row.issued)) (le-leb row.issued v.second (omega (arith, low))) (le-leb seconds (v.second - row.issued) (omega (arith, low)))) ∙ unready))
      ],
    )

    -- what a landing has carried out
    landed_left : (row : Row) → Contains v.commands.rows row → (number : ℕ) (x : JobAsk) → row.ask ≡ x → StageAgrees log row.by x (stage.Landed number) → is_ready_at labels v.manager v.second (record row { ask = x }) (stage.Landed number) ≡ false → IsLeftBy row x
    landed_left row known number (ask.Submit label urgency named text) e staged unready =
        let r = a.commands.rows row known in
        let begun : HasBegun log row.by staged.1.0 number = staged.1.1 in
        let names = (a.commands.labels label staged.1.0).1 (record { by = row.by; urgency = urgency; needs = map named_of named; text = text; asks = r.asks ∙ ap (λ y. Some (told y)) e; landed = (number, begun) }) in
        let below = number_below inst.service primary (service_of log) a.legal number begun.authors begun.groups begun.landing in
        let last = heard_last row.rank (rank_within v inst log a row known) in
        absurd (true≢false (sym (and_from (is_some (job_at label labels)) (nat_le number (primary_heard v.manager.core row.rank)) (ap is_some names) (le-leb number (primary_heard v.manager.core row.rank) (omega (arith, below, last)))) ∙ unready))
    landed_left row known number (ask.Cancel label) e staged unready = absurd (true≢false unready)
    landed_left row known number (ask.Raise label kind severity note) e staged unready = absurd (true≢false unready)
    landed_left row known number (ask.Urge label urgency) e staged unready = absurd (true≢false unready)
    landed_left row known number (ask.StateOf label) e staged unready = absurd staged.1
    landed_left row known number (ask.Info label k) e staged unready = absurd staged.1
    landed_left row known number ask.Jobs e staged unready = absurd staged.1
    landed_left row known number (ask.Why label) e staged unready = absurd staged.1
    landed_left row known number (ask.ResultOf label) e staged unready = absurd staged.1
    landed_left row known number (ask.Watch label) e staged unready = absurd staged.1
    landed_left row known number (ask.Advance seconds) e staged unready = absurd staged.1

    row_left : (row : Row) → Contains v.commands.rows row → is_some (fault_for v.refused row.by) ≡ false → is_ready labels v.manager v.second row ≡ false → IsLeftBy row row.ask
    row_left row known unrefused unready = at row.stage refl (a.commands.rows row known).staged unready
      where
        at : (s : Stage) → row.stage ≡ s → StageAgrees log row.by row.ask s → is_ready_at labels v.manager v.second row s ≡ false → IsLeftBy row row.ask
        at stage.Waits w staged unready = waiting_left row known row.ask refl w unrefused unready
        at (stage.Landed number) w staged unready = landed_left row known number row.ask refl staged unready

    -- ---- an open command

    abbrev back : rules.Named → Named
    back n = record { scheme = n.scheme; label = n.label }

    record IsAsked (x : Asks) : Type 0 where
      asked : JobAsk
      is : told asked ≡ x

    part_asked : (label : List ℕ) (k : Part) → IsAsked (rules.Info label k)
    part_asked label rules.JobspecKey = record { asked = ask.Info label key.Jobspec; is = refl }
    part_asked label rules.RKey = record { asked = ask.Info label key.R; is = refl }
    part_asked label rules.LogKey = record { asked = ask.Info label key.Eventlog; is = refl }

    asked_as : (x : Asks) → x ≢ rules.Shutdown → IsAsked x
    asked_as (rules.Submit label urgency needs text) other = record { asked = ask.Submit label urgency (map back needs) text; is = ap (λ ns. rules.Submit label urgency ns text) (there_and_back needs) }
    asked_as (rules.Cancel label) other = record { asked = ask.Cancel label; is = refl }
    asked_as (rules.Raise label kind severity note) other = record { asked = ask.Raise label kind severity note; is = refl }
    asked_as (rules.Urge label urgency) other = record { asked = ask.Urge label urgency; is = refl }
    asked_as (rules.StateOf label) other = record { asked = ask.StateOf label; is = refl }
    asked_as (rules.Info label k) other = part_asked label k
    asked_as rules.Jobs other = record { asked = ask.Jobs; is = refl }
    asked_as (rules.Why label) other = record { asked = ask.Why label; is = refl }
    asked_as (rules.ResultOf label) other = record { asked = ask.ResultOf label; is = refl }
    asked_as (rules.Watch label) other = record { asked = ask.Watch label; is = refl }
    asked_as (rules.Advance seconds) other = record { asked = ask.Advance seconds; is = refl }
    asked_as rules.Shutdown other = absurd (other refl)

    module _ (l : Living) (lives : IsLiving inst log l) where
      open_left : (by : By) (x : Asks) → inst.asks by ≡ Some x → x ≢ rules.Shutdown → IsOpen by log → IsSome (awaited v by) ⊎ IsLeftAdvance l by
      open_left by x asks other waits = at (row_in v.commands by) refl (neither by)
        where
          advance_left : (row : Row) → Contains v.commands.rows row → row.by ≡ by → IsLeftBy row row.ask → IsSome (awaited_by labels jobs row.ask) ⊎ IsLeftAdvance l by
          advance_left row known same (inl over) = inl over
          advance_left row known same (inr (seconds, is, ahead)) =
              let r = a.commands.rows row known in
              let second = a.second in
              let issued : row.issued ≡ now_of inst (before_issue by log) = r.issued ∙ ap (λ b. now_of inst (before_issue b log)) same in
              let now : now_of l.inst l.log ≡ now_of inst log = ap₂ now_of lives.is lives.logged in
              let at_issue : now_of l.inst (before_issue by l.log) ≡ now_of inst (before_issue by log) = ap₂ (λ i g. now_of i (before_issue by g)) lives.is lives.logged in
              inr (record {
                seconds = seconds;
                asks = ap (λ i. i.asks by) lives.is ∙ subst (λ b. inst.asks b ≡ Some (rules.Advance seconds)) same (r.asks ∙ ap (λ y. Some (told y)) is);
                waits = subst (IsOpen by) (sym lives.logged) waits;
                ahead = omega (arith, second, issued, now, at_issue, ahead);
              })

          at : (o : Option Row) → row_in v.commands by ≡ o → (is_some (fault_for v.refused by) || option_map_or (has_come v) o false) ≡ false → IsSome (option_and_then (λ row. awaited_by labels jobs row.ask) o) ⊎ IsLeftAdvance l by
          at None e none =
              let t = asked_as x other in
              let row = a.commands.all by t.asked (asks ∙ ap Some (sym t.is)) waits in
              absurd (not_found by v.commands.rows e row.0 row.1 row.2)
          at (Some row) e none =
              let known = found by v.commands.rows row e in
              let both = or_parts (is_some (fault_for v.refused by)) (has_come v row) none in
              let unready = (or_parts (is_some (watched_by v.feeds row.by)) (is_ready labels v.manager v.second row) both.1).1 in
              advance_left row known.0 known.1 (row_left row known.0 (subst (λ b. is_some (fault_for v.refused b) ≡ false) (sym known.1) both.0) unready)

      pub left_open : (by : By) → IsSome (inst.asks by) → inst.asks by ≢ Some rules.Shutdown → IsOpen by log → IsSome (awaited v by) ⊎ IsLeftAdvance l by
      left_open by some other waits = at (inst.asks by) refl
        where
          at : (o : Option Asks) → inst.asks by ≡ o → IsSome (awaited v by) ⊎ IsLeftAdvance l by
          at None e = absurd (true≢false (sym (subst IsSome e some)))
          at (Some x) e = open_left by x e (λ same. other (e ∙ ap Some same)) waits

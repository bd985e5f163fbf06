-- A job service when time goes on, and when nothing is left to be done.
use Rattle.std.proofs.Common.{◌≡◌, ℕ, ◌-◌, ◌*◌, ◌^◌, ◌<◌, ◌≤◌, [], ◌∷◌, ◌++◌, length, Bool, true, false, ◌&&◌, ◌||◌, not, Option, Some, None, Contains, refl, sym, ap, ◌∙◌, subst, arith, true≢false}
use Rattle.std.specs.Prelude.{All, is_some, nat_le, nat_lt}
use Rattle.std.specs.List.{AllByRecursion as Each}
use Rattle.std.specs.Option.{option_map_or}
use Rattle.std.proofs.lemmas.Bool.{lt-ltb, ltb-true, or_parts, or_right}
use Rattle.instance_rules.specs.Family.{HasTarget, IsTarget, Living, OfLiving}
use Rattle.instance_rules.specs.Legal.{IsLegalMoment, OfDesk}
use Rattle.instance_rules.specs.Log.{Instance, Log, Ticked, before_issue, now_of, service_of}
use Rattle.job_book.specs.Contract.{seconds_left}
use Rattle.job_clock.proofs.Standing.{at_living, at_top, end_known, end_there, has_known, has_there, of_desk, pass_legal, target_here}
use Rattle.job_clock.proofs.Targets.{reached_row}
use Rattle.job_clock.specs.Standing.{IsLiving, IsTop, PassesNone, StandsWith}
use Rattle.job_clock.specs.Targets.{IsReached, targets_of}
use Rattle.job_commands.proofs.Tables.{found, not_found}
use Rattle.job_commands.specs.Agrees.{AgreesCommands, StageAgrees}
use Rattle.job_commands.specs.Asks.{told}
use Rattle.job_commands.specs.Desks.{desk_of}
use Rattle.job_commands.specs.declared.ask.JobAsk.{JobAsk}
use Rattle.job_commands.specs.declared.ask.JobAsk.TheVariants as ask
use Rattle.job_commands.specs.declared.row.Row.{Row}
use Rattle.job_commands.specs.declared.row.Stage.{Stage}
use Rattle.job_commands.specs.declared.row.Stage.TheVariants as stage
use Rattle.job_manager.specs.Managed.{IsManaged}
use Rattle.job_replies.specs.Ready.{is_ready, is_ready_at}
use Rattle.job_deeds.proofs.job_rules_proofs.Among.{all_at, among_filter, among_from, among_kept, contains_from}
use Rattle.kvs_core.specs.Agrees.{Agrees}
use Rattle.kvs_core.specs.Posted.{newest_of}
use Rattle.kvs_rules.specs.Answers.{IsLegalLog}
use Rattle.kvs_rules.specs.Namespaces.{newest_store, primary}
use Rattle.job_deeds.specs.kvs_txn.declared.txn.By.{By}
use Rattle.job_deeds.specs.manager_rules.Posts.{Desk, Post}
use Rattle.job_deeds.specs.manager_rules.Times.{IsIdle, seconds_ahead}
use Rattle.job_service.specs.Agrees.{AgreesJobs}
use Rattle.job_service.specs.Children.{IsBearing, is_due}
use Rattle.job_service.specs.Due.{IsFoundBeside, Owes, OwesNothing}
use Rattle.job_service.specs.Refusals.{fault_for, row_in}
use Rattle.job_service.specs.Replies.{can_reply, has_come, is_ready_in, is_undone}
use Rattle.job_service.specs.Times.{MayPassTo, targets_left}
use Rattle.job_service.specs.Value.{JobServiceValue}
use Rattle.job_service.specs.View.{IsFit}
use Rattle.job_service.proofs.Bearing.{none_due, stands}
use Rattle.job_service.specs.Watching.{watched_by}
use Rattle.job_service.proofs.Feeding.{fed_kept}
use Rattle.job_service.proofs.Calls.{facts}
use Rattle.job_service.proofs.Facts.{ticked_facts, ticked_service}
use Rattle.job_service.proofs.Owing.{MadeAreDue, UnmadeAreNot, beside-owes}

-- the service at a later second
abbrev pub ticked_value : JobServiceValue → Bool → ℕ → Option Post → JobServiceValue
ticked_value v spent second later = record v { spent = spent; second = second; found = later }

-- the later second is near enough
pub then_soon : (v : JobServiceValue) → IsFit v → (second : ℕ) → MayPassTo v second → (v.birth ≤ second) × (1000 * (second - v.birth) < 2 ^ 40)
then_soon v i second may =
    let order = i.order in
    let above = may.passes.above in
    let near = may.near in
    (omega (arith, order, above), omega (arith, near))

none_of : {A : Type 0} (o : Option A) → is_some o ≡ false → o ≡ None
none_of None e = refl
none_of (Some x) e = absurd (true≢false e)

pub free_parts : (v : JobServiceValue) → is_due v ≡ false → (v.manager.posted ≡ None) × (v.found ≡ None) × (v.bearing ≡ None)
free_parts v free =
    let both = or_parts (is_some v.manager.posted || is_some v.found) (is_some v.bearing) free in
    let two = or_parts (is_some v.manager.posted) (is_some v.found) both.0 in
    (none_of v.manager.posted two.0, none_of v.found two.1, none_of v.bearing both.1)

module _ (v : JobServiceValue) (inst : Instance) (log : Log) (a : AgreesJobs v inst log) (m : IsManaged v.manager) (newest : newest_store inst.service (service_of log) primary ≡ Some (newest_of v.manager.core))
    (bears : IsBearing v.commands v.manager.book v.bearing) (unposted : v.manager.posted ≡ None) (unfound : v.found ≡ None) (unborn : v.bearing ≡ None) where
  abbrev desk : Desk
  desk = desk_of v.commands inst log v.manager.book.jobs

  idle : IsIdle desk
  idle = record {
    posts = (let o : OwesNothing desk = subst (λ f. Owes None f desk) unfound (subst (λ p. Owes p v.found desk) unposted a.owes) in o);
    births = none_due v inst log a (subst (IsBearing v.commands v.manager.book) unborn bears);
  }

  abbrev stand : StandsWith v.commands v.manager.book.jobs inst log
  stand = stands v inst log a m newest

  pub idle_now : OfDesk inst log IsIdle
  idle_now = of_desk v.commands v.manager.book.jobs inst log stand IsIdle idle

  module _ (second : ℕ) (may : MayPassTo v second) where
    passes : PassesNone (seconds_ahead desk.scene) (now_of inst log) second
    passes = subst (λ n. PassesNone (seconds_left n v.manager.book) n second) (sym a.second) may.passes

    pub ticks_legal : IsLegalMoment inst log (Ticked second)
    ticks_legal = pass_legal v.commands v.manager.book.jobs inst log stand second idle passes

  -- ---- no advance is left

  stands_for : (row : Row) (seconds : ℕ) (x : JobAsk) (s : Stage) → row.ask ≡ x → told x ≡ told (ask.Advance seconds) → StageAgrees log row.by x s → (x ≡ ask.Advance seconds) × (s ≡ stage.Waits)
  stands_for row seconds (ask.Advance other) stage.Waits is e h = (let same : ask.Advance other ≡ ask.Advance seconds = (let n : other ≡ seconds = cc in ap ask.Advance n) in same, refl)
  stands_for row seconds (ask.Advance other) (stage.Landed number) is e h = absurd h.1
  stands_for row seconds (ask.Submit label urgency needs text) s is e h = cc
  stands_for row seconds (ask.Cancel label) s is e h = cc
  stands_for row seconds (ask.Raise label kind severity note) s is e h = cc
  stands_for row seconds (ask.Urge label urgency) s is e h = cc
  stands_for row seconds (ask.StateOf label) s is e h = cc
  stands_for row seconds (ask.Info label key) s is e h = cc
  stands_for row seconds ask.Jobs s is e h = cc
  stands_for row seconds (ask.Why label) s is e h = cc
  stands_for row seconds (ask.ResultOf label) s is e h = cc
  stands_for row seconds (ask.Watch label) s is e h = cc

  -- the row that is found of the command of a reached advance is ready
  ready_at : (row : Row) → Contains v.commands.rows row → IsReached row v.second → (first : Row) → Contains v.commands.rows first → first.by ≡ row.by → is_ready v.commands.labels v.manager v.second first ≡ true
  ready_at row c reached first d same =
      let r = a.commands.rows row c in
      let f = a.commands.rows first d in
      let both : Some (told first.ask) ≡ Some (told row.ask) = sym f.asks ∙ ap inst.asks same ∙ r.asks in
      let one : told first.ask ≡ told (ask.Advance reached.seconds) = (let t : told first.ask ≡ told row.ask = cc in t ∙ ap told reached.asks) in
      let is = stands_for first reached.seconds first.ask first.stage refl one f.staged in
      let issued : first.issued ≡ row.issued = f.issued ∙ ap (λ b. now_of inst (before_issue b log)) same ∙ sym r.issued in
      ap (is_ready_at v.commands.labels v.manager v.second first) is.1
      ∙ ap (λ x. is_ready_at v.commands.labels v.manager v.second (record first { ask = x }) stage.Waits) is.0
      ∙ ap (λ n. nat_le n v.second && nat_le reached.seconds (v.second - n)) issued
      ∙ reached.passed

  can_be_told : (row : Row) → Contains v.commands.rows row → IsReached row v.second → can_reply v row.by ≡ true
  can_be_told row c reached = at (row_in v.commands row.by) refl
    where
      at : (o : Option Row) → row_in v.commands row.by ≡ o → can_reply v row.by ≡ true
      at None e = absurd (not_found row.by v.commands.rows e row c refl)
      at (Some first) e =
          let known = found row.by v.commands.rows first e in
          let ready : is_ready_in v row.by ≡ true = ap (λ o. option_map_or (has_come v) o false) e ∙ or_right (is_some (watched_by v.feeds first.by)) _ (ready_at row c reached first known.0 known.1) in
          ap (λ p. not (is_some p && option_map_or is_undone (row_in v.commands row.by) false) && (is_some (fault_for v.refused row.by) || is_ready_in v row.by)) unposted
          ∙ or_right (is_some (fault_for v.refused row.by)) (is_ready_in v row.by) ready

  none_known : All (λ target. target ≤ v.second) (targets_of v.commands) → ((by : By) → can_reply v by ≡ false) → (target : ℕ) → Contains (targets_of v.commands) target → ⊥
  none_known late untold target known =
      let low = all_at (λ n. n ≤ v.second) (targets_of v.commands) target late (among_from (targets_of v.commands) target known) in
      let r = reached_row v.commands v.second target known low in
      true≢false (sym (can_be_told r.0 r.1 r.2) ∙ untold r.0.by)

  pub none_left : All (λ target. target ≤ v.second) (targets_of v.commands) → ((by : By) → can_reply v by ≡ false) → (l : Living) → IsLiving inst log l → (target : ℕ) → HasTarget l target → ⊥
  none_left late untold l lives target t =
      at_living l inst log lives (λ i g. AgreesCommands v.commands i g → ⊥) (λ h. none_known late untold target (has_known v.commands l h target t)) a.commands

  pub none_left_alone : All (λ target. target ≤ v.second) (targets_of v.commands) → ((by : By) → can_reply v by ≡ false) → (l : Living) → IsTop inst log l → (target : ℕ) → IsTarget (l ∷ []) [] target → ⊥
  none_left_alone late untold l top target t =
      at_top l inst log top (λ i g. AgreesCommands v.commands i g → ⊥) (λ h. none_known late untold target (target_here v.commands l h target t)) a.commands

-- ---- among other instances

-- where nothing is due, its parts say so
pub idle_free : (v : JobServiceValue) (inst : Instance) (log : Log) → AgreesJobs v inst log → IsManaged v.manager → newest_store inst.service (service_of log) primary ≡ Some (newest_of v.manager.core) → IsBearing v.commands v.manager.book v.bearing → is_due v ≡ false → OfDesk inst log IsIdle
idle_free v inst log a m newest bears free =
    let p = free_parts v free in
    idle_now v inst log a m newest bears p.0 p.1 p.2

module _ (v : JobServiceValue) (inst : Instance) (log : Log) (a : AgreesJobs v inst log) where
  pub target_left : (l : Living) → IsLiving inst log l → (target : ℕ) → (HasTarget l target × (v.second < target) → Contains (targets_left v) target) × (Contains (targets_left v) target → HasTarget l target × (v.second < target))
  target_left l lives target = (
    λ t. contains_from (targets_left v) target (among_kept (λ n. nat_lt v.second n) (targets_of v.commands) target (among_from (targets_of v.commands) target (known t.0)) (lt-ltb v.second target t.1)),
    λ c.
        let both = among_filter (λ n. nat_lt v.second n) (targets_of v.commands) target (among_from (targets_left v) target c) in
        (open_ (contains_from (targets_of v.commands) target both.0), ltb-true v.second target both.1),
  )
    where
      known : HasTarget l target → Contains (targets_of v.commands) target
      known t = at_living l inst log lives (λ i g. AgreesCommands v.commands i g → Contains (targets_of v.commands) target) (λ h. has_known v.commands l h target t) a.commands

      open_ : Contains (targets_of v.commands) target → HasTarget l target
      open_ c = at_living l inst log lives (λ i g. AgreesCommands v.commands i g → HasTarget l target) (λ h. has_there v.commands l h target c) a.commands

  module _ (m : IsManaged v.manager) (newest : newest_store inst.service (service_of log) primary ≡ Some (newest_of v.manager.core)) where
    pub ends_left : (l : Living) → IsLiving inst log l → (second : ℕ) → (OfLiving l (λ d. Contains (seconds_ahead d.scene) second) → Contains (seconds_left v.second v.manager.book) second) × (Contains (seconds_left v.second v.manager.book) second → OfLiving l (λ d. Contains (seconds_ahead d.scene) second))
    ends_left l lives second =
        subst (λ n. (OfLiving l (λ d. Contains (seconds_ahead d.scene) second) → Contains (seconds_left n v.manager.book) second) × (Contains (seconds_left n v.manager.book) second → OfLiving l (λ d. Contains (seconds_ahead d.scene) second))) a.second
        (at_living l inst log lives (λ i g. StandsWith v.commands v.manager.book.jobs i g
        → (OfLiving l (λ d. Contains (seconds_ahead d.scene) second) → Contains (seconds_ahead (desk_of v.commands i g v.manager.book.jobs).scene) second)
        × (Contains (seconds_ahead (desk_of v.commands i g v.manager.book.jobs).scene) second → OfLiving l (λ d. Contains (seconds_ahead d.scene) second)))
        (λ s. (end_known v.commands v.manager.book.jobs l.inst l.log s second, end_there v.commands v.manager.book.jobs l.inst l.log s second)) (stands v inst log a m newest))

-- ---- behind the second

module _ (v : JobServiceValue) (inst : Instance) (log : Log) (a : AgreesJobs v inst log) (second : ℕ) (unposted : v.manager.posted ≡ None) where
  pub ticked_agrees : (spent : Bool) (later : Option Post) → Each (λ j. j.id < 2 ^ 64) v.manager.book.jobs → 1000 * (second - v.birth) < 2 ^ 40 → length v.commands.issued ≤ 32 → MadeAreDue → UnmadeAreNot → IsFoundBeside v.terms v.manager.posted v.commands v.manager.book second v.birth later
      → AgreesJobs (ticked_value v spent second later) inst (log ++ Ticked second ∷ [])
  ticked_agrees spent later smalls soon short made-due unmade-not h =
      let f = ticked_facts v.commands v.refused v.second second inst log (facts v inst log a) in
      let same = ticked_service log second in
      record {
        kind = record { valid = a.kind.valid; unique = a.kind.unique; ranks = a.kind.ranks; terms = a.kind.terms; birth = a.kind.birth; book = a.kind.book };
        core = subst (Agrees v.manager.core inst.service) (sym same) a.core;
        legal = subst (IsLegalLog inst.service) (sym same) a.legal;
        commands = f.commands;
        second = f.second;
        owes = beside-owes v.terms v.commands v.manager.book second v.birth inst (log ++ Ticked second ∷ []) f.commands a.kind.valid f.second a.kind.terms a.kind.birth a.kind.book a.labelled smalls soon short made-due unmade-not v.manager.posted later
            (λ post e. absurd (let wrong : None ≡ Some post = sym unposted ∙ e in cc)) h;
        labelled = a.labelled;
        refused = f.refused;
        fed = fed_kept v.feeds inst log (Ticked second) (λ by. refl) (λ by. refl) a.fed;
        untold = f.untold;
        shutdowns = f.shutdowns;
      }

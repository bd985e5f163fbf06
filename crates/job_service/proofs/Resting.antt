-- A job service in which nothing can go on.
use Rattle.std.proofs.Common.{◌≡◌, ◌≢◌, ℕ, ◌<◌, ◌≤◌, ◌⊎◌, List, [], ◌∷◌, Bool, true, false, ◌&&◌, ◌||◌, not, Option, Some, None, Contains, cond, refl, sym, ap, ◌∙◌, subst, true≢false, inl, inr}
use Rattle.std.specs.Option.{option_map_or}
use Rattle.std.specs.Prelude.{All, is_some, nat_lt, option_and_then, option_map}
use Rattle.std.proofs.lemmas.Bool.{false_from_ne_true, ltb-false, or_parts}
use Rattle.instance_rules.specs.Family.{IsLeftResult, Living}
use Rattle.instance_rules.specs.Desks.{Names}
use Rattle.instance_rules.specs.Log.{Instance, IsOpen, Log, Watch, service_of}
use Rattle.instance_rules.specs.Watches.{IsFedAll}
use Rattle.job_deeds.proofs.Whys.{found_job}
use Rattle.job_clock.proofs.Standing.{at_living}
use Rattle.job_clock.specs.Standing.{IsLiving}
use Rattle.job_clock.specs.Targets.{targets_of}
use Rattle.job_commands.proofs.Tables.{found}
use Rattle.job_commands.specs.Agrees.{AgreesCommands}
use Rattle.job_commands.specs.Asks.{told}
use Rattle.job_commands.specs.Rows.{Labels, job_at}
use Rattle.job_commands.specs.declared.ask.JobAsk.{JobAsk}
use Rattle.job_commands.specs.declared.ask.JobAsk.TheVariants as ask
use Rattle.job_commands.specs.declared.row.Row.{Row}
use Rattle.job_manager.specs.Managed.{IsManaged, IsOutstanding}
use Rattle.job_manager.specs.Value.{ManagerValue}
use Rattle.job_replies.specs.Ready.{is_inactive, is_ready, job_in, state_in}
use Rattle.job_deeds.proofs.job_rules_proofs.Among.{Among, all_from, among_kept, contains_from}
use Rattle.job_deeds.specs.job_states.declared.job.State.{State}
use Rattle.job_deeds.specs.job_states.declared.job.State.TheVariants as state
use Rattle.kvs_core.specs.Posted.{newest_of, posted}
use Rattle.kvs_core.specs.Seen.{primary_heard, root_of}
use Rattle.kvs_rules.specs.Brokers.{heard}
use Rattle.kvs_rules.specs.Quiet.{AreAllTold}
use Rattle.kvs_rules.specs.Namespaces.{newest_store, primary, store_after}
use Rattle.job_deeds.specs.kvs_txn.declared.txn.By.{By}
use Rattle.job_deeds.specs.manager_rules.Dependencies.{job_at as stored_at}
use Rattle.job_deeds.specs.manager_rules.Jobs.{StoredJob}
use Rattle.job_service.specs.Children.{is_due}
use Rattle.job_service.specs.Agrees.{AgreesJobs}
use Rattle.job_service.specs.Refusals.{fault_for, row_in}
use Rattle.job_service.specs.Replies.{has_come, is_ready_in, is_undone}
use Rattle.job_service.specs.Still.{IsStill, awaited, awaited_by, unless_over}
use Rattle.job_service.specs.Times.{targets_left}
use Rattle.job_service.specs.Value.{JobServiceValue}
use Rattle.job_service.specs.Watching.{feed_of, has_news, watched_by}
use Rattle.job_service.proofs.Calls.{rank_within}
use Rattle.job_service.proofs.Ticking.{free_parts}
use Rattle.job_service.proofs.Watching.{last_heard, rests}

-- whether something is posted or due, from its parts
pub none_now : (v : JobServiceValue) → v.manager.posted ≡ None → v.found ≡ None → v.bearing ≡ None → is_due v ≡ false
none_now v unposted unfound unborn = ap (λ p. (is_some p || is_some v.found) || is_some v.bearing) unposted ∙ ap (λ f. is_some f || is_some v.bearing) unfound ∙ ap is_some unborn

-- ---- nothing is posted

pub unposted_still : (m : ManagerValue) → IsManaged m → posted m.core ≡ [] → m.posted ≡ None
unposted_still m managed none = at m.posted refl managed.outstanding
  where
    at : (o : Option _) → m.posted ≡ o → IsOutstanding m.core m.book o → m.posted ≡ None
    at None e h = e
    at (Some post) e h = absurd (let wrong : _ ∷ [] ≡ [] = sym h.0 ∙ none in cc)

-- ---- no target is left

pub all_reached : (v : JobServiceValue) → targets_left v ≡ [] → All (λ target. target ≤ v.second) (targets_of v.commands)
all_reached v none = all_from (λ target. target ≤ v.second) (targets_of v.commands) (λ target i. ltb-false v.second target (false_from_ne_true (nat_lt v.second target) (λ later.
    let left = among_kept (λ t. nat_lt v.second t) (targets_of v.commands) target i later in
    subst (Among target) none left)))

-- ---- the job of a label

pub record IsNamedBy (labels : Labels) (jobs : List StoredJob) (label : List ℕ) (j : StoredJob) : Type 0 where
  pub known : Contains jobs j
  pub names : job_at label labels ≡ Some j.id

pub job_named : (labels : Labels) (jobs : List StoredJob) (label : List ℕ) (j : StoredJob) → job_in labels jobs label ≡ Some j → IsNamedBy labels jobs label j
job_named labels jobs label j e = at (job_at label labels) refl e
  where
    at : (o : Option ℕ) → job_at label labels ≡ o → option_and_then (stored_at jobs) o ≡ Some j → IsNamedBy labels jobs label j
    at None named f = cc
    at (Some id) named f =
        let there = found_job jobs id j f in
        record { known = contains_from jobs j there.0; names = named ∙ ap Some (sym there.1) }

-- ---- results that are left

-- the job of a label is in this state
record IsIn (labels : Labels) (jobs : List StoredJob) (label : List ℕ) (where_ : State) : Type 0 where
  j : StoredJob
  there : job_in labels jobs label ≡ Some j
  is : j.job.state ≡ where_

state_there : (labels : Labels) (jobs : List StoredJob) (label : List ℕ) (where_ : State) → state_in labels jobs label ≡ Some where_ → IsIn labels jobs label where_
state_there labels jobs label where_ e = at (job_in labels jobs label) refl e
  where
    at : (o : Option StoredJob) → job_in labels jobs label ≡ o → option_map (λ j. j.job.state) o ≡ Some where_ → IsIn labels jobs label where_
    at None f e = cc
    at (Some j) f e = record { j = j; there = f; is = (let same : j.job.state ≡ where_ = cc in same) }

-- the command asks for the result of a job that isn't over
record AsksResult (labels : Labels) (jobs : List StoredJob) (asks : JobAsk) (where_ : State) : Type 0 where
  label : List ℕ
  is : asks ≡ ask.ResultOf label
  stands : IsIn labels jobs label where_
  on : is_inactive where_ ≡ false

-- the command watches a job
record AsksWatch (labels : Labels) (jobs : List StoredJob) (asks : JobAsk) (where_ : State) : Type 0 where
  label : List ℕ
  is : asks ≡ ask.Watch label
  stands : IsIn labels jobs label where_

asks_end : (labels : Labels) (jobs : List StoredJob) (x : JobAsk) (where_ : State) → awaited_by labels jobs x ≡ Some where_ → AsksResult labels jobs x where_ ⊎ AsksWatch labels jobs x where_
asks_end labels jobs (ask.ResultOf label) where_ e = inl (at (state_in labels jobs label) refl e)
  where
    over : (s : State) (b : Bool) → is_inactive s ≡ b → cond b None (Some s) ≡ Some where_ → (s ≡ where_) × (is_inactive s ≡ false)
    over s true t e = cc
    over s false t e = (let same : s ≡ where_ = cc in same, t)

    at : (o : Option State) → state_in labels jobs label ≡ o → option_and_then unless_over o ≡ Some where_ → AsksResult labels jobs (ask.ResultOf label) where_
    at None f e = cc
    at (Some s) f e =
        let o = over s (is_inactive s) refl e in
        record { label = label; is = refl; stands = state_there labels jobs label where_ (f ∙ ap Some o.0); on = subst (λ x. is_inactive x ≡ false) o.0 o.1 }
asks_end labels jobs (ask.Watch label) where_ e = inr (record { label = label; is = refl; stands = state_there labels jobs label where_ e })
asks_end labels jobs (ask.Submit label urgency needs text) where_ e = cc
asks_end labels jobs (ask.Cancel label) where_ e = cc
asks_end labels jobs (ask.Raise label kind severity note) where_ e = cc
asks_end labels jobs (ask.Urge label urgency) where_ e = cc
asks_end labels jobs (ask.StateOf label) where_ e = cc
asks_end labels jobs (ask.Info label k) where_ e = cc
asks_end labels jobs ask.Jobs where_ e = cc
asks_end labels jobs (ask.Why label) where_ e = cc
asks_end labels jobs (ask.Advance seconds) where_ e = cc

-- what is left of a watch
record WatchLeft (v : JobServiceValue) (by : By) (where_ : State) (inst : Instance) (log : Log) : Type 0 where
  label : List ℕ
  waits : IsOpen by log
  newest : newest_store inst.service (service_of log) primary ≡ Some (newest_of v.manager.core)
  j : StoredJob
  known : Contains v.manager.book.jobs j
  asks : inst.asks by ≡ Some (Watch label)
  fed : IsFedAll log by (newest_of v.manager.core) j.id
  names : Names inst log label j.id
  is : j.job.state ≡ where_
  goes_on : where_ ≢ state.Inactive

module _ (v : JobServiceValue) (m : IsManaged v.manager) (l : Living) (by : By) (where_ : State) where
  result_of : (row : Row) → Contains v.commands.rows row → row.by ≡ by → AsksResult v.commands.labels v.manager.book.jobs row.ask where_ → AgreesCommands v.commands l.inst l.log → newest_store l.inst.service (service_of l.log) primary ≡ Some (newest_of v.manager.core) → IsLeftResult l by where_
  result_of row c same r a newest =
      let agrees = a.rows row c in
      let named = job_named v.commands.labels v.manager.book.jobs r.label r.stands.j r.stands.there in
      record {
        label = r.label;
        asks = inl (ap l.inst.asks (sym same) ∙ agrees.asks ∙ ap (λ x. Some (told x)) r.is);
        waits = subst (λ b. IsOpen b l.log) same agrees.waits;
        store = newest_of v.manager.core;
        standing = newest;
        jobs = v.manager.book.jobs;
        are = m.jobs;
        j = r.stands.j;
        known = named.known;
        names = (a.labels r.label r.stands.j.id).0 named.names;
        is = r.stands.is;
        goes_on = λ e. true≢false (sym (ap is_inactive e) ∙ r.on);
      }

  watch_of : WatchLeft v by where_ l.inst l.log → IsLeftResult l by where_
  watch_of w = record {
    label = w.label;
    asks = inr (w.asks, w.fed);
    waits = w.waits;
    store = newest_of v.manager.core;
    standing = w.newest;
    jobs = v.manager.book.jobs;
    are = m.jobs;
    j = w.j;
    known = w.known;
    names = w.names;
    is = w.is;
    goes_on = w.goes_on;
  }

  module _ (inst : Instance) (log : Log) (a : AgreesJobs v inst log) (newest : newest_store inst.service (service_of log) primary ≡ Some (newest_of v.manager.core))
      (roots : (number : ℕ) → store_after inst.service (service_of log) primary number ≡ root_of v.manager.core number)
      (hears : (broker : ℕ) → broker < v.manager.core.size → heard (service_of log) broker primary ≡ Some (primary_heard v.manager.core broker))
      (told_all : AreAllTold inst.service (service_of log)) (still : IsStill v) where
    untold_row : (row : Row) → row_in v.commands by ≡ Some row → row.by ≡ by → watched_by v.feeds row.by ≡ None
    untold_row row f same =
        let unposted = (free_parts v still.due).0 in
        let neither : (is_some (fault_for v.refused by) || is_ready_in v by) ≡ false =
        sym (ap (λ p. not (is_some p && option_map_or is_undone (row_in v.commands by) false) && (is_some (fault_for v.refused by) || is_ready_in v by)) unposted) ∙ still.untold by in
        let unready : has_come v row ≡ false = sym (ap (λ o. option_map_or (has_come v) o false) f) ∙ (or_parts (is_some (fault_for v.refused by)) (is_ready_in v by) neither).1 in
        none-there (watched_by v.feeds row.by) (or_parts (is_some (watched_by v.feeds row.by)) (is_ready v.commands.labels v.manager v.second row) unready).0
      where
        none-there : (o : Option (List (List ℕ) × ℕ)) → is_some o ≡ false → o ≡ None
        none-there None e = refl
        none-there (Some x) e = absurd (true≢false e)

    watch_left : (row : Row) → row_in v.commands by ≡ Some row → Contains v.commands.rows row → row.by ≡ by → AsksWatch v.commands.labels v.manager.book.jobs row.ask where_ → WatchLeft v by where_ inst log
    watch_left row f c same r =
        let agrees = a.commands.rows row c in
        let named = job_named v.commands.labels v.manager.book.jobs r.label r.stands.j r.stands.there in
        let unfed : has_news v.commands.labels v.manager row.rank (feed_of v.feeds row.by) (ask.Watch r.label) ≡ false =
        ap (has_news v.commands.labels v.manager row.rank (feed_of v.feeds row.by)) (sym r.is)
        ∙ sym (ap (λ o. option_map_or (λ x. has_news v.commands.labels v.manager x.rank (feed_of v.feeds x.by) x.ask) o false) f) ∙ still.unfed by in
        let rested = rests v inst log a m roots row c r.label r.is r.stands.j named.known named.names
        (last_heard v inst log a told_all hears row.rank (rank_within v inst log a row c)) newest (untold_row row f same) unfed in
        record {
          label = r.label;
          waits = subst (λ b. IsOpen b log) same agrees.waits;
          newest = newest;
          j = r.stands.j;
          known = named.known;
          asks = ap inst.asks (sym same) ∙ agrees.asks ∙ ap (λ x. Some (told x)) r.is;
          fed = subst (λ b. IsFedAll log b (newest_of v.manager.core) r.stands.j.id) same rested.fed;
          names = (a.commands.labels r.label r.stands.j.id).0 named.names;
          is = r.stands.is;
          goes_on = λ e. true≢false (sym (ap is_inactive (r.stands.is ∙ e)) ∙ rested.on);
        }

    pub left_result : IsLiving inst log l → awaited v by ≡ Some where_ → IsLeftResult l by where_
    left_result lives e = at (row_in v.commands by) refl e
      where
        at : (o : Option Row) → row_in v.commands by ≡ o → option_and_then (λ row. awaited_by v.commands.labels v.manager.book.jobs row.ask) o ≡ Some where_ → IsLeftResult l by where_
        at None f e = cc
        at (Some row) f e =
            let known = found by v.commands.rows row f in
            elim (asks_end v.commands.labels v.manager.book.jobs row.ask where_ e) [
              | inl r ↦
                  at_living l inst log lives (λ i g. AgreesCommands v.commands i g → newest_store i.service (service_of g) primary ≡ Some (newest_of v.manager.core) → IsLeftResult l by where_)
                  (result_of row known.0 known.1 r) a.commands newest
              | inr w ↦ at_living l inst log lives (λ i g. WatchLeft v by where_ i g → IsLeftResult l by where_) watch_of (watch_left row f known.0 known.1 w)
            ]

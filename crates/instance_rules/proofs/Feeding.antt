-- Watches are fed all that is new, and without limits none is turned away.
use Rattle.std.proofs.Common.{◌≡◌, ◌≤◌, ℕ, ◌+◌, append-nil, append_assoc, subst, arith, List, [], ◌∷◌, ◌++◌, ◌&&◌, Option, Some, None, refl, sym, ap, ap₂, ◌∙◌}
use Rattle.std.specs.Prelude.{filter_map, sum, unwrap_or, if◌then◌else◌, false, true}
use Rattle.std.specs.List.{cons_option}
use Rattle.std.proofs.lemmas.Bool.{eq-eqb}
use Rattle.std.proofs.lemmas.List.Elements.{filter_map-append}
use Rattle.std.proofs.lemmas.List.Sums.{sum_by_push}
use Rattle.kvs_model.specs.History.{first_store}
use Rattle.kvs_model.specs.Store.{Store}
use Rattle.kvs_rules.specs.Log.{same_command}
use Rattle.kvs_rules.specs.Namespaces.{Base, begun_at, fresh, primary}
use Rattle.kvs_rules.proofs.Sequences.{latest_push}
use Rattle.kvs_rules.specs.Sequence.{EachAfter, latest}
use Rattle.kvs_txn.specs.declared.txn.By.{By}
use Rattle.manager_rules.specs.Keys.{job_path}
use Rattle.manager_rules.specs.Limits.{no_limits, verdict_of}
use Rattle.instance_rules.specs.Desks.{is_old}
use Rattle.instance_rules.specs.Legal.{IsLegalMoment}
use Rattle.instance_rules.specs.Log.{Advance, Born, Cancel, Checked, Fed, Gone, Info, Instance, IsBuilt, Issued, JobAsk, Jobs, Log, Moment, Raise, Replied, ResultOf, Served, Shutdown, StateOf, Submit, Ticked, Urge, Watch, Why, now_of, ticked}
use Rattle.instance_rules.specs.Replies.{IsLegalReply, IsTurnedAway}
use Rattle.instance_rules.specs.Watches.{IsFedAll, IsLegalFeed, fed_in_all, fed_with, last_fed}

-- ---- feeds

same_self : (by : By) → same_command by by ≡ true
same_self by = ap₂ (λ a b. a && b) (eq-eqb by.actor by.actor refl) (eq-eqb by.command by.command refl)

fed_push : (by : By) (log : Log) (number first count : ℕ) → fed_in_all by (log ++ Fed by number first count ∷ []) ≡ fed_in_all by log + count
fed_push by log number first count =
    ap sum (filter_map-append (fed_with by) log (Fed by number first count ∷ []) ∙ ap (λ o. filter_map (fed_with by) log ++ cons_option o []) here)
    ∙ sum_by_push (λ n. n) (filter_map (fed_with by) log) count
  where
    here : fed_with by (Fed by number first count) ≡ Some count
    here = ap (λ b. if b then Some count else None) (same_self by)

pub fed_all : (inst : Instance) (log : Log) (by : By) (number first count : ℕ) → (feed : IsLegalFeed inst log by number first count)
    → IsFedAll (log ++ Fed by number first count ∷ []) by feed.store feed.id
fed_all inst log by number first count feed = record {
  events = feed.events;
  logged = feed.logged;
  all = fed_push by log number first count ∙ ap (λ n. n + count) (sym feed.behind) ∙ feed.all;
}

-- ---- worked feeds

one : By
one = record { actor = 1; command = 0 }

two : By
two = record { actor = 2; command = 0 }

feeds : Log
feeds = Fed one 3 0 2 ∷ Ticked 9 ∷ Fed two 4 0 7 ∷ Fed one 5 2 1 ∷ []

three_events : fed_in_all one feeds ≡ 3
unfolding one two feeds
three_events = refl

at_the_fifth : last_fed one feeds ≡ Some 5
unfolding one two feeds
at_the_fifth = refl

-- ---- without limits none is turned away

none_away : (inst : Instance) (ask : JobAsk) (reason : ℕ) → inst.limits ≡ no_limits → IsTurnedAway inst ask reason → ⊥
none_away inst (Submit label urgency named text) reason unlimited away = away.3 (sym away.2 ∙ ap (λ limits. verdict_of limits away.0) unlimited)
none_away inst (Cancel label) reason unlimited away = away
none_away inst (Raise label kind severity note) reason unlimited away = away
none_away inst (Urge label urgency) reason unlimited away = away
none_away inst (StateOf label) reason unlimited away = away
none_away inst (Info label key) reason unlimited away = away
none_away inst Jobs reason unlimited away = away
none_away inst (Why label) reason unlimited away = away
none_away inst (ResultOf label) reason unlimited away = away
none_away inst (Watch label) reason unlimited away = away
none_away inst (Advance seconds) reason unlimited away = away
none_away inst Shutdown reason unlimited away = away

pub none_checked : (inst : Instance) (log : Log) (by : By) (reason : ℕ) (number : Option ℕ) → inst.limits ≡ no_limits → IsLegalReply inst log by (Checked reason) number → ⊥
none_checked inst log by reason number unlimited reply = none_away inst reply.ask reason unlimited reply.grounds.1

-- ---- runs from first stores

none_at_first : (grant : List ℕ) (st : Store) (id : ℕ) → is_old (first_store grant) st id ≡ false
unfolding job_path
none_at_first grant st id = refl

pub none_old : (inst : Instance) (grant : List ℕ) (st : Store) (id : ℕ) → inst.service.base ≡ fresh grant → is_old (begun_at inst.service primary) st id ≡ false
none_old inst grant st id begins = ap (λ (b : Base). is_old b.store st id) begins ∙ none_at_first grant st id

-- time goes on from the second at which the log begins
goes_on : (inst : Instance) (log : Log) (m : Moment) → inst.start ≤ now_of inst log → IsLegalMoment inst log m → inst.start ≤ now_of inst (log ++ m ∷ [])
goes_on inst log m since legal = subst (λ n. inst.start ≤ n) (sym (latest_push ticked inst.start log m)) (by m legal)
  where
    by : (m : Moment) → IsLegalMoment inst log m → inst.start ≤ unwrap_or (ticked m) (now_of inst log)
    by (Ticked second) legal = let later = legal.0 in omega (arith, later, since)
    by (Served m) legal = since
    by (Issued other) legal = since
    by (Replied other reply number) legal = since
    by (Born job) legal = since
    by (Gone job shut) legal = since
    by (Fed other number first count) legal = since

along : (inst : Instance) (before log : Log) → inst.start ≤ now_of inst before → EachAfter (IsLegalMoment inst) before log → inst.start ≤ now_of inst (before ++ log)
along inst before [] since legal = subst (λ l. inst.start ≤ now_of inst l) (sym (append-nil before)) since
along inst before (m ∷ log) since legal =
    subst (λ l. inst.start ≤ now_of inst l) (append_assoc before (m ∷ []) log) (along inst (before ++ m ∷ []) log (goes_on inst before m since legal.0) legal.1)

pub never_before : (inst : Instance) (log : Log) → EachAfter (IsLegalMoment inst) [] log → inst.start ≤ now_of inst log
never_before inst log legal = along inst [] log (omega arith) legal

pub time_begins : (inst : Instance) (log : Log) → IsBuilt inst → now_of inst log ≡ latest ticked inst.birth log
time_begins inst log built = ap (λ second. latest ticked second log) built.start

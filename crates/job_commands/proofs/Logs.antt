-- What a further moment leaves of what the log says of job commands.
use Rattle.std.proofs.Common.{◌≡◌, ◌≢◌, ℕ, ◌+◌, ◌==◌, ◌⊎◌, inl, inr, [], ◌∷◌, ◌++◌, Bool, true, false, cond, ◌||◌, ◌&&◌, Option, Some, None, IsSome, Contains, refl, sym, ap, ap₂, ◌∙◌, subst, true≢false, count_by, arith}
use Rattle.std.specs.Prelude.{filter_map}
use Rattle.std.specs.List.{list_any}
use Rattle.std.proofs.lemmas.Bool.{or_parts, or_from, or_left, false_from_ne_true}
use Rattle.std.proofs.lemmas.List.Elements.{Contains-append_left, Contains-append_cases, Contains-push, filter_map-append}
use Rattle.std.proofs.lemmas.List.Folds.{list_any-append}
use Rattle.std.proofs.lemmas.List.Sums.{sum_by-append}
use Rattle.std.proofs.lemmas.Bool.Decides.{nat_tests}
use Rattle.job_rules.proofs.Among.{Among, among_from, contains_from}
use Rattle.kvs_rules.proofs.Asking.{command_is}
use Rattle.kvs_rules.proofs.Sequences.{until-append}
use Rattle.kvs_rules.proofs.Stores.{any_push}
use Rattle.kvs_rules.specs.Log as service
use Rattle.kvs_rules.specs.Log.{same_command}
use Rattle.kvs_rules.specs.Namespaces.{primary}
use Rattle.kvs_rules.specs.declared.events.KvsEvent.TheVariants as event
use Rattle.kvs_txn.specs.declared.txn.By.{By}
use Rattle.kvs_txn.specs.declared.txn.Group.{Group}
use Rattle.instance_rules.specs.Desks.{Begins, HasBegun, HasSubmitted, is_submission, submits_at}
use Rattle.instance_rules.specs.Log.{Instance, IsOpen, JobAsk, Log, Moment, Served, Issued, Replied, Ticked, Born, Gone, Fed, is_decided, is_issued, is_replied, issues_now, replies_now, now_of, served, service_of}
use Rattle.instance_rules.specs.Replies.{IsCarriedOut}
use Rattle.job_commands.specs.Agrees.{HasLanded, RowAgrees, StageAgrees}
use Rattle.job_commands.specs.Moments.{IsAside, decides_now, groups_of}
use Rattle.job_commands.specs.declared.ask.JobAsk.{JobAsk as Ask}
use Rattle.job_commands.specs.declared.ask.JobAsk.TheVariants as ask
use Rattle.job_commands.specs.declared.row.Row.{Row}
use Rattle.job_commands.specs.declared.row.Stage.{Stage}
use Rattle.job_commands.specs.declared.row.Stage.TheVariants as stage

-- ---- commands

pub same_self : (by : By) → same_command by by ≡ true
same_self by = grind (arith, nat_tests)

pub differs : (a b : By) → a ≢ b → same_command a b ≡ false
differs a b ne = false_from_ne_true (same_command a b) (λ e. ne (command_is a b e))

-- ---- the service

pub service_push : (log : Log) (m : Moment) → service_of (log ++ m ∷ []) ≡ service_of log ++ filter_map served (m ∷ [])
service_push log m = filter_map-append served log (m ∷ [])

or_four : (a b c d : Bool) → ((a || c) || (b || d)) ≡ ((a || b) || (c || d))
or_four true b c d = refl
or_four false true true d = refl
or_four false true false d = refl
or_four false false c d = refl

or_none : (a : Bool) → (a || false) ≡ a
or_none true = refl
or_none false = refl

either : (by : By) → service.Log → Bool
either by log = list_any (service.lands_now by) log || list_any (service.denies_now by) log

quiet : (by : By) (log : Log) → (either by (service_of log ++ [])) ≡ (is_decided by log || false)
unfolding either
quiet by log =
    ap₂ (λ a b. a || b) (list_any-append (service.lands_now by) (service_of log) [] ∙ or_none _) (list_any-append (service.denies_now by) (service_of log) [] ∙ or_none _) ∙ sym (or_none _)

pub decided_push : (by : By) (log : Log) (m : Moment) → is_decided by (log ++ m ∷ []) ≡ (is_decided by log || decides_now by m)
unfolding either
decided_push by log (Served m) =
    ap (either by) (service_push log (Served m))
    ∙ ap₂ (λ a b. a || b) (any_push (service.lands_now by) (service_of log) m) (any_push (service.denies_now by) (service_of log) m)
    ∙ or_four (list_any (service.lands_now by) (service_of log)) (list_any (service.denies_now by) (service_of log)) (service.lands_now by m) (service.denies_now by m)
decided_push by log (Issued other) = ap (either by) (service_push log (Issued other)) ∙ quiet by log
decided_push by log (Replied other reply number) = ap (either by) (service_push log (Replied other reply number)) ∙ quiet by log
decided_push by log (Ticked second) = ap (either by) (service_push log (Ticked second)) ∙ quiet by log
decided_push by log (Born job) = ap (either by) (service_push log (Born job)) ∙ quiet by log
decided_push by log (Gone job shut) = ap (either by) (service_push log (Gone job shut)) ∙ quiet by log
decided_push by log (Fed other number first count) = ap (either by) (service_push log (Fed other number first count)) ∙ quiet by log

pub decided_kept : (by : By) (log : Log) (m : Moment) → is_decided by log ≡ true → is_decided by (log ++ m ∷ []) ≡ true
decided_kept by log m e = decided_push by log m ∙ or_left (is_decided by log) _ e

pub undecided_kept : (by : By) (log : Log) (m : Moment) → decides_now by m ≡ false → is_decided by log ≡ false → is_decided by (log ++ m ∷ []) ≡ false
undecided_kept by log m d e = decided_push by log m ∙ or_from (is_decided by log) _ e d

in_service : (log : Log) (m : Moment) (x : service.Moment) → Contains (service_of log) x → Contains (service_of (log ++ m ∷ [])) x
in_service log m x h = subst (λ l. Contains l x) (sym (service_push log m)) (Contains-append_left (service_of log) (filter_map served (m ∷ [])) x h)

pub serves : (log : Log) (x : service.Moment) → Contains (service_of (log ++ Served x ∷ [])) x
serves log x = subst (λ l. Contains l x) (sym (service_push log (Served x))) (Contains-push (service_of log) x)

-- ---- what has begun and what was carried out

pub begun_kept : (log : Log) (m : Moment) (by : By) (id number : ℕ) → HasBegun log by id number → HasBegun (log ++ m ∷ []) by id number
begun_kept log m by id number h = record {
  authors = h.authors;
  groups = h.groups;
  landing = in_service log m _ h.landing;
  group = h.group;
  one = h.one;
  alone = h.alone;
  begins = h.begins;
}

pub submitted_kept : (log : Log) (m : Moment) (by : By) (id : ℕ) → HasSubmitted log by id → HasSubmitted (log ++ m ∷ []) by id
submitted_kept log m by id h = (h.0, begun_kept log m by id h.0 h.1)

carried_kept : (log : Log) (m : Moment) (by : By) (number : ℕ) → IsCarriedOut log by number → IsCarriedOut (log ++ m ∷ []) by number
carried_kept log m by number h = record { authors = h.authors; groups = h.groups; landing = in_service log m _ h.landing; named = h.named }

landed_kept : (log : Log) (m : Moment) (by : By) (number : ℕ) (a : Ask) → HasLanded log by number a → HasLanded (log ++ m ∷ []) by number a
landed_kept log m by number (ask.Submit label urgency needs text) h = (h.0, begun_kept log m by h.0 number h.1)
landed_kept log m by number (ask.Cancel label) h = carried_kept log m by number h
landed_kept log m by number (ask.Raise label kind severity note) h = carried_kept log m by number h
landed_kept log m by number (ask.Urge label urgency) h = carried_kept log m by number h
landed_kept log m by number _ h = absurd h

-- a transaction of the command lands now, and gives its job the id
pub record BeginsNow (by : By) (id : ℕ) (m : Moment) : Type 0 where
  pub group : Group
  pub one : Contains (groups_of m) group
  pub alone : group.authors ≡ by ∷ []
  pub begins : Begins group id

served_is : (m : Moment) (x : service.Moment) → Among x (filter_map served (m ∷ [])) → m ≡ Served x
served_is (Served y) x (inl e) = ap Served e
served_is (Served y) x (inr i) = absurd i
served_is (Issued other) x i = absurd i
served_is (Replied other reply n) x i = absurd i
served_is (Ticked second) x i = absurd i
served_is (Born job) x i = absurd i
served_is (Gone job shut) x i = absurd i
served_is (Fed other number first count) x i = absurd i

pub begun_before : (log : Log) (m : Moment) (by : By) (id number : ℕ) → HasBegun (log ++ m ∷ []) by id number → HasBegun log by id number ⊎ BeginsNow by id m
begun_before log m by id number h =
    let x : service.Moment = service.Happened (event.Landed primary number h.authors h.groups) in
    elim (Contains-append_cases (service_of log) (filter_map served (m ∷ [])) x (subst (λ l. Contains l x) (service_push log m) h.landing)) [
      | inl old ↦ inl (record { authors = h.authors; groups = h.groups; landing = old; group = h.group; one = h.one; alone = h.alone; begins = h.begins })
      | inr new ↦ inr (record {
        group = h.group;
        one = subst (λ gs. Contains gs h.group) (sym (ap groups_of (served_is m x (among_from _ x new)))) h.one;
        alone = h.alone;
        begins = h.begins;
      })
    ]

alone_author : (group : Group) (by : By) → group.authors ≡ by ∷ [] → Contains group.authors by
alone_author group by e = subst (λ l. Contains l by) (sym e) (contains_from (by ∷ []) by (inl refl))

pub not_now : (by : By) (id : ℕ) (m : Moment) → IsAside by m → BeginsNow by id m → ⊥
not_now by id m aside b = aside.groups b.group b.one (alone_author b.group by b.alone)

-- ---- open commands

pub issued_kept : (by : By) (log : Log) (m : Moment) → is_issued by log ≡ true → is_issued by (log ++ m ∷ []) ≡ true
issued_kept by log m e = any_push (issues_now by) log m ∙ or_left (is_issued by log) _ e

pub open_kept : (by : By) (log : Log) (m : Moment) → replies_now by m ≡ false → IsOpen by log → IsOpen by (log ++ m ∷ [])
open_kept by log m quiet h = record {
  issued = issued_kept by log m h.issued;
  unanswered = any_push (replies_now by) log m ∙ or_from (is_replied by log) _ h.unanswered quiet;
}

pub open_before : (by : By) (log : Log) (m : Moment) → issues_now by m ≡ false → IsOpen by (log ++ m ∷ []) → IsOpen by log
open_before by log m quiet h = record {
  issued = sym (any_push (issues_now by) log m ∙ ap (λ b. is_issued by log || b) quiet ∙ or_none _) ∙ h.issued;
  unanswered = (or_parts (is_replied by log) _ (sym (any_push (replies_now by) log m) ∙ h.unanswered)).0;
}

pub row_kept : (inst : Instance) (log : Log) (m : Moment) (row : Row) → IsAside row.by m → RowAgrees inst log row → RowAgrees inst (log ++ m ∷ []) row
row_kept inst log m row aside h = record {
  waits = open_kept row.by log m aside.replies h.waits;
  asks = h.asks;
  rank = h.rank;
  issued = h.issued ∙ sym (ap (now_of inst) (until-append (issues_now row.by) log (m ∷ []) h.waits.issued));
  staged = at row.stage h.staged;
}
  where
    at : (s : Stage) → StageAgrees log row.by row.ask s → StageAgrees (log ++ m ∷ []) row.by row.ask s
    at stage.Waits e = undecided_kept row.by log m aside.decides e
    at (stage.Landed number) e = (decided_kept row.by log m e.0, landed_kept log m row.by number row.ask e.1)

-- ---- the count of submissions

pub count_push : (inst : Instance) (rank : ℕ) (log : Log) (m : Moment) → count_by (submits_at inst rank) (log ++ m ∷ []) ≡ count_by (submits_at inst rank) log + cond (submits_at inst rank m) 1 0
count_push inst rank log m = sum_by-append (λ x. cond (submits_at inst rank x) 1 0) log (m ∷ []) ∙ omega arith

no_submit : (o : Option JobAsk) → (IsSome o → ⊥) → is_submission o ≡ false
no_submit None h = refl
no_submit (Some a) h = absurd (h refl)

pub submits_none : (inst : Instance) (rank : ℕ) (m : Moment) → ((by : By) → IsSome (inst.asks by) → issues_now by m ≡ false) → submits_at inst rank m ≡ false
submits_none inst rank (Issued by) h =
    ap (λ b. (inst.rank by == rank) && b) (no_submit (inst.asks by) (λ some. absurd (true≢false (sym (same_self by) ∙ h by some)))) ∙ and_none (inst.rank by == rank)
  where
    and_none : (a : Bool) → (a && false) ≡ false
    and_none true = refl
    and_none false = refl
submits_none inst rank (Served m) h = refl
submits_none inst rank (Replied by reply number) h = refl
submits_none inst rank (Ticked second) h = refl
submits_none inst rank (Born job) h = refl
submits_none inst rank (Gone job shut) h = refl
submits_none inst rank (Fed other number first count) h = refl

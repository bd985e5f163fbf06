-- What is posted is due, and is taken by the service.
use Rattle.std.proofs.Common.{◌≡◌, ℕ, ◌^◌, ◌<◌, [], Bool, true, false, Option, Some, None, IsSome, true≢false, refl, sym, ap, ◌∙◌, subst}
use Rattle.std.proofs.lemmas.Bool.{false_from_ne_true, or_from, or_parts}
use Rattle.std.specs.List.{list_any}
use Rattle.instance_rules.proofs.Sounds.{desk_kept}
use Rattle.instance_rules.specs.Log.{Instance, IsPending, Log, service_of}
use Rattle.job_commands.proofs.Desks.{desk_is}
use Rattle.job_commands.specs.Desks.{desk_of}
use Rattle.job_landings.proofs.Open.{event_open, submit_open}
use Rattle.job_manager.specs.Follows.{Places}
use Rattle.job_manager.specs.Managed.{IsManaged, IsOutstanding, WasDuePost}
use Rattle.job_manager.specs.Posts.{command_of}
use Rattle.job_manager.specs.Value.{ManagerValue}
use Rattle.kvs_core.specs.Posted.{IsNewPost, newest_of, posted}
use Rattle.kvs_rules.proofs.Asking.{command_is}
use Rattle.kvs_rules.proofs.Logs.{along}
use Rattle.kvs_rules.proofs.Stores.{any_push}
use Rattle.kvs_rules.specs.Answers.{IsLegalLog, IsLegalMoment}
use Rattle.kvs_rules.specs.Log as service
use Rattle.kvs_rules.specs.Namespaces.{Setting}
use Rattle.kvs_rules.specs.declared.events.KvsEvent.TheVariants as event
use Rattle.kvs_space.specs.Space.{is_authored}
use Rattle.job_deeds.specs.kvs_txn.declared.txn.By.{By}
use Rattle.job_deeds.specs.manager_rules.Posts.{Desk, Does, IsDuePost, Post, Submits}
use Rattle.job_service.specs.Agrees.{AgreesJobs}
use Rattle.job_service.specs.Due.{Owes}
use Rattle.job_service.specs.Posted.{IsAlone}
use Rattle.job_service.specs.Value.{JobServiceValue}
use Rattle.job_service.proofs.Calls.{facts, joined, with_parts, same-book}
use Rattle.job_service.proofs.Owing.{found-due}

-- ---- a command that asks nothing of the service is never answered by it

unasked_now : (set : Setting) (by : By) → set.asks by ≡ None → (log : service.Log) (m : service.Moment) → IsLegalMoment set log m → service.answers_now by m ≡ false
unasked_now set by none log (service.Asked other floors) legal = refl
unasked_now set by none log (service.Resumed number) legal = refl
unasked_now set by none log (service.Happened (event.Answered other number answer)) legal =
    false_from_ne_true _ (λ t. let wrong : None ≡ Some legal.request = sym none ∙ ap set.asks (command_is by other t) ∙ legal.made in cc)
unasked_now set by none log (service.Happened (event.Landed space number authors groups)) legal = refl
unasked_now set by none log (service.Happened (event.Denied space authors group refusal)) legal = refl
unasked_now set by none log (service.Happened (event.Heard broker space number)) legal = refl
unasked_now set by none log (service.Happened (event.Got broker reference)) legal = refl
unasked_now set by none log (service.Happened (event.Dropped broker reference)) legal = refl

unanswered : (set : Setting) (by : By) → set.asks by ≡ None → (log : service.Log) → IsLegalLog set log → service.is_answered by log ≡ false
unanswered set by none log legal =
    along set (λ l. service.is_answered by l ≡ false) (λ l m before now h. any_push (service.answers_now by) l m ∙ or_from (service.is_answered by l) _ h (unasked_now set by none l m now))
    [] log tt legal refl

-- ---- a post is the only one

pub free : (found posted : Option Post) (post : Post) → IsAlone posted found → found ≡ Some post → posted ≡ None
free found None post alone e = refl
free found (Some other) post alone e = absurd (let wrong : None ≡ Some post = sym alone ∙ e in cc)

module _ (v : JobServiceValue) (inst : Instance) (log : Log) (a : AgreesJobs v inst log) (m : IsManaged v.manager) (none : v.manager.posted ≡ None) where
  abbrev desk : Desk
  desk = desk_of v.commands inst log v.manager.book.jobs

  nothing_waits : posted v.manager.core ≡ []
  nothing_waits = (let o : IsOutstanding v.manager.core v.manager.book None = subst (IsOutstanding v.manager.core v.manager.book) none m.outstanding in o)

  new_command : (by : By) → IsSome (inst.asks by) → IsPending by log → IsNewPost v.manager.core inst.service (service_of log) (Some by)
  new_command by some p =
      let asks = a.kind.valid.apart by some in
      let both = or_parts (service.is_landed by (service_of log)) (service.is_denied by (service_of log)) p.undecided in (
        asks,
        record {
          unanswered = unanswered inst.service by asks (service_of log) a.legal;
          unlanded = both.0;
          undenied = both.1;
          asked = λ is. absurd (true≢false (sym (subst IsSome asks is)));
        },
        ap (list_any (is_authored by)) nothing_waits,
      )

  new_post : (post : Post) → IsDuePost desk post → IsNewPost v.manager.core inst.service (service_of log) (command_of post)
  new_post (Submits x) d =
      let o = submit_open v.commands inst log v.manager.book.jobs a.commands x d in
      new_command x.command (subst IsSome (sym o.asks) refl) o.pending
  new_post (Does due) d = at due.command refl
    where
      at : (o : Option By) → due.command ≡ o → IsNewPost v.manager.core inst.service (service_of log) o
      at None e = tt
      at (Some by) e =
          let w = event_open v.commands inst log v.manager.book.jobs a.commands due by d e in
          new_command by (subst IsSome (sym w.asks) refl) w.pending

  placed : (spent : Bool) (manager : ManagerValue) (post : Post) → IsDuePost desk post → Places post v.manager manager → AgreesJobs (with_parts v spent manager v.commands v.refused None v.submitted) inst log
  placed spent manager post d p =
      joined v inst log a spent manager v.commands v.refused None v.submitted log a.fed (same-book inst v.manager.book manager.book (ap (λ b. b.grant) p.book) (ap (λ b. b.policy) p.book) a.kind.book)
      (p.agrees inst.service (service_of log) a.core (new_post post d)) a.legal
      (subst (λ b. Rattle.job_submissions.specs.Made.AreLabelled v.commands.labels b.jobs) (sym p.book) a.labelled)
      (subst (λ o. Owes o None (desk_of v.commands inst log manager.book.jobs)) (sym p.posted) (subst (λ b. IsDuePost (desk_of v.commands inst log b.jobs) post) (sym p.book) d))
      (facts v inst log a)

  pub posted_agrees : (spent : Bool) (manager : ManagerValue) (post : Post) → v.found ≡ Some post → Places post v.manager manager → AgreesJobs (with_parts v spent manager v.commands v.refused None v.submitted) inst log
  posted_agrees spent manager post e p = placed spent manager post (found-due v.manager.posted v.found desk a.owes none post e) p

  -- what may be posted

  pub may_post : v.second < 2 ^ 64 → (post : Post) → v.found ≡ Some post → WasDuePost v.manager.book post
  may_post small post e = record {
    desk = desk;
    valid = desk_kept inst a.kind.valid log (subst (λ n. n < 2 ^ 64) (sym a.second) small) (newest_of v.manager.core) desk (desk_is v.commands inst log a.commands a.kind.valid (newest_of v.manager.core) v.manager.book.jobs m.jobs);
    jobs = refl;
    grant = sym a.kind.book.grant;
    policy = sym a.kind.book.policy;
    old = λ id. refl;
    due = found-due v.manager.posted v.found desk a.owes none post e;
  }

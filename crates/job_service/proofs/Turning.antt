-- A step of the service: whether a post lands at it, and what follows.
use Rattle.std.proofs.Common.{◌≡◌, ℕ, ◌+◌, ◌-◌, ◌*◌, ◌^◌, ◌<◌, ◌≤◌, inl, inr, List, [], ◌∷◌, ◌++◌, length, map, Bool, Option, Some, None, count_by, sym, ap, ◌∙◌, subst}
use Rattle.std.specs.List.{AllByRecursion as Each}
use Rattle.std.specs.Prelude.{slice_index}
use Rattle.instance_rules.specs.Legal.{IsLegalMoment}
use Rattle.instance_rules.specs.Log.{Instance, IsInstance, Log, service_of}
use Rattle.job_clock.specs.Targets.{AreInTime}
use Rattle.job_commands.specs.Agrees.{AgreesCommands}
use Rattle.job_commands.specs.Desks.{desk_of}
use Rattle.job_commands.specs.Rows.{AreMarkedBy, CommandsValue, is_submit, mark_at}
use Rattle.job_commands.specs.declared.tally.Mark.{Mark}
use Rattle.job_landings.specs.Landings.{LandsPost, happening, number_of_post}
use Rattle.job_manager.specs.Follows.{Follows, Lands, Stays}
use Rattle.job_manager.specs.Managed.{IsManaged}
use Rattle.job_manager.specs.Posts.{command_of}
use Rattle.job_manager.specs.Value.{ManagerValue}
use Rattle.kvs_core.specs.Agrees.{Agrees}
use Rattle.kvs_core.specs.Makes as core
use Rattle.kvs_core.specs.Posted.{newest_of}
use Rattle.kvs_keys.specs.Posted.{posts_landed}
use Rattle.kvs_core.specs.Value.{CoreValue}
use Rattle.job_deeds.specs.kvs_model.Store.{Store}
use Rattle.kvs_rules.specs.Answers.{IsLegalLog}
use Rattle.kvs_rules.specs.Namespaces.{newest_store, primary}
use Rattle.kvs_rules.specs.Sequence.{EachAfter}
use Rattle.kvs_rules.specs.declared.events.KvsEvent.{KvsEvent}
use Rattle.kvs_rules.specs.declared.events.KvsStep.{KvsStep}
use Rattle.job_deeds.specs.kvs_txn.declared.txn.By.{By}
use Rattle.job_deeds.specs.manager_rules.Jobs.{AreJobsOf, StoredJob}
use Rattle.job_deeds.specs.manager_rules.Posts.{IsDuePost, Post, group_of}
use Rattle.job_service.specs.Agrees.{AgreesJobs, IsBookOf}
use Rattle.job_service.specs.Due.{IsFoundBeside}
use Rattle.job_service.specs.Judged.{AreJudged}
use Rattle.job_service.specs.Landed.{IsLanded, command_of_first}
use Rattle.job_service.specs.Posted.{IsNamed, id_posted}
use Rattle.job_service.specs.Value.{JobServiceValue}
use Rattle.job_service.specs.declared.refusals.Refused.{Refused}
use Rattle.job_service.proofs.Calls.{with_parts, same-book}
use Rattle.job_service.proofs.Facts.{Facts}
use Rattle.job_service.proofs.Landed.{command_first, facts_later, landed_agrees, landed_counted, landed_drawn, landed_marks, landed_size, landed_time, later_judged, none_numbered}
use Rattle.job_service.proofs.Owing.{MadeAreDue, UnmadeAreNot, posted-due}

-- what the law says of a post that lands
abbrev pub LandAsDue : Type 0
LandAsDue = (step : KvsStep) (old new : CoreValue) (events : List KvsEvent) (inst : Instance) (log : Log) (v : CommandsValue) (jobs : List StoredJob) (st : Store) (post : Post) → IsInstance inst → AgreesCommands v inst log
    → Agrees old inst.service (service_of log) → IsLegalLog inst.service (service_of log) → newest_store inst.service (service_of log) primary ≡ Some st → AreJobsOf st jobs → core.Makes step old new events → IsDuePost (desk_of v inst log jobs) post
    → posts_landed events ≡ group_of post ∷ [] → LandsPost inst post events × EachAfter (IsLegalMoment inst) log (map happening events)

module _ (v : JobServiceValue) (inst : Instance) (log : Log) (a : AgreesJobs v inst log) (m : IsManaged v.manager) (newest : newest_store inst.service (service_of log) primary ≡ Some (newest_of v.manager.core))
    (manager : ManagerValue) (step : KvsStep) (events : List KvsEvent) (makes : core.Makes step v.manager.core manager.core events) (follows : Follows v.manager manager events) (law : LandAsDue) where
  lands : (l : Lands v.manager manager events) → LandsPost inst l.post events × EachAfter (IsLegalMoment inst) log (map happening events)
  lands l =
      law step v.manager.core manager.core events inst log v.commands v.manager.book.jobs (newest_of v.manager.core) l.post a.kind.valid a.commands a.core a.legal newest m.jobs makes
      (posted-due v.manager.posted v.found (desk_of v.commands inst log v.manager.book.jobs) a.owes l.post l.waited) l.landed

  pub unnumbered_stays : number_of_post events ≡ None → Stays v.manager manager events
  unnumbered_stays none = at follows
    where
      at : Follows v.manager manager events → Stays v.manager manager events
      at (inl s) = s
      at (inr l) = let p = (lands l).0 in absurd (let wrong : Some p.number ≡ None = sym p.first ∙ none in cc)

  module _ (number : ℕ) (numbered : number_of_post events ≡ Some number) (commands : CommandsValue) (refused : List Refused) (by : Option By) (id : Option ℕ)
      (is_by : by ≡ command_of_first (posts_landed events)) (is_id : id ≡ id_posted v.manager.posted) (named : IsNamed v.commands v.birth v.manager.posted) (landed : IsLanded by id number v.commands commands v.refused refused) where
    numbered_lands : Lands v.manager manager events
    numbered_lands = at follows
      where
        at : Follows v.manager manager events → Lands v.manager manager events
        at (inl s) = absurd (let wrong : None ≡ Some number = sym (none_numbered events s.landed) ∙ numbered in cc)
        at (inr l) = l

    post_lands : LandsPost inst numbered_lands.post events
    post_lands = (lands numbered_lands).0

    same_number : (x y : ℕ) → Some x ≡ Some y → x ≡ y
    same_number x y e = cc

    carried : IsLanded (command_of numbered_lands.post) id post_lands.number v.commands commands v.refused refused
    carried =
        subst (λ n. IsLanded (command_of numbered_lands.post) id n v.commands commands v.refused refused) (same_number number post_lands.number (sym numbered ∙ post_lands.first))
        (subst (λ o. IsLanded o id number v.commands commands v.refused refused) (is_by ∙ ap command_of_first numbered_lands.landed ∙ command_first numbered_lands.post) landed)

    pub turned_legal : EachAfter (IsLegalMoment inst) log (map happening events)
    turned_legal = (lands numbered_lands).1

    pub turned_posted : manager.posted ≡ None
    turned_posted = numbered_lands.posted

    pub turned_size : commands.issued ≡ v.commands.issued
    turned_size = landed_size v.commands commands v.refused refused id number by landed

    pub turned_counted : length manager.book.jobs + count_by is_submit commands.rows ≤ length v.manager.book.jobs + count_by is_submit v.commands.rows
    turned_counted = landed_counted v inst log a manager step events makes numbered_lands post_lands commands refused id is_id named carried

    pub turned_time : (span : ℕ) → AreInTime v.commands v.birth v.second span → AreInTime commands v.birth v.second span
    turned_time span h = landed_time v.commands commands v.refused refused id number v.birth v.second span by landed h

    pub turned_drawn : (submitted : ℕ) → ((rank : ℕ) → rank < length v.commands.issued → slice_index v.commands.issued rank ≤ submitted) → (rank : ℕ) → rank < length commands.issued → slice_index commands.issued rank ≤ submitted
    turned_drawn submitted h = landed_drawn v.commands commands v.refused refused id number submitted by landed h

    pub turned_marked : (now : ℕ) → AreMarkedBy v.commands now → AreMarkedBy commands now
    turned_marked now h = subst (λ (marks : List Mark). (rank : ℕ) → (mark_at marks rank).second ≤ now) (sym (landed_marks v.commands commands v.refused refused id number by landed)) h

    pub turned_judged : AreJudged v.terms.limits v.commands v.manager.book.jobs v.refused → AreJudged v.terms.limits commands manager.book.jobs refused
    turned_judged = later_judged v inst log a manager step events makes numbered_lands post_lands commands refused id is_id named carried

    pub turned_facts : Facts commands refused v.second inst (log ++ map happening events)
    turned_facts = facts_later v inst log a manager step events makes numbered_lands post_lands commands refused id is_id named carried

    pub turned_book : IsBookOf inst manager.book
    turned_book = same-book inst v.manager.book manager.book (ap (λ b. b.grant) numbered_lands.book) (ap (λ b. b.policy) numbered_lands.book) a.kind.book

    pub turned_agrees : (spent : Bool) (found : Option Post) → Each (λ j. j.id < 2 ^ 64) manager.book.jobs → 1000 * (v.second - v.birth) < 2 ^ 40 → length commands.issued ≤ 32 → MadeAreDue → UnmadeAreNot
        → IsFoundBeside v.terms manager.posted commands manager.book v.second v.birth found → AgreesJobs (with_parts v spent manager commands refused found v.submitted) inst (log ++ map happening events)
    turned_agrees = landed_agrees v inst log a manager step events makes numbered_lands post_lands commands refused id is_id named carried

use Rattle.std.proofs.Common.{◌≡◌, ◌∙◌, ◌++◌, ◌<◌, ◌^◌, ◌+◌, ◌≤◌, [], ◌∷◌, Some, false, true, length, sym, ap, subst, arith}
use Rattle.std.specs.List.{AllByRecursion as Each}
use Rattle.std.specs.Prelude.{option_map}
use Rattle.kvs_core.specs.Agrees.{Agrees}
use Rattle.kvs_core.specs.Posted.{newest_of}
use Rattle.kvs_rules.specs.Namespaces.{newest_store, primary}
use Rattle.instance_rules.specs.Desks.{is_submission}
use Rattle.instance_rules.specs.Log.{Issued, service_of}
use Rattle.job_clock.specs.Targets.{AreInTime}
use Rattle.run_limits.specs.Limits.{most_seconds}
use Rattle.job_service.specs.Times.{HasTime}
use Rattle.job_commands.specs.Asks.{told}
use Rattle.job_commands.specs.Rows.{issued_row}
use Rattle.job_manager.specs.Posts.{post_of}
use Rattle.job_service.specs.Agrees.{AgreesJobs, HasRoom, IsAgreed, MayIssue}
use Rattle.job_service.specs.Children.{IsBearing}
use Rattle.job_service.specs.Judged.{AreJudged}
use Rattle.job_service.specs.View.{value_of}
use Rattle.job_service.specs.Refusals.{IsFaultOf}
use Rattle.job_service.proofs.Calls.{is_soon, spanned, with_parts}
use Rattle.job_service.proofs.Held.{held_next}
use Rattle.job_service.proofs.Issuing.{counted_more, issue_all, issued_commands, issued_drawn, issued_facts, issued_within, named_more, new_within, room_left, short_next, time_left}
use Rattle.job_service.proofs.Judging.{judged_issued}
use Rattle.job_service.proofs.Owing.{can-look}
use Rattle.job_service.proofs.service.JobService.issue.Goals as goal

pub look-requires : goal.look-requires
look-requires c =
    let held = c.self.invariant (ap (λ v. v.spent) c.self.view_is ∙ c.requires.ready) in
    let i = held.fit in
    let v = value_of c.self.inside in
    let m = subst (λ w. MayIssue w c.args.by c.args.rank c.args.ask) (sym c.self.view_is) c.requires.may in
    let newest = subst (λ k. newest_store m.inst.service (service_of m.log) primary ≡ Some (newest_of k)) c.core.ensures (c.standing.ensures.newest m.inst.service (service_of m.log) (subst (λ k. Agrees k m.inst.service (service_of m.log)) (sym c.core.ensures) m.agrees.core)) in
    let fault = subst (λ b. IsFaultOf c.self.inside.terms.limits c.self.inside.commands b.jobs c.args.ask c.in_ok-fault.fault) c.book-2.ensures c.in_ok-fault.ensures in
    let f = issued_facts v m.inst m.log m.agrees false c.issue.new.self c.args.by c.args.rank c.args.ask m.new c.keeps.ensures newest c.what_is_lacking_is_so_by_the_log.ensures c.in_ok-fault.fault fault i.order c.in_ok-issue.ensures.agrees in
    let short = short_next v i c.issue.new.self c.in_ok-issue.ensures.size in
    can-look c.self.inside.terms c.issue.new.self c.self.inside.manager.book c.self.inside.second c.self.inside.birth m.inst (m.log ++ Issued c.args.by ∷ []) f.commands m.agrees.kind.valid f.second m.agrees.kind.terms m.agrees.kind.birth m.agrees.kind.book i.order (is_soon v i) short (c.in_ok-issue.ensures.marked i.marked)

pub invariant_of-self-2 : goal.invariant_of-self-2
invariant_of-self-2 c = λ _.
    let held = c.self.invariant (ap (λ v. v.spent) c.self.view_is ∙ c.requires.ready) in
    let i = held.fit in
    let v = value_of c.self.inside in
    let m = subst (λ w. MayIssue w c.args.by c.args.rank c.args.ask) (sym c.self.view_is) c.requires.may in
    let newest = subst (λ k. newest_store m.inst.service (service_of m.log) primary ≡ Some (newest_of k)) c.core.ensures (c.standing.ensures.newest m.inst.service (service_of m.log) (subst (λ k. Agrees k m.inst.service (service_of m.log)) (sym c.core.ensures) m.agrees.core)) in
    let fault = subst (λ b. IsFaultOf c.self.inside.terms.limits c.self.inside.commands b.jobs c.args.ask c.in_ok-fault.fault) c.book-2.ensures c.in_ok-fault.ensures in
    let smalls = subst (λ b. Each (λ j. j.id < 2 ^ 64) b.jobs) c.book.ensures c.keeps-2.ensures.small in
    let short = short_next v i c.issue.new.self c.in_ok-issue.ensures.size in
    let commands = issued_commands v m.inst m.log m.agrees false c.issue.new.self c.args.by c.args.rank c.args.ask m.new c.keeps.ensures newest c.what_is_lacking_is_so_by_the_log.ensures c.in_ok-fault.fault fault i.order c.in_ok-issue.ensures.agrees in
    let row = issued_row c.self.inside.commands c.args.by c.args.rank c.self.inside.second c.args.ask in
    let room = subst (λ w. is_submission (Some (told c.args.ask)) ≡ true → HasRoom w) (sym c.self.view_is) c.requires.room in
    held_next c.self.inside held false c.issue.new.self c.remember.new.list c.in_ok-self-inside.field-0 (c.self.inside.submitted + c.from.result) (c.self.inside.span + c.seconds_asked.result) c.self.inside.bearing c.in_ok-issue.ensures.size
    (named_more c.self.inside.commands c.issue.new.self c.self.inside.birth row c.self.inside.manager.posted c.in_ok-issue.ensures.rows i.posted)
    (counted_more (length c.self.inside.manager.book.jobs) c.self.inside.submitted c.from.result c.self.inside.commands c.issue.new.self c.args.by c.args.rank c.self.inside.second c.args.ask c.is_submit.result c.in_ok-issue.ensures.rows c.is_submit.ensures c.from.ensures i.counted)
    (room_left v c.args.ask c.from.result c.is_submit.result c.is_submit.ensures c.from.ensures room i.bounded)
    (subst (λ n. AreInTime c.issue.new.self c.self.inside.birth c.self.inside.second (most_seconds + (c.self.inside.span + n))) (sym c.seconds_asked.ensures) (issued_within c.self.inside.commands c.issue.new.self c.args.by c.args.rank c.self.inside.second c.self.inside.birth c.self.inside.span c.args.ask c.in_ok-issue.ensures.rows i.timed))
    (subst (λ n. c.self.inside.span + n ≤ most_seconds) (sym c.seconds_asked.ensures) (time_left v c.args.ask (subst (λ w. HasTime w c.args.ask) (sym c.self.view_is) c.requires.time) i.near))
    (subst (λ l. IsBearing (record c.self.inside.commands { children = l }) c.self.inside.manager.book c.self.inside.bearing) (sym c.in_ok-issue.ensures.children) i.bearing)
    (issued_drawn v m.inst m.log m.agrees.commands c.issue.new.self c.args.by c.args.ask c.from.result c.is_submit.result m.new.asks commands c.in_ok-issue.ensures.size c.is_submit.ensures c.from.ensures i.drawn)
    (c.in_ok-issue.ensures.marked i.marked)
    (subst (AreJudged c.self.inside.terms.limits c.issue.new.self c.self.inside.manager.book.jobs) (sym c.in_ok-remember.ensures) (judged_issued c.self.inside.commands c.issue.new.self c.self.inside.manager.book.jobs c.self.inside.refused.items c.args.by c.args.rank c.self.inside.second c.args.ask c.in_ok-fault.fault c.in_ok-issue.ensures.rows c.in_ok-issue.ensures.labels fault i.judged))
    c.in_ok-self-inside.ensures
    (subst (λ l. IsAgreed (spanned (with_parts v false c.self.inside.manager c.issue.new.self l (option_map post_of c.in_ok-self-inside.field-0) (c.self.inside.submitted + c.from.result)) (c.self.inside.span + c.seconds_asked.result) c.self.inside.bearing)) (sym c.in_ok-remember.ensures)
    (record {
      inst = m.inst;
      log = m.log ++ Issued c.args.by ∷ [];
      agrees = issue_all v m.inst m.log m.agrees false c.issue.new.self c.args.by c.args.rank c.args.ask m.new c.keeps.ensures newest c.what_is_lacking_is_so_by_the_log.ensures c.in_ok-fault.fault fault i.order c.in_ok-issue.ensures.agrees
          smalls (is_soon v i) short c.what_is_made_is_due.ensures.some c.what_is_made_is_due.ensures.none c.what_waits_stays_due.ensures (option_map post_of c.in_ok-self-inside.field-0) (c.self.inside.submitted + c.from.result) c.in_ok-self-inside.ensures (c.self.inside.span + c.seconds_asked.result);
    }))

pub returns-clause-agrees : goal.returns-clause-agrees
returns-clause-agrees c = λ inst log a new.
    let held = c.self.invariant (ap (λ v. v.spent) c.self.view_is ∙ c.requires.ready) in
    let i = held.fit in
    let v = value_of c.self.inside in
    let b = subst (λ w. AgreesJobs w inst log) (sym c.self.view_is) a in
    let newest = subst (λ k. newest_store inst.service (service_of log) primary ≡ Some (newest_of k)) c.core.ensures (c.standing.ensures.newest inst.service (service_of log) (subst (λ k. Agrees k inst.service (service_of log)) (sym c.core.ensures) b.core)) in
    let fault = subst (λ b. IsFaultOf c.self.inside.terms.limits c.self.inside.commands b.jobs c.args.ask c.in_ok-fault.fault) c.book-2.ensures c.in_ok-fault.ensures in
    let smalls = subst (λ b. Each (λ j. j.id < 2 ^ 64) b.jobs) c.book.ensures c.keeps-2.ensures.small in
    let short = short_next v i c.issue.new.self c.in_ok-issue.ensures.size in
    subst (λ l. AgreesJobs (spanned (with_parts v false c.self.inside.manager c.issue.new.self l (option_map post_of c.in_ok-self-inside.field-0) (c.self.inside.submitted + c.from.result)) (c.self.inside.span + c.seconds_asked.result) c.self.inside.bearing) inst (log ++ Issued c.args.by ∷ [])) (sym c.in_ok-remember.ensures)
    (issue_all v inst log b false c.issue.new.self c.args.by c.args.rank c.args.ask new c.keeps.ensures newest c.what_is_lacking_is_so_by_the_log.ensures c.in_ok-fault.fault fault i.order c.in_ok-issue.ensures.agrees
    smalls (is_soon v i) short c.what_is_made_is_due.ensures.some c.what_is_made_is_due.ensures.none c.what_waits_stays_due.ensures (option_map post_of c.in_ok-self-inside.field-0) (c.self.inside.submitted + c.from.result) c.in_ok-self-inside.ensures (c.self.inside.span + c.seconds_asked.result))

pub issue-requires-clause-few : goal.issue-requires-clause-few
issue-requires-clause-few c = λ submits.
    let i = (c.self.invariant (ap (λ v. v.spent) c.self.view_is ∙ c.requires.ready)).fit in
    let v = value_of c.self.inside in
    let m = subst (λ w. MayIssue w c.args.by c.args.rank c.args.ask) (sym c.self.view_is) c.requires.may in
    let room = (subst (λ w. is_submission (Some (told c.args.ask)) ≡ true → HasRoom w) (sym c.self.view_is) c.requires.room) submits in
    let drawn = i.drawn c.args.rank (new_within v i m.inst m.log m.agrees c.args.by c.args.rank c.args.ask m.new) in
    omega (arith, room, drawn)

pub issue-requires-clause-later : goal.issue-requires-clause-later
issue-requires-clause-later c = λ submits.
    let i = (c.self.invariant (ap (λ v. v.spent) c.self.view_is ∙ c.requires.ready)).fit in
    i.marked c.args.rank

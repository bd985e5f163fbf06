use Rattle.std.proofs.Common.{◌≡◌, ◌∙◌, ℕ, ◌+◌, ◌++◌, ◌<◌, ◌≤◌, ◌^◌, [], ◌∷◌, false, true, length, List, not, sym, ap, subst}
use Rattle.std.specs.List.{AllByRecursion as Each}
use Rattle.std.specs.Prelude.{filter, option_map, slice_index}
use Rattle.instance_rules.specs.Log.{Replied}
use Rattle.job_clock.proofs.Times.{fewer_in_time}
use Rattle.job_commands.specs.Rows.{is_of, mark_at}
use Rattle.job_commands.specs.declared.tally.Mark.{Mark}
use Rattle.job_manager.specs.Posts.{post_of}
use Rattle.run_limits.specs.Limits.{most_seconds}
use Rattle.job_service.specs.Agrees.{AgreesJobs, IsAgreed}
use Rattle.job_service.specs.Children.{IsBearing}
use Rattle.job_service.specs.Judged.{AreJudged}
use Rattle.job_service.specs.View.{value_of}
use Rattle.job_service.specs.Refusals.{is_refusal_of}
use Rattle.job_service.specs.Replies.{Answers, can_reply}
use Rattle.job_service.specs.Watching.{without_feed}
use Rattle.job_service.proofs.Calls.{is_soon, refeed, with_parts}
use Rattle.job_service.proofs.Feeding.{fed_replied}
use Rattle.job_service.proofs.Held.{held_fed, held_next}
use Rattle.job_service.proofs.Issuing.{counted_less, is_free, named_less, not_kept, replied_facts, reply_all, short_next}
use Rattle.job_service.proofs.Judging.{judged_told}
use Rattle.job_service.proofs.Owing.{can-look}
use Rattle.job_service.proofs.service.JobService.reply.Goals as goal

pub look-requires : goal.look-requires
look-requires c =
    let held = c.self.invariant (ap (λ v. v.spent) c.self.view_is ∙ c.requires.ready) in
    let i = held.fit in
    let v = value_of c.self.inside in
    let g = i.agreed in
    let t = c.in-Ok.ensures g.inst g.log (subst (λ w. AgreesJobs w g.inst g.log) c.self.view_is g.agrees) in
    let f = replied_facts v g.inst g.log g.agrees false c.reply.new.self c.args.by c.in-Ok.told.reply c.in-Ok.told.number t c.reply.ensures.agrees in
    let short = short_next v i c.reply.new.self (ap length c.reply.ensures.size) in
    can-look c.self.inside.terms c.reply.new.self c.self.inside.manager.book c.self.inside.second c.self.inside.birth g.inst (g.log ++ Replied c.args.by t.reply c.in-Ok.told.number ∷ []) f.commands g.agrees.kind.valid f.second g.agrees.kind.terms g.agrees.kind.birth g.agrees.kind.book i.order (is_soon v i) short
    (subst (λ (marks : List Mark). (rank : ℕ) → (mark_at marks rank).second ≤ c.self.inside.second) (sym c.reply.ensures.marks) i.marked)

pub invariant_of-self-2 : goal.invariant_of-self-2
invariant_of-self-2 c = λ _.
    let held = c.self.invariant (ap (λ v. v.spent) c.self.view_is ∙ c.requires.ready) in
    let i = held.fit in
    let v = value_of c.self.inside in
    let g = i.agreed in
    let t = c.in-Ok.ensures g.inst g.log (subst (λ w. AgreesJobs w g.inst g.log) c.self.view_is g.agrees) in
    let free = is_free v c.args.by (subst (λ w. can_reply w c.args.by ≡ true) (sym c.self.view_is) c.requires.can) in
    let smalls = subst (λ b. Each (λ j. j.id < 2 ^ 64) b.jobs) c.book.ensures c.keeps-2.ensures.small in
    let short = short_next v i c.reply.new.self (ap length c.reply.ensures.size) in
    let all = reply_all v g.inst g.log g.agrees false c.reply.new.self c.args.by c.in-Ok.told.reply c.in-Ok.told.number t c.reply.ensures.agrees
    smalls (is_soon v i) short c.what_is_made_is_due.ensures.some c.what_is_made_is_due.ensures.none c.what_waits_stays_due.ensures free (option_map post_of c.in_ok-self-inside.field-0) c.in_ok-self-inside.ensures in
    let later = g.log ++ Replied c.args.by all.reply c.in-Ok.told.number ∷ [] in
    let fed = fed_replied c.self.inside.feeds.items g.inst g.log c.args.by all.reply c.in-Ok.told.number g.agrees.fed in
    let told = record c.self.inside { spent = false; commands = c.reply.new.self; refused = c.forget.new.list; found = c.in_ok-self-inside.field-0 } in
    held_fed told
    (held_next c.self.inside held false c.reply.new.self c.forget.new.list c.in_ok-self-inside.field-0 c.self.inside.submitted c.self.inside.span c.self.inside.bearing (ap length c.reply.ensures.size)
    (named_less c.self.inside.commands c.reply.new.self c.self.inside.birth c.args.by c.self.inside.manager.posted c.reply.ensures.rows (not_kept v g.inst g.log g.agrees c.args.by free) i.posted)
    (counted_less (length c.self.inside.manager.book.jobs) c.self.inside.submitted c.self.inside.commands c.reply.new.self c.args.by c.reply.ensures.rows i.counted)
    i.bounded (fewer_in_time c.self.inside.commands c.reply.new.self (λ row. not (is_of c.args.by row)) c.self.inside.birth c.self.inside.second (most_seconds + c.self.inside.span) c.reply.ensures.rows i.timed) i.near
    (subst (λ l. IsBearing (record c.self.inside.commands { children = l }) c.self.inside.manager.book c.self.inside.bearing) (sym c.reply.ensures.children) i.bearing)
    (subst (λ issued. (rank : ℕ) → rank < length issued → slice_index issued rank ≤ c.self.inside.submitted) (sym c.reply.ensures.size) i.drawn)
    (subst (λ (marks : List Mark). (rank : ℕ) → (mark_at marks rank).second ≤ c.self.inside.second) (sym c.reply.ensures.marks) i.marked)
    (subst (AreJudged c.self.inside.terms.limits c.reply.new.self c.self.inside.manager.book.jobs) (sym c.forget.ensures) (judged_told c.self.inside.commands c.reply.new.self c.self.inside.manager.book.jobs c.self.inside.refused.items c.args.by c.reply.ensures.rows c.reply.ensures.labels i.judged))
    c.in_ok-self-inside.ensures
    (subst (λ l. IsAgreed (with_parts v false c.self.inside.manager c.reply.new.self l (option_map post_of c.in_ok-self-inside.field-0) c.self.inside.submitted)) (sym c.forget.ensures)
    (record { inst = g.inst; log = later; agrees = all.agrees })))
    false c.forget_feed.new.list
    (subst (λ l. IsAgreed (record (with_parts v false c.self.inside.manager c.reply.new.self c.forget.new.list.items (option_map post_of c.in_ok-self-inside.field-0) c.self.inside.submitted) { spent = false; feeds = l })) (sym c.forget_feed.ensures)
    (subst (λ l. IsAgreed (record (with_parts v false c.self.inside.manager c.reply.new.self l (option_map post_of c.in_ok-self-inside.field-0) c.self.inside.submitted) { spent = false; feeds = without_feed c.args.by c.self.inside.feeds.items })) (sym c.forget.ensures)
    (record {
      inst = g.inst;
      log = later;
      agrees = refeed (with_parts v false c.self.inside.manager c.reply.new.self (filter (λ x. not (is_refusal_of c.args.by x)) c.self.inside.refused.items) (option_map post_of c.in_ok-self-inside.field-0) c.self.inside.submitted) g.inst later false (without_feed c.args.by c.self.inside.feeds.items) fed all.agrees;
    })))

pub returns-clause-answers : goal.returns-clause-answers
returns-clause-answers c = λ inst log a.
    let held = c.self.invariant (ap (λ v. v.spent) c.self.view_is ∙ c.requires.ready) in
    let i = held.fit in
    let v = value_of c.self.inside in
    let b = subst (λ w. AgreesJobs w inst log) (sym c.self.view_is) a in
    let free = is_free v c.args.by (subst (λ w. can_reply w c.args.by ≡ true) (sym c.self.view_is) c.requires.can) in
    let smalls = subst (λ b. Each (λ j. j.id < 2 ^ 64) b.jobs) c.book.ensures c.keeps-2.ensures.small in
    let short = short_next v i c.reply.new.self (ap length c.reply.ensures.size) in
    let all = reply_all v inst log b false c.reply.new.self c.args.by c.in-Ok.told.reply c.in-Ok.told.number (c.in-Ok.ensures inst log a) c.reply.ensures.agrees
    smalls (is_soon v i) short c.what_is_made_is_due.ensures.some c.what_is_made_is_due.ensures.none c.what_waits_stays_due.ensures free (option_map post_of c.in_ok-self-inside.field-0) c.in_ok-self-inside.ensures in
    let fed = fed_replied c.self.inside.feeds.items inst log c.args.by all.reply c.in-Ok.told.number b.fed in
    subst (λ l. Answers (record (with_parts v false c.self.inside.manager c.reply.new.self c.forget.new.list.items (option_map post_of c.in_ok-self-inside.field-0) c.self.inside.submitted) { spent = false; feeds = l }) inst log c.args.by c.in-Ok.told.reply c.in-Ok.told.number) (sym c.forget_feed.ensures)
    (subst (λ l. Answers (record (with_parts v false c.self.inside.manager c.reply.new.self l (option_map post_of c.in_ok-self-inside.field-0) c.self.inside.submitted) { spent = false; feeds = without_feed c.args.by c.self.inside.feeds.items }) inst log c.args.by c.in-Ok.told.reply c.in-Ok.told.number) (sym c.forget.ensures)
    (record {
      reply = all.reply;
      hands = all.hands;
      legal = all.legal;
      agrees = refeed (with_parts v false c.self.inside.manager c.reply.new.self (filter (λ x. not (is_refusal_of c.args.by x)) c.self.inside.refused.items) (option_map post_of c.in_ok-self-inside.field-0) c.self.inside.submitted) inst (log ++ Replied c.args.by all.reply c.in-Ok.told.number ∷ []) false (without_feed c.args.by c.self.inside.feeds.items) fed all.agrees;
    }))

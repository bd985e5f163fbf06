-- What the code rests on after its calls.
use Rattle.std.proofs.Common.{◌≡◌, ℕ, ◌+◌, ◌<◌, ◌≤◌, List, Bool, false, length, arith, Option, Some, None, count_by, refl, sym, ap, ◌∙◌, subst}
use Rattle.std.specs.Global.{Vec}
use Rattle.std.specs.Prelude.{option_map, slice_index}
use Rattle.job_clock.specs.Targets.{AreInTime}
use Rattle.job_commands.specs.Rows.{AreMarkedBy, CommandsValue, is_submit}
use Rattle.job_commands.specs.declared.child.Child.{Child}
use Rattle.job_manager.specs.Follows.{Places}
use Rattle.job_manager.specs.Posts.{post_of}
use Rattle.job_manager.specs.Value.{ManagerValue}
use Rattle.job_manager.specs.declared.post.Post.{Post}
use Rattle.job_deeds.specs.manager_rules.Posts as rules
use Rattle.run_limits.specs.Limits.{most_seconds, most_submits}
use Rattle.job_service.specs.Agrees.{IsAgreed}
use Rattle.job_service.specs.Children.{IsBearing}
use Rattle.job_service.specs.Times.{MayPassTo}
use Rattle.job_service.specs.Due.{IsFoundBeside}
use Rattle.job_service.specs.Judged.{AreJudged}
use Rattle.job_service.specs.Posted.{IsNamed, id_posted}
use Rattle.job_service.specs.View.{IsHeld, value_of}
use Rattle.job_service.specs.declared.feeds.Feed.{Feed}
use Rattle.job_service.specs.declared.refusals.Refused.{Refused}
use Rattle.job_service.specs.declared.service.JobService.TheInside.{Inside}
use Rattle.job_service.proofs.Calls.{fit, fit_still, spanned, with_parts}
use Rattle.job_service.proofs.Born.{named_as, timed_as}
use Rattle.job_service.proofs.Ticking.{ticked_value}
use Rattle.job_service.proofs.Owing.{found-named}

-- where the posts, the book and the commands stay
pub held_still : (s : Inside) → IsHeld s → (spent : Bool) (manager : ManagerValue) → manager.spent ≡ false → manager.core.size ≡ s.manager.core.size → manager.book ≡ s.manager.book → manager.posted ≡ s.manager.posted
    → IsAgreed (with_parts (value_of s) spent manager s.commands s.refused.items (value_of s).found s.submitted) → IsHeld (record s { spent = spent; manager = manager })
held_still s h spent manager ready size book posted agreed = record {
  fit = fit_still (value_of s) h.fit spent manager ready size book posted agreed;
  submits = h.submits ∙ sym (ap id_posted posted);
}

-- where the manager stays, and what is due is looked for anew
pub held_next : (s : Inside) → IsHeld s → (spent : Bool) (commands : CommandsValue) (refused : Vec Refused) (later : Option Post) (submitted span : ℕ) (bearing : Option ℕ) → length commands.issued ≡ length s.commands.issued → IsNamed commands s.birth s.manager.posted
    → length s.manager.book.jobs + count_by is_submit commands.rows ≤ submitted → submitted ≤ most_submits → AreInTime commands s.birth s.second (most_seconds + span) → span ≤ most_seconds → IsBearing commands s.manager.book bearing → ((rank : ℕ) → rank < length commands.issued → slice_index commands.issued rank ≤ submitted) → AreMarkedBy commands s.second → AreJudged s.terms.limits commands s.manager.book.jobs refused.items
    → IsFoundBeside s.terms s.manager.posted commands s.manager.book s.second s.birth (option_map post_of later)
    → IsAgreed (spanned (with_parts (value_of s) spent s.manager commands refused.items (option_map post_of later) submitted) span bearing) → IsHeld (record s { spent = spent; commands = commands; refused = refused; found = later; bearing = bearing; submitted = submitted; span = span })
held_next s h spent commands refused later submitted span bearing size named counted bounded timed near bears drawn marked judged found agreed =
    let next = option_map post_of later in
    record {
      fit = fit (value_of s) h.fit spent s.manager commands refused.items next submitted span bearing h.fit.ready refl size found named counted bounded (record { timed = timed; near = near; bears = bears; drawn = drawn; marked = marked; judged = judged }) agreed;
      submits = h.submits;
    }

-- where what was found is posted
pub held_posted : (s : Inside) → IsHeld s → (spent : Bool) (manager : ManagerValue) (id : Option ℕ) (left : Option Post) (post : rules.Post) → left ≡ None → manager.spent ≡ false → (value_of s).found ≡ Some post → Places post s.manager manager → id ≡ id_posted (Some post)
    → IsAgreed (with_parts (value_of s) spent manager s.commands s.refused.items None s.submitted) → IsHeld (record s { spent = spent; manager = manager; found = left; submitting = id })
held_posted s h spent manager id left post none ready is p names agreed =
    let v = value_of s in
    subst (λ o. IsHeld (record s { spent = spent; manager = manager; found = o; submitting = id })) (sym none)
    (record {
      fit = fit v h.fit spent manager s.commands s.refused.items None s.submitted s.span s.bearing ready p.size refl (subst (λ o. IsFoundBeside s.terms o s.commands manager.book s.second s.birth None) (sym p.posted) refl) (subst (IsNamed s.commands s.birth) (is ∙ sym p.posted) h.fit.named)
          (subst (λ b. length b.jobs + count_by is_submit s.commands.rows ≤ s.submitted) (sym p.book) h.fit.counted) h.fit.bounded
          (record { timed = h.fit.timed; near = h.fit.near; bears = subst (λ b. IsBearing s.commands b s.bearing) (sym p.book) h.fit.bearing; drawn = h.fit.drawn; marked = h.fit.marked; judged = subst (λ b. AreJudged s.terms.limits s.commands b.jobs s.refused.items) (sym p.book) h.fit.judged }) agreed;
      submits = names ∙ sym (ap id_posted p.posted);
    })

-- where a post has landed
pub held_landed : (s : Inside) → IsHeld s → (spent : Bool) (manager : ManagerValue) (commands : CommandsValue) (refused : Vec Refused) (later : Option Post) (bearing : Option ℕ) → manager.spent ≡ false → manager.core.size ≡ s.manager.core.size → manager.posted ≡ None → length commands.issued ≡ length s.commands.issued
    → length manager.book.jobs + count_by is_submit commands.rows ≤ s.submitted → AreInTime commands s.birth s.second (most_seconds + s.span) → IsBearing commands manager.book bearing → ((rank : ℕ) → rank < length commands.issued → slice_index commands.issued rank ≤ s.submitted) → AreMarkedBy commands s.second → AreJudged s.terms.limits commands manager.book.jobs refused.items
    → IsFoundBeside s.terms manager.posted commands manager.book s.second s.birth (option_map post_of later)
    → IsAgreed (spanned (with_parts (value_of s) spent manager commands refused.items (option_map post_of later) s.submitted) s.span bearing) → IsHeld (record s { spent = spent; manager = manager; commands = commands; refused = refused; found = later; bearing = bearing; submitting = None })
held_landed s h spent manager commands refused later bearing ready size posted same counted timed bears drawn marked judged found agreed =
    let next = option_map post_of later in
    record {
      fit = fit (value_of s) h.fit spent manager commands refused.items next s.submitted s.span bearing ready size same found (subst (IsNamed commands s.birth) (sym posted) tt) counted h.fit.bounded (record { timed = timed; near = h.fit.near; bears = bears; drawn = drawn; marked = marked; judged = judged }) agreed;
      submits = sym (ap id_posted posted);
    }

-- where time has gone on
pub held_ticked : (s : Inside) → IsHeld s → (spent : Bool) (second : ℕ) (later : Option Post) → s.manager.posted ≡ None → MayPassTo (value_of s) second
    → IsFoundBeside s.terms s.manager.posted s.commands s.manager.book second s.birth (option_map post_of later) → IsAgreed (ticked_value (value_of s) spent second (option_map post_of later)) → IsHeld (record s { spent = spent; second = second; found = later })
held_ticked s h spent second later posted may found agreed =
    let i = h.fit in
    let f = option_map post_of later in
    let above = may.passes.above in
    record {
      fit = record {
        ready = i.ready;
        size = i.size;
        few = i.few;
        order = (let a = i.order in omega (arith, a, above));
        soon = may.near;
        early = i.early;
        timed = record { present = (let b = may.near in omega (arith, b)); targets = i.timed.targets };
        near = i.near;
        sought = found;
        posted = i.posted;
        named = found-named s.terms s.commands s.manager.book second s.birth s.manager.posted f found;
        counted = i.counted;
        bounded = i.bounded;
        drawn = i.drawn;
        marked = λ rank. let a = i.marked rank in omega (arith, a, above);
        judged = i.judged;
        bearing = i.bearing;
        agreed = agreed;
      };
      submits = h.submits;
    }

-- where a child is born or goes
pub held_child : (s : Inside) → IsHeld s → (spent : Bool) (commands : CommandsValue) (children : List Child) (later : Option Post) (bearing : Option ℕ) → commands ≡ record s.commands { children = children } → IsBearing commands s.manager.book bearing
    → IsFoundBeside s.terms s.manager.posted commands s.manager.book s.second s.birth (option_map post_of later)
    → IsAgreed (spanned (with_parts (value_of s) spent s.manager commands s.refused.items (option_map post_of later) s.submitted) s.span bearing) → IsHeld (record s { spent = spent; commands = commands; found = later; bearing = bearing })
held_child s h spent commands children later bearing is bears found agreed =
    let i = h.fit in
    let so = sym is in
    held_next s h spent commands s.refused later s.submitted s.span bearing
    (ap (λ w. length w.issued) is)
    (subst (λ w. IsNamed w s.birth s.manager.posted) so (named_as s.commands children s.birth s.manager.posted i.posted))
    (subst (λ w. length s.manager.book.jobs + count_by is_submit w.rows ≤ s.submitted) so i.counted)
    i.bounded
    (subst (λ w. AreInTime w s.birth s.second (most_seconds + s.span)) so (timed_as s.commands children s.birth s.second (most_seconds + s.span) i.timed))
    i.near bears
    (subst (λ (w : CommandsValue). (rank : ℕ) → rank < length w.issued → slice_index w.issued rank ≤ s.submitted) so i.drawn)
    (subst (λ w. AreMarkedBy w s.second) so i.marked)
    (subst (λ w. AreJudged s.terms.limits w s.manager.book.jobs s.refused.items) so i.judged)
    found agreed

-- with other feeds
pub held_fed : (s : Inside) → IsHeld s → (spent : Bool) (feeds : Vec Feed) → IsAgreed (value_of (record s { spent = spent; feeds = feeds })) → IsHeld (record s { spent = spent; feeds = feeds })
held_fed s h spent feeds agreed =
    let i = h.fit in
    record {
      fit = record {
        ready = i.ready;
        size = i.size;
        few = i.few;
        order = i.order;
        soon = i.soon;
        early = i.early;
        timed = i.timed;
        near = i.near;
        sought = i.sought;
        posted = i.posted;
        named = i.named;
        counted = i.counted;
        bounded = i.bounded;
        drawn = i.drawn;
        marked = i.marked;
        judged = i.judged;
        bearing = i.bearing;
        agreed = agreed;
      };
      submits = h.submits;
    }

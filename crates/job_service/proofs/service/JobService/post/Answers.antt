use Rattle.std.proofs.Common.{◌∙◌, ◌<◌, ◌^◌, false, sym, ap, subst, arith}
use Rattle.std.specs.Prelude.{is_some, option_map}
use Rattle.job_manager.specs.Posts.{post_of}
use Rattle.job_service.specs.Agrees.{AgreesJobs}
use Rattle.job_service.specs.View.{value_of}
use Rattle.job_service.proofs.Calls.{alone_in, with_parts}
use Rattle.job_service.proofs.Held.{held_posted}
use Rattle.job_service.proofs.Outgoing.{free, may_post, posted_agrees}
use Rattle.job_service.proofs.service.JobService.post.Goals as goal

pub post-requires-clause-free : goal.post-requires-clause-free
post-requires-clause-free c =
    let i = (c.self.invariant (ap (λ v. v.spent) c.self.view_is ∙ c.requires.ready)).fit in
    free (value_of c.self.inside).found c.self.inside.manager.posted (post_of c.in-Some.found) (alone_in (value_of c.self.inside) i) (ap (option_map post_of) (sym c.take.ensures.value ∙ c.in-Some.is))

pub post-requires-clause-few : goal.post-requires-clause-few
post-requires-clause-few c =
    let i = (c.self.invariant (ap (λ v. v.spent) c.self.view_is ∙ c.requires.ready)).fit in
    let counted = i.counted in
    let bounded = i.bounded in
    omega (arith, counted, bounded)

pub post-requires-clause-due : goal.post-requires-clause-due
post-requires-clause-due c =
    let i = (c.self.invariant (ap (λ v. v.spent) c.self.view_is ∙ c.requires.ready)).fit in
    let g = i.agreed in
    let v = value_of c.self.inside in
    let is = ap (option_map post_of) (sym c.take.ensures.value ∙ c.in-Some.is) in
    let small : c.self.inside.second < 2 ^ 64 = omega arith in
    may_post v g.inst g.log g.agrees c.keeps.ensures (free v.found c.self.inside.manager.posted (post_of c.in-Some.found) (alone_in (value_of c.self.inside) i) is) small (post_of c.in-Some.found) is

pub invariant_of-self-2 : goal.invariant_of-self-2
invariant_of-self-2 c = λ _.
    let held = c.self.invariant (ap (λ v. v.spent) c.self.view_is ∙ c.requires.ready) in
    let g = held.fit.agreed in
    let v = value_of c.self.inside in
    let is = ap (option_map post_of) (sym c.take.ensures.value ∙ c.in-Some.is) in
    let e = c.in_ok-self-inside.ensures in
    held_posted c.self.inside held false c.post.new.manager c.in_ok-self-inside.field-0 c.take.new.self (post_of c.in-Some.found) c.take.ensures.after e.ready is e.posts e.named
    (record {
      inst = g.inst;
      log = g.log;
      agrees = posted_agrees v g.inst g.log g.agrees c.keeps.ensures (free v.found c.self.inside.manager.posted (post_of c.in-Some.found) (alone_in (value_of c.self.inside) held.fit) is) false c.post.new.manager (post_of c.in-Some.found) is e.posts;
    })

pub returns-clause-agrees : goal.returns-clause-agrees
returns-clause-agrees c = λ inst log a.
    let held = c.self.invariant (ap (λ v. v.spent) c.self.view_is ∙ c.requires.ready) in
    let v = value_of c.self.inside in
    let b = subst (λ w. AgreesJobs w inst log) (sym c.self.view_is) a in
    let is = ap (option_map post_of) (sym c.take.ensures.value ∙ c.in-Some.is) in
    subst (λ o. AgreesJobs (with_parts v false c.post.new.manager c.self.inside.commands c.self.inside.refused.items (option_map post_of o) c.self.inside.submitted) inst log) (sym c.take.ensures.after)
    (posted_agrees v inst log b c.keeps.ensures (free v.found c.self.inside.manager.posted (post_of c.in-Some.found) (alone_in (value_of c.self.inside) held.fit) is) false c.post.new.manager (post_of c.in-Some.found) is c.in_ok-self-inside.ensures.posts)

pub returns-clause-posted : goal.returns-clause-posted
returns-clause-posted c = ap is_some c.in_ok-self-inside.ensures.posts.posted

pub returns-clause-unfound : goal.returns-clause-unfound
returns-clause-unfound c = ap (option_map post_of) c.take.ensures.after

use Rattle.std.proofs.Common.{◌∙◌, false, inl, inr, ap, sym, subst}
use Rattle.std.specs.Prelude.{option_map}
use Rattle.job_manager.specs.Follows.{Follows, after_post}
use Rattle.job_manager.specs.Managed.{IsManaged}
use Rattle.job_manager.specs.Posts.{post_of}
use Rattle.job_manager.specs.Value.{ManagerValue}
use Rattle.job_manager.specs.View.{value_of}
use Rattle.job_manager.specs.declared.manager.Manager.TheInside.{Inside}
use Rattle.job_manager.proofs.Steps.{landed-one, lands, none-landed, nothing, some-landed, stays}
use Rattle.job_manager.proofs.manager.Manager.turn.Goals.{then-has_post+in-Some+in_ok-follow-in-Some+in_ok-follow-in-Some-2, else-has_post}
use Rattle.job_manager.proofs.manager.Manager.turn.Goals as goal

-- the manager of these fields, which isn't spent
abbrev unspent : Inside → ManagerValue
unspent i = record { spent = false; core = i.core; book = i.book; posted = option_map post_of i.posted; places = i.places }

pub unreachable-requires : goal.unreachable-requires
unreachable-requires c =
    let m = c.self.invariant (ap (λ v. v.spent) c.self.view_is ∙ c.requires.ready) in
    let free = ap (option_map post_of) (sym c.take.ensures.value ∙ c.in-None.is) in
    nothing (value_of c.self.inside) m free c.turn.new.self c.in_ok-events.events c.in_ok-events.ensures.makes.order (sym c.has_post.ensures ∙ c.if-has_post.true)

pub invariant_of-self-2 : goal.invariant_of-self-2
invariant_of-self-2 c = λ _.
    let m = c.self.invariant (ap (λ v. v.spent) c.self.view_is ∙ c.requires.ready) in
    let makes = c.in_ok-events.ensures.makes in
    elim c.if-has_post.branch [
      | then-has_post+in-Some+in_ok-follow-in-Some+in_ok-follow-in-Some-2 w ↦
          let waits = ap (option_map post_of) (sym w.take.ensures.value ∙ w.in-Some.is) in
          let some = some-landed c.in_ok-events.events (sym c.has_post.ensures ∙ w.if-has_post.true) in
          let after = lands (value_of c.self.inside) m c.turn.new.self c.in_ok-events.events makes.extends c.standing.ensures.kept c.standing-2.ensures.kept c.keeps.ensures.sets (post_of w.in-Some.post) waits makes.order some makes.ready w.follow-in-Some.new.book w.in_ok-follow-in-Some-2.ensures w.follow.new.self (w.in_ok-follow-in-Some.ensures _ m.places) false in
          subst (λ i. IsManaged (unspent i)) (sym w.self-inside-is)
          (subst (λ o. let v : ManagerValue = record { spent = false; core = c.turn.new.self; book = w.follow-in-Some.new.book; posted = option_map post_of o; places = w.follow.new.self } in IsManaged v) (sym w.take.ensures.after) after)
      | else-has_post w ↦
          let none = none-landed c.in_ok-events.events (sym c.has_post.ensures ∙ w.if-has_post.false) in
          subst (λ i. IsManaged (unspent i)) (sym w.self-inside-is)
          (stays (value_of c.self.inside) m c.turn.new.self c.in_ok-events.events makes.extends c.standing.ensures.kept c.standing-2.ensures.kept c.keeps.ensures.sets makes.ready makes.order none false)
    ]

pub returns-clause-follows : goal.returns-clause-follows
returns-clause-follows c =
    let m = c.self.invariant (ap (λ v. v.spent) c.self.view_is ∙ c.requires.ready) in
    let makes = c.in_ok-events.ensures.makes in
    elim c.if-has_post.branch [
      | then-has_post+in-Some+in_ok-follow-in-Some+in_ok-follow-in-Some-2 w ↦
          let waits = ap (option_map post_of) (sym w.take.ensures.value ∙ w.in-Some.is) in
          let some = some-landed c.in_ok-events.events (sym c.has_post.ensures ∙ w.if-has_post.true) in
          subst (λ i. Follows c.args.self.now (unspent i) c.in_ok-events.events) (sym w.self-inside-is)
          (inr (record {
            post = post_of w.in-Some.post;
            waited = ap (λ v. v.posted) (sym c.self.view_is) ∙ waits;
            landed = landed-one (value_of c.self.inside) m c.turn.new.self c.in_ok-events.events makes.extends c.standing.ensures.kept c.standing-2.ensures.kept c.keeps.ensures.sets (post_of w.in-Some.post) waits makes.order some;
            posted = ap (option_map post_of) w.take.ensures.after;
            book = w.in_ok-follow-in-Some-2.ensures ∙ ap (λ v. after_post (post_of w.in-Some.post) v.book) c.self.view_is;
          }))
      | else-has_post w ↦
          subst (λ i. Follows c.args.self.now (unspent i) c.in_ok-events.events) (sym w.self-inside-is)
          (inl (record {
            landed = none-landed c.in_ok-events.events (sym c.has_post.ensures ∙ w.if-has_post.false);
            posted = ap (λ v. v.posted) c.self.view_is;
            book = ap (λ v. v.book) c.self.view_is;
          }))
    ]

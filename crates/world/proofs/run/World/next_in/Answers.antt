use Rattle.std.proofs.Common.{◌≡◌, ◌∙◌, [], Some, ap, refl, sym, subst, true}
use Rattle.std.proofs.lemmas.Bool.{eqb-true}
use Rattle.instance.specs.answers.declared.steps.Step.TheVariants as step
use Rattle.world.specs.Choice.{is_settled, lanes_of}
use Rattle.world.specs.Order.{by_instances, is_own, last_steps, own_issues}
use Rattle.world.specs.View.{value_of}
use Rattle.world.proofs.Housing.{own_lines, runs_at, seated}
use Rattle.world.proofs.Ordering.{AreOwnLines, AreSeated}
use Rattle.world.proofs.Workers.{alone_over, any_last, got_listed, lane_may, no_own, none_got, nothing_in, others_listed, own_listed}
use Rattle.world.proofs.run.World.next_in.Goals.{After-last_of_all, After-lanes}
use Rattle.world.proofs.run.World.next_in.Goals as goal

count_so : (c : After-lanes) → c.lanes.result ≡ lanes_of c.args.self.now.order
count_so c = c.lanes.ensures.value ∙ ap (λ w. lanes_of w.order) c.self.view_is

-- ---- an issue of one of the lane's own

pub returns-in-Some-clause-listed : goal.returns-in-Some-clause-listed
returns-in-Some-clause-listed c =
    let v = c.args.self.now in
    let runs = runs_at c.self.inside v c.self.view_is c.self.invariant c.requires.ready c.requires.runs in
    let lines : AreOwnLines v = subst AreOwnLines c.self.view_is (own_lines (value_of c.self.inside) runs) in
    own_listed v (lanes_of v.order) c.args.lane lines c.in-Some.actor c.in-Some.ensures.some
    (subst (λ n. is_own n c.args.lane c.in-Some.actor ≡ true) (count_so (goal.at.returns-in-Some-clause-listed c).After-lanes) c.in-Some.ensures.own)

pub returns-in-Some-clause-rests : goal.returns-in-Some-clause-rests
returns-in-Some-clause-rests c =
    lane_may c.args.self.now (subst (λ w. w.set.settled ≡ is_settled w.order) c.self.view_is refl) c.requires.lanes (Some (step.Issue c.in-Some.actor))

-- ---- the first that an instance can make

pub returns-in-Some-first_of_all-clause-listed : goal.returns-in-Some-first_of_all-clause-listed
returns-in-Some-first_of_all-clause-listed c =
    let v = c.args.self.now in
    others_listed v (lanes_of v.order) c.args.lane c.in-Some-first_of_all.step (got_listed (by_instances v) 0 c.in-Some-first_of_all.step (sym c.in-Some-first_of_all.ensures.first))

pub returns-in-Some-first_of_all-clause-rests : goal.returns-in-Some-first_of_all-clause-rests
returns-in-Some-first_of_all-clause-rests c =
    lane_may c.args.self.now (subst (λ w. w.set.settled ≡ is_settled w.order) c.self.view_is refl) c.requires.lanes (Some c.in-Some-first_of_all.step)

-- ---- a tick or the end

-- the lane's own actors have nothing to issue
own_none : (c : After-last_of_all) → own_issues c.args.self.now (lanes_of c.args.self.now.order) c.args.lane ≡ []
own_none c =
    let v = c.args.self.now in
    let runs = runs_at c.self.inside v c.self.view_is c.self.invariant c.requires.ready c.requires.runs in
    let sits : AreSeated v = subst AreSeated c.self.view_is (seated (value_of c.self.inside) runs) in
    let count : c.lanes.result ≡ lanes_of v.order = c.lanes.ensures.value ∙ ap (λ w. lanes_of w.order) c.self.view_is in
    no_own v (lanes_of v.order) c.args.lane sits (λ a own. c.own_issue.ensures.none c.in_default.is a (subst (λ n. is_own n c.args.lane a ≡ true) (sym count) own))

pub returns-in-None-clause-listed : goal.returns-in-None-clause-listed
returns-in-None-clause-listed c =
    let v = c.args.self.now in
    any_last v (lanes_of v.order) c.args.lane c.last_of_all.result c.last_of_all.ensures.first

pub returns-in-None-clause-none : goal.returns-in-None-clause-none
returns-in-None-clause-none c = λ none.
    let v = c.args.self.now in
    nothing_in v (lanes_of v.order) c.args.lane (own_none (goal.at.returns-in-None-clause-none c).After-last_of_all) (none_got (by_instances v) c.in-None.ensures.first)
    (none_got (last_steps v) (sym none ∙ c.last_of_all.ensures.first))

pub returns-in-None-clause-last : goal.returns-in-None-clause-last
returns-in-None-clause-last c = λ none alone.
    let v = c.args.self.now in
    let own = own_none (goal.at.returns-in-None-clause-last c).After-last_of_all in
    alone_over v c.args.lane (subst (λ n. own_issues v n c.args.lane ≡ []) (eqb-true (lanes_of v.order) 1 alone) own) (none_got (by_instances v) c.in-None.ensures.first)
    (none_got (last_steps v) (sym none ∙ c.last_of_all.ensures.first))

pub returns-in-None-clause-rests : goal.returns-in-None-clause-rests
returns-in-None-clause-rests c =
    lane_may c.args.self.now (subst (λ w. w.set.settled ≡ is_settled w.order) c.self.view_is refl) c.requires.lanes c.last_of_all.result

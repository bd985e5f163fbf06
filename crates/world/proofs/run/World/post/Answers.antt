use Rattle.std.proofs.Common.{◌∙◌, ap}
use Rattle.instance.specs.Steps.{can_post}
use Rattle.world.specs.Steps.{of_home}
use Rattle.world.specs.View.{value_of}
use Rattle.homes.specs.declared.homes.Home.{Home}
use Rattle.world.proofs.Advancing.{advances_at}
use Rattle.world.proofs.Running.{home_is}
use Rattle.world.proofs.Serving.{living_found, post_advances, post_sound}
use Rattle.world.proofs.run.World.post.Goals as goal

pub post-requires-clause-ready : goal.post-requires-clause-ready
post-requires-clause-ready c =
    let v = value_of c.self.inside in
    let sound = c.self.invariant (ap (λ v. v.spent) c.self.view_is ∙ c.requires.ready) in
    let runs = ap (λ v. v.closed) c.self.view_is ∙ c.requires.can.0 in
    let says = λ (h : Home). can_post h.instance in
    let at = living_found v.homes c.args.number says (ap (λ w. of_home w c.args.number says) c.self.view_is ∙ c.requires.can.1) c.index_mut.result.now c.index_mut.ensures.value in
    (home_is v sound runs c.args.number c.index_mut.result.now at.here).ready

pub post-requires-clause-can : goal.post-requires-clause-can
post-requires-clause-can c =
    let says = λ (h : Home). can_post h.instance in
    (living_found (value_of c.self.inside).homes c.args.number says (ap (λ w. of_home w c.args.number says) c.self.view_is ∙ c.requires.can.1) c.index_mut.result.now c.index_mut.ensures.value).true_of

pub invariant_of-self-2 : goal.invariant_of-self-2
invariant_of-self-2 c = λ _.
    let v = value_of c.self.inside in
    let sound = c.self.invariant (ap (λ v. v.spent) c.self.view_is ∙ c.requires.ready) in
    let runs = ap (λ v. v.closed) c.self.view_is ∙ c.requires.can.0 in
    let says = λ (h : Home). can_post h.instance in
    let at = living_found v.homes c.args.number says (ap (λ w. of_home w c.args.number says) c.self.view_is ∙ c.requires.can.1) c.index_mut.result.now c.index_mut.ensures.value in
    post_sound v sound runs c.args.number c.index_mut.result.now at.here at.living c.post.new.self c.in_ok-post.ensures.ready c.in_ok-post.ensures.makes
    c.keep.new.steps.items c.keep.new.ends.items c.in_ok-keep.ensures.steps c.in_ok-keep.ensures.ends

pub returns-clause-advances : goal.returns-clause-advances
returns-clause-advances c =
    let v = value_of c.self.inside in
    let sound = c.self.invariant (ap (λ v. v.spent) c.self.view_is ∙ c.requires.ready) in
    let runs = ap (λ v. v.closed) c.self.view_is ∙ c.requires.can.0 in
    let says = λ (h : Home). can_post h.instance in
    let at = living_found v.homes c.args.number says (ap (λ w. of_home w c.args.number says) c.self.view_is ∙ c.requires.can.1) c.index_mut.result.now c.index_mut.ensures.value in
    advances_at c.self.view_is (post_advances v sound runs c.args.number c.index_mut.result.now at.here at.living c.post.new.self c.in_ok-post.ensures.ready c.in_ok-post.ensures.makes
    c.keep.new.steps.items c.keep.new.ends.items c.in_ok-keep.ensures.steps c.in_ok-keep.ensures.ends)

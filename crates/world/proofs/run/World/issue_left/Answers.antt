use Rattle.std.proofs.Common.{◌∙◌, ◌+◌, ◌<◌, false, length, ap, arith, subst, sym}
use Rattle.std.specs.Prelude.{option_and_then, slice_get}
use Rattle.std.specs.Option.{option_map_or}
use Rattle.homes.specs.Homes.{IsNextLine}
use Rattle.world.specs.Steps.{can_issue}
use Rattle.world.specs.View.{value_of}
use Rattle.world.proofs.Advancing.{advances_at}
use Rattle.homes.proofs.Finding.{option_found}
use Rattle.world.proofs.Finding.{free_there, more_there, placed_at, placed_within}
use Rattle.world.proofs.Left.{issue_left_advances, issue_left_sound}
use Rattle.homes.proofs.Standing.{item_at}
use Rattle.world.proofs.run.World.issue_left.Goals as goal

pub issued_from-requires-clause-next : goal.issued_from-requires-clause-next
issued_from-requires-clause-next c =
    let v = value_of c.self.inside in
    let sound = c.self.invariant (ap (λ v. v.spent) c.self.view_is ∙ c.requires.ready) in
    let runs = ap (λ v. v.closed) c.self.view_is ∙ c.requires.runs in
    let p = c.index-place.result.now in
    let at = placed_at v.places c.args.actor c.args.number (ap (λ w. option_and_then (λ p. p.home) (slice_get w.places c.args.actor)) c.self.view_is ∙ c.requires.home) p c.index-place.ensures in
    subst (λ ls. IsNextLine ls c.args.actor p.issued p.next) (sym c.as_slice.ensures) ((sound.runs runs).places.each c.args.actor p at.here).next

pub issued_from-requires-clause-more : goal.issued_from-requires-clause-more
issued_from-requires-clause-more c =
    let v = value_of c.self.inside in
    let p = c.index-place.result.now in
    let at = placed_at v.places c.args.actor c.args.number (ap (λ w. option_and_then (λ p. p.home) (slice_get w.places c.args.actor)) c.self.view_is ∙ c.requires.home) p c.index-place.ensures in
    let there = option_found (slice_get v.homes c.args.number) (λ h. h.gone) (ap (λ w. option_map_or (λ h. h.gone) (slice_get w.homes c.args.number) false) c.self.view_is ∙ c.requires.gone) in
    subst (λ ls. p.next < length ls) (sym c.as_slice.ensures) (more_there v c.args.actor c.args.number p there.it at.here at.home there.is (ap (λ w. can_issue w c.args.actor) c.self.view_is ∙ c.requires.can))

pub index_mut-requires : goal.index_mut-requires
index_mut-requires c =
    let within = placed_within (value_of c.self.inside).places c.args.actor c.args.number (ap (λ w. option_and_then (λ p. p.home) (slice_get w.places c.args.actor)) c.self.view_is ∙ c.requires.home) in
    omega (arith, within, c.self.inside.places.ok.0)

pub invariant_of-self-2 : goal.invariant_of-self-2
invariant_of-self-2 c = λ _.
    let v = value_of c.self.inside in
    let sound = c.self.invariant (ap (λ v. v.spent) c.self.view_is ∙ c.requires.ready) in
    let runs = ap (λ v. v.closed) c.self.view_is ∙ c.requires.runs in
    let p = c.index-place.result.now in
    let at = placed_at v.places c.args.actor c.args.number (ap (λ w. option_and_then (λ p. p.home) (slice_get w.places c.args.actor)) c.self.view_is ∙ c.requires.home) p c.index-place.ensures in
    let there = option_found (slice_get v.homes c.args.number) (λ h. h.gone) (ap (λ w. option_map_or (λ h. h.gone) (slice_get w.homes c.args.number) false) c.self.view_is ∙ c.requires.gone) in
    let can = ap (λ w. can_issue w c.args.actor) c.self.view_is ∙ c.requires.can in
    let more = more_there v c.args.actor c.args.number p there.it at.here at.home there.is can in
    let line = subst (λ ls. IsNextLine ls c.args.actor (p.issued + 1) c.issued_from.result.next) c.as_slice.ensures c.issued_from.ensures.next in
    issue_left_sound v sound runs c.args.actor c.args.number p there.it at.here at.home there.is there.so (free_there v c.args.actor c.args.number p there.it at.here at.home there.is can)
    (item_at v.set.work.lines p.next more).0 more c.issued_from.result c.issued_from.ensures.waits line
    c.push.new.self c.keep.new.steps.items c.keep.new.ends.items c.in_ok-push.ensures.added c.in_ok-keep.ensures.steps c.in_ok-keep.ensures.ends

pub returns-clause-advances : goal.returns-clause-advances
returns-clause-advances c =
    let v = value_of c.self.inside in
    let sound = c.self.invariant (ap (λ v. v.spent) c.self.view_is ∙ c.requires.ready) in
    let runs = ap (λ v. v.closed) c.self.view_is ∙ c.requires.runs in
    let p = c.index-place.result.now in
    let at = placed_at v.places c.args.actor c.args.number (ap (λ w. option_and_then (λ p. p.home) (slice_get w.places c.args.actor)) c.self.view_is ∙ c.requires.home) p c.index-place.ensures in
    let there = option_found (slice_get v.homes c.args.number) (λ h. h.gone) (ap (λ w. option_map_or (λ h. h.gone) (slice_get w.homes c.args.number) false) c.self.view_is ∙ c.requires.gone) in
    let can = ap (λ w. can_issue w c.args.actor) c.self.view_is ∙ c.requires.can in
    let more = more_there v c.args.actor c.args.number p there.it at.here at.home there.is can in
    let line = subst (λ ls. IsNextLine ls c.args.actor (p.issued + 1) c.issued_from.result.next) c.as_slice.ensures c.issued_from.ensures.next in
    advances_at c.self.view_is (issue_left_advances v sound runs c.args.actor c.args.number p there.it at.here at.home there.is there.so (free_there v c.args.actor c.args.number p there.it at.here at.home there.is can)
    (item_at v.set.work.lines p.next more).0 more c.issued_from.result c.issued_from.ensures.waits line
    c.push.new.self c.keep.new.steps.items c.keep.new.ends.items c.in_ok-push.ensures.added c.in_ok-keep.ensures.steps c.in_ok-keep.ensures.ends)

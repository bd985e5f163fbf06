use Rattle.std.proofs.Common.{◌∙◌, ◌-◌, ◌++◌, ◌∷◌, [], None, false, ap, arith}
use Rattle.std.specs.Prelude.{option_and_then, slice_get}
use Rattle.std.specs.Option.{option_map_or}
use Rattle.instance.specs.answers.declared.chronicle.Entry.TheVariants as entry
use Rattle.instance.specs.answers.declared.chronicle.Reply.TheVariants as reply
use Rattle.world.specs.Steps.{can_answer}
use Rattle.world.specs.View.{value_of}
use Rattle.homes.specs.declared.homes.Place.{Place}
use Rattle.world.proofs.Advancing.{advances_at}
use Rattle.homes.proofs.Finding.{option_found, same_read}
use Rattle.world.proofs.Finding.{placed_at, placed_within, waits_left}
use Rattle.world.proofs.Left.{has_some, tell_advances, tell_sound}
use Rattle.world.proofs.run.World.tell_left.Goals as goal

pub overflow_sub-command : goal.overflow_sub-command
overflow_sub-command c =
    let v = value_of c.self.inside in
    let sound = c.self.invariant (ap (λ v. v.spent) c.self.view_is ∙ c.requires.ready) in
    let runs = ap (λ v. v.closed) c.self.view_is ∙ c.requires.runs in
    let p = c.index.result.now in
    let at = placed_at v.places c.args.actor c.args.number (ap (λ w. option_and_then (λ p. p.home) (slice_get w.places c.args.actor)) c.self.view_is ∙ c.requires.home) p c.index.ensures in
    let there = option_found (slice_get v.homes c.args.number) (λ h. h.gone) (ap (λ w. option_map_or (λ h. h.gone) (slice_get w.homes c.args.number) false) c.self.view_is ∙ c.requires.gone) in
    has_some v sound runs c.args.actor c.args.number p there.it at.here at.home there.is there.so
    (waits_left v c.args.actor c.args.number p there.it at.here at.home there.is there.so (ap (λ w. can_answer w c.args.actor) c.self.view_is ∙ c.requires.can))

pub index_mut-requires : goal.index_mut-requires
index_mut-requires c =
    let v = value_of c.self.inside in
    let within = placed_within v.places c.args.actor c.args.number (ap (λ w. option_and_then (λ p. p.home) (slice_get w.places c.args.actor)) c.self.view_is ∙ c.requires.home) in
    omega (arith, within, c.self.inside.places.ok.0)

pub invariant_of-self-2 : goal.invariant_of-self-2
invariant_of-self-2 c = λ _.
    let v = value_of c.self.inside in
    let sound = c.self.invariant (ap (λ v. v.spent) c.self.view_is ∙ c.requires.ready) in
    let runs = ap (λ v. v.closed) c.self.view_is ∙ c.requires.runs in
    let p = c.index_mut.result.now in
    let at = placed_at v.places c.args.actor c.args.number (ap (λ w. option_and_then (λ p. p.home) (slice_get w.places c.args.actor)) c.self.view_is ∙ c.requires.home) p c.index_mut.ensures.value in
    let there = option_found (slice_get v.homes c.args.number) (λ h. h.gone) (ap (λ w. option_map_or (λ h. h.gone) (slice_get w.homes c.args.number) false) c.self.view_is ∙ c.requires.gone) in
    let waits = waits_left v c.args.actor c.args.number p there.it at.here at.home there.is there.so (ap (λ w. can_answer w c.args.actor) c.self.view_is ∙ c.requires.can) in
    let old = placed_at v.places c.args.actor c.args.number (ap (λ w. option_and_then (λ p. p.home) (slice_get w.places c.args.actor)) c.self.view_is ∙ c.requires.home) c.index.result.now c.index.ensures in
    let pushed = c.in_ok-push.ensures.added ∙ ap (λ (q : Place). v.chronicle ++ entry.Replied c.args.actor (q.issued - 1) reply.Gone None ∷ []) (same_read v.places c.args.actor c.index.result.now p old.here at.here) in
    tell_sound v sound runs c.args.actor c.args.number p there.it at.here at.home there.is there.so waits
    c.push.new.self c.keep.new.steps.items c.keep.new.ends.items pushed c.in_ok-keep.ensures.steps c.in_ok-keep.ensures.ends

pub returns-clause-advances : goal.returns-clause-advances
returns-clause-advances c =
    let v = value_of c.self.inside in
    let sound = c.self.invariant (ap (λ v. v.spent) c.self.view_is ∙ c.requires.ready) in
    let runs = ap (λ v. v.closed) c.self.view_is ∙ c.requires.runs in
    let p = c.index_mut.result.now in
    let at = placed_at v.places c.args.actor c.args.number (ap (λ w. option_and_then (λ p. p.home) (slice_get w.places c.args.actor)) c.self.view_is ∙ c.requires.home) p c.index_mut.ensures.value in
    let there = option_found (slice_get v.homes c.args.number) (λ h. h.gone) (ap (λ w. option_map_or (λ h. h.gone) (slice_get w.homes c.args.number) false) c.self.view_is ∙ c.requires.gone) in
    let waits = waits_left v c.args.actor c.args.number p there.it at.here at.home there.is there.so (ap (λ w. can_answer w c.args.actor) c.self.view_is ∙ c.requires.can) in
    let old = placed_at v.places c.args.actor c.args.number (ap (λ w. option_and_then (λ p. p.home) (slice_get w.places c.args.actor)) c.self.view_is ∙ c.requires.home) c.index.result.now c.index.ensures in
    let pushed = c.in_ok-push.ensures.added ∙ ap (λ (q : Place). v.chronicle ++ entry.Replied c.args.actor (q.issued - 1) reply.Gone None ∷ []) (same_read v.places c.args.actor c.index.result.now p old.here at.here) in
    advances_at c.self.view_is (tell_advances v sound runs c.args.actor c.args.number p there.it at.here at.home there.is there.so waits
    c.push.new.self c.keep.new.steps.items c.keep.new.ends.items pushed c.in_ok-keep.ensures.steps c.in_ok-keep.ensures.ends)

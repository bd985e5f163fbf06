use Rattle.std.proofs.Common.{◌≡◌, ◌+◌, ◌<◌, ◌∙◌, sym, ap, subst, length, arith}
use Rattle.std.specs.Prelude.{IfSome}
use Rattle.resource_set.specs.Places.{place_of}
use Rattle.resource_set.specs.Units.{is_named}
use Rattle.resource_set.proofs.Holdings.{around_some, around_none}
use Rattle.resource_set.proofs.units.place_around.Goals as goal

pub returns-in-Some : goal.returns-in-Some
returns-in-Some c =
    let nodes = c.args.nodes.now in
    let inside : c.in-Some.place < length c.split_at.result.1.now = c.in-Some.ensures.inside in
    let len : length c.split_at.result.1.now + c.args.from ≡ length nodes = c.split_at.ensures.back_len in
    (omega arith, around_some c.args.host.now nodes c.args.from c.in-Some.place (ap (place_of (is_named c.args.host.now)) (sym c.split_at.ensures.back) ∙ sym c.in-Some.ensures.place))

pub returns-in-None : goal.returns-in-None
returns-in-None c =
    let nodes = c.args.nodes.now in
    around_none c.args.host.now nodes c.args.from c.place_in-in-None.result c.requires
    (ap (place_of (is_named c.args.host.now)) (sym c.split_at.ensures.back) ∙ sym c.in-None.ensures.place)
    (c.place_in-in-None.ensures.place ∙ ap (place_of (is_named c.args.host.now)) c.split_at.ensures.front)
    (subst (λ l. IfSome c.place_in-in-None.result (λ place. place < length l)) c.split_at.ensures.front c.place_in-in-None.ensures.inside)

use Rattle.std.proofs.Common.{◌≡◌, ◌+◌, ◌<◌, ◌∙◌, ◌&&◌, ◌||◌, Some, ap, length, sym, subst, arith}
use Rattle.std.specs.Prelude.{◌==◌, not, slice_get}
use Rattle.std.proofs.lemmas.Option.{slice_get-get_or, slice_get_within}
use Rattle.homes.specs.Inside.{has_marked}
use Rattle.homes.proofs.Marking.{AreMarkedBefore, marks_more}
use Rattle.homes.proofs.ends.within.Goals as goal

pub loop-at-preserved : goal.loop-at-preserved
loop-at-preserved c =
    let homes = c.args.homes.now in
    let at = c.loop-at.at in
    let marks = c.loop-at.marks.items in
    let home = c.index-homes-at.result in
    let low : at < length homes = omega arith in
    let here : slice_get homes at ≡ Some home = slice_get-get_or homes at home low ∙ ap Some (sym c.index-homes-at.is) in
    subst (λ m. AreMarkedBefore c.args.number homes m (at + 1)) (sym c.in_ok-push.ensures.items)
    (marks_more c.args.number homes c.requires marks at home c.is_inside-inside.result here c.loop-at.invariant
    (c.is_inside-inside.ensures ∙ ap (λ m. not home.gone && ((at == c.args.number) || has_marked m home.origin)) c.deref.ensures.value))

pub returns : goal.returns
returns c =
    let high : length c.args.homes.now ≡ c.loop-at.at = omega arith in
    record {
      all = c.loop-at.invariant.long ∙ sym high;
      each = λ i h e. c.loop-at.invariant.each i h (subst (λ n. i < n) high (slice_get_within c.args.homes.now i h e)) e;
    }

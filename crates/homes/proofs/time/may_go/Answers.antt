use Rattle.std.proofs.Common.{◌≡◌, ◌∙◌, ap, sym, subst}
use Rattle.std.specs.Prelude.{slice_get}
use Rattle.homes.specs.Tells.{TellsEnd}
use Rattle.homes.proofs.Standing.{same_item}
use Rattle.homes.proofs.time.may_go.Goals as goal

pub returns-then-not-home-clause-told : goal.returns-then-not-home-clause-told
returns-then-not-home-clause-told c = λ alive. record {
  due = λ o parent eo ep.
      let homes = c.args.homes.now in
      let origin = c.in-Some.origin in
      let x = c.in-Some-home_at.parent.now in
      let one : origin ≡ o = same_item origin o (sym c.in-Some.is ∙ eo) in
      let two : parent ≡ x = same_item parent x (sym (ap (λ q. slice_get homes q.parent) one ∙ ep) ∙ sym c.in-Some-home_at.ensures) in
      subst (λ q. TellsEnd parent q.job c.args.home.now.shuts) one (subst (λ p. TellsEnd p origin.job c.args.home.now.shuts) (sym two) c.may_end.ensures.due);
}

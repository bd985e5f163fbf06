use Rattle.std.proofs.Common.{◌≡◌, ℕ, ◌≤◌, None, refl, sym, ap, ◌∙◌, subst}
use Rattle.std.specs.List.{AllByRecursion as Each}
use Rattle.backfill.specs.Held.{AreHeld}
use Rattle.backfill.specs.Reservations.{AsReserved}
use Rattle.backfill.specs.Reserved.{FitsAt}
use Rattle.job_deeds.specs.Passing.{FindsRoom, leases_of}
use Rattle.job_deeds.proofs.Offers.{are_leases, unreserved}
use Rattle.job_deeds.proofs.Passes.{none_leaving}
use Rattle.job_deeds.proofs.passing.first_leaving.Goals as goal

pub returns-then-not-has_some : goal.returns-then-not-has_some
returns-then-not-has_some c = λ s seen.
    let desk = c.args.desk.now in
    let none = subst (λ h. Each (λ j. FindsRoom desk.graph.now h.id j → ⊥) desk.rows.now) c.head.view_is (c.has_some.ensures c.if-not-has_some.true) in
    (0, (refl, none_leaving desk c.args.grant.now c.requires.look c.keeps.ensures.grant c.args.head.now none s seen))

pub of-requires-clause-held : goal.of-requires-clause-held
of-requires-clause-held c =
    let desk = c.args.desk.now in
    subst (AreHeld c.args.grant.now.nodes) (sym (c.deref.ensures.value ∙ c.in_ok-live.ensures))
    (subst (λ ns. AreHeld ns (leases_of desk.rows.now)) (ap (λ g. g.grant) c.requires.look.graph)
    (are_leases desk.graph.now desk.rows.now c.keeps.ensures.live (ap (λ g. g.live) c.requires.look.graph)))

pub returns-in_default : goal.returns-in_default
returns-in_default c = λ s seen.
    let desk = c.args.desk.now in
    let nodes = c.args.grant.now.nodes in
    let never = subst (AsReserved c.head.inside.spec nodes c.deref.result.now desk.second) c.in_default.is c.in_ok-found.ensures in (
      0,
      (
        refl,
        unreserved desk c.args.grant.now c.requires.look c.args.head.now (λ second from fits.
            never second from (subst (λ ls. FitsAt c.head.inside.spec nodes ls second) (sym (c.deref.ensures.value ∙ c.in_ok-live.ensures))
            (subst (λ j. FitsAt j.spec nodes (leases_of desk.rows.now) second) (sym c.head.view_is) fits))) s seen,
      ),
    )

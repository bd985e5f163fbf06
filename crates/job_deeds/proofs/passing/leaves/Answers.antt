use Rattle.std.proofs.Common.{◌≡◌, ◌++◌, ◌∷◌, [], None, Some, Ok, refl, sym, ap, ◌∙◌, subst, true≢false}
use Rattle.backfill.specs.Held.{AreHeld}
use Rattle.backfill.specs.Reserved.{KeepsReservation}
use Rattle.resource_set.specs.Reading.{told}
use Rattle.job_deeds.specs.Passing.{IsOffer, leases_of}
use Rattle.job_deeds.proofs.Fitting.{taken_are_r}
use Rattle.job_deeds.proofs.Offers.{are_held, leaving, left}
use Rattle.job_deeds.proofs.passing.leaves.Goals.{In-Some}
use Rattle.job_deeds.proofs.passing.leaves.Goals as goal

offered : (c : In-Some) → IsOffer c.args.desk.now.graph.now c.args.desk.now.second c.args.row.now (Some c.in-Some.offer)
offered c = subst (IsOffer c.args.desk.now.graph.now c.args.desk.now.second c.args.row.now) c.in-Some.is c.in_ok-offer.ensures

pub keeps-requires-2-clause-held : goal.keeps-requires-2-clause-held
keeps-requires-2-clause-held c =
    let graph = c.args.desk.now.graph.now in
    let hold = c.in-Some.offer in
    subst (λ ns. AreHeld ns (c.args.live.now ++ hold ∷ [])) (ap (λ g. g.grant) c.requires.look.graph)
    (subst (λ ls. AreHeld graph.grant (ls ++ hold ∷ [])) (sym c.requires.live)
    (are_held graph c.args.desk.now.rows.now hold c.keeps.ensures.live (ap (λ g. g.live) c.requires.look.graph) (offered (goal.at.keeps-requires-2-clause-held c).In-Some).0.free))

pub print-requires : goal.print-requires
print-requires c = taken_are_r c.args.desk.now.graph.now c.args.row.now.spec c.args.desk.now.second c.in-Some.offer.units c.requires.look.named (offered (goal.at.print-requires c).In-Some).0

pub returns-then-not-kept-clause-leaves : goal.returns-then-not-kept-clause-leaves
returns-then-not-kept-clause-leaves c = λ s seen.
    let hold = c.in-Some.offer in
    let have = offered (goal.at.returns-then-not-kept-clause-leaves c).In-Some in (
      λ t. cc t,
      λ l.
          let k = left c.args.desk.now c.args.grant.now c.requires.look c.args.head.now c.args.row.now c.requires.known c.requires.ranked hold have.2 have.0 s seen l in
          absurd (true≢false (sym (c.in_ok-kept.ensures.keeps.1 (subst (λ ls. KeepsReservation c.head.inside.spec c.args.grant.now.nodes ls hold c.args.desk.now.second) (sym c.requires.live) (subst (λ j. KeepsReservation j.spec c.args.grant.now.nodes (leases_of c.args.desk.now.rows.now) hold c.args.desk.now.second) (sym c.head.view_is) k))) ∙ c.if-not-kept.true)),
    )

pub returns-clause-leaves : goal.returns-clause-leaves
returns-clause-leaves c = λ s seen.
    let hold = c.in-Some.offer in
    let have = offered (goal.at.returns-clause-leaves c).In-Some in
    let k = subst (λ j. KeepsReservation j.spec c.args.grant.now.nodes (leases_of c.args.desk.now.rows.now) hold c.args.desk.now.second) c.head.view_is (subst (λ ls. KeepsReservation c.head.inside.spec c.args.grant.now.nodes ls hold c.args.desk.now.second) c.requires.live (c.in_ok-kept.ensures.keeps.0 c.if-not-kept.false)) in
    let written = subst (λ t. told t ≡ Ok hold.units) c.in_ok-_text.ensures.canonical c.in_ok-_text.ensures.read_again in
    (λ t. leaving c.args.desk.now c.args.grant.now c.requires.look c.args.head.now c.args.row.now c.requires.known c.requires.ranked hold have.2 have.0 s seen c.requires.behind written k, λ l. refl)

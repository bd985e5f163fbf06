use Rattle.std.proofs.Common.{◌≡◌, None, Ok, inl, inr, sym, subst}
use Rattle.std.specs.Prelude.{Contains}
use Rattle.std.specs.List.Sorted.{IsStrictlyIncreasing}
use Rattle.graph_match.specs.Answers.{Answers, AreFirstFit}
use Rattle.job_rules.proofs.Lying.{read_is}
use Rattle.job_rules.proofs.Sets.{free_is, none_exactly}
use Rattle.job_rules.specs.Fits.{NeverFits, first_fit, free_of, nodes_of}
use Rattle.manager_rules.specs.Dependencies.{IsHead}
use Rattle.manager_rules.specs.Due.{MayTake}
use Rattle.manager_rules.specs.Jobs.{ids_of}
use Rattle.resource_set.specs.Reading.{told}
use Rattle.job_deeds.specs.Actions.{Finds}
use Rattle.job_deeds.proofs.Fitting.{is_head, seen_fit, taken_are_r}
use Rattle.job_deeds.proofs.Passes.{passer_takes}
use Rattle.job_deeds.proofs.decisions.first_fit.Goals as goal

pub take-requires : goal.take-requires
take-requires c =
    let fit = subst (Answers c.args.desk.now.graph.now c.row.inside.spec c.args.desk.now.second) c.in-Units.is c.in_ok-r.ensures in
    taken_are_r c.args.desk.now.graph.now c.row.inside.spec c.args.desk.now.second c.in-Units.r c.requires.desk.named fit

pub returns-clause-found : goal.returns-clause-found
returns-clause-found c = λ s seen.
    let desk = c.args.desk.now in
    let fit = subst (Answers desk.graph.now c.row.inside.spec desk.second) c.in-Units.is c.in_ok-r.ensures in
    let here = subst (λ j. AreFirstFit desk.graph.now j.spec desk.second c.in-Units.r) c.row.view_is fit in
    let taking = c.in_ok-found-in-Units.ensures in
    let j = c.args.row.now in
    let fits_here = seen_fit desk s seen j c.in-Units.r here (subst (λ t. told t ≡ Ok c.in-Units.r) taking.canonical taking.again) in
    let may : MayTake s j c.in-Units.r = elim c.requires.goes [
      | inl e ↦ inl (subst (λ js. IsHead js j.id) (sym seen.jobs) (is_head desk.rows.now desk.head j.id c.requires.desk.head e))
      | inr e ↦ inr (passer_takes s (subst (λ js. IsStrictlyIncreasing (ids_of js)) (sym seen.jobs) c.requires.desk.rising) desk.passer (c.requires.desk.passer s seen) j (subst (λ js. Contains js j) (sym seen.jobs) c.requires.known) e c.in-Units.r fits_here)
    ] in
    subst (Finds s j) (sym taking.is) (c.requires.waits, may, fits_here, seen.old j.id)

pub unreachable-requires : goal.unreachable-requires
unreachable-requires c =
    let graph = c.args.desk.now.graph.now in
    let spec = c.args.row.now.spec in
    let blocked = subst (Answers graph c.row.inside.spec c.args.desk.now.second) c.in-Busy.is c.in_ok-r.ensures in
    let none = subst (λ j. first_fit j.spec graph.grant (free_of graph.grant graph.live) ≡ None) c.row.view_is blocked.none in
    (none_exactly spec graph.grant (free_of graph.grant graph.live) (read_is spec c.requires.spec) (free_is graph.grant (nodes_of graph.live) c.keeps.ensures.grant)).0 none c.requires.room

pub unreachable-requires-in-Never : goal.unreachable-requires-in-Never
unreachable-requires-in-Never c = c.requires.fits (subst (λ j. NeverFits j.spec c.args.desk.now.graph.now.grant) c.row.view_is (subst (Answers c.args.desk.now.graph.now c.row.inside.spec c.args.desk.now.second) c.in-Never.is c.in_ok-r.ensures))

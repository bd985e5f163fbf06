use Rattle.std.proofs.Common.{◌≡◌, None, Some, sym, ap, ◌∙◌, subst}
use Rattle.std.specs.Prelude.{Contains, option_map}
use Rattle.job_deeds.proofs.job_rules_proofs.Among.{contains_from}
use Rattle.job_deeds.specs.job_spec.Sound.{IsSpec}
use Rattle.job_deeds.specs.manager_rules.Dependencies.{job_at}
use Rattle.job_deeds.specs.Waiting.{IsRanked}
use Rattle.job_book.proofs.Held.{each_found}
use Rattle.job_deeds.proofs.Whys.{found_job, no_job}
use Rattle.job_book.proofs.Explained.{explained}
use Rattle.job_book.proofs.book.Book.why.Goals.{In-Some}
use Rattle.job_book.proofs.book.Book.why.Goals as goal

found : (c : In-Some) → job_at c.self.inside.rows.items c.args.job ≡ Some c.in-Some.row.now
found c = subst (λ js. job_at js c.args.job ≡ Some c.in-Some.row.now) (c.in_ok-desk.ensures.rows ∙ ap (λ v. v.jobs) (sym c.self.view_is)) (sym c.find.ensures ∙ ap (option_map (λ row. row.now)) c.in-Some.is)

pub reason-requires-clause-known : goal.reason-requires-clause-known
reason-requires-clause-known c =
    let rows = c.self.inside.rows.items in
    subst (λ js. Contains js c.in-Some.row.now) (sym (c.in_ok-desk.ensures.rows ∙ ap (λ v. v.jobs) (sym c.self.view_is))) (contains_from rows c.in-Some.row.now (found_job rows c.args.job c.in-Some.row.now (found (goal.at.reason-requires-clause-known c).In-Some)).0)

pub reason-requires-clause-ranked : goal.reason-requires-clause-ranked
reason-requires-clause-ranked c = each_found IsRanked c.self.inside.rows.items c.self.invariant.0.ranked c.args.job c.in-Some.row.now (found (goal.at.reason-requires-clause-ranked c).In-Some)

pub reason-requires-clause-spec : goal.reason-requires-clause-spec
reason-requires-clause-spec c = each_found (λ j. IsSpec j.spec) c.self.inside.rows.items c.self.invariant.0.kept.specs c.args.job c.in-Some.row.now (found (goal.at.reason-requires-clause-spec c).In-Some)

pub returns-in-Some : goal.returns-in-Some
returns-in-Some c =
    let mine = found (goal.at.returns-in-Some c).In-Some in
    explained c.args.self.now c.args.now c.args.job c.in-Some.row.now (subst (λ v. job_at v.jobs c.args.job ≡ Some c.in-Some.row.now) c.self.view_is mine) c.in_ok-desk.ensures.seen c.reason.result c.reason.ensures

pub returns-in-None : goal.returns-in-None
returns-in-None c =
    let none : job_at c.in_ok-desk.desk.rows.now c.args.job ≡ None = sym c.find.ensures ∙ ap (option_map (λ row. row.now)) c.in-None.is in
    λ answer limits. no_job c.args.self.now.jobs c.args.job (subst (λ js. job_at js c.args.job ≡ None) c.in_ok-desk.ensures.rows none)

use Rattle.std.proofs.Common.{◌≡◌, ◌≢◌, None, Some, inr, sym, subst, rules}
use Rattle.std.specs.Prelude.{Contains}
use Rattle.std.specs.List.Sorted.{IsStrictlyIncreasing}
use Rattle.job_states.specs.declared.job.State.TheVariants as state
use Rattle.manager_rules.specs.Dependencies.{IsHead}
use Rattle.manager_rules.specs.Jobs.{ids_of}
use Rattle.job_deeds.specs.Waiting.{IsFirstOf}
use Rattle.job_deeds.proofs.Finding.{none_of}
use Rattle.job_deeds.proofs.Fitting.{is_head}
use Rattle.job_deeds.proofs.Passes.{passer_of, passer_ready}
use Rattle.job_deeds.proofs.Whys.{waits_above}
use Rattle.job_deeds.proofs.reasons.reason.Goals as goal

pub unreachable-requires : goal.unreachable-requires
unreachable-requires c =
    let waits : c.args.row.now.job.state ≡ state.Sched = search rules in
    let other : c.args.row.now.job.priority ≢ Some 0 = search rules in
    let none : c.args.desk.now.head ≡ None = none_of c.args.desk.now.head c.in_default.not-Some in
    waits_above c.args.row.now c.requires.ranked waits other (subst (IsFirstOf c.args.desk.now.rows.now) none c.requires.desk.head c.args.row.now c.requires.known)

pub returns-then-eq-2 : goal.returns-then-eq-2
returns-then-eq-2 c = λ s seen.
    let passes : c.args.desk.now.passer ≡ Some c.args.row.now.id = search rules in
    inr (passer_ready s (subst (λ js. IsStrictlyIncreasing (ids_of js)) (sym seen.jobs) c.requires.desk.rising) c.args.desk.now.passer (c.requires.desk.passer s seen) c.args.row.now (subst (λ js. Contains js c.args.row.now) (sym seen.jobs) c.requires.known) passes)

pub returns : goal.returns
returns c = λ s seen.
    let desk = c.args.desk.now in
    let j = c.args.row.now in
    let waits : j.job.state ≡ state.Sched = search rules in
    let other : j.job.priority ≢ Some 0 = search rules in
    let first : desk.head ≡ Some c.in-Some.first = c.in-Some.is in
    let differ : c.in-Some.first ≢ j.id = search rules in
    let behind : desk.passer ≢ Some j.id = search rules in (
      waits,
      other,
      subst (λ js. IsHead js c.in-Some.first) (sym seen.jobs) (is_head desk.rows.now desk.head c.in-Some.first c.requires.desk.head first),
      differ,
      λ r p. behind (passer_of s (subst (λ js. IsStrictlyIncreasing (ids_of js)) (sym seen.jobs) c.requires.desk.rising) desk.passer (c.requires.desk.passer s seen) j (subst (λ js. Contains js j) (sym seen.jobs) c.requires.known) seen.old r p),
    )

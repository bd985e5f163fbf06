use Rattle.std.proofs.Common.{◌≡◌, ◌⊎◌, inl, inr, Some, sym, ◌∙◌, subst, true≢false}
use Rattle.std.specs.Prelude.{Contains}
use Rattle.std.specs.List.Sorted.{IsStrictlyIncreasing}
use Rattle.job_rules.proofs.Lying.{read_is}
use Rattle.job_rules.proofs.Sets.{free_is, none_exactly}
use Rattle.job_rules.specs.Fits.{NeverFits, free_of, nodes_of}
use Rattle.manager_rules.specs.Dependencies.{IsHead}
use Rattle.manager_rules.specs.Jobs.{ids_of}
use Rattle.job_deeds.proofs.Fitting.{other_head, seen_fits, unseen_fit}
use Rattle.job_deeds.proofs.Passes.{passer_of}
use Rattle.job_deeds.proofs.Rest.{none_waiting}
use Rattle.job_deeds.proofs.decisions.of_ranked.Goals as goal

pub first_fit-requires-clause-fits : goal.first_fit-requires-clause-fits
first_fit-requires-clause-fits c = λ n. true≢false (sym (c.never.ensures.1 (subst (λ j. NeverFits j.spec c.args.desk.now.graph.now.grant) (sym c.row.view_is) n)) ∙ c.if-never.false)

pub returns-then-not-goes_now-clause-found : goal.returns-then-not-goes_now-clause-found
returns-then-not-goes_now-clause-found c = λ s seen ranked.
    let desk = c.args.desk.now in
    let graph = desk.graph.now in
    let j = c.args.row.now in
    let fits : NeverFits j.spec graph.grant → ⊥ = λ n. true≢false (sym (c.never.ensures.1 (subst (λ j. NeverFits j.spec graph.grant) (sym c.row.view_is) n)) ∙ c.if-never.false) in
    let full = λ (e : (desk.head ≡ Some j.id) ⊎ (desk.passer ≡ Some j.id)). (none_exactly j.spec graph.grant (free_of graph.grant graph.live) (read_is j.spec c.requires.spec) (free_is graph.grant (nodes_of graph.live) c.keeps.ensures.grant)).1 (λ can. true≢false (sym (c.goes_now.ensures.1 (e, can)) ∙ c.if-not-goes_now.true)) in
    none_waiting s j c.requires.waits ranked (seen_fits desk s seen j fits)
    (λ r may fit. elim may [
      | inl head ↦ other_head desk.rows.now desk.head j.id c.requires.desk.head (λ e. unseen_fit desk s seen j r (full (inl e)) fit) (subst (λ js. IsHead js j.id) seen.jobs head)
      | inr p ↦
          let e = passer_of s (subst (λ js. IsStrictlyIncreasing (ids_of js)) (sym seen.jobs) c.requires.desk.rising) desk.passer (c.requires.desk.passer s seen) j (subst (λ js. Contains js j) (sym seen.jobs) c.requires.known) seen.old r p in
          unseen_fit desk s seen j r (full (inr e)) fit
    ])
    (seen.old j.id)

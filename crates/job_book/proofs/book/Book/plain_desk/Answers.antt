use Rattle.std.proofs.Common.{refl, sym, ap, ◌∙◌, subst}
use Rattle.std.specs.List.{AllByRecursion as Each}
use Rattle.std.specs.List.Sorted.{IsStrictlyIncreasing}
use Rattle.job_deeds.specs.hostlist.Names.{AreHostNames}
use Rattle.job_deeds.specs.job_spec.Sound.{IsSpec}
use Rattle.job_deeds.specs.resource_set.Units.{host_names}
use Rattle.job_deeds.specs.manager_rules.Jobs.{ids_of}
use Rattle.job_deeds.specs.manager_rules.Sound.{AreInTime, holds_of}
use Rattle.job_deeds.specs.Waiting.{IsFirstOf}
use Rattle.job_deeds.proofs.manager_rules_proofs.Plain.{passes_none}
use Rattle.job_book.specs.Kept.{allotted}
use Rattle.job_book.proofs.Queues.{first_of}
use Rattle.job_book.proofs.book.Book.plain_desk.Goals.{After-head}
use Rattle.job_book.proofs.book.Book.plain_desk.Goals as goal

first : (c : After-head) → IsFirstOf c.deref.result.now c.head.result
first c = subst (λ js. IsFirstOf js c.head.result) (sym c.deref.ensures.value) (first_of c.self.inside.rows.items c.self.inside.queue.0 c.self.invariant.0.kept.rising c.self.invariant.1 c.head.result c.head.ensures.first c.head.ensures.none)

pub returns-clause-rows : goal.returns-clause-rows
returns-clause-rows c = c.deref.ensures.value ∙ ap (λ v. v.jobs) c.self.view_is

pub returns-clause-desk : goal.returns-clause-desk
returns-clause-desk c = record {
  rising = subst (λ js. IsStrictlyIncreasing (ids_of js)) (sym c.deref.ensures.value) c.self.invariant.0.kept.rising;
  head = first (goal.at.returns-clause-desk c).After-head;
  passer = λ s seen j r known p. passes_none s j seen.policy r p;
  named = subst (λ a. AreHostNames (host_names a.grant)) (sym c.self.invariant.0.graph) c.self.invariant.0.kept.grant.named;
}

pub returns-clause-look : goal.returns-clause-look
returns-clause-look c = record {
  in_time = subst AreInTime (sym c.deref.ensures.value) c.self.invariant.0.in_time;
  specs = subst (Each (λ j. IsSpec j.spec)) (sym c.deref.ensures.value) c.self.invariant.0.kept.specs;
  head = first (goal.at.returns-clause-look c).After-head;
  named = subst (λ a. AreHostNames (host_names a.grant)) (sym c.self.invariant.0.graph) c.self.invariant.0.kept.grant.named;
  graph = c.self.invariant.0.graph ∙ ap (λ v. allotted v) c.self.view_is ∙ ap (λ js. record { grant = c.args.self.now.grant.nodes; expiration = c.args.self.now.grant.expiration; live = holds_of js }) (sym (c.deref.ensures.value ∙ ap (λ v. v.jobs) c.self.view_is));
}

pub returns-clause-seen : goal.returns-clause-seen
returns-clause-seen c = λ answer limits. record {
  second = refl;
  jobs = sym (c.deref.ensures.value ∙ ap (λ v. v.jobs) c.self.view_is);
  asked = refl;
  policy = refl;
  old = λ id. refl;
  graph = c.self.invariant.0.graph ∙ ap allotted c.self.view_is;
}

use Rattle.std.proofs.Common.{◌≡◌, ◌∙◌, Ok, Result, Some, List, ℕ, ap, sym, subst}
use Rattle.std.specs.List.{list_all}
use Rattle.job_commands.specs.Desks.{needs_of}
use Rattle.job_spec.specs.Specs.{spec_reading}
use Rattle.job_spec.specs.declared.spec.Depend.{Depend}
use Rattle.job_spec.specs.declared.spec.JobSpec.{JobSpec}
use Rattle.job_submissions.specs.Faults.{AreKnown, IsReadAs, is_on_job}
use Rattle.job_submissions.proofs.Known.{all_known, not_known}
use Rattle.job_submissions.proofs.posting.take_up.Goals as goal

-- what is read, where a text tells a jobspec
read_as : (text other : List ℕ) (spec : JobSpec) (o : Result JobSpec ℕ) → text ≡ other → IsReadAs text o → o ≡ Ok spec → spec_reading other ≡ Ok spec
read_as text other spec o same h is = (let there : IsReadAs text (Ok spec) = subst (IsReadAs text) is h in subst (λ t. spec_reading t ≡ Ok spec) same there)

one_spec : {E : Type 0} {x y : JobSpec} {r : Result JobSpec E} → r ≡ Ok x → r ≡ Ok y → y ≡ x
one_spec e f = cc

one_list : {x y : List Depend} → Some x ≡ Some y → x ≡ y
one_list e = cc

pub returns-then-not-are_known-clause-none : goal.returns-then-not-are_known-clause-none
returns-then-not-are_known-clause-none c = λ spec needs a.
    let jobs = c.args.book.now.jobs in
    let read = read_as c.as_slice.result.now c.args.text.now c.in-Ok.spec c.in_ok-spec.field-0 c.as_slice.ensures c.in_ok-spec.ensures c.in-Ok.is in
    let same : spec ≡ c.in-Ok.spec = one_spec read a.reads in
    not_known jobs c.in-Ok.spec.depends (sym (c.are_known.ensures ∙ ap (list_all (is_on_job jobs)) c.as_slice-2.ensures) ∙ c.if-not-are_known.true)
    (subst (λ (s : JobSpec). AreKnown jobs s.depends) same a.depends)

pub returns-then-not-are_known-2-clause-none : goal.returns-then-not-are_known-2-clause-none
returns-then-not-are_known-2-clause-none c = λ spec needs a.
    let jobs = c.args.book.now.jobs in
    let named : needs_of c.args.commands.now.labels c.args.named.now ≡ Some c.in-Some.needs = sym (c.in_ok-needs.ensures ∙ ap (needs_of c.args.commands.now.labels) c.as_slice-3.ensures) ∙ c.in-Some.is in
    let same : needs ≡ c.in-Some.needs = one_list (sym a.names ∙ named) in
    not_known jobs c.in-Some.needs (sym (c.are_known-2.ensures ∙ ap (list_all (is_on_job jobs)) c.as_slice-4.ensures) ∙ c.if-not-are_known-2.true)
    (subst (AreKnown jobs) same a.known)

pub returns-clause-some : goal.returns-clause-some
returns-clause-some c =
    let jobs = c.args.book.now.jobs in
    record {
      reads = read_as c.as_slice.result.now c.args.text.now c.in-Ok.spec c.in_ok-spec.field-0 c.as_slice.ensures c.in_ok-spec.ensures c.in-Ok.is;
      passed = sym c.verdict.ensures ∙ c.if-verdict-ne0.false;
      names = sym (c.in_ok-needs.ensures ∙ ap (needs_of c.args.commands.now.labels) c.as_slice-3.ensures) ∙ c.in-Some.is;
      depends = all_known jobs c.in-Ok.spec.depends (sym (c.are_known.ensures ∙ ap (list_all (is_on_job jobs)) c.as_slice-2.ensures) ∙ c.if-not-are_known.false);
      known = all_known jobs c.in-Some.needs (sym (c.are_known-2.ensures ∙ ap (list_all (is_on_job jobs)) c.as_slice-4.ensures) ∙ c.if-not-are_known-2.false);
    }

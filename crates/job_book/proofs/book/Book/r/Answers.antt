use Rattle.std.proofs.Common.{◌≡◌, Some, sym, subst, rules}
use Rattle.std.specs.Prelude.{IfSome}
use Rattle.std.specs.Option.{option_copied}
use Rattle.std.specs.List.{AllByRecursion as Each}
use Rattle.job_deeds.specs.resource_set.Valid.{IsR}
use Rattle.job_deeds.specs.manager_rules.Dependencies.{job_at}
use Rattle.job_book.proofs.Held.{copied_valid, each_found}
use Rattle.job_book.proofs.book.Book.r.Goals as goal

pub returns-clause-valid : goal.returns-clause-valid
returns-clause-valid c =
    let found : job_at c.deref.result.now c.args.id ≡ Some c.in_ok-find.field-0.now = search rules in
    let is : option_copied c.as_ref.result ≡ c.in_ok-find.field-0.now.r = search rules in
    let held = subst (Each (λ j. IfSome j.r IsR)) (sym c.deref.ensures.value) c.self.invariant.0.kept.held in
    copied_valid c.as_ref.result (subst (λ o. IfSome o IsR) (sym is) (each_found (λ j. IfSome j.r IsR) c.deref.result.now held c.args.id c.in_ok-find.field-0.now found))

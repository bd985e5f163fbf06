use Rattle.std.proofs.Common.{◌≡◌, ap, ap₂, ◌∙◌, subst}
use Rattle.std.specs.Prelude.{find, option_map}
use Rattle.std.specs.List.Sorted.{IsStrictlyIncreasing}
use Rattle.job_deeds.specs.manager_rules.Jobs.{ids_of}
use Rattle.job_book.specs.Active.{is_to_bear}
use Rattle.job_book.specs.Seconds.{is_bearing}
use Rattle.job_book.proofs.Actives.{first_to_bear}
use Rattle.job_book.proofs.Ahead.{none_birth, some_birth}
use Rattle.job_book.proofs.book.Book.birth.Goals.{After-first_bearing}
use Rattle.job_book.proofs.book.Book.birth.Goals as goal

found : (c : After-first_bearing) → c.first_bearing.result ≡ option_map (λ j. j.id) (find (is_bearing c.args.asked.now) c.args.self.now.jobs)
found c =
    c.first_bearing.ensures
    ∙ ap₂ (λ asked list. option_map (λ a. a.id) (find (is_to_bear asked) list)) c.as_slice.ensures c.deref.ensures.value
    ∙ first_to_bear c.args.asked.now c.self.inside.rows.items c.self.inside.active.items c.self.invariant.2 c.self.invariant.3
    ∙ ap (λ v. option_map (λ j. j.id) (find (is_bearing c.args.asked.now) v.jobs)) c.self.view_is

pub returns-clause-some : goal.returns-clause-some
returns-clause-some c = some_birth c.args.self.now c.args.asked.now c.first_bearing.result (subst (λ v. IsStrictlyIncreasing (ids_of v.jobs)) c.self.view_is c.self.invariant.0.kept.rising) (found c)

pub returns-clause-none : goal.returns-clause-none
returns-clause-none c = none_birth c.args.self.now c.args.asked.now c.first_bearing.result (found c)

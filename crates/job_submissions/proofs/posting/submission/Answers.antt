use Rattle.std.proofs.Common.{◌≡◌, ◌∙◌, ℕ, zero, suc, ◌<◌, ◌≤◌, inl, inr, List, [], ◌∷◌, Option, None, length, refl, sym, subst, arith, get_or, ap}
use Rattle.std.specs.Prelude.{IfNone}
use Rattle.std.proofs.lemmas.Bool.{cases_lt}
use Rattle.job_submissions.specs.Made.{MakesNone}
use Rattle.job_submissions.proofs.posting.submission.Goals as goal

any_default : {A : Type 0} (xs : List A) (k : ℕ) (d e : A) → k < length xs → get_or xs k d ≡ get_or xs k e
any_default [] k d e low = absurd (omega arith)
any_default (x ∷ xs) zero d e low = refl
any_default (x ∷ xs) (suc k) d e low = any_default xs k d e (omega arith)

where_none : {A P : Type 0} (o : Option A) → o ≡ None → IfNone o P → P
where_none {A = A} {P = P} o is h = (let there : IfNone {T = A} None P = subst (λ x. IfNone x P) is h in there)

pub loop-row-preserved : goal.loop-row-preserved
loop-row-preserved c = λ k d low.
    let rows = c.args.commands.now.rows in
    let jobs = c.args.book.now.jobs in
    let labels = c.args.commands.now.labels in
    elim (cases_lt k c.loop-row.row-index) [
      | inl below ↦ c.loop-row.invariant k d below
      | inr above ↦
          let here : k ≡ c.loop-row.row-index = omega (arith, low) in
          let within : c.loop-row.row-index < length rows = subst (λ xs. c.loop-row.row-index < length xs) c.rows-row-items.ensures c.loop-row-test.true in
          let item : c.row-item.result ≡ get_or rows c.loop-row.row-index c.row-item.result = c.row-item.is ∙ ap (λ xs. get_or xs c.loop-row.row-index c.row-item.result) c.rows-row-items.ensures in
          subst (λ n. MakesNone c.args.limits labels jobs (get_or rows n d)) (sym here)
          (subst (MakesNone c.args.limits labels jobs) (item ∙ any_default rows c.loop-row.row-index c.row-item.result d within)
          (where_none c.in_ok-x.field-0 c.in_default.is c.in_ok-x.ensures.none))
    ]

pub returns-clause-none : goal.returns-clause-none
returns-clause-none c = λ row stands.
    let all : length c.args.commands.now.rows ≤ c.loop-row.row-index = subst (λ xs. length xs ≤ c.loop-row.row-index) c.rows-row-items.ensures c.loop-row-test.false in
    subst (MakesNone c.args.limits c.args.commands.now.labels c.args.book.now.jobs) stands.2 (c.loop-row.invariant stands.0 row (omega (arith, stands.1, all)))

use Rattle.std.proofs.Common.{inl, inr, ◌++◌, append-nil, refl, sym, subst}
use Rattle.services.specs.Agrees.{AgreesServices}
use Rattle.instance.specs.Jobs.{CountsIn, IsNewOrder, issues_of}
use Rattle.instance.proofs.jobs.order.Goals as goal

pub returns-in-Nothing-clause-counts : goal.returns-in-Nothing-clause-counts
returns-in-Nothing-clause-counts c =
    let v = c.args.services.now in
    elim c.in-Nothing.is [
      | inl is ↦ subst (λ o. CountsIn o v v) (sym is) refl
      | inr is ↦ subst (λ o. CountsIn o v v) (sym is) refl
    ]

pub returns-in-Nothing-clause-agrees : goal.returns-in-Nothing-clause-agrees
returns-in-Nothing-clause-agrees c = λ inst log a new.
    let v = c.args.services.now in
    let by = c.args.by in
    elim c.in-Nothing.is [
      | inl is ↦
          subst (λ o. AgreesServices v inst (log ++ issues_of by o)) (sym is)
          (subst (AgreesServices v inst) (sym (append-nil log)) a)
      | inr is ↦
          let shuts = subst (IsNewOrder inst log by c.args.broker) is new in
          subst (λ o. AgreesServices v inst (log ++ issues_of by o)) (sym is)
          (c.shutdowns_leave_services.ensures.issued v inst log by shuts.asks shuts.new a)
    ]

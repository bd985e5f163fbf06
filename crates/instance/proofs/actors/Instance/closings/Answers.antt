use Rattle.std.proofs.Common.{◌≡◌, ◌∙◌, ap, ap₂, sym, subst}
use Rattle.services.specs.kvs_core.Agrees.{Agrees}
use Rattle.std.proofs.lemmas.Result.{IfOk-weaker}
use Rattle.services.specs.answers.Chronicle.{top}
use Rattle.services.specs.answers.Services.{setting_of, log_of}
use Rattle.services.specs.job_service.Still.{awaited}
use Rattle.instance.specs.Agrees.{AgreesOwn}
use Rattle.instance.specs.Closings.{closings, numbers_in}
use Rattle.instance.specs.Makes.{Ends}
use Rattle.instance.specs.Steps.{IsOver}
use Rattle.instance.specs.View.{value_of}
use Rattle.instance.proofs.Stilling.{IsStillSo, core_agrees}
use Rattle.instance.proofs.Ending.{close_ends}
use Rattle.instance.proofs.Owning.{own_of}
use Rattle.instance.proofs.actors.Instance.closings.Goals as goal

pub returns-clause-left : goal.returns-clause-left
returns-clause-left c = IfOk-weaker c.close_off.result _ _
    (λ left told set own agrees same.
    let w = value_of c.self.inside in
    let log = log_of set.work top own in
    let is : c.core-core.result.now ≡ w.services.jobs.manager.core = c.core-core.ensures.value ∙ sym (ap (λ v. v.services.jobs.manager.core) c.self.view_is) in
    let h = subst (λ x. AgreesOwn x set own) (sym c.self.view_is) agrees in
    told (setting_of set) log (subst (λ core. Agrees core (setting_of set) log) (sym is) (core_agrees (own_of w set own) h))
    ∙ ap₂ (λ jobs seats. closings (numbers_in log) (awaited jobs) c.args.lines.now seats)
    (c.jobs-jobs.ensures.value ∙ ap (λ x. x.services.jobs) c.self.view_is) (c.deref.ensures.value ∙ ap (λ x. x.seats) c.self.view_is))
    c.close_off.ensures

pub returns-clause-ends : goal.returns-clause-ends
returns-clause-ends c = IfOk-weaker c.close_off.result _ _
    (λ left told set own agrees same over.
    let w = value_of c.self.inside in
    let v = own_of w set own in
    let log = log_of set.work top own in
    let is : c.core-core.result.now ≡ w.services.jobs.manager.core = c.core-core.ensures.value ∙ sym (ap (λ v. v.services.jobs.manager.core) c.self.view_is) in
    let lines = c.args.lines.now in
    let h = subst (λ x. AgreesOwn x set own) (sym c.self.view_is) agrees in
    let over_so = subst (λ ls. IsOver ls w) (sym same) (subst (IsOver lines) (sym c.self.view_is) over) in
    let promise : IsStillSo v = record {
      quiet = c.still.ensures.quiet;
      heard = c.still.ensures.heard;
      last = c.still.ensures.last;
      idle = c.still.ensures.idle;
      advanced = c.still.ensures.advanced;
      left = c.still.ensures.left;
      results = c.still.ensures.results;
    } in
    subst (Ends set own) (sym (told (setting_of set) log (subst (λ core. Agrees core (setting_of set) log) (sym is) (core_agrees v h))
    ∙ ap₂ (λ jobs seats. closings (numbers_in log) (awaited jobs) lines seats) c.jobs-jobs.ensures.value c.deref.ensures.value
    ∙ ap (λ ls. closings (numbers_in log) (awaited w.services.jobs) ls w.seats) (sym same)))
    (close_ends v h over_so promise))
    c.close_off.ensures

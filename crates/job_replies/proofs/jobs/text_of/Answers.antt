use Rattle.std.proofs.Common.{◌≡◌, ◌∙◌, Some, ap, sym, subst}
use Rattle.kvs_core.specs.Agrees.{Agrees}
use Rattle.kvs_core.specs.Posted.{newest_of}
use Rattle.job_deeds.specs.kvs_model.Store.{Store}
use Rattle.job_replies.proofs.Paths.{newest-text}
use Rattle.job_replies.proofs.Reading.{no-text, text_in}
use Rattle.job_replies.proofs.jobs.text_of.Goals as goal

some_same : {x y : Store} → Some x ≡ Some y → x ≡ y
some_same e = cc

pub returns-in-Value : goal.returns-in-Value
returns-in-Value c = λ set log a.
    let (st, newest, read) = c.in_ok-text.ensures set log (subst (λ core. Agrees core set log) (sym c.core-2.ensures) a) in
    newest-text c.args.manager.now c.keeps.ensures c.args.key c.args.id c.in_ok-path.path st c.in_ok-text.field-0 c.in_ok-path.ensures
    (some_same (sym newest ∙ c.standing.ensures.newest set log (subst (λ core. Agrees core set log) (sym c.core.ensures) a)) ∙ ap newest_of c.core.ensures) read
    ∙ ap text_in c.in-Value.is

pub returns : goal.returns
returns c = λ set log a.
    let (st, newest, read) = c.in_ok-text.ensures set log (subst (λ core. Agrees core set log) (sym c.core-2.ensures) a) in
    newest-text c.args.manager.now c.keeps.ensures c.args.key c.args.id c.in_ok-path.path st c.in_ok-text.field-0 c.in_ok-path.ensures
    (some_same (sym newest ∙ c.standing.ensures.newest set log (subst (λ core. Agrees core set log) (sym c.core.ensures) a)) ∙ ap newest_of c.core.ensures) read
    ∙ no-text c.in_ok-text.field-0 c.in_default.not-Value

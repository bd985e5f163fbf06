use Rattle.std.proofs.Common.{◌∙◌, ap, sym}
use Rattle.std.specs.Prelude.{unwrap_or}
use Rattle.std.proofs.lemmas.Result.{IfOk-weaker}
use Rattle.instance.specs.resource_set.Writing.{r_text}
use Rattle.homes.specs.Grant.{grant_text, hosts_of_brokers}
use Rattle.world.proofs.run.begin.Goals as goal

pub returns-in-Some-clause-agrees : goal.returns-in-Some-clause-agrees
unfolding grant_text
returns-in-Some-clause-agrees c = IfOk-weaker c.new.result _ _
    (λ v agrees set size fanout hash grant resources anew terms birth work. agrees set size fanout hash
    (grant ∙ ap (λ o. r_text (unwrap_or o (hosts_of_brokers c.args.setting.size))) c.in-Some.is ∙ ap r_text (sym c.resources.ensures.value))
    (resources ∙ ap (λ o. unwrap_or o (hosts_of_brokers c.args.setting.size)) c.in-Some.is ∙ sym c.resources.ensures.value) anew terms birth work)
    c.new.ensures.agrees

pub returns-in_ok-grant-in-None-clause-agrees : goal.returns-in_ok-grant-in-None-clause-agrees
unfolding grant_text
returns-in_ok-grant-in-None-clause-agrees c = IfOk-weaker c.new-in-None.result _ _
    (λ v agrees set size fanout hash grant resources anew terms birth work. agrees set size fanout hash
    (grant ∙ ap (λ o. r_text (unwrap_or o (hosts_of_brokers c.args.setting.size))) c.in-None.is ∙ ap r_text (sym c.in_ok-grant-in-None.ensures.value))
    (resources ∙ ap (λ o. unwrap_or o (hosts_of_brokers c.args.setting.size)) c.in-None.is ∙ sym c.in_ok-grant-in-None.ensures.value) anew terms birth work)
    c.new-in-None.ensures.agrees

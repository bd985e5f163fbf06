use Rattle.std.proofs.Common.{◌∙◌, ap, sym}
use Rattle.std.specs.Prelude.{unwrap_or}
use Rattle.std.proofs.lemmas.Result.{IfOk-weaker}
use Rattle.world.specs.resource_set.Writing.{r_text}
use Rattle.world.specs.homes.Grant.{grant_text, hosts_of_brokers}
use Rattle.flux.proofs.generating.first_grant.Goals as goal

pub returns-in-Some : goal.returns-in-Some
unfolding grant_text
returns-in-Some c = IfOk-weaker c.text.result _ _
    (λ text is. is ∙ ap (λ o. r_text (unwrap_or o (hosts_of_brokers c.args.size))) (sym c.in-Some.is)) c.text.ensures

pub returns : goal.returns
unfolding grant_text
returns c = c.from_vec.ensures ∙ c.in_ok-text.ensures.canonical ∙ ap r_text c.in_ok-hosts.ensures.value
    ∙ ap (λ o. r_text (unwrap_or o (hosts_of_brokers c.args.size))) (sym c.in_default.is)

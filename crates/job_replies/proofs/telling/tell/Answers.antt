use Rattle.std.proofs.Common.{◌≡◌, ◌<◌, ℕ, Some, sym, subst}
use Rattle.std.proofs.lemmas.Result.{IfOk-weaker}
use Rattle.instance_rules.specs.Log.{Instance, Log, service_of}
use Rattle.kvs_core.specs.Agrees.{Agrees}
use Rattle.kvs_core.specs.Posted.{newest_of}
use Rattle.kvs_core.specs.Seen.{primary_heard}
use Rattle.kvs_core.specs.Value.{CoreValue}
use Rattle.kvs_rules.specs.Brokers.{heard}
use Rattle.kvs_rules.specs.Log as service
use Rattle.kvs_rules.specs.Namespaces.{Setting, landed, newest_store, primary}
use Rattle.job_commands.specs.declared.row.Stage.{Stage}
use Rattle.job_replies.specs.Jobs.{IsToldAt, KnowsNewest}
use Rattle.job_replies.proofs.telling.tell.Goals as goal

-- what a core promises that stands, as the law asks for it
knows : (core : CoreValue) (rank : ℕ) → rank < core.size →
    ((set : Setting) (log : service.Log) → Agrees core set log → newest_store set log primary ≡ Some (newest_of core)) →
    ((set : Setting) (log : service.Log) → Agrees core set log → (broker : ℕ) → broker < core.size → heard log broker primary ≡ Some (primary_heard core broker)) →
    ((set : Setting) (log : service.Log) → Agrees core set log → landed log primary ≡ primary_heard core 0) →
    (inst : Instance) (log : Log) → Agrees core inst.service (service_of log) → KnowsNewest core rank inst log
knows core rank within newest told last inst log a = record {
  newest = newest inst.service (service_of log) a;
  last = last inst.service (service_of log) a;
  told = told inst.service (service_of log) a rank within;
}

pub returns-in-Waits : goal.returns-in-Waits
returns-in-Waits c = record {
  legal = IfOk-weaker c.tell_open.result _ _
      (λ told said inst log s known.
      let manager = c.args.manager.now in
      let row = c.args.row.now in
      let k = subst (λ core. KnowsNewest core row.rank inst log) c.core.ensures
      (knows c.core.result.now row.rank (subst (λ (core : CoreValue). row.rank < core.size) (sym c.core.ensures) c.requires.within)
      c.standing.ensures.newest c.standing.ensures.heard c.standing.ensures.last inst log (subst (λ core. Agrees core inst.service (service_of log)) (sym c.core.ensures) s.service)) in
      c.what_is_told_is_legal.ensures c.args.commands.now manager c.args.now inst log row told.reply told.number c.keeps.ensures k s known c.requires.can
      (subst (λ (at : Stage). IsToldAt c.args.commands.now.labels manager c.args.now row at told.reply told.number) (sym c.in-Waits.is) said))
      c.tell_open.ensures;
}

pub returns-in-Landed : goal.returns-in-Landed
returns-in-Landed c = record {
  legal = λ inst log s known.
      let manager = c.args.manager.now in
      let row = c.args.row.now in
      let told = c.tell_carried_out.result in
      let k = subst (λ core. KnowsNewest core row.rank inst log) c.core.ensures
      (knows c.core.result.now row.rank (subst (λ (core : CoreValue). row.rank < core.size) (sym c.core.ensures) c.requires.within)
      c.standing.ensures.newest c.standing.ensures.heard c.standing.ensures.last inst log (subst (λ core. Agrees core inst.service (service_of log)) (sym c.core.ensures) s.service)) in
      c.what_is_told_is_legal.ensures c.args.commands.now manager c.args.now inst log row told.reply told.number c.keeps.ensures k s known c.requires.can
      (subst (λ (at : Stage). IsToldAt c.args.commands.now.labels manager c.args.now row at told.reply told.number) (sym c.in-Landed.is) c.tell_carried_out.ensures);
}

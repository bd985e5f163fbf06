use Rattle.std.proofs.Common.{◌∙◌, None, false, ap, sym, subst}
use Rattle.job_manager.specs.Managed.{IsManaged}
use Rattle.job_manager.specs.Value.{ManagerValue}
use Rattle.kvs_rules.specs.Namespaces.{fresh}
use Rattle.job_manager.proofs.Steps.{begins}
use Rattle.job_manager.proofs.manager.Manager.new.Goals as goal

pub invariant_of-result : goal.invariant_of-result
invariant_of-result c = λ _.
    subst (λ l. IsManaged (let v : ManagerValue = record { spent = false; core = c.in_ok-core.core; book = c.in_ok-book.book; posted = None; places = l } in v)) (sym c.new-3.ensures)
    (begins c.in_ok-core.core c.in_ok-book.book c.args.grant.now c.args.policy _ c.in_ok-core.ensures.ready c.in_ok-core.ensures.newest c.in_ok-core.ensures.unlanded c.in_ok-core.ensures.grant c.in_ok-core.ensures.posted c.in_ok-book.ensures c.keeps.ensures (c.stores_stay_stores.ensures.first _) false)

pub returns-clause-agrees : goal.returns-clause-agrees
returns-clause-agrees c = λ set size fanout hash base links. c.in_ok-core.ensures.agrees set size fanout hash (base ∙ ap fresh (sym (c.from_vec-text.ensures ∙ c.in_ok-print.ensures.canonical))) links

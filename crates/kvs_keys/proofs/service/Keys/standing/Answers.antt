use Rattle.std.proofs.Common.{◌≡◌, ◌<◌, Some, length, ap, ◌∙◌, sym, subst}
use Rattle.kvs_keys.specs.Agrees.{Agrees}
use Rattle.kvs_rules.specs.Namespaces.{landed, newest_store, primary, store_after}
use Rattle.kvs_keys.specs.Posted.{newest_of}
use Rattle.kvs_keys.proofs.Keeping.{roots-are}
use Rattle.kvs_keys.proofs.Managing.{newest-is, still-posted}
use Rattle.kvs_keys.proofs.Primary.{primary-last, primary-told}
use Rattle.kvs_keys.specs.Seen.{primary_heard, root_of}
use Rattle.kvs_rules.specs.Brokers.{heard}
use Rattle.kvs_model.specs.History.{after, first_store}
use Rattle.kvs_txn.specs.declared.txn.Scope.TheVariants as scope
use Rattle.kvs_keys.specs.Histories.{history_of}
use Rattle.kvs_keys.proofs.Extending.{history-kept}
use Rattle.kvs_keys.proofs.service.Keys.standing.Goals as goal

pub returns-clause-landed : goal.returns-clause-landed
returns-clause-landed c = still-posted c.args.self.now

pub returns-clause-newest : goal.returns-clause-newest
returns-clause-newest c = λ set log a.
    let e = c.self.view_is in
    subst (λ v. newest_store set log primary ≡ Some (newest_of v)) e (newest-is (c.self.invariant.0 (ap (λ v. v.spent) e ∙ c.requires)) (subst (λ v. Agrees v set log) (sym e) a))

pub returns-clause-kept : goal.returns-clause-kept
returns-clause-kept c =
    let e = c.self.view_is in
    subst (λ v. after scope.Primary (history_of v) (length (history_of v)) (first_store v.grant) ≡ Some (newest_of v)) e (history-kept (c.self.invariant.0 (ap (λ v. v.spent) e ∙ c.requires)))

pub returns-clause-heard : goal.returns-clause-heard
returns-clause-heard c = λ set log a broker low.
    let e = c.self.view_is in
    subst (λ v. heard log broker primary ≡ Some (primary_heard v broker)) e
    (primary-told (c.self.invariant.0 (ap (λ v. v.spent) e ∙ c.requires)) (subst (λ v. Agrees v set log) (sym e) a) broker (subst (λ v. broker < v.size) (sym e) low))

pub returns-clause-last : goal.returns-clause-last
returns-clause-last c = λ set log a.
    let e = c.self.view_is in
    subst (λ v. landed log primary ≡ primary_heard v 0) e (primary-last (c.self.invariant.0 (ap (λ v. v.spent) e ∙ c.requires)) (subst (λ v. Agrees v set log) (sym e) a))

pub returns-clause-roots : goal.returns-clause-roots
returns-clause-roots c = λ set log a number.
    let e = c.self.view_is in
    subst (λ v. store_after set log primary number ≡ root_of v number) e (roots-are (c.self.invariant.0 (ap (λ v. v.spent) e ∙ c.requires)) (subst (λ v. Agrees v set log) (sym e) a) number)

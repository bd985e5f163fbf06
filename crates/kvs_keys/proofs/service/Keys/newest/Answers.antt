use Rattle.std.proofs.Common.{◌≡◌, ◌∙◌, Result, Ok, Err, Some, IfOk, ap, sym, subst}
use Rattle.kvs_txn.specs.declared.answers.Query.TheVariants as query
use Rattle.kvs_model.specs.Store.{Store}
use Rattle.kvs_model.specs.OneStore.{own_walk}
use Rattle.kvs_rules.specs.Log.{Log}
use Rattle.kvs_rules.specs.Namespaces.{Setting, primary, newest_store}
use Rattle.kvs_keys.specs.Agrees.{Agrees}
use Rattle.kvs_keys.proofs.Landing.{newest-primary}
use Rattle.kvs_keys.proofs.service.Keys.newest.Goals as goal

if-ok : {T E : Type 0} (P Q : T → Type 0) (r : Result T E) → ((x : T) → P x → Q x) → IfOk r P → IfOk r Q
if-ok P Q (Ok x) f h = f x h
if-ok P Q (Err e) f h = tt

pub returns : goal.returns
returns c =
    let s = c.self.invariant.0 (ap (λ v. v.spent) c.self.view_is ∙ c.requires) in
    if-ok (λ found. found ≡ own_walk c.store.result.now query.Get c.args.path.now)
    (λ found. (set : Setting) (log : Log) → Agrees c.args.self.now set log → (st : Store) × (newest_store set log primary ≡ Some st) × (own_walk st query.Get c.args.path.now ≡ found))
    c.look.result
    (λ found e set log a. (c.store.result.now, newest-primary s (subst (λ v. Agrees v set log) (sym c.self.view_is) a) c.index.result.now c.index.ensures c.store.result.now c.store.ensures, sym e))
    c.look.ensures

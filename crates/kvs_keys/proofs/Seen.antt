-- What a request may be told, of a service of keys as its callers see it.
use Rattle.std.proofs.Common.{◌≡◌, ℕ, None, subst, get_or}
use Rattle.kvs_rules.specs.declared.events.KvsAnswer.{KvsAnswer}
use Rattle.kvs_rules.specs.Log.{Log}
use Rattle.kvs_rules.specs.Namespaces.{Setting}
use Rattle.kvs_requests.specs.declared.rows.Row.{Row}
use Rattle.kvs_keys.specs.Agrees.{Agrees}
use Rattle.kvs_requests.specs.Agreement.{MayTell}
use Rattle.kvs_keys.specs.Value.{KeysValue}

pub told-seen : {v w : KeysValue} (is : v ≡ w) (i : ℕ) (given : KvsAnswer) {set₀ : Setting} {log : Log} (d : Row) → ((b : Agrees v set₀ log) → MayTell b.entered set₀ log (get_or v.rows i d).by None given) → (a : Agrees w set₀ log) → MayTell a.entered set₀ log (get_or w.rows i d).by None given
told-seen {v} is i given {set₀} {log} d told = subst (λ w. (a : Agrees w set₀ log) → MayTell a.entered set₀ log (get_or w.rows i d).by None given) is told

-- What is asked of a service of keys.
use Rattle.std.specs.Prelude.{◌≡◌, ℕ, false, IsTrue, Some, List, [], ◌∷◌, ◌++◌}
use Rattle.kvs_txn.specs.declared.txn.Group.{Group}
use Rattle.kvs_model.specs.Store.{Name}
use Rattle.kvs_rules.specs.Log.{Log, Asked, is_asked}
use Rattle.kvs_rules.specs.Namespaces.{Setting}
use Rattle.kvs_keys.specs.declared.service.Request.{Request}
use Rattle.kvs_keys.specs.declared.service.Request.TheVariants as request
use Rattle.kvs_keys.specs.Posted.{CanPost, IsNewPost, post_of}
use Rattle.kvs_keys.specs.Steps.{IsStill}
use Rattle.kvs_keys.specs.Value.{KeysValue}
use Rattle.kvs_requests.specs.Rows.{IsKnownAsk}

-- a request that the service of keys carries out: a command's, or the job manager's
abbrev pub IsKnown : Request → Type 0
IsKnown (request.Command by space floor asked) = IsKnownAsk asked
IsKnown (request.Manager command txn) = Unit {0}

-- the manager's transaction takes effect behind those that wait
abbrev pub MayPost : KeysValue → Request → Type 0
MayPost v (request.Command by space floor asked) = Unit {0}
MayPost v (request.Manager command txn) = CanPost v command txn

-- the manager's transaction that is requested, if this is one
abbrev pub posts_asked : Request → List Group
posts_asked (request.Command by space floor asked) = []
posts_asked (request.Manager command txn) = post_of command txn ∷ []

-- the setting says that the request's command asks this at the broker
abbrev pub IsMade : Setting → ℕ → Request → Type 0
IsMade set broker (request.Command by space floor asked) = set.asks by ≡ Some (record {
  broker = broker;
  namespace = space;
  ask = asked;
})
IsMade set broker (request.Manager command txn) = Unit {0}

-- the service of keys is at rest, if commands ask only then
abbrev pub AsksAtRest : Setting → KeysValue → Type 0
AsksAtRest set v = IsTrue set.settled → IsStill v

-- P holds of the log after the moment at which a command asks, which has asked nothing before and
-- whose actor has seen this number of its namespace; of the manager's request the log tells nothing
abbrev pub IfAsked : KeysValue → Setting → Log → Request → (Log → Type 0) → Type 0
IfAsked v set log (request.Command by space floor asked) P =
    (floors : Name → ℕ) → floors space ≡ floor → is_asked by log ≡ false
    → AsksAtRest set v → P (log ++ Asked by floors ∷ [])
IfAsked v set log (request.Manager command txn) P = IsNewPost v set log command → P log

-- What a request says of the command or of the job manager that makes it.
use Rattle.std.proofs.Common.{◌≡◌, ◌∙◌, ℕ, List, ◌++◌, Option, false, ap, sym, subst, append-nil}
use Rattle.kvs_txn.specs.declared.txn.By.{By}
use Rattle.kvs_txn.specs.declared.txn.Group.{Group}
use Rattle.kvs_txn.specs.declared.txn.Txn.{Txn}
use Rattle.kvs_model.specs.Store.{Name}
use Rattle.kvs_rules.specs.declared.events.KvsAsk.{KvsAsk}
use Rattle.kvs_rules.specs.Log.{Log}
use Rattle.kvs_rules.specs.Namespaces.{Setting}
use Rattle.kvs_requests.specs.Rows.{IsKnownAsk}
use Rattle.kvs_keys.specs.Requests.{IsMade, posts_asked}
use Rattle.kvs_keys.specs.declared.service.Request.{Request}
use Rattle.kvs_keys.specs.declared.service.Request.TheVariants as request
use Rattle.content_service.specs.Asks.{is_content}
use Rattle.kvs_core.specs.Agrees.{Agrees}
use Rattle.kvs_core.specs.Posted.{CanPost, IsNewPost}
use Rattle.kvs_core.specs.Requests.{AgreesOnce, IfAsked, IsKnown, MayPost}
use Rattle.kvs_core.specs.Value.{CoreValue}
use Rattle.kvs_core.proofs.Beside.{served_known}

-- a command's
pub asked-request : (old new : CoreValue) (broker : ℕ) (made-by : Request) (by : By) (space : Name) (floor : ℕ) (asked : KvsAsk) → made-by ≡ request.Command by space floor asked → AgreesOnce old new by broker space floor asked
    → (set : Setting) (log : Log) → Agrees old set log → IsMade set broker made-by → IfAsked old set log made-by (λ later. Agrees new set later)
asked-request old new broker made-by by space floor asked is agrees set log a made =
    subst (λ r. IfAsked old set log r (λ later. Agrees new set later)) (sym is)
    (λ floors seen fresh rested. agrees set log a (subst (IsMade set broker) is made) floors seen fresh rested)

pub command-known : (made-by : Request) (by : By) (space : Name) (floor : ℕ) (asked : KvsAsk) → made-by ≡ request.Command by space floor asked → is_content asked ≡ false → IsKnown made-by → IsKnownAsk asked
command-known made-by by space floor asked is plain known = served_known asked plain (subst IsKnown is known)

-- of which no post waits
pub command-posts : (old new : List Group) (made-by : Request) (by : By) (space : Name) (floor : ℕ) (asked : KvsAsk) → made-by ≡ request.Command by space floor asked → new ≡ old → new ≡ old ++ posts_asked made-by
command-posts old new made-by by space floor asked is same = same ∙ sym (append-nil old) ∙ ap (λ r. old ++ posts_asked r) (sym is)

-- the manager's
pub posted-request : (old new : CoreValue) (broker : ℕ) (made-by : Request) (command : Option By) (txn : Txn) → made-by ≡ request.Manager command txn → ((set : Setting) (log : Log) → Agrees old set log → IsNewPost old set log command → Agrees new set log)
    → (set : Setting) (log : Log) → Agrees old set log → IsMade set broker made-by → IfAsked old set log made-by (λ later. Agrees new set later)
posted-request old new broker made-by command txn is agrees set log a made = subst (λ r. IfAsked old set log r (λ later. Agrees new set later)) (sym is) (λ fresh. agrees set log a fresh)

pub may-post : (v : CoreValue) (made-by : Request) (command : Option By) (txn : Txn) → made-by ≡ request.Manager command txn → MayPost v made-by → CanPost v command txn
may-post v made-by command txn is may = subst (MayPost v) is may

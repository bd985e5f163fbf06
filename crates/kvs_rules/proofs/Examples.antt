-- Worked examples, which the definitions compute.
use Rattle.std.proofs.Common.{◌≡◌, ℕ, List, [], ◌∷◌, false, arith, Option, Some, None, Ok, Err, refl, codes}
use Rattle.fl_digest.specs.declared.Hash.TheVariants.{Sha1}
use Rattle.kvs_txn.specs.declared.answers.Found.TheVariants as found
use Rattle.kvs_txn.specs.declared.answers.Numbered.{Numbered}
use Rattle.kvs_txn.specs.declared.answers.Query.TheVariants as query
use Rattle.kvs_txn.specs.declared.txn.Author.TheVariants as author
use Rattle.kvs_txn.specs.declared.txn.By.{By}
use Rattle.kvs_txn.specs.declared.txn.Group.{Group}
use Rattle.kvs_txn.specs.declared.txn.Op.{Op}
use Rattle.kvs_txn.specs.declared.txn.Op.TheVariants as op
use Rattle.kvs_model.specs.Store.{Name, Store}
use Rattle.kvs_model.specs.Walk.{resolved, used, walk}
use Rattle.kvs_model.specs.Operation.{op_effect}
use Rattle.kvs_model.specs.History.{first_store}
use Rattle.kvs_rules.specs.declared.events.KvsAsk.{KvsAsk}
use Rattle.kvs_rules.specs.declared.events.KvsAsk.TheVariants as ask
use Rattle.kvs_rules.specs.declared.events.KvsEvent.TheVariants as event
use Rattle.kvs_rules.specs.Log.{Asked, Happened, Resumed, Log, floor_at}
use Rattle.kvs_rules.specs.Namespaces.{Base, IsStoreIn, Request, Setting, family_at, fresh, landed, primary, store_after}
use Rattle.kvs_rules.specs.Brokers.{heard, IsHandedIn}

by : By
by = record { actor = 0; command = 1 }

k : Name
k = codes "k"

n : Name
n = codes "n"

group : List Op → Group
group ops = record { txn = record { author = author.User 0; ops = ops }; authors = by ∷ [] }

-- an instance that begins at this number, and whose one command asks this
given : Base → Option KvsAsk → Setting
given base what = record { settled = false; size = 1; fanout = 1; hash = Sha1; base = base; asks = λ _. asked what }
  where
    asked : Option KvsAsk → Option Request
    asked None = None
    asked (Some a) = Some (record { broker = 0; namespace = primary; ask = a })

root_of : Name → ℕ → Numbered
root_of space number = record { namespace = space; number = number }

-- ---- a service that resumes at number 5

kept : Base
kept = record { number = 5; store = first_store (codes "g") }

resumed : Log
resumed = Resumed 5 ∷ Happened (event.Landed primary 6 (Some by ∷ []) (group (op.Put (k ∷ []) (codes "v") ∷ []) ∷ [])) ∷ []

landed_so : landed resumed primary ≡ 6
unfolding resumed
landed_so = refl

heard_so : heard (Resumed 5 ∷ []) 0 primary ≡ Some 5
heard_so = refl

begins_there : store_after (given kept None) resumed primary 5 ≡ Some (first_store (codes "g"))
unfolding resumed given kept
begins_there = refl

none_before : store_after (given kept None) resumed primary 4 ≡ None
unfolding resumed given kept
none_before = refl

read_after : walk (family_at (given kept None) resumed (root_of primary 6 ∷ [])) primary query.Get (k ∷ []) ≡ Ok (found.Value (codes "v"))
unfolding resumed given kept root_of group by k walk resolved op_effect
read_after = refl

-- ---- a link into a namespace

linked : Log
linked =
    Happened (event.Landed n 0 (Some by ∷ []) [])
    ∷ Happened (event.Landed n 1 (Some by ∷ []) (group (op.Put (k ∷ []) (codes "v") ∷ []) ∷ []))
    ∷ Happened (event.Landed primary 1 (Some by ∷ []) (group (op.Link (codes "x" ∷ []) (record { path = k ∷ []; namespace = Some n }) ∷ []) ∷ []))
    ∷ []

set : Setting
set = given (fresh (codes "g")) (Some (ask.Commit ((group (op.Put (k ∷ []) (codes "v") ∷ [])).txn)))

there : walk (family_at set linked (root_of primary 1 ∷ root_of n 1 ∷ [])) primary query.Get (codes "x" ∷ []) ≡ Ok (found.Value (codes "v"))
unfolding linked set given root_of group by k n walk resolved op_effect
there = refl

its_use : used (family_at set linked (root_of primary 1 ∷ root_of n 1 ∷ [])) primary query.Get (codes "x" ∷ []) ≡ n ∷ []
unfolding linked set given root_of group by k n used resolved op_effect
its_use = refl

-- in an older root nothing stands there yet
older : walk (family_at set linked (root_of primary 1 ∷ root_of n 0 ∷ [])) primary query.Get (codes "x" ∷ []) ≡ Ok found.Nothing
unfolding linked set given root_of group by k n walk resolved op_effect
older = refl

without_it : walk (family_at set linked (root_of primary 1 ∷ [])) primary query.Get (codes "x" ∷ []) ≡ Err n
unfolding linked set given root_of group by k n walk resolved op_effect
without_it = refl

-- ---- contents

-- the store at which a namespace begins is one of the instance
first_of_n : (st : Store) → store_after set linked n 0 ≡ Some st → IsStoreIn set linked n st
unfolding set linked given group n
first_of_n st e = record { opened = refl; before = []; behind = group (op.Put (k ∷ []) (codes "v") ∷ []) ∷ []; split = refl; made = e }

-- the text of a put is a content once its commit has asked
handed : IsHandedIn set (Asked by (λ _. 0) ∷ []) (codes "v")
unfolding set given group by
handed = record { by = by; asked = refl; request = record { broker = 0; namespace = primary; ask = ask.Commit ((group (op.Put (k ∷ []) (codes "v") ∷ [])).txn) }; made = refl; among = (0, omega arith, refl) }

-- what an actor had seen of a namespace
seen_of_n : floor_at by (Asked by (λ _. 3) ∷ []) n ≡ 3
unfolding by
seen_of_n = refl

-- A workload whose commands are built asks for no link into another namespace.
use Rattle.std.proofs.Common.{◌≡◌, ℕ, zero, suc, ◌==◌, List, [], ◌∷◌, Bool, true, false, cond, ◌||◌, Option, Some, None, IfSome, take, filter_map, option_map, option_and_then, subst}
use Rattle.std.specs.Prelude.{All}
use Rattle.std.specs.List.{AllByRecursion as Each, cons_option, list_any}
use Rattle.std.proofs.lemmas.List.Elements.{All-head, All-tail}
use Rattle.kvs_txn.specs.declared.txn.By.{By}
use Rattle.kvs_txn.specs.Staged.{most_ops}
use Rattle.kvs_txn.specs.declared.txn.Txn.{Txn}
use Rattle.kvs_model.specs.OneStore.{IsOwnOp}
use Rattle.kvs_rules.specs.declared.events.KvsAsk.{KvsAsk}
use Rattle.kvs_rules.specs.Namespaces.{Request}
use Rattle.kvs_rules.specs.OneStore.{AsksOwn, IsOwnAsk}
use Rattle.workload.specs.declared.work.Command.{Command}
use Rattle.workload.specs.declared.work.Command.TheVariants as command
use Rattle.workload.specs.declared.work.Line.{Line}
use Rattle.workload.specs.Laws.{IsBuilt}
use Rattle.answers.specs.Chronicle.{Setup}
use Rattle.answers.specs.Commands.{ask_of, broker_of, command_at, commands_before, commands_of, op_of, since_last, staged_at, subject_at, takes_staged}
use Rattle.answers.specs.Services.{setting_of}
use Rattle.kvs_txn.specs.declared.txn.Author.TheVariants as author

-- the operation that a command stages makes no such link
Stages : Command → Type 0
Stages c = IfSome (op_of c) IsOwnOp

built_stages : (c : Command) → IsBuilt c → Stages c
unfolding Stages
built_stages (command.Symlink path target) h = h.2
built_stages (command.Put path bytes) h = tt
built_stages (command.Append path bytes) h = tt
built_stages (command.Unlink path) h = tt
built_stages (command.Mkdir path) h = tt
built_stages _ h = tt

option_each : {A : Type 0} (P : A → Type 0) (o : Option A) (rest : List A) → IfSome o P → Each P rest → Each P (cons_option o rest)
option_each P None rest h g = g
option_each P (Some x) rest h g = (h, g)

take_each : {A : Type 0} (P : A → Type 0) (n : ℕ) (xs : List A) → Each P xs → Each P (take n xs)
take_each P zero xs h = tt
take_each P (suc n) [] h = tt
take_each P (suc n) (x ∷ xs) h = (h.0, take_each P n xs h.1)

since_each : {A : Type 0} (P : A → Type 0) (test : A → Bool) (xs : List A) → Each P xs → Each P (since_last test xs)
since_each P test [] h = tt
since_each P test (x ∷ xs) h = by (test x || list_any test xs) (since_each P test xs h.1)
  where
    by : (b : Bool) → Each P (since_last test xs) → Each P (cond b (since_last test xs) (x ∷ xs))
    by true rest = rest
    by false rest = h

ops_each : (cs : List Command) → Each Stages cs → Each IsOwnOp (filter_map op_of cs)
unfolding Stages
ops_each [] h = tt
ops_each (c ∷ cs) h = option_each IsOwnOp (op_of c) (filter_map op_of cs) h.0 (ops_each cs h.1)

lines_each : (actor : ℕ) (lines : List Line) → All (λ l. IsBuilt l.command) lines → Each Stages (filter_map (λ line. cond (line.actor == actor) (Some line.command) None) lines)
lines_each actor [] h = tt
lines_each actor (l ∷ ls) h = option_each Stages (cond (l.actor == actor) (Some l.command) None) (filter_map (λ line. cond (line.actor == actor) (Some line.command) None) ls) (by (l.actor == actor)) (lines_each actor ls (All-tail (λ l. IsBuilt l.command) l ls h))
  where
    by : (b : Bool) → IfSome (cond b (Some l.command) None) Stages
    by true = built_stages l.command (All-head (λ l. IsBuilt l.command) l ls h)
    by false = tt

staged_own : (set : Setup) → All (λ l. IsBuilt l.command) set.work.lines → (by : By) → Each IsOwnOp (staged_at set.work by)
staged_own set built by =
    let before : Each Stages (commands_before set.work by) = take_each Stages by.command (commands_of set.work by.actor) (lines_each by.actor set.work.lines built) in
    take_each IsOwnOp most_ops (filter_map op_of (since_last takes_staged (commands_before set.work by))) (ops_each (since_last takes_staged (commands_before set.work by)) (since_each Stages takes_staged (commands_before set.work by) before))

asked_own : (txn : Txn) → Each IsOwnOp txn.ops → (c : Command) → IfSome (ask_of txn c) IsOwnAsk
asked_own txn h command.Commit = h
asked_own txn h (command.Fence name count) = h
asked_own txn h _ = tt

asked_at : (txn : Txn) → Each IsOwnOp txn.ops → (o : Option Command) → IfSome (option_and_then (λ c. ask_of txn c) o) IsOwnAsk
asked_at txn h None = tt
asked_at txn h (Some c) = asked_own txn h c

same_request : (x y : Request) → Some x ≡ Some y → x ≡ y
same_request x y e = cc

requested : (broker : ℕ) (space : List ℕ) (request : Request) (o : Option KvsAsk) → IfSome o IsOwnAsk → option_map (λ (a : KvsAsk). record { broker = broker; namespace = space; ask = a }) o ≡ Some request → IsOwnAsk request.ask
requested broker space request None h e = absurd (cc)
requested broker space request (Some a) h e = subst (λ (r : Request). IsOwnAsk r.ask) (same_request (record { broker = broker; namespace = space; ask = a }) request e) h

pub built_asks_own : (set : Setup) → All (λ l. IsBuilt l.command) set.work.lines → AsksOwn (setting_of set)
built_asks_own set built by request e =
    let txn : Txn = record { author = author.User by.actor; ops = staged_at set.work by } in
    requested (broker_of set.work by.actor) (subject_at set.work by) request (option_and_then (λ c. ask_of txn c) (command_at set.work by)) (asked_at txn (staged_own set built by) (command_at set.work by)) e

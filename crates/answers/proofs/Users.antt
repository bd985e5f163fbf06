-- A landing of users' transactions alone has nothing that must be due.
use Rattle.std.proofs.Common.{List, [], ◌∷◌, Option, Some, None}
use Rattle.std.specs.Prelude.{ℕ, IfSome}
use Rattle.kvs_txn.specs.declared.txn.Author.{Author}
use Rattle.kvs_txn.specs.declared.txn.Author.TheVariants as author
use Rattle.kvs_txn.specs.declared.txn.By.{By}
use Rattle.kvs_txn.specs.declared.txn.Group.{Group}
use Rattle.kvs_txn.specs.declared.txn.Scope.TheVariants as scope
use Rattle.kvs_model.specs.History.{landed_on}
use Rattle.kvs_model.specs.Operation.{effect}
use Rattle.kvs_model.specs.Store.{Name, Store}
use Rattle.kvs_rules.specs.declared.events.KvsEvent.TheVariants as event
use Rattle.kvs_rules.specs.Landings.{IsUser}
use Rattle.instance_rules.specs.Desks.{AreDueFrom, IsDueFor}
use Rattle.instance_rules.specs.Legal.{IsDueEvent}
use Rattle.instance_rules.specs.Log.{Instance, Log}
use Rattle.answers.specs.Legal.{AreOfUsers}

module _ (inst : Instance) (log : Log) where
  of_user : (group : Group) (st : Store) (who : Author) → IsUser who → IsDueFor inst log st group who
  of_user group st (author.User id) h = tt
  of_user group st author.Manager h = absurd h

  all_due : (groups : List Group) → AreOfUsers groups → (st : Store) → AreDueFrom inst log groups st
  all_due [] h st = tt
  all_due (group ∷ groups) h st = (of_user group st group.txn.author h.0, on (landed_on (effect st group.txn scope.Primary)) (all_due groups h.1))
    where
      on : (o : Option Store) → ((new : Store) → AreDueFrom inst log groups new) → IfSome o (AreDueFrom inst log groups)
      on None more = tt
      on (Some new) more = more new

  pub users_due : (space : Name) (number : ℕ) (authors : List (Option By)) (groups : List Group) → AreOfUsers groups → IsDueEvent inst log (event.Landed space number authors groups)
  users_due space number authors groups h = λ inside st standing. all_due groups h st

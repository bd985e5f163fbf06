-- The open commands that posts carry out.
use Rattle.std.specs.Prelude.{◌≡◌, ℕ, List, Some}
use Rattle.instance_rules.specs.Desks.{Begins}
use Rattle.instance_rules.specs.Log.{Instance, IsPending, JobAsk, Log, Named, Submit}
use Rattle.instance_rules.specs.Replies.{AsksForEvent}
use Rattle.kvs_txn.specs.declared.txn.By.{By}
use Rattle.manager_rules.specs.Posts.{Submission, Submits, group_of}

-- the command of the submission waits and submits its text, and the transaction puts a jobspec and
-- a log for its id
pub record IsOfSubmit (inst : Instance) (log : Log) (x : Submission) : Type 0 where
  pub label : List ℕ
  pub urgency : ℕ
  pub needs : List Named
  pub asks : inst.asks x.command ≡ Some (Submit label urgency needs x.text)
  pub pending : IsPending x.command log
  pub begins : Begins (group_of (Submits x)) x.id

-- the command waits, and asks for an event of its job
pub record WaitsForEvent (inst : Instance) (log : Log) (by : By) : Type 0 where
  pub ask : JobAsk
  pub asks : inst.asks by ≡ Some ask
  pub event : AsksForEvent ask
  pub pending : IsPending by log

-- What a broker makes of a request on contents.
use Rattle.std.specs.Prelude.{◌≡◌, ℕ, ◌+◌, ◌++◌, ◌≤◌, true, IsTrue, Some, map, if◌then◌else◌}
use Rattle.std.specs.List.{AllByRecursion as Each}
use Rattle.fl_digest.specs.declared.BlobRef.{BlobRef}
use Rattle.kvs_txn.specs.declared.txn.By.{By}
use Rattle.kvs_rules.specs.Log.{Happened, Log, before_asked, is_asked, same_command}
use Rattle.kvs_rules.specs.Namespaces.{Setting, Request}
use Rattle.kvs_rules.specs.Answers.{IsStoredAt}
use Rattle.kvs_content.specs.Agrees.{AgreesContent, Follows, IsKept}
use Rattle.kvs_content.specs.Messages.{loads_of}
use Rattle.kvs_content.specs.Node.{GetsOrDrops}
use Rattle.kvs_content.specs.Sound.{IsSoundContent}
use Rattle.kvs_content.specs.Steps.{AreAlike}
use Rattle.kvs_content.specs.Value.{ContentValue}
use Rattle.content_service.specs.declared.rows.ContentAsk.{ContentAsk}
use Rattle.content_service.specs.declared.serving.Served.{Served}
use Rattle.content_service.specs.Agrees.{StageAgrees}
use Rattle.content_service.specs.Rows.{asked_of, is_loading_stage, services_left}
use Rattle.content_service.specs.Steps.{is_flushed}

-- a command has asked this at the broker, where all is kept that was stored there before
pub record IsAsking (v : ContentValue) (set : Setting)
    (log : Log) (by : By) (broker : ℕ) (request : Request) (asked : ContentAsk) : Type 0 where
  pub come : IsTrue (is_asked by log)
  pub made : set.asks by ≡ Some request
  pub home : request.broker ≡ broker
  pub asks : request.ask ≡ asked_of asked
  pub kept : (reference : BlobRef) → IsStoredAt set (before_asked by log) broker reference
      → IsKept v set log broker reference

-- the broker has served what the command asks: it waits in the contents where it is a load that
-- waits, it waits at the broker only where something is dirty there, and after whatever log the old
-- contents agree with the new ones follow, and the stage is one that the log allows
pub record IsServed (old new : ContentValue) (by : By)
    (broker : ℕ) (asked : ContentAsk) (served : Served) : Type 0 where
  pub sound : IsSoundContent new
  pub alike : AreAlike old new
  pub waits : (other : By) → loads_of other new.wants ≡ loads_of other old.wants
      + (if same_command by other then (if is_loading_stage served.stage then 1 else 0) else 0)
  pub made : Each (GetsOrDrops broker) served.events
  pub once : services_left served.stage ≤ 1
  pub ended : is_flushed old broker ≡ true → services_left served.stage ≡ 0
  pub follows : (set : Setting) (log : Log) (request : Request) → AgreesContent old set log
      → IsAsking old set log by broker request asked → Follows old new served.events set log
  pub staged : (set : Setting) (log : Log) (request : Request)
      → AgreesContent old set log → IsAsking old set log by broker request asked
      → StageAgrees new set (log ++ map Happened served.events) by request served.stage

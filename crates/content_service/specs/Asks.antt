-- What commands ask of contents.
use Rattle.std.specs.Prelude.{◌≡◌, Bool, true, false}
use Rattle.std.specs.Option.{option_map_or}
use Rattle.kvs_txn.specs.declared.txn.By.{By}
use Rattle.kvs_rules.specs.declared.events.KvsAsk.{KvsAsk}
use Rattle.kvs_rules.specs.declared.events.KvsAsk.TheVariants as ask
use Rattle.kvs_rules.specs.declared.events.KvsAnswer.{KvsAnswer}
use Rattle.kvs_rules.specs.declared.events.KvsAnswer.TheVariants as answer
use Rattle.kvs_rules.specs.declared.events.KvsEvent.TheVariants as event
use Rattle.kvs_rules.specs.Log.{Moment, Asked, Happened, Resumed}
use Rattle.kvs_rules.specs.Namespaces.{Setting}

-- whether what is asked is about contents
abbrev pub is_content : KvsAsk → Bool
is_content (ask.Store bytes) = true
is_content (ask.Load reference) = true
is_content ask.Flush = true
is_content ask.DropClean = true
is_content _ = false

-- whether the command asks something of contents
abbrev pub asks_content : Setting → By → Bool
asks_content set by = option_map_or (λ request. is_content request.ask) (set.asks by) false

-- the answers that are about contents
abbrev pub IsContentAnswer : KvsAnswer → Type 0
IsContentAnswer (answer.Stored reference) = Unit {0}
IsContentAnswer (answer.Blob bytes) = Unit {0}
IsContentAnswer answer.NoBlob = Unit {0}
IsContentAnswer answer.Flushed = Unit {0}
IsContentAnswer (answer.Clashed reference) = Unit {0}
IsContentAnswer answer.Dropped = Unit {0}
IsContentAnswer _ = ⊥

-- the moment is not about contents: no broker gets or drops one, and no command asks or is told
-- something of them
abbrev pub IsOthers : Setting → Moment → Type 0
IsOthers set (Asked by floors) = asks_content set by ≡ false
IsOthers set (Resumed number) = Unit {0}
IsOthers set (Happened (event.Answered by number given)) = asks_content set by ≡ false
IsOthers set (Happened (event.Got broker reference)) = ⊥
IsOthers set (Happened (event.Dropped broker reference)) = ⊥
IsOthers set (Happened _) = Unit {0}

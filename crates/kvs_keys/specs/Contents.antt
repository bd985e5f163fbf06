-- The moments of contents, which the service of keys leaves to another.
use Rattle.std.specs.Prelude.{◌≡◌, true}
use Rattle.kvs_rules.specs.declared.events.KvsEvent.TheVariants as event
use Rattle.kvs_rules.specs.Log.{Moment, Asked, Happened, Resumed}
use Rattle.kvs_rules.specs.Namespaces.{Setting}
use Rattle.kvs_requests.specs.Rows.{asks_contents}

-- a command asks about contents or is told so, or a broker gets or drops a content
abbrev pub IsOfContents : Setting → Moment → Type 0
IsOfContents set (Asked by floors) = asks_contents set by ≡ true
IsOfContents set (Resumed number) = ⊥
IsOfContents set (Happened (event.Answered by number given)) = asks_contents set by ≡ true
IsOfContents set (Happened (event.Got broker reference)) = Unit {0}
IsOfContents set (Happened (event.Dropped broker reference)) = Unit {0}
IsOfContents set (Happened _) = ⊥

-- Where nothing happens, all stands as it was.
use Rattle.std.proofs.Common.{◌≡◌, ℕ, List, [], ◌++◌, map, sym, subst, append-nil}
use Rattle.std.specs.List.{AllByRecursion as Each}
use Rattle.kvs_rules.specs.declared.events.KvsEvent.{KvsEvent}
use Rattle.kvs_rules.specs.Log.{Happened, Log}
use Rattle.kvs_rules.specs.Namespaces.{Setting}
use Rattle.kvs_content.specs.Node.{GetsOrDrops}
use Rattle.kvs_content.specs.Agrees.{AgreesContent, Follows}
use Rattle.kvs_content.specs.Value.{ContentValue}
use Rattle.kvs_content.proofs.Refusing.{nothing-follows}

pub with-nothing : (P : Log → Type 0) (log : Log) (events : List KvsEvent) → events ≡ [] → P log → P (log ++ map Happened events)
with-nothing P log events e h = subst (λ es. P (log ++ map Happened es)) (sym e) (subst P (sym (append-nil log)) h)

pub none-come : (broker : ℕ) (events : List KvsEvent) → events ≡ [] → Each (GetsOrDrops broker) events
none-come broker events e = subst (Each (GetsOrDrops broker)) (sym e) tt

pub as-it-was : (v w : ContentValue) (events : List KvsEvent) (set : Setting) (log : Log) → w ≡ v → events ≡ [] → AgreesContent v set log → Follows v w events set log
as-it-was v w events set log same e a = subst (λ es. Follows v w es set log) (sym e) (subst (λ u. Follows v u [] set log) (sym same) (nothing-follows v set log a))

-- A step that no log shows, as one without events.
use Rattle.std.proofs.Common.{◌≡◌, List, [], append-nil, sym, subst}
use Rattle.kvs_rules.specs.declared.events.KvsEvent.{KvsEvent}
use Rattle.kvs_rules.specs.declared.events.KvsStep.{KvsStep}
use Rattle.kvs_rules.specs.Log.{Log}
use Rattle.kvs_rules.specs.Steps.{AreMadeBy}
use Rattle.kvs_keys.specs.Agrees.{Agrees}
use Rattle.kvs_keys.specs.Makes.{Makes, Moves}
use Rattle.kvs_keys.specs.Value.{KeysValue}

pub silent : {s : KvsStep} {old new : KeysValue} (events : List KvsEvent) → events ≡ [] → ((log : Log) → AreMadeBy log s []) → Moves s old new → Makes s old new events
silent {s} {old} {new} events none made m = subst (Makes s old new) (sym none) (record {
  ready = m.ready;
  size = m.size;
  order = m.order;
  extends = m.extends;
  does = m.does;
  own = tt;
  made = λ set log a. made log;
  legal = λ set log a. tt;
  agrees = λ set log a. subst (Agrees new set) (sym (append-nil log)) (m.agrees set log a);
})

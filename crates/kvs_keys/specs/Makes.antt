-- What a step does of a service of keys, and what rank 0 takes up in one.
use Rattle.std.specs.Prelude.{◌≡◌, ℕ, List, [], ◌++◌, Some, None, true, false, map, slice_index_or}
use Rattle.std.specs.List.{AllByRecursion as Each, position}
use Rattle.kvs_rules.specs.declared.events.KvsEvent.{KvsEvent}
use Rattle.kvs_rules.specs.declared.events.KvsEvent.TheVariants as event
use Rattle.kvs_rules.specs.declared.events.KvsStep.{KvsStep}
use Rattle.kvs_rules.specs.Answers.{IsLegalAfter}
use Rattle.kvs_rules.specs.Log.{Log, Happened}
use Rattle.kvs_rules.specs.Namespaces.{Setting}
use Rattle.kvs_rules.specs.Steps.{AreMadeBy}
use Rattle.kvs_space.specs.Space.{SpaceValue, is_named}
use Rattle.kvs_requests.specs.declared.rows.Kind.{Kind}
use Rattle.kvs_requests.specs.declared.rows.Row.{Row}
use Rattle.kvs_keys.specs.Agrees.{Agrees}
use Rattle.kvs_keys.specs.Histories.{Extends}
use Rattle.kvs_keys.specs.Posted.{posted, posts_landed}
use Rattle.kvs_keys.specs.Steps.{DoesStep}
use Rattle.kvs_requests.specs.Stages.{is_arrived, kind_of}
use Rattle.kvs_keys.specs.Value.{KeysValue}

-- a landing or a denial in a namespace, or a broker hears a number of one
abbrev pub IsOfKeys : KvsEvent → Type 0
IsOfKeys (event.Landed space number authors groups) = Unit {0}
IsOfKeys (event.Denied space authors group refusal) = Unit {0}
IsOfKeys (event.Heard broker space number) = Unit {0}
IsOfKeys _ = ⊥

-- the events of a step: they are of keys alone, the job manager's transactions land in the order in
-- which they were taken, and after whatever log agrees with the service of keys the events are those
-- that the step may make, they are legal, and the service of keys agrees with both
pub record Makes (s : KvsStep) (old new : KeysValue) (events : List KvsEvent) : Type 0 where
  pub ready : new.spent ≡ false
  pub size : new.size ≡ old.size
  pub order : posts_landed events ++ posted new ≡ posted old
  pub extends : Extends old new events
  pub does : DoesStep s old new events
  pub own : Each IsOfKeys events
  pub made : (set : Setting) (log : Log) → Agrees old set log → AreMadeBy log s events
  pub legal : (set : Setting) (log : Log) → Agrees old set log
      → IsLegalAfter set log (map Happened events)
  pub agrees : (set : Setting) (log : Log) → Agrees old set log
      → Agrees new set (log ++ map Happened events)

-- a step that no log shows
pub record Moves (s : KvsStep) (old new : KeysValue) : Type 0 where
  pub ready : new.spent ≡ false
  pub size : new.size ≡ old.size
  pub order : posted new ≡ posted old
  pub extends : Extends old new []
  pub does : DoesStep s old new []
  pub agrees : (set : Setting) (log : Log) → Agrees old set log → Agrees new set log

-- the request of this place in the list has come to rank 0
abbrev pub HasArrived : KeysValue → ℕ → Type 0
HasArrived v i = (d : Row) → is_arrived (slice_index_or v.rows i d) ≡ true

-- it is of this kind
abbrev pub IsOfKind : KeysValue → ℕ → Kind → Type 0
IsOfKind v i kind = (d : Row) → kind_of (slice_index_or v.rows i d).stage ≡ kind

-- it is for the namespace of this place in the table
abbrev pub IsFor : KeysValue → ℕ → ℕ → Type 0
IsFor v i k = (d : Row)
    → Some k ≡ position (is_named (slice_index_or v.rows i d).namespace) v.spaces

-- it is for a namespace that was never opened
abbrev pub IsForNew : KeysValue → ℕ → Type 0
IsForNew v i = (d : Row) → None ≡ position (is_named (slice_index_or v.rows i d).namespace) v.spaces

-- the namespace of this place isn't removed
abbrev pub IsLiving : KeysValue → ℕ → Type 0
IsLiving v k = (d : SpaceValue) → (slice_index_or v.spaces k d).removed ≡ false

-- Where the requests go that are refused, carried or settled.
use Rattle.std.specs.Prelude.{◌≡◌, ℕ, zero, suc, ◌<◌, ◌&&◌, [], ◌∷◌, ◌++◌, Option, Some, slice_set, ◌≤◌, List, true, false, length, slice_index_or}
use Rattle.std.specs.List.{list_any, position, remove}
use Rattle.kvs_txn.specs.declared.txn.By.{By}
use Rattle.kvs_txn.specs.declared.txn.Group.{Group}
use Rattle.kvs_txn.specs.declared.answers.Refusal.{Refusal}
use Rattle.kvs_model.specs.Store.{Name}
use Rattle.kvs_rules.specs.Log.{same_command}
use Rattle.kvs_rules.specs.declared.events.KvsAsk.{KvsAsk}
use Rattle.kvs_rules.specs.declared.events.KvsAnswer.{KvsAnswer}
use Rattle.kvs_rules.specs.declared.events.KvsAnswer.TheVariants as answer
use Rattle.kvs_requests.specs.declared.rows.Row.{Row}
use Rattle.kvs_requests.specs.declared.rows.Stage.{Stage}
use Rattle.kvs_requests.specs.declared.rows.Stage.TheVariants as stages
use Rattle.kvs_requests.specs.Rows.{with_stage, settled, risen, entered}
use Rattle.kvs_rules.specs.Brokers.{parent}
use Rattle.kvs_requests.specs.Stages.{is_on, is_held, joined_in}

-- the broker so many links above another
abbrev pub ancestor : ℕ → ℕ → ℕ → ℕ
ancestor fanout zero broker = broker
ancestor fanout (suc links) broker = parent fanout (ancestor fanout links broker)

-- a broker is another, or stands above it in the tree
abbrev pub IsAbove : ℕ → ℕ → ℕ → Type 0
IsAbove fanout upper lower = (links : ℕ) × (ancestor fanout links lower ≡ upper)

-- the answer is on the link from a broker to the next on the way down to its own, or it was there
-- already
abbrev pub IsFalling : ℕ → ℕ → ℕ → KvsAnswer → Stage → Type 0
IsFalling fanout at home given (stages.Falling from to held) = (held ≡ given)
    × (from ≡ at) × (0 < to) × (from ≡ parent fanout to) × (to ≤ home) × IsAbove fanout to home
IsFalling fanout at home given (stages.Ended held) =
    (held ≡ given) × (IsAbove fanout at home → at ≡ home)
IsFalling fanout at home given _ = ⊥

-- the request is on the link from a broker to the next on the way back to its own, or waits there
abbrev pub IsReturning : ℕ → ℕ → ℕ → ℕ → KvsAsk → Stage → Type 0
IsReturning fanout at home space asked (stages.Returning from to place held) =
    (held ≡ asked) × (place ≡ space) × (from ≡ at)
    × (0 < to) × (from ≡ parent fanout to) × (to ≤ home) × IsAbove fanout to home
IsReturning fanout at home space asked (stages.Parked place held) =
    (held ≡ asked) × (place ≡ space) × (IsAbove fanout at home → at ≡ home)
IsReturning fanout at home space asked _ = ⊥

-- a message goes on from the broker that it has come to: up, or down to the request's own
abbrev pub GoesOn : ℕ → ℕ → ℕ → Stage → Stage → Type 0
GoesOn fanout at home (stages.Rising from to asked) new = new ≡ risen fanout at asked
GoesOn fanout at home (stages.Falling from to given) new = IsFalling fanout at home given new
GoesOn fanout at home (stages.Returning from to space asked) new =
    IsReturning fanout at home space asked new
GoesOn fanout at home old new = new ≡ old

-- of the messages on a link the oldest has gone on, and the other requests are where they were, in
-- order
pub record IsCarried (fanout from to : ℕ) (old new : List Row) : Type 0 where
  pub place : ℕ
  pub oldest : position (is_on from to) old ≡ Some place
  pub stage : Stage
  pub others : (d : Row) → new ≡ slice_set old place (with_stage stage (slice_index_or old place d))
  pub goes : (d : Row) → GoesOn fanout to (slice_index_or old place d).broker
      (slice_index_or old place d).stage stage

-- a request that waited at rank 0 is told an answer, and the others are where they were, in order
pub record IsTurnedAway (fanout place : ℕ) (given : KvsAnswer) (old new : List Row) : Type 0 where
  pub stage : Stage
  pub others : (d : Row) → new ≡ slice_set old place (with_stage stage (slice_index_or old place d))
  pub falls : (d : Row) → IsFalling fanout 0 (slice_index_or old place d).broker given stage

-- a request that waited at rank 0 is on its way back to its broker, and the others are where they
-- were, in order
pub record IsSentBack (fanout place space : ℕ) (old new : List Row) : Type 0 where
  pub asked : KvsAsk
  pub stage : Stage
  pub was : (d : Row) → (slice_index_or old place d).stage ≡ stages.Arrived asked
  pub goes : (d : Row) → IsReturning fanout 0 (slice_index_or old place d).broker space asked stage
  pub others : (d : Row) → new ≡ slice_set old place (with_stage stage (slice_index_or old place d))

-- a request is asked at a broker, behind the others
pub record IsEntered (fanout : ℕ) (by : By) (broker : ℕ)
    (name : Name) (asked : KvsAsk) (old new : List Row) : Type 0 where
  pub place : Option ℕ
  pub need : ℕ
  pub last : new ≡ old ++ record {
    by = by;
    broker = broker;
    namespace = name;
    need = need;
    stage = entered fanout broker place asked;
  } ∷ []

-- the request of a command whose answer was taken is gone, and the others are there in order
pub record IsTaken (by : By) (old new : List Row) : Type 0 where
  pub place : ℕ
  pub held : position (λ row. same_command by row.by && is_held row) old ≡ Some place
  pub others : new ≡ remove old place

-- a command among these is told the refusal, and each other request stays
pub record IsRefusedRow (fanout : ℕ) (authors : List By)
    (refusal : Refusal) (old new : Row) : Type 0 where
  pub told : list_any (same_command old.by) authors ≡ true → (st : Stage)
      × (new ≡ with_stage st old) × IsFalling fanout 0 old.broker (answer.Refused refusal) st
  pub others : list_any (same_command old.by) authors ≡ false → new ≡ old

-- the commands among these are told the refusal
pub record AreRefused (fanout : ℕ) (authors : List By)
    (refusal : Refusal) (old new : List Row) : Type 0 where
  pub same_len : length new ≡ length old
  pub each : (k : ℕ) (d : Row) → k < length old
      → IsRefusedRow fanout authors refusal (slice_index_or old k d) (slice_index_or new k d)

-- the requests that a landing carried out are told of it
pub record AreSettled (space number : ℕ) (groups : List Group) (old new : List Row) : Type 0 where
  pub same_len : length new ≡ length old
  pub each : (k : ℕ) (d : Row) → k < length old
      → slice_index_or new k d ≡ settled space number groups (slice_index_or old k d)

-- a request that waits to land in the namespace of this place is told that it is gone, and each
-- other request stays
pub record IsDismissedRow (fanout space : ℕ) (old new : Row) : Type 0 where
  pub told : joined_in space old.stage ≡ true → (st : Stage)
      × (new ≡ with_stage st old) × IsFalling fanout 0 old.broker answer.NoNamespace st
  pub others : joined_in space old.stage ≡ false → new ≡ old

-- the requests that wait to land there are told so
pub record AreDismissed (fanout space : ℕ) (old new : List Row) : Type 0 where
  pub same_len : length new ≡ length old
  pub each : (k : ℕ) (d : Row) → k < length old
      → IsDismissedRow fanout space (slice_index_or old k d) (slice_index_or new k d)

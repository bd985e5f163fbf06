-- Replays of a log and of its beginnings.
use Rattle.std.proofs.Common.{◌≡◌, ℕ, ◌+◌, ◌<◌, List, [], ◌∷◌, ◌++◌, length, refl, sym, ap, ◌∙◌, arith}
use Rattle.std.specs.Prelude.{Result, Ok, Err, IsOk}
use Rattle.event_log.specs.declared.event.Event.{Event}
use Rattle.event_log.specs.Events.{◌>>=◌}
use Rattle.job_states.specs.declared.job.Job.{Job}
use Rattle.job_states.specs.declared.job.ReplayFault.{ReplayFault}
use Rattle.job_states.specs.Replay.{begun, stepped, replay_on, replayed}

bind_more : (r : Result Job ReplayFault) (f g : Job → Result Job ReplayFault) → ((job : Job) → f job ≡ g job) → (r >>= f) ≡ (r >>= g)
bind_more (Ok job) f g h = h job
bind_more (Err fault) f g h = refl

bind_bind : (r : Result Job ReplayFault) (f g : Job → Result Job ReplayFault) → ((r >>= f) >>= g) ≡ (r >>= λ job. f job >>= g)
bind_bind (Ok job) f g = refl
bind_bind (Err fault) f g = refl

-- what more events make of a job is what they make of it after the first ones
pub replay_on-append : (index : ℕ) (job : Job) (events more : List Event) → replay_on index job (events ++ more) ≡ (replay_on index job events >>= λ mid. replay_on (index + length events) mid more)
replay_on-append index job [] more = let same : index ≡ index + 0 = omega arith in ap (λ n. replay_on n job more) same
replay_on-append index job (event ∷ events) more =
    let place : index + 1 + length events ≡ index + length (event ∷ events) = omega arith in
    bind_more (stepped index job event) _ _ (λ next. replay_on-append (index + 1) next events more ∙ bind_more (replay_on (index + 1) next events) _ _ (λ mid. ap (λ n. replay_on n mid more) place))
    ∙ sym (bind_bind (stepped index job event) (λ next. replay_on (index + 1) next events) (λ mid. replay_on (index + length (event ∷ events)) mid more))

pub replayed-append : (events more : List Event) → 0 < length events → replayed (events ++ more) ≡ (replayed events >>= λ job. replay_on (length events) job more)
replayed-append [] more some = absurd (omega arith)
replayed-append (event ∷ events) more some =
    let place : 1 + length events ≡ length (event ∷ events) = omega arith in
    bind_more (begun event) _ _ (λ job. replay_on-append 1 job events more ∙ bind_more (replay_on 1 job events) _ _ (λ mid. ap (λ n. replay_on n mid more) place))
    ∙ sym (bind_bind (begun event) (λ job. replay_on 1 job events) (λ mid. replay_on (length (event ∷ events)) mid more))

first_ok : (r : Result Job ReplayFault) (f : Job → Result Job ReplayFault) → IsOk (r >>= f) → IsOk r
first_ok (Ok job) f h = refl
first_ok (Err fault) f h = h

pub beginning : (events more : List Event) → 0 < length events → IsOk (replayed (events ++ more)) → IsOk (replayed events)
beginning events more some h = first_ok (replayed events) (λ job. replay_on (length events) job more) (rw (replayed-append events more some) at h)

step_alone : (r : Result Job ReplayFault) → (r >>= λ next. Ok next) ≡ r
step_alone (Ok job) = refl
step_alone (Err fault) = refl

has_event : (events : List Event) (job : Job) → replayed events ≡ Ok job → 0 < length events
has_event [] job e = cc
has_event (event ∷ events) job e = omega arith

pub one_more : (events : List Event) (event : Event) (job : Job) → replayed events ≡ Ok job → replayed (events ++ event ∷ []) ≡ stepped (length events) job event
one_more events event job e =
    replayed-append events (event ∷ []) (has_event events job e) ∙ ap (λ r. r >>= λ mid. replay_on (length events) mid (event ∷ [])) e ∙ step_alone (stepped (length events) job event)

pub refusal_stays : (events more : List Event) (fault : ReplayFault) → 0 < length events → replayed events ≡ Err fault → replayed (events ++ more) ≡ Err fault
refusal_stays events more fault some e = replayed-append events more some ∙ ap (λ r. r >>= λ job. replay_on (length events) job more) e

-- What a watcher was fed, and what it shows.
use Rattle.std.specs.Prelude.{ℕ, ◌≡◌, ◌==◌, List, [], ◌∷◌, ◌++◌, All, length, if◌then◌else◌}
use Rattle.event_log.specs.declared.event.Event.{Event}
use Rattle.event_log.specs.Events.{IsEvent}
use Rattle.event_log.specs.Logs.{log_text}

-- how long the log was that the watcher was fed last, and the names that it shows
pub record Watched : Type 0 where
  pub fed : ℕ
  pub shown : List (List ℕ)

-- a name before others, where the answer shows it
abbrev pub with_answer : ℕ → List ℕ → List (List ℕ) → List (List ℕ)
with_answer answer name names = if answer == 1 then name ∷ names else names

-- the names of the events that a callback shows, where it answers each of them once and in order
abbrev pub AreShown : (Event → ℕ → Type 0) → List Event → List (List ℕ) → Type 0
AreShown Answers [] names = names ≡ []
AreShown Answers (event ∷ events) names =
    (answer : ℕ) × (rest : List (List ℕ)) × Answers event answer
    × (names ≡ with_answer answer event.name rest) × AreShown Answers events rest

-- the watcher was fed the log of these events, and each of them was answered once
pub record WasFed (Answers : Event → ℕ
    → Type 0) (events : List Event) (watched : Watched) : Type 0 where
  pub log : watched.fed ≡ length (log_text events)
  pub names : AreShown Answers events watched.shown

-- a log of events, which begins with a log as long as the one that the watcher was fed last
pub record IsGrown (watched : Watched) (log : List ℕ) : Type 0 where
  pub events : List Event
  pub more : List Event
  pub valid : All IsEvent (events ++ more)
  pub fed : watched.fed ≡ length (log_text events)
  pub is : log ≡ log_text (events ++ more)

-- What the brokers of the top have heard of `primary`, as the chronicle of a run tells it.
use Rattle.std.specs.Prelude.{◌≡◌, ℕ, ◌==◌, ◌&&◌, ◌<◌, ◌≤◌, List, Option, Some, None, option_and_then, slice_get, take, if◌then◌else◌}
use Rattle.kvs_rules.specs.Namespaces.{is_primary}
use Rattle.kvs_rules.specs.Sequence.{latest}
use Rattle.answers.specs.Chronicle.{top}
use Rattle.answers.specs.declared.chronicle.Entry.{Entry}
use Rattle.answers.specs.declared.chronicle.Entry.TheVariants as entry

-- the broker of the top that an entry lets hear a root of `primary`, and the root's number
abbrev pub hearing : Entry → Option (ℕ × ℕ)
hearing (entry.Heard instance broker space number) =
    if (instance == top) && is_primary space then Some (broker, number) else None
hearing _ = None

abbrev pub heard_by : ℕ → Entry → Option ℕ
heard_by broker e =
    option_and_then (λ h. if broker == h.0 then Some h.1 else None) (hearing e)

-- the number of the last root of `primary` that a broker of the top has heard of; 0 from the start
abbrev pub heard_at : List Entry → ℕ → ℕ
heard_at c broker = latest (heard_by broker) 0 c

-- what a broker hears is never below what it has heard, and there are so many brokers
abbrev pub HearUpwards : ℕ → List Entry → Type 0
HearUpwards size c = (i : ℕ) (e : Entry) (h : ℕ × ℕ) → slice_get c i ≡ Some e
    → hearing e ≡ Some h → (h.0 < size) × (heard_at (take i c) h.0 ≤ h.1)

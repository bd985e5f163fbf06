-- What an instance of a run is given, and the part of the run's chronicle that is its own.
use Rattle.std.specs.Prelude.{ℕ, ◌==◌, ◌%◌, List, [], ◌∷◌, Bool, false, Option, Some, None, filter, filter_map, length, map, min, if◌then◌else◌}
use Rattle.std.specs.Option.{option_map_or}
use Rattle.kvs_rules.specs.Sequence.{until}
use Rattle.resource_set.specs.Writing.{r_text}
use Rattle.workload.specs.declared.work.Actor.{Actor}
use Rattle.workload.specs.declared.work.Workload.{Workload}
use Rattle.answers.specs.Chronicle.{Setup, top}
use Rattle.answers.specs.declared.chronicle.Entry.{Entry}
use Rattle.answers.specs.declared.chronicle.Entry.TheVariants as entry
use Rattle.hierarchy.specs.Births.{Birth, birth_in, birth_of, ends, is_at, is_birth_of, label_of}

-- ---- what it is given

-- an actor at the broker of its rank, of so many
abbrev pub placed : ℕ → Actor → Actor
placed size a = record a { rank = a.rank % size }

-- the workload of an instance with this label and so many brokers: the lines of its own actors
-- alone. All actors keep their numbers
abbrev pub work_for : Workload → Option (List ℕ) → ℕ → Workload
work_for work label size = record work {
  actors = map (placed size) work.actors;
  lines = filter (λ line. is_at work.actors label line.actor) work.lines;
}

-- the brokers of a child: one for each host of its grant, at most so many
abbrev pub most_brokers : ℕ
most_brokers = 32

abbrev pub brokers_for : Birth → ℕ
brokers_for b = min (length b.grant.nodes) most_brokers

-- what the child of this birth is given: its parent's job's resources, and of the run the fan-out,
-- the hash and the lines of its actors
abbrev pub child_setup : Setup → Birth → Setup
child_setup set b = record set {
  size = brokers_for b;
  grant = r_text b.grant;
  resources = b.grant;
  base = None;
  birth = b.second;
  work = work_for set.work (Some b.label) (brokers_for b);
}

-- what an instance of a run that is given this is given itself: the top all but the lines of others
abbrev pub setup_in : Setup → List Entry → ℕ → Setup
setup_in set c i = option_map_or (child_setup set) (birth_of c i)
    (record set { work = work_for set.work None set.size })

-- ---- what is its own

-- whether an entry is the birth of the instance
abbrev pub begins : ℕ → Entry → Bool
begins i e = option_map_or (is_birth_of i) (birth_in e) false

abbrev pub since_birth : ℕ → List Entry → List Entry
since_birth i [] = []
since_birth i (e ∷ more) = if begins i e then more else since_birth i more

-- what happens in the run while the instance lives
abbrev pub life_of : List Entry → ℕ → List Entry
life_of c i = until (ends i) (if i == top then c else since_birth i c)

abbrev pub only_if : Bool → Entry → Option Entry
only_if own e = if own then Some e else None

-- an entry as the instance has it in its own chronicle, if it is about it: with 0 for its number
abbrev pub own_entry : List Actor → Option (List ℕ) → ℕ → Entry → Option Entry
own_entry actors label i (entry.Issued actor command) =
    only_if (is_at actors label actor) (entry.Issued actor command)
own_entry actors label i (entry.Landed instance space number authors groups) =
    only_if (instance == i) (entry.Landed top space number authors groups)
own_entry actors label i (entry.Denied instance space authors group refusal) =
    only_if (instance == i) (entry.Denied top space authors group refusal)
own_entry actors label i (entry.Heard instance broker space number) =
    only_if (instance == i) (entry.Heard top broker space number)
own_entry actors label i (entry.Got instance broker reference) =
    only_if (instance == i) (entry.Got top broker reference)
own_entry actors label i (entry.Dropped instance broker reference) =
    only_if (instance == i) (entry.Dropped top broker reference)
own_entry actors label i (entry.Replied actor command given number) =
    only_if (is_at actors label actor) (entry.Replied actor command given number)
own_entry actors label i (entry.Told from to) =
    only_if (is_at actors label from) (entry.Told from to)
own_entry actors label i (entry.Ticked second) = Some (entry.Ticked second)
own_entry actors label i (entry.Born child parent job name second grant) =
    only_if (parent == i) (entry.Born child top job name second grant)
own_entry actors label i (entry.Gone child parent job shut) =
    only_if (parent == i) (entry.Gone child top job shut)
own_entry actors label i (entry.Watched actor command number first count) =
    only_if (is_at actors label actor) (entry.Watched actor command number first count)
own_entry actors label i entry.Closed = Some entry.Closed

-- the own chronicle of an instance
abbrev pub own_of : Setup → List Entry → ℕ → List Entry
own_of set c i = filter_map (own_entry set.work.actors (label_of c i) i) (life_of c i)

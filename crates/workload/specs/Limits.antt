-- The limits of a workload's text.
use Rattle.std.specs.Prelude.{ℕ}

-- the most bytes of a line before its newline: 1 MiB
abbrev pub most_line : ℕ
most_line = 1048576

-- the most actors
abbrev pub most_actors : ℕ
most_actors = 256

-- the most command lines
abbrev pub most_commands : ℕ
most_commands = 10000

-- the most characters of a name
abbrev pub most_name : ℕ
most_name = 64

-- the most bytes of a key
abbrev pub most_key : ℕ
most_key = 255

-- the most components of a key
abbrev pub most_components : ℕ
most_components = 32

-- the most bytes of a value
abbrev pub most_value : ℕ
most_value = 65536

-- the most hosts of a grant, and the most cores and GPUs of each
abbrev pub most_hosts : ℕ
most_hosts = 1024

abbrev pub most_cores : ℕ
most_cores = 256

abbrev pub most_gpus : ℕ
most_gpus = 16

-- the most members of a fence
abbrev pub most_members : ℕ
most_members = 256

-- the most dependencies that the line of a submission names
abbrev pub most_needs : ℕ
most_needs = 32

-- the most instances, the top one included
abbrev pub most_instances : ℕ
most_instances = 16

-- the highest urgency, and the highest severity of an exception
abbrev pub most_urgency : ℕ
most_urgency = 31

abbrev pub most_severity : ℕ
most_severity = 7

-- the most events that are asked for of the job of one label
abbrev pub most_posts : ℕ
most_posts = 100

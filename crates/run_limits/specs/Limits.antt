-- The limits of a run that more than one crate keeps.
use Rattle.std.specs.Prelude.{ℕ}

-- the most bytes of a text that is read: 16 MiB
abbrev pub most_text : ℕ
most_text = 16777216

-- the most submissions
abbrev pub most_submits : ℕ
most_submits = 1000

-- the most seconds of all advances together
abbrev pub most_seconds : ℕ
most_seconds = 1000000000

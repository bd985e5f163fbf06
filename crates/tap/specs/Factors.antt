-- Priorities by weighted factors.
use Rattle.std.specs.Prelude.{ℕ, ◌+◌, ◌*◌, min, max}
use Rattle.tap.specs.declared.Ask.{Ask}
use Rattle.tap.specs.declared.weights.Weights.{Weights}

-- the priority of a job by these weights: what its urgency and its cores count, within the range of
-- priorities
abbrev pub priority_by : Weights → Ask → ℕ
priority_by weights ask =
    min (max (weights.urgency * ask.urgency + weights.cores * ask.cores) 1) 4294967294

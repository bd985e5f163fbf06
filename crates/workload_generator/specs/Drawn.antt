-- What is drawn for the commands of a generated workload.
use Rattle.std.specs.Prelude.{ℕ, zero, suc, ◌%◌, ◌==◌, nat_lt, Bool, count_by, if◌then◌else◌}
use Rattle.std.specs.List.{range_with_len}
use Rattle.rand_pcg.specs.Lcg.{Lcg}
use Rattle.rand_pcg.specs.Pcg.{pcg32}
use Rattle.workload.specs.Draws.{seeded}
use Rattle.run_limits.specs.Limits.{most_submits}
use Rattle.workload_generator.specs.declared.drawn.Drawn.{Drawn}
use Rattle.workload_generator.specs.declared.drawn.Kind.{Kind}
use Rattle.workload_generator.specs.declared.drawn.Kind.TheVariants as kind

-- the next three words of a generator
unfoldable pub next_three : Lcg → Drawn
next_three g = record {
  actor = (pcg32 g).0;
  asks = (pcg32 (pcg32 g).1).0;
  choice = (pcg32 (pcg32 (pcg32 g).1).1).0;
}

-- the generator behind them
unfoldable pub behind_three : Lcg → Lcg
behind_three g = (pcg32 (pcg32 (pcg32 g).1).1).1

-- the generator that a seed begins, behind the words of so many commands
unfoldable pub behind : ℕ → ℕ → Lcg
behind seed zero = seeded seed
behind seed (suc commands) = behind_three (behind seed commands)

-- what a seed draws for the command at a place, counted from 0
abbrev pub drawn : ℕ → ℕ → Drawn
drawn seed place = next_three (behind seed place)

-- what the last digit of a word says that a command asks for
abbrev pub kind_at : ℕ → Kind
kind_at digit = if nat_lt digit 4 then kind.Put
    else if digit == 4 then kind.Append
    else if nat_lt digit 7 then kind.Commit
    else if digit == 7 then kind.Get
    else if digit == 8 then kind.Submit
    else kind.Advance

-- whether a submission is drawn
abbrev pub is_submission : Drawn → Bool
is_submission words = words.asks % 10 == 8

-- how many submissions are drawn for the commands before a place
unfoldable pub submissions : ℕ → ℕ → ℕ
submissions seed place =
    count_by (λ earlier. is_submission (drawn seed earlier)) (range_with_len 0 place)

-- what a command asks for behind so many submissions: behind the most, a commit in the place of a
-- submission
abbrev pub within : ℕ → Kind → Kind
within before kind.Put = kind.Put
within before kind.Append = kind.Append
within before kind.Commit = kind.Commit
within before kind.Get = kind.Get
within before kind.Submit = if nat_lt before most_submits then kind.Submit else kind.Commit
within before kind.Advance = kind.Advance

-- what is asked for by a command behind so many submissions
unfoldable pub asked : ℕ → Drawn → Kind
asked before words = within before (kind_at (words.asks % 10))

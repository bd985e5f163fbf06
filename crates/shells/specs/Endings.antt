-- When and how a job's command ends, by its words.
use Rattle.std.specs.Prelude.{ℕ, ◌+◌, ◌-◌, ◌^◌, ◌&&◌, nat_le, min, List, [], ◌∷◌, Option, Some, None, codes, length, if◌then◌else◌}
use Rattle.std.specs.Char.{is_ascii_digit}
use Rattle.std.specs.List.{list_all}
use Rattle.std.specs.Str.{bytes_eq}
use Rattle.std.specs.Str.Parse.{digits_value}
use Rattle.job_spec.specs.declared.spec.JobSpec.{JobSpec}
use Rattle.shells.specs.declared.ends.Ending.{Ending}
use Rattle.shells.specs.declared.ends.Ending.TheVariants.{At, Child}

-- the number that one to ten digits write
abbrev pub seconds_of : List ℕ → Option ℕ
seconds_of text = if nat_le 1 (length text) && nat_le (length text) 10
    && list_all is_ascii_digit text then Some (digits_value 10 text) else None

-- so many seconds after the start, at most the last second, and well
abbrev pub after : ℕ → Option ℕ → Ending
after start None = At start 0
after start (Some seconds) = At (min (start + seconds) (2 ^ 64 - 1)) 0

-- `false` alone fails, `flux broker` ends with its instance, `sleep` and a number later, and all
-- else at once
abbrev pub ending_of_words : List (List ℕ) → ℕ → Ending
ending_of_words [] start = At start 0
ending_of_words (word ∷ []) start =
    if bytes_eq word (codes "false") then At start 256 else At start 0
ending_of_words (word ∷ next ∷ []) start =
    if bytes_eq word (codes "flux") && bytes_eq next (codes "broker") then Child
    else if bytes_eq word (codes "sleep") then after start (seconds_of next)
    else At start 0
ending_of_words (word ∷ next ∷ more ∷ words) start =
    if bytes_eq word (codes "flux") && bytes_eq next (codes "broker") then Child else At start 0

-- when and how a job's command ends that starts at this second
unfoldable pub ending_of : JobSpec → ℕ → Ending
ending_of spec start = ending_of_words spec.command start

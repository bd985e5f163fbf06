-- What a look answers.
use Rattle.std.specs.Prelude.{◌≡◌, ℕ, ◌≤◌, ◌<◌}
use Rattle.root_feed.specs.declared.pass.Looked.{Looked}
use Rattle.root_feed.specs.declared.pass.Looked.TheVariants as looked

-- the number that was loaded
abbrev pub found_by : {N : Type 0} → Looked N → ℕ
found_by (looked.Seen seen) = seen.1
found_by (looked.Behind have need) = have

-- Behind exactly where the number is below what is needed, with both
abbrev pub IsAnswer : {N : Type 0} → ℕ → ℕ → Looked N → Type 0
IsAnswer broker needed (looked.Seen seen) = (seen.0 ≡ broker) × (needed ≤ seen.1)
IsAnswer broker needed (looked.Behind have need) = (need ≡ needed) × (have < needed)

-- The steps that can be made, as a walk goes over them.
use Rattle.std.specs.Prelude.{ℕ, List, ◌++◌, map, slice_get}
use Rattle.std.specs.Option.{option_map_or}
use Rattle.instance.specs.answers.declared.steps.Step.{Step}
use Rattle.instance.specs.answers.declared.steps.Step.TheVariants as step
use Rattle.world.specs.Order.{issues, only_if}
use Rattle.world.specs.Steps.{can_tick}
use Rattle.world.specs.Value.{WorldValue}
use Rattle.homes.specs.declared.homes.Place.{Place}

-- what comes behind the steps of instances
abbrev pub by_the_run : WorldValue → List Step
by_the_run v = only_if (can_tick v) step.Tick ++ map step.Issue (issues v)

-- the place of an actor's next line
abbrev pub next_at : List Place → ℕ → ℕ
next_at places actor = option_map_or (λ p. p.next) (slice_get places actor) 0

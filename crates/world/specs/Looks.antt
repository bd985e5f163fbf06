-- The open looks of a run, which are those of the top's actors.
use Rattle.std.specs.Prelude.{ℕ, Bool, Option, None, is_some, length, option_and_then, option_map, slice_get, if◌then◌else◌}
use Rattle.std.specs.List.{list_any, range_with_len}
use Rattle.instance.specs.answers.Chronicle.{top}
use Rattle.instance.specs.declared.seats.OpenLook.{OpenLook}
use Rattle.instance.specs.Steps.{look_of}
use Rattle.world.specs.Value.{WorldValue}
use Rattle.world.specs.declared.run.looking.Looker.{Looker}

-- an open look, with its actor
abbrev pub looker_of : ℕ → OpenLook → Looker
looker_of actor look = record { actor = actor; broker = look.broker; need = look.need }

-- the open look of an actor of the top, while the run goes on
abbrev pub look_at : WorldValue → ℕ → Option Looker
look_at v actor = if v.closed then None else option_and_then
    (λ h. option_map (looker_of actor) (look_of h.instance actor)) (slice_get v.homes top)

-- whether a look is open
abbrev pub has_look : WorldValue → Bool
has_look v = list_any (λ actor. is_some (look_at v actor)) (range_with_len 0 (length v.places))

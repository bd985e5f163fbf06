use Rattle.manager_rules.proofs.Soundness.{stays_in_time, stays_sound}
use Rattle.manager_rules.proofs.laws.due_events_keep_lists_sound.Goals as goal

pub returns-clause-sound : goal.returns-clause-sound
returns-clause-sound c = λ s j deed scene are sound grant known may spec. stays_sound s scene are sound grant j known deed may spec

pub returns-clause-in_time : goal.returns-clause-in_time
returns-clause-in_time c = λ s j deed scene are sound grant known may spec. stays_in_time s scene are sound grant j known deed may spec

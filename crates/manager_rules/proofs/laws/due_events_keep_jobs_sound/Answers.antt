use Rattle.manager_rules.proofs.Soundness.{stays_sound, in_time}
use Rattle.manager_rules.proofs.laws.due_events_keep_jobs_sound.Goals as goal

pub returns : goal.returns
returns c = λ s st j deed scene are sound grant known may spec. stays_sound s scene (in_time st s.jobs are) sound grant j known deed may spec

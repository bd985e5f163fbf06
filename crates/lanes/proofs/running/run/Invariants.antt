use Rattle.std.specs.Prelude.{Some}
use Rattle.world.specs.Choice.{losses_left}
use Rattle.lanes.proofs.running.run.Given as goal

abbrev pub ghosts-run_named-N-FeedName : goal.ghosts-run_named-N-FeedName
ghosts-run_named-N-FeedName g a = record { table = a.blank.table }

abbrev pub ghosts-run_named-N-RunName : goal.ghosts-run_named-N-RunName
ghosts-run_named-N-RunName g a = record { run = Some a.world.set; losses = losses_left a.world.order }

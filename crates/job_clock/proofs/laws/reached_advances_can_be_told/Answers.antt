use Rattle.job_clock.proofs.Targets.{is_reached, reached_row}
use Rattle.job_clock.proofs.laws.reached_advances_can_be_told.Goals as goal

pub returns-clause-rows : goal.returns-clause-rows
returns-clause-rows c = λ row now target e within. is_reached row now target e within

pub returns-clause-targets : goal.returns-clause-targets
returns-clause-targets c = λ v now target known within. reached_row v now target known within

use Rattle.job_deeds.proofs.decisions.own.Goals as goal

pub returns-in-Run-clause-found : goal.returns-in-Run-clause-found
returns-in-Run-clause-found g c = λ s seen says. c.of_run.ensures.found s seen.second seen.asked

pub returns-in-Cleanup-clause-found : goal.returns-in-Cleanup-clause-found
returns-in-Cleanup-clause-found g c = λ s seen says. c.of_cleanup.ensures.found s seen.asked

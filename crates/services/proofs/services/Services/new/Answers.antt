use Rattle.services.proofs.services.Services.new.Goals as goal

pub invariant_of-result : goal.invariant_of-result
invariant_of-result c = λ _. record { jobs = c.in_ok-jobs.ensures.ready; jobs_size = c.in_ok-jobs.ensures.size }

pub returns-clause-agrees : goal.returns-clause-agrees
returns-clause-agrees c = λ inst given. record { size = given.served.size; jobs = c.in_ok-jobs.ensures.agrees inst given.served given.hash }

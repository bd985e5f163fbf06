use Rattle.std.proofs.Common.{◌≡◌, ◌++◌, take, map}
use Rattle.answers.specs.Text.{further, job_text}
use Rattle.answers.proofs.printing.job_words.Given as goal

abbrev pub invariant-loop-job : goal.invariant-loop-job
invariant-loop-job l = (l.job-items ≡ l.jobs) × (l.text ≡ l.fn.text ++ further (map job_text (take l.job-index l.job-items)))

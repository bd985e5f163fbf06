use Rattle.std.proofs.Common.{◌≡◌, take}
use Rattle.job_deeds.specs.manager_rules.Jobs.{ids_of}
use Rattle.job_replies.specs.Jobs.{states_of}
use Rattle.job_replies.proofs.jobs.states_of.Given as goal

abbrev pub invariant-loop-id : goal.invariant-loop-id
invariant-loop-id l = record {
  items : l.id-items ≡ ids_of l.book.jobs;
  told : l.list ≡ states_of (take l.id-index l.book.jobs);
}

use Rattle.instance_rules.proofs.Alone.{groups_keep_alone}
use Rattle.instance_rules.proofs.laws.landings_keep_only_jobs.Goals as goal

pub returns : goal.returns
returns c = λ inst log groups st new valid timed is h only due landed. groups_keep_alone inst valid log timed groups st new is h only due landed

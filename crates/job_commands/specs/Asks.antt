-- What job commands ask, as the rules see it.
use Rattle.std.specs.Prelude.{ℕ, List, map, Option, Some, None}
use Rattle.instance_rules.specs.Log as rules
use Rattle.job_commands.specs.declared.ask.JobAsk.{JobAsk}
use Rattle.job_commands.specs.declared.ask.JobAsk.TheVariants as ask
use Rattle.job_commands.specs.declared.ask.Key.{Key}
use Rattle.job_commands.specs.declared.ask.Key.TheVariants as key
use Rattle.job_commands.specs.declared.ask.Named.{Named}

abbrev pub named_of : Named → rules.Named
named_of n = record { scheme = n.scheme; label = n.label }

abbrev pub key_of : Key → rules.Key
key_of key.Jobspec = rules.JobspecKey
key_of key.R = rules.RKey
key_of key.Eventlog = rules.LogKey

abbrev pub told : JobAsk → rules.JobAsk
told (ask.Submit label urgency needs text) = rules.Submit label urgency (map named_of needs) text
told (ask.Cancel label) = rules.Cancel label
told (ask.Raise label kind severity note) = rules.Raise label kind severity note
told (ask.Urge label urgency) = rules.Urge label urgency
told (ask.StateOf label) = rules.StateOf label
told (ask.Info label k) = rules.Info label (key_of k)
told ask.Jobs = rules.Jobs
told (ask.Why label) = rules.Why label
told (ask.ResultOf label) = rules.ResultOf label
told (ask.Watch label) = rules.Watch label
told (ask.Advance seconds) = rules.Advance seconds

-- the label under which a job is submitted
abbrev pub submitted_label : JobAsk → Option (List ℕ)
submitted_label (ask.Submit label urgency needs text) = Some label
submitted_label _ = None

-- What the manager looks at, from the open commands and the labels.
use Rattle.std.specs.Prelude.{false, List, [], ◌∷◌, ◌++◌, Option, Some, None, filter_map, option_map, option_and_then, slice_index}
use Rattle.job_spec.specs.declared.spec.Depend.{Depend}
use Rattle.manager_rules.specs.declared.asked.Asked.{Asked}
use Rattle.manager_rules.specs.declared.asked.Asked.TheVariants as asked
use Rattle.manager_rules.specs.Jobs.{StoredJob}
use Rattle.manager_rules.specs.Posts.{Desk, Submit}
use Rattle.kvs_txn.specs.declared.txn.By.{By}
use Rattle.instance_rules.specs.Log.{Instance, Log, now_of, seconds_open}
use Rattle.job_commands.specs.Children.{all_children}
use Rattle.job_commands.specs.Rows.{CommandsValue, Labels, job_at}
use Rattle.job_commands.specs.declared.ask.JobAsk.{JobAsk}
use Rattle.job_commands.specs.declared.ask.JobAsk.TheVariants as ask
use Rattle.job_commands.specs.declared.ask.Named.{Named}
use Rattle.job_commands.specs.declared.row.Row.{Row}
use Rattle.job_commands.specs.declared.row.Stage.{Stage}
use Rattle.job_commands.specs.declared.row.Stage.TheVariants as stage

-- ---- events

-- what a command asks of the job that its label names
abbrev pub asked_by : Labels → By → JobAsk → Option Asked
asked_by labels by (ask.Cancel label) = option_map (asked.Cancel by) (job_at label labels)
asked_by labels by (ask.Raise label kind severity note) =
    option_map (λ job. asked.Raise by job kind severity note) (job_at label labels)
asked_by labels by (ask.Urge label urgency) =
    option_map (λ job. asked.Urgency by job urgency) (job_at label labels)
asked_by labels by _ = None

-- the same of a command that waits
abbrev pub asked_at : Labels → By → JobAsk → Stage → Option Asked
asked_at labels by asks stage.Waits = asked_by labels by asks
asked_at labels by asks (stage.Landed number) = None

abbrev pub asked_in : Labels → Row → Option Asked
asked_in labels row = asked_at labels row.by row.ask row.stage

-- the open commands that ask for events, and the children
abbrev pub asked_of : CommandsValue → List Asked
asked_of v = filter_map (asked_in v.labels) v.rows ++ all_children v.children

-- ---- submissions

-- the dependencies on the jobs that the labels name, if each names one
abbrev pub needs_of : Labels → List Named → Option (List Depend)
needs_of labels [] = Some []
needs_of labels (n ∷ named) = option_and_then
    (λ job. option_map (λ needs. record { scheme = n.scheme; on = job } ∷ needs)
    (needs_of labels named)) (job_at n.label labels)

-- a submission of which this is what was asked
abbrev pub submit_by : CommandsValue → Instance → Log → Row → JobAsk → Option Submit
submit_by v inst log row (ask.Submit label urgency named text) = option_map (λ needs. record {
  by = row.by;
  rank = row.rank;
  urgency = urgency;
  needs = needs;
  text = text;
  seconds = seconds_open inst log row.by;
  issued = slice_index v.issued row.rank;
}) (needs_of v.labels named)
submit_by v inst log row _ = None

abbrev pub submit_at : CommandsValue → Instance → Log → Row → Stage → Option Submit
submit_at v inst log row stage.Waits = submit_by v inst log row row.ask
submit_at v inst log row (stage.Landed number) = None

-- the submissions that wait, whose labels all name jobs
abbrev pub submits_of : CommandsValue → Instance → Log → List Submit
submits_of v inst log = filter_map (λ row. submit_at v inst log row row.stage) v.rows

-- ---- the desk

-- what the manager looks at: the run resumed with none of these jobs
abbrev pub desk_of : CommandsValue → Instance → Log → List StoredJob → Desk
desk_of v inst log jobs = record {
  scene = record {
    now = now_of inst log;
    grant = inst.grant;
    jobs = jobs;
    asked = asked_of v;
    answer = inst.answer;
    policy = inst.policy;
    limits = inst.limits;
    old = λ id. false;
  };
  birth = inst.birth;
  submits = submits_of v inst log;
}

use Rattle.instance_rules.specs.Log.{service_of}
use Rattle.job_landings.proofs.Landing.{lands_as_due}
use Rattle.job_landings.proofs.laws.what_is_posted_lands_as_it_is_due.Goals as goal

pub returns : goal.returns
returns c = λ step old new events inst log v jobs st post valid agrees core sound standing are makes due one.
    lands_as_due inst valid log v jobs post agrees due c.users_land_where_nothing_is_posted.ensures c.what_lands_is_due.ensures.one
    events st sound standing are (makes.legal inst.service (service_of log) core) one

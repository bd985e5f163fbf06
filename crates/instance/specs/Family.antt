-- An instance among others: the children of its jobs, and what time asks of it.
use Rattle.std.specs.Prelude.{ℕ, Bool, List, Option}
use Rattle.services.specs.answers.declared.chronicle.Entry.{Entry}
use Rattle.services.specs.answers.Chronicle.{Setup}
use Rattle.services.specs.answers.Jobs.{instance_of, log_in}
use Rattle.services.specs.instance_rules.Family.{Living}
use Rattle.services.specs.instance_rules.Legal.{OfDesk}
use Rattle.services.specs.job_book.Contract.{r_at, seconds_left}
use Rattle.services.specs.job_clock.Standing.{IsLiving}
use Rattle.services.specs.job_service.Children as jobs
use Rattle.services.specs.job_service.Times as times
use Rattle.services.specs.manager_rules.Posts.{Desk}
use Rattle.services.specs.resource_set.declared.node.Resources.{Resources}
use Rattle.std.specs.Option.{option_map}
use Rattle.instance.specs.Value.{InstanceValue}

-- ---- by a chronicle of its own

-- P of what its job manager looks at
abbrev pub OfOwn : Setup → List Entry → (Desk → Type 0) → Type 0
OfOwn set own P = OfDesk (instance_of set) (log_in set.work own) P

-- it is this one among those that live
abbrev pub LivesAs : Setup → List Entry → Living → Type 0
LivesAs set own l = IsLiving (instance_of set) (log_in set.work own) l

-- ---- the children of its jobs

-- the job whose child is to be born next, if one is
abbrev pub bearing : InstanceValue → Option ℕ
bearing v = v.services.jobs.bearing

-- whether the child of a job is to go, which shuts down or doesn't, and whether it may
abbrev pub is_end_due : InstanceValue → ℕ → Bool → Bool
is_end_due v job shut = jobs.is_end_due v.services.jobs job shut

abbrev pub may_end : InstanceValue → ℕ → Bool → Bool
may_end v job shut = jobs.may_end v.services.jobs job shut

-- the grant of the child of a job, if the job holds resources
abbrev pub grant_at : InstanceValue → ℕ → Option Resources
grant_at v job = option_map jobs.grant_from (r_at v.services.jobs.manager.book.jobs job)

-- ---- time

-- whether something is posted or due: a post, or a birth
abbrev pub is_due : InstanceValue → Bool
is_due v = jobs.is_due v.services.jobs

-- the second of its birth, and the present one
abbrev pub birth_of : InstanceValue → ℕ
birth_of v = v.services.jobs.birth

abbrev pub present : InstanceValue → ℕ
present v = v.services.jobs.second

-- the seconds ahead that its open advances wait for, and those at which commands or resources of
-- its jobs end
abbrev pub targets_left : InstanceValue → List ℕ
targets_left v = times.targets_left v.services.jobs

abbrev pub ends_left : InstanceValue → List ℕ
ends_left v = seconds_left v.services.jobs.second v.services.jobs.manager.book

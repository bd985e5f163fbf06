-- How much a job may ask for, and which events its watches show.
use Rattle.std.specs.Prelude.{ℕ, ◌==◌, ◌*◌, ◌&&◌, ◌||◌, nat_lt, List, Bool, filter, map, unwrap_or, codes, if◌then◌else◌}
use Rattle.std.specs.Str.{bytes_eq}
use Rattle.event_log.specs.declared.event.Event.{Event}
use Rattle.job_spec.specs.declared.spec.JobSpec.{JobSpec}
use Rattle.manager_rules.specs.declared.terms.Limit.{Limit}
use Rattle.manager_rules.specs.declared.terms.Limits.{Limits}
use Rattle.manager_rules.specs.declared.terms.Shown.{Shown}

-- ---- limits

-- the hosts that a job asks for by number, its cores and its GPUs
abbrev pub hosts_of : JobSpec → ℕ
hosts_of spec = unwrap_or spec.nodes 0

abbrev pub cores_of : JobSpec → ℕ
cores_of spec = unwrap_or spec.nodes 1 * (spec.slots * spec.cores)

abbrev pub gpus_of : JobSpec → ℕ
gpus_of spec = unwrap_or spec.nodes 1 * (spec.slots * spec.gpus)

-- no limit
abbrev pub no_limit : Limit
no_limit = record { most = 0; reason = 0 }

abbrev pub no_limits : Limits
no_limits = record {
  duration = no_limit;
  hosts = no_limit;
  cores = no_limit;
  gpus = no_limit;
}

-- whether so many are more than the limit allows
abbrev pub exceeds : Limit → ℕ → Bool
exceeds limit n = nat_lt 0 limit.reason && nat_lt limit.most n

-- whether a duration is longer; one of 0 has no end
abbrev pub outlasts : Limit → ℕ → Bool
outlasts limit duration =
    nat_lt 0 limit.reason && ((duration == 0) || nat_lt limit.most duration)

-- the reason for which a job is turned away: that of the first limit that it exceeds, or 0
abbrev pub verdict_of : Limits → JobSpec → ℕ
verdict_of limits spec =
    if outlasts limits.duration spec.duration then limits.duration.reason
    else if exceeds limits.hosts (hosts_of spec) then limits.hosts.reason
    else if exceeds limits.cores (cores_of spec) then limits.cores.reason
    else if exceeds limits.gpus (gpus_of spec) then limits.gpus.reason
    else 0

-- ---- events

-- whether the events of this name are shown
abbrev pub shows : Shown → List ℕ → Bool
shows s name = (s.submit && bytes_eq name (codes "submit"))
    || ((s.validate && bytes_eq name (codes "validate"))
    || ((s.dependency_add && bytes_eq name (codes "dependency-add"))
    || ((s.dependency_remove && bytes_eq name (codes "dependency-remove"))
    || ((s.depend && bytes_eq name (codes "depend"))
    || ((s.priority && bytes_eq name (codes "priority"))
    || ((s.urgency && bytes_eq name (codes "urgency"))
    || ((s.alloc && bytes_eq name (codes "alloc"))
    || ((s.flux_restart && bytes_eq name (codes "flux-restart"))
    || ((s.start && bytes_eq name (codes "start"))
    || ((s.finish && bytes_eq name (codes "finish"))
    || ((s.exception && bytes_eq name (codes "exception"))
    || ((s.release && bytes_eq name (codes "release"))
    || ((s.free && bytes_eq name (codes "free"))
    || (s.clean && bytes_eq name (codes "clean")))))))))))))))

-- the names of those of a log, in order
abbrev pub names_shown : Shown → List Event → List (List ℕ)
names_shown s log = filter (shows s) (map (λ event. event.name) log)

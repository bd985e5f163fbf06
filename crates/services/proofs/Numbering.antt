-- The steps of the services are those of their core.
use Rattle.std.proofs.Common.{◌≡◌, length, ap}
use Rattle.std.specs.List.{filter}
use Rattle.job_service.specs.kvs_core.Order.{possible as core_possible}
use Rattle.job_service.specs.kvs_keys.Order.{all_steps}
use Rattle.services.specs.Order.{possible}
use Rattle.services.specs.Steps.{can_step}
use Rattle.services.specs.Value.{ServicesValue}

pub same-steps : (v : ServicesValue) → v.jobs.manager.core.size ≡ v.size → core_possible v.jobs.manager.core ≡ possible v
same-steps v size = ap (λ n. filter (can_step v) (all_steps n (length v.jobs.manager.core.keys.spaces))) size

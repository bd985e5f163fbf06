-- Which steps can be made, in the order in which they are made.
use Rattle.std.specs.Prelude.{List, length}
use Rattle.std.specs.List.{filter}
use Rattle.job_service.specs.kvs_rules.declared.events.KvsStep.{KvsStep}
use Rattle.job_service.specs.kvs_core.Order.{possible_losses as core_losses}
use Rattle.job_service.specs.kvs_keys.Order.{all_steps}
use Rattle.services.specs.Steps.{can_step}
use Rattle.services.specs.Value.{ServicesValue}

-- the steps that can be made, but for losses, in order: of each link and each broker the step stands
-- once
abbrev pub possible : ServicesValue → List KvsStep
possible v = filter (can_step v) (all_steps v.size (length v.jobs.manager.core.keys.spaces))

-- the losses that can be made, in order
abbrev pub possible_losses : ServicesValue → List KvsStep
possible_losses v = core_losses v.jobs.manager.core

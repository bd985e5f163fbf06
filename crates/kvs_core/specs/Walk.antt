-- The steps that can be made, by number.
use Rattle.std.specs.Prelude.{ℕ}
use Rattle.kvs_rules.specs.declared.events.KvsStep.{KvsStep}
use Rattle.kvs_rules.specs.declared.events.KvsStep.TheVariants as kvs
use Rattle.kvs_core.specs.declared.service.walk.Strand.{Strand}
use Rattle.kvs_core.specs.declared.service.walk.Strand.TheVariants as strand

-- the step at a place of a strand
abbrev pub step_of : Strand → ℕ → KvsStep
step_of (strand.Deliveries from) at = kvs.Deliver from at
step_of strand.Services at = kvs.Serve at
step_of strand.Landings at = kvs.Land at
step_of strand.Resyncs at = kvs.Resync at

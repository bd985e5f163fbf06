use Rattle.std.proofs.Common.{◌≡◌}
use Rattle.std.specs.Prelude.{flat_map}
use Rattle.std.specs.List.{range_with_len}
use Rattle.services.specs.kvs_rules.Log.{Log}
use Rattle.services.specs.kvs_rules.Namespaces.{Setting}
use Rattle.services.specs.kvs_core.Agrees.{Agrees}
use Rattle.services.specs.job_service.Still.{awaited}
use Rattle.instance.specs.Closings.{closings_of, numbers_in}
use Rattle.instance.proofs.unfinished.close_off.Given as goal

abbrev pub invariant-loop-actor : goal.invariant-loop-actor
invariant-loop-actor l = (set : Setting) (log : Log) → Agrees l.core set log → l.left ≡ flat_map (closings_of (numbers_in log) (awaited l.jobs) l.lines l.seats) (range_with_len 0 l.actor)

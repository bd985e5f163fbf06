use Rattle.std.proofs.Common.{◌≡◌}
use Rattle.kvs_content.specs.Sound.{IsSoundContent}
use Rattle.kvs_content.specs.Value.{size_of}
use Rattle.service_tests.proofs.contents.walk.Given as goal

abbrev pub invariant-loop-act : goal.invariant-loop-act
invariant-loop-act g l = record { sound : IsSoundContent l.contents; size : size_of l.contents ≡ 7 }

-- A step, said of the world as its callers see it.
use Rattle.std.proofs.Common.{◌≡◌, subst}
use Rattle.instance.specs.answers.declared.steps.Step.{Step}
use Rattle.world.specs.Advances.{Advances}
use Rattle.world.specs.Value.{WorldValue}

pub advances_at : {v w : WorldValue} {s : Step} {new : WorldValue} → v ≡ w → Advances v s new → Advances w s new
advances_at {s} {new} same h = subst (λ x. Advances x s new) same h

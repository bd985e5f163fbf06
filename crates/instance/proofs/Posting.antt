-- What a post leaves of an instance.
use Rattle.std.proofs.Common.{[], refl, sym, subst, append-nil}
use Rattle.services.specs.instance_rules.Log.{Instance, Log as InstanceLog}
use Rattle.services.specs.Agrees.{AgreesServices}
use Rattle.services.specs.Asks.{Keeps}
use Rattle.services.specs.Value.{ServicesValue}
use Rattle.services.specs.answers.declared.steps.Step.TheVariants as step
use Rattle.services.specs.answers.Jobs.{instance_of, log_in}
use Rattle.instance.specs.Agrees.{AgreesOwn}
use Rattle.instance.specs.Makes.{Follows}
use Rattle.instance.proofs.Lining.{same_lines, tallied_on}
use Rattle.instance.proofs.Owning.{Own, DoesAgree}
use Rattle.instance.proofs.Serving.{stepped}

-- nothing has happened where something is posted
pub post_follows : (v : Own) → DoesAgree v → (services : ServicesValue) → Keeps v.instance.services services →
    ((i : Instance) (l : InstanceLog) → AgreesServices v.instance.services i l → AgreesServices services i l) → Follows v.set v.chronicle (step.Post 0) (stepped v.instance.seats services) []
post_follows v h services keeps agrees = record {
  made = refl;
  legal = tt;
  settled = λ told. tt;
  agrees = subst (AgreesOwn (stepped v.instance.seats services) v.set) (sym (append-nil v.chronicle)) (record {
    within = h.within;
    known = h.known;
    few = h.few;
    tallied = tallied_on v.instance (stepped v.instance.seats services) v.set.work.lines keeps.counts (same_lines v.instance.seats) h.tallied;
    legal = h.legal;
    early = h.early;
    seated = h.seated;
    agrees = agrees (instance_of v.set) (log_in v.set.work v.chronicle) h.agrees;
    actors = h.actors;
  });
}

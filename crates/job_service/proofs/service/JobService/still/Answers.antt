use Rattle.std.proofs.Common.{◌≡◌, ◌∙◌, ◌<◌, ◌⊎◌, ℕ, [], Some, IsSome, sym, ap, subst}
use Rattle.instance_rules.specs.Family.{IsLeftAdvance}
use Rattle.instance_rules.specs.Log.{service_of}
use Rattle.kvs_core.specs.Agrees.{Agrees}
use Rattle.kvs_core.specs.Posted.{newest_of, posted}
use Rattle.kvs_core.specs.Seen.{primary_heard, root_of}
use Rattle.kvs_core.specs.Steps.{IsStill as CoreIsStill}
use Rattle.kvs_rules.specs.Brokers.{heard}
use Rattle.kvs_rules.specs.Namespaces.{newest_store, primary, store_after}
use Rattle.job_service.specs.Agrees.{AgreesJobs}
use Rattle.job_service.specs.Children.{is_due}
use Rattle.job_service.specs.Still.{IsStill, awaited}
use Rattle.job_service.specs.Times.{targets_left}
use Rattle.job_service.specs.View.{value_of}
use Rattle.job_service.proofs.Left.{left_open}
use Rattle.job_service.proofs.Resting.{all_reached, left_result, none_now, unposted_still}
use Rattle.job_service.proofs.Ticking.{free_parts, idle_free, none_left, none_left_alone}
use Rattle.job_service.proofs.service.JobService.still.Goals as goal

pub returns-clause-idle : goal.returns-clause-idle
returns-clause-idle c = λ inst log a rest.
    let i = (c.self.invariant (ap (λ v. v.spent) c.self.view_is ∙ c.requires)).fit in
    let v = value_of c.self.inside in
    let still = subst IsStill (sym c.self.view_is) rest in
    let b = subst (λ w. AgreesJobs w inst log) (sym c.self.view_is) a in
    let newest = subst (λ k. newest_store inst.service (service_of log) primary ≡ Some (newest_of k)) c.core.ensures (c.standing.ensures.newest inst.service (service_of log) (subst (λ k. Agrees k inst.service (service_of log)) (sym c.core.ensures) b.core)) in
    idle_free v inst log b c.keeps.ensures newest i.bearing still.due

pub returns-clause-advanced : goal.returns-clause-advanced
returns-clause-advanced c = λ inst log l a rest late lives target t.
    let i = (c.self.invariant (ap (λ v. v.spent) c.self.view_is ∙ c.requires)).fit in
    let v = value_of c.self.inside in
    let still = subst IsStill (sym c.self.view_is) rest in
    let free = free_parts v still.due in
    let b = subst (λ w. AgreesJobs w inst log) (sym c.self.view_is) a in
    let newest = subst (λ k. newest_store inst.service (service_of log) primary ≡ Some (newest_of k)) c.core.ensures (c.standing.ensures.newest inst.service (service_of log) (subst (λ k. Agrees k inst.service (service_of log)) (sym c.core.ensures) b.core)) in
    none_left v inst log b c.keeps.ensures newest i.bearing free.0 free.1 free.2 (all_reached v (ap targets_left c.self.view_is ∙ late)) still.untold l lives target t

pub returns-clause-alone : goal.returns-clause-alone
returns-clause-alone c = λ inst log l a rest late top target t.
    let i = (c.self.invariant (ap (λ v. v.spent) c.self.view_is ∙ c.requires)).fit in
    let v = value_of c.self.inside in
    let still = subst IsStill (sym c.self.view_is) rest in
    let free = free_parts v still.due in
    let b = subst (λ w. AgreesJobs w inst log) (sym c.self.view_is) a in
    let newest = subst (λ k. newest_store inst.service (service_of log) primary ≡ Some (newest_of k)) c.core.ensures (c.standing.ensures.newest inst.service (service_of log) (subst (λ k. Agrees k inst.service (service_of log)) (sym c.core.ensures) b.core)) in
    none_left_alone v inst log b c.keeps.ensures newest i.bearing free.0 free.1 free.2 (all_reached v (ap targets_left c.self.view_is ∙ late)) still.untold l top target t

pub returns-clause-free : goal.returns-clause-free
returns-clause-free c = λ core unfound unborn.
    let v = value_of c.self.inside in
    let rests = subst (λ w. CoreIsStill w.manager.core) (sym c.self.view_is) core in
    let nothing = subst (λ k. posted k ≡ []) c.core.ensures (c.standing.ensures.landed (subst CoreIsStill (sym c.core.ensures) rests)) in
    let unposted = unposted_still c.self.inside.manager c.keeps.ensures nothing in
    sym (ap is_due c.self.view_is) ∙ none_now v unposted (ap (λ w. w.found) c.self.view_is ∙ unfound) (ap (λ w. w.bearing) c.self.view_is ∙ unborn)

pub returns-clause-left : goal.returns-clause-left
returns-clause-left c = λ inst log l a rest lives told by some other waits.
    let held = c.self.invariant (ap (λ v. v.spent) c.self.view_is ∙ c.requires) in
    let v = value_of c.self.inside in
    let still = subst IsStill (sym c.self.view_is) rest in
    let b = subst (λ w. AgreesJobs w inst log) (sym c.self.view_is) a in
    let hears = subst (λ k. (broker : ℕ) → broker < k.size → heard (service_of log) broker primary ≡ Some (primary_heard k broker)) c.core.ensures (c.standing.ensures.heard inst.service (service_of log) (subst (λ k. Agrees k inst.service (service_of log)) (sym c.core.ensures) b.core)) in
    subst (λ w. IsSome (awaited w by) ⊎ IsLeftAdvance l by) c.self.view_is (left_open v held.fit inst log b still told hears l lives by some other waits)

pub returns-clause-results : goal.returns-clause-results
returns-clause-results c = λ inst log l a lives by where_ e rest told.
    let still = subst IsStill (sym c.self.view_is) rest in
    let v = value_of c.self.inside in
    let b = subst (λ w. AgreesJobs w inst log) (sym c.self.view_is) a in
    let newest = subst (λ k. newest_store inst.service (service_of log) primary ≡ Some (newest_of k)) c.core.ensures (c.standing.ensures.newest inst.service (service_of log) (subst (λ k. Agrees k inst.service (service_of log)) (sym c.core.ensures) b.core)) in
    let agreed = subst (λ k. Agrees k inst.service (service_of log)) (sym c.core.ensures) b.core in
    let hears = subst (λ k. (broker : ℕ) → broker < k.size → heard (service_of log) broker primary ≡ Some (primary_heard k broker)) c.core.ensures (c.standing.ensures.heard inst.service (service_of log) agreed) in
    let roots = subst (λ k. (number : ℕ) → store_after inst.service (service_of log) primary number ≡ root_of k number) c.core.ensures (c.standing.ensures.roots inst.service (service_of log) agreed) in
    left_result v c.keeps.ensures l by where_ inst log b newest roots hears told still lives (subst (λ w. awaited w by ≡ Some where_) (sym c.self.view_is) e)

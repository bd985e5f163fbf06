use Rattle.std.proofs.Common.{arith, ◌≡◌, ◌∙◌, ◌++◌, ◌<◌, ◌^◌, [], ◌∷◌, Some, false, refl, sym, ap, subst}
use Rattle.std.specs.List.{AllByRecursion as Each}
use Rattle.std.specs.Prelude.{option_map}
use Rattle.instance_rules.specs.Log.{Ticked, service_of}
use Rattle.job_manager.specs.Posts.{post_of}
use Rattle.kvs_core.specs.Agrees.{Agrees}
use Rattle.kvs_core.specs.Posted.{newest_of}
use Rattle.kvs_rules.specs.Namespaces.{newest_store, primary}
use Rattle.job_service.specs.Agrees.{AgreesJobs}
use Rattle.job_service.specs.Times.{MayPassTo}
use Rattle.job_service.specs.View.{value_of}
use Rattle.job_service.proofs.Calls.{facts}
use Rattle.job_service.proofs.Facts.{ticked_facts}
use Rattle.job_service.proofs.Held.{held_ticked}
use Rattle.job_service.proofs.Issuing.{short_next}
use Rattle.job_service.proofs.Owing.{can-look}
use Rattle.job_service.proofs.Ticking.{then_soon, ticked_agrees, ticks_legal}
use Rattle.job_service.proofs.service.JobService.tick.Goals as goal

pub look-requires : goal.look-requires
look-requires c =
    let held = c.self.invariant (ap (λ v. v.spent) c.self.view_is ∙ c.requires.ready) in
    let i = held.fit in
    let v = value_of c.self.inside in
    let may = subst (λ w. MayPassTo w c.args.second) (sym c.self.view_is) c.requires.may in
    let g = i.agreed in
    let f = ticked_facts c.self.inside.commands c.self.inside.refused.items c.self.inside.second c.args.second g.inst g.log (facts v g.inst g.log g.agrees) in
    let soon = then_soon v i c.args.second may in
    can-look c.self.inside.terms c.self.inside.commands c.self.inside.manager.book c.args.second c.self.inside.birth g.inst (g.log ++ Ticked c.args.second ∷ []) f.commands g.agrees.kind.valid f.second g.agrees.kind.terms g.agrees.kind.birth g.agrees.kind.book soon.0 soon.1 (short_next v i c.self.inside.commands refl)
    (λ rank. let a = i.marked rank in let b = may.passes.above in omega (arith, a, b))

pub invariant_of-self-2 : goal.invariant_of-self-2
invariant_of-self-2 c = λ _.
    let held = c.self.invariant (ap (λ v. v.spent) c.self.view_is ∙ c.requires.ready) in
    let i = held.fit in
    let v = value_of c.self.inside in
    let may = subst (λ w. MayPassTo w c.args.second) (sym c.self.view_is) c.requires.may in
    let smalls = subst (λ b. Each (λ j. j.id < 2 ^ 64) b.jobs) c.book.ensures c.keeps-2.ensures.small in
    let g = i.agreed in
    held_ticked c.self.inside held false c.args.second c.in_ok-self-inside.field-0 may.unposted may c.in_ok-self-inside.ensures
    (record {
      inst = g.inst;
      log = g.log ++ Ticked c.args.second ∷ [];
      agrees = ticked_agrees v g.inst g.log g.agrees c.args.second may.unposted false (option_map post_of c.in_ok-self-inside.field-0) smalls (then_soon v i c.args.second may).1 (short_next v i c.self.inside.commands refl) c.what_is_made_is_due.ensures.some c.what_is_made_is_due.ensures.none c.in_ok-self-inside.ensures;
    })

pub returns-clause-legal : goal.returns-clause-legal
returns-clause-legal c = λ inst log a.
    let held = c.self.invariant (ap (λ v. v.spent) c.self.view_is ∙ c.requires.ready) in
    let i = held.fit in
    let v = value_of c.self.inside in
    let may = subst (λ w. MayPassTo w c.args.second) (sym c.self.view_is) c.requires.may in
    let b = subst (λ w. AgreesJobs w inst log) (sym c.self.view_is) a in
    let newest = subst (λ k. newest_store inst.service (service_of log) primary ≡ Some (newest_of k)) c.core.ensures (c.standing.ensures.newest inst.service (service_of log) (subst (λ k. Agrees k inst.service (service_of log)) (sym c.core.ensures) b.core)) in
    ticks_legal v inst log b c.keeps.ensures newest i.bearing may.unposted may.unfound may.unborn c.args.second may

pub returns-clause-agrees : goal.returns-clause-agrees
returns-clause-agrees c = λ inst log a.
    let held = c.self.invariant (ap (λ v. v.spent) c.self.view_is ∙ c.requires.ready) in
    let i = held.fit in
    let v = value_of c.self.inside in
    let may = subst (λ w. MayPassTo w c.args.second) (sym c.self.view_is) c.requires.may in
    let smalls = subst (λ b. Each (λ j. j.id < 2 ^ 64) b.jobs) c.book.ensures c.keeps-2.ensures.small in
    let b = subst (λ w. AgreesJobs w inst log) (sym c.self.view_is) a in
    ticked_agrees v inst log b c.args.second may.unposted false (option_map post_of c.in_ok-self-inside.field-0) smalls (then_soon v i c.args.second may).1 (short_next v i c.self.inside.commands refl) c.what_is_made_is_due.ensures.some c.what_is_made_is_due.ensures.none c.in_ok-self-inside.ensures

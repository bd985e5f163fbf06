use Rattle.std.proofs.Common.{◌≡◌, ◌∙◌, ◌++◌, ◌∷◌, ◌<◌, ◌^◌, [], Some, false, true, length, map, sym, ap, subst}
use Rattle.std.specs.List.{AllByRecursion as Each}
use Rattle.std.specs.Prelude.{option_map}
use Rattle.instance_rules.specs.Log.{Gone, service_of}
use Rattle.job_commands.specs.Children.{ended}
use Rattle.job_commands.specs.Rows.{AreMarkedBy}
use Rattle.job_manager.specs.Posts.{post_of}
use Rattle.kvs_core.specs.Agrees.{Agrees}
use Rattle.kvs_core.specs.Posted.{newest_of}
use Rattle.kvs_rules.specs.Namespaces.{newest_store, primary}
use Rattle.job_service.specs.Agrees.{AgreesJobs}
use Rattle.job_service.specs.Children.{IsBearing, may_end}
use Rattle.job_service.specs.View.{value_of}
use Rattle.job_service.proofs.Bearing.{gone_legal, may_parts}
use Rattle.job_service.proofs.Born.{gone_agrees, living_child}
use Rattle.job_service.proofs.Calls.{facts, is_soon}
use Rattle.job_service.proofs.Facts.{gone_facts}
use Rattle.job_service.proofs.Held.{held_child}
use Rattle.job_service.proofs.Issuing.{short_next}
use Rattle.job_service.proofs.Owing.{can-look}
use Rattle.job_service.proofs.service.JobService.gone.Goals as goal

pub gone-requires : goal.gone-requires
gone-requires c = record { had = living_child (value_of c.self.inside) c.args.job c.args.shut (subst (λ w. may_end w c.args.job c.args.shut ≡ true) (sym c.self.view_is) c.requires.may) }

pub look-requires : goal.look-requires
look-requires c =
    let i = (c.self.invariant (ap (λ v. v.spent) c.self.view_is ∙ c.requires.ready)).fit in
    let v = value_of c.self.inside in
    let g = i.agreed in
    let agrees = c.gone.ensures.agrees g.inst g.log g.agrees.commands in
    let f = gone_facts v.commands c.gone.new.self v.refused v.second g.inst g.log (facts v g.inst g.log g.agrees) c.args.job c.args.shut agrees in
    let short = short_next v i c.gone.new.self (ap (λ w. length w.issued) c.gone.ensures.ends) in
    can-look c.self.inside.terms c.gone.new.self c.self.inside.manager.book c.self.inside.second c.self.inside.birth g.inst (g.log ++ Gone c.args.job c.args.shut ∷ []) agrees g.agrees.kind.valid f.second g.agrees.kind.terms g.agrees.kind.birth g.agrees.kind.book i.order (is_soon v i) short
    (subst (λ w. AreMarkedBy w c.self.inside.second) (sym c.gone.ensures.ends) i.marked)

pub invariant_of-self-2 : goal.invariant_of-self-2
invariant_of-self-2 c = λ _.
    let held = c.self.invariant (ap (λ v. v.spent) c.self.view_is ∙ c.requires.ready) in
    let i = held.fit in
    let v = value_of c.self.inside in
    let g = i.agreed in
    let newest = subst (λ k. newest_store g.inst.service (service_of g.log) primary ≡ Some (newest_of k)) c.core.ensures (c.standing.ensures.newest g.inst.service (service_of g.log) (subst (λ k. Agrees k g.inst.service (service_of g.log)) (sym c.core.ensures) g.agrees.core)) in
    let smalls = subst (λ b. Each (λ j. j.id < 2 ^ 64) b.jobs) c.book.ensures c.keeps-2.ensures.small in
    let short = short_next v i c.gone.new.self (ap (λ w. length w.issued) c.gone.ensures.ends) in
    held_child c.self.inside held false c.gone.new.self (map (ended c.args.job c.args.shut) c.self.inside.commands.children) c.in_ok-self-inside.field-0 c.in_ok-self-inside-2.field-0 c.gone.ensures.ends
    (subst (λ b. IsBearing c.gone.new.self b c.in_ok-self-inside-2.field-0) c.book-2.ensures c.in_ok-self-inside-2.ensures) c.in_ok-self-inside.ensures
    (record {
      inst = g.inst;
      log = g.log ++ Gone c.args.job c.args.shut ∷ [];
      agrees = gone_agrees v g.inst g.log g.agrees c.keeps.ensures newest false smalls (is_soon v i) c.what_is_made_is_due.ensures.some c.what_is_made_is_due.ensures.none c.what_waits_stays_due.ensures c.args.job c.args.shut (subst (λ w. may_end w c.args.job c.args.shut ≡ true) (sym c.self.view_is) c.requires.may) c.gone.new.self short
          (c.gone.ensures.agrees g.inst g.log g.agrees.commands) (option_map post_of c.in_ok-self-inside.field-0) c.in_ok-self-inside-2.field-0 c.in_ok-self-inside.ensures;
    })

pub returns-clause-legal : goal.returns-clause-legal
returns-clause-legal c = λ inst log a.
    let i = (c.self.invariant (ap (λ v. v.spent) c.self.view_is ∙ c.requires.ready)).fit in
    let v = value_of c.self.inside in
    let b = subst (λ w. AgreesJobs w inst log) (sym c.self.view_is) a in
    let newest = subst (λ k. newest_store inst.service (service_of log) primary ≡ Some (newest_of k)) c.core.ensures (c.standing.ensures.newest inst.service (service_of log) (subst (λ k. Agrees k inst.service (service_of log)) (sym c.core.ensures) b.core)) in
    gone_legal v inst log b c.keeps.ensures newest c.args.job c.args.shut (may_parts v c.args.job c.args.shut (subst (λ w. may_end w c.args.job c.args.shut ≡ true) (sym c.self.view_is) c.requires.may)).1

pub returns-clause-agrees : goal.returns-clause-agrees
returns-clause-agrees c = λ inst log a.
    let i = (c.self.invariant (ap (λ v. v.spent) c.self.view_is ∙ c.requires.ready)).fit in
    let v = value_of c.self.inside in
    let b = subst (λ w. AgreesJobs w inst log) (sym c.self.view_is) a in
    let newest = subst (λ k. newest_store inst.service (service_of log) primary ≡ Some (newest_of k)) c.core.ensures (c.standing.ensures.newest inst.service (service_of log) (subst (λ k. Agrees k inst.service (service_of log)) (sym c.core.ensures) b.core)) in
    let smalls = subst (λ b. Each (λ j. j.id < 2 ^ 64) b.jobs) c.book.ensures c.keeps-2.ensures.small in
    let short = short_next v i c.gone.new.self (ap (λ w. length w.issued) c.gone.ensures.ends) in
    gone_agrees v inst log b c.keeps.ensures newest false smalls (is_soon v i) c.what_is_made_is_due.ensures.some c.what_is_made_is_due.ensures.none c.what_waits_stays_due.ensures c.args.job c.args.shut (subst (λ w. may_end w c.args.job c.args.shut ≡ true) (sym c.self.view_is) c.requires.may) c.gone.new.self short
    (c.gone.ensures.agrees inst log b.commands) (option_map post_of c.in_ok-self-inside.field-0) c.in_ok-self-inside-2.field-0 c.in_ok-self-inside.ensures

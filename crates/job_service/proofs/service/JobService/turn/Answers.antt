use Rattle.std.proofs.Common.{◌≡◌, ◌∙◌, ◌+◌, ◌++◌, ◌<◌, ◌^◌, Some, false, length, map, sym, ap, subst, arith}
use Rattle.std.specs.List.{AllByRecursion as Each}
use Rattle.std.specs.Prelude.{option_map}
use Rattle.instance_rules.specs.Log.{service_of}
use Rattle.job_landings.specs.Landings.{happening}
use Rattle.job_manager.specs.Posts.{post_of}
use Rattle.kvs_core.specs.Agrees.{Agrees}
use Rattle.kvs_core.specs.Posted.{newest_of}
use Rattle.kvs_rules.specs.Namespaces.{newest_store, primary}
use Rattle.run_limits.specs.Limits.{most_seconds}
use Rattle.job_service.specs.Agrees.{AgreesJobs}
use Rattle.job_service.specs.Children.{IsBearing}
use Rattle.job_service.specs.View.{IsHeld, value_of}
use Rattle.job_service.proofs.Calls.{is_soon, respan, turn_agrees, turn_legal, with_parts}
use Rattle.job_service.proofs.Held.{held_landed, held_still}
use Rattle.job_service.proofs.Issuing.{short_next}
use Rattle.job_service.proofs.Owing.{can-look}
use Rattle.job_service.proofs.Turning.{turned_agrees, turned_counted, turned_drawn, turned_facts, turned_book, turned_judged, turned_legal, turned_marked, turned_posted, turned_size, turned_time, unnumbered_stays}
use Rattle.job_service.proofs.service.JobService.turn.Goals as goal

pub invariant_of-self-in_default : goal.invariant_of-self-in_default
invariant_of-self-in_default c = λ _.
    let held = c.self.invariant (ap (λ v. v.spent) c.self.view_is ∙ c.requires.ready) in
    let i = held.fit in
    let v = value_of c.self.inside in
    let g = i.agreed in
    let newest = subst (λ k. newest_store g.inst.service (service_of g.log) primary ≡ Some (newest_of k)) c.core.ensures (c.standing.ensures.newest g.inst.service (service_of g.log) (subst (λ k. Agrees k g.inst.service (service_of g.log)) (sym c.core.ensures) g.agrees.core)) in
    let e = c.in_ok-events.ensures in
    let s = unnumbered_stays v g.inst g.log g.agrees c.keeps.ensures newest c.turn.new.self c.args.step c.in_ok-events.events e.makes e.follows c.what_is_posted_lands_as_it_is_due.ensures (sym c.number_of_post.ensures ∙ c.in_default.is) in
    held_still c.self.inside held false c.turn.new.self e.ready e.makes.size s.book s.posted
    (record {
      inst = g.inst;
      log = g.log ++ map happening c.in_ok-events.events;
      agrees = turn_agrees v g.inst g.log g.agrees false c.turn.new.self c.args.step c.in_ok-events.events e.makes s c.users_land_where_nothing_is_posted.ensures;
    })

pub returns-in_default-clause-makes : goal.returns-in_default-clause-makes
returns-in_default-clause-makes c =
    let held = c.self.invariant (ap (λ v. v.spent) c.self.view_is ∙ c.requires.ready) in
    let i = held.fit in
    let v = value_of c.self.inside in
    let e = c.in_ok-events.ensures in
    record {
      own = e.makes.own;
      made = λ inst log a. let b = subst (λ w. AgreesJobs w inst log) (sym c.self.view_is) a in e.makes.made inst.service (service_of log) b.core;
      legal = λ inst log a.
          let b = subst (λ w. AgreesJobs w inst log) (sym c.self.view_is) a in
          let newest = subst (λ k. newest_store inst.service (service_of log) primary ≡ Some (newest_of k)) c.core.ensures (c.standing.ensures.newest inst.service (service_of log) (subst (λ k. Agrees k inst.service (service_of log)) (sym c.core.ensures) b.core)) in
          let s = unnumbered_stays v inst log b c.keeps.ensures newest c.turn.new.self c.args.step c.in_ok-events.events e.makes e.follows c.what_is_posted_lands_as_it_is_due.ensures (sym c.number_of_post.ensures ∙ c.in_default.is) in
          turn_legal v inst log b false c.turn.new.self c.args.step c.in_ok-events.events e.makes s c.users_land_where_nothing_is_posted.ensures;
      agrees = λ inst log a.
          let b = subst (λ w. AgreesJobs w inst log) (sym c.self.view_is) a in
          let newest = subst (λ k. newest_store inst.service (service_of log) primary ≡ Some (newest_of k)) c.core.ensures (c.standing.ensures.newest inst.service (service_of log) (subst (λ k. Agrees k inst.service (service_of log)) (sym c.core.ensures) b.core)) in
          let s = unnumbered_stays v inst log b c.keeps.ensures newest c.turn.new.self c.args.step c.in_ok-events.events e.makes e.follows c.what_is_posted_lands_as_it_is_due.ensures (sym c.number_of_post.ensures ∙ c.in_default.is) in
          turn_agrees v inst log b false c.turn.new.self c.args.step c.in_ok-events.events e.makes s c.users_land_where_nothing_is_posted.ensures;
    }

pub look-requires : goal.look-requires
look-requires c =
    let held = c.self.invariant (ap (λ v. v.spent) c.self.view_is ∙ c.requires.ready) in
    let i = held.fit in
    let v = value_of c.self.inside in
    let g = i.agreed in
    let newest = subst (λ k. newest_store g.inst.service (service_of g.log) primary ≡ Some (newest_of k)) c.core.ensures (c.standing.ensures.newest g.inst.service (service_of g.log) (subst (λ k. Agrees k g.inst.service (service_of g.log)) (sym c.core.ensures) g.agrees.core)) in
    let e = c.in_ok-events.ensures in
    let numbered = sym c.number_of_post.ensures ∙ c.in-Some.is in
    let is_id = c.take.ensures.value ∙ held.submits in
    let f = turned_facts v g.inst g.log g.agrees c.keeps.ensures newest c.turn.new.self c.args.step c.in_ok-events.events e.makes e.follows c.what_is_posted_lands_as_it_is_due.ensures c.in-Some.number numbered c.land.new.commands c.land.new.refused.items c.command_posted-by.result c.take.result c.command_posted-by.ensures is_id i.posted c.in_ok-land.ensures in
    let short = short_next v i c.land.new.commands (ap length (turned_size v g.inst g.log g.agrees c.keeps.ensures newest c.turn.new.self c.args.step c.in_ok-events.events e.makes e.follows c.what_is_posted_lands_as_it_is_due.ensures c.in-Some.number numbered c.land.new.commands c.land.new.refused.items c.command_posted-by.result c.take.result c.command_posted-by.ensures is_id i.posted c.in_ok-land.ensures)) in
    can-look c.self.inside.terms c.land.new.commands c.turn.new.self.book c.self.inside.second c.self.inside.birth g.inst (g.log ++ map happening c.in_ok-events.events) f.commands g.agrees.kind.valid f.second g.agrees.kind.terms g.agrees.kind.birth
    (turned_book v g.inst g.log g.agrees c.keeps.ensures newest c.turn.new.self c.args.step c.in_ok-events.events e.makes e.follows c.what_is_posted_lands_as_it_is_due.ensures c.in-Some.number numbered c.land.new.commands c.land.new.refused.items c.command_posted-by.result c.take.result c.command_posted-by.ensures is_id i.posted c.in_ok-land.ensures) i.order (is_soon v i) short
    (turned_marked v g.inst g.log g.agrees c.keeps.ensures newest c.turn.new.self c.args.step c.in_ok-events.events e.makes e.follows c.what_is_posted_lands_as_it_is_due.ensures c.in-Some.number numbered c.land.new.commands c.land.new.refused.items c.command_posted-by.result c.take.result c.command_posted-by.ensures is_id i.posted c.in_ok-land.ensures c.self.inside.second i.marked)

pub invariant_of-self-2 : goal.invariant_of-self-2
invariant_of-self-2 c = λ _.
    let held = c.self.invariant (ap (λ v. v.spent) c.self.view_is ∙ c.requires.ready) in
    let i = held.fit in
    let v = value_of c.self.inside in
    let g = i.agreed in
    let newest = subst (λ k. newest_store g.inst.service (service_of g.log) primary ≡ Some (newest_of k)) c.core.ensures (c.standing.ensures.newest g.inst.service (service_of g.log) (subst (λ k. Agrees k g.inst.service (service_of g.log)) (sym c.core.ensures) g.agrees.core)) in
    let e = c.in_ok-events.ensures in
    let numbered = sym c.number_of_post.ensures ∙ c.in-Some.is in
    let is_id = c.take.ensures.value ∙ held.submits in
    let smalls = subst (λ b. Each (λ j. j.id < 2 ^ 64) b.jobs) c.book.ensures c.keeps-2.ensures.small in
    let short = short_next v i c.land.new.commands (ap length (turned_size v g.inst g.log g.agrees c.keeps.ensures newest c.turn.new.self c.args.step c.in_ok-events.events e.makes e.follows c.what_is_posted_lands_as_it_is_due.ensures c.in-Some.number numbered c.land.new.commands c.land.new.refused.items c.command_posted-by.result c.take.result c.command_posted-by.ensures is_id i.posted c.in_ok-land.ensures)) in
    let posted = turned_posted v g.inst g.log g.agrees c.keeps.ensures newest c.turn.new.self c.args.step c.in_ok-events.events e.makes e.follows c.what_is_posted_lands_as_it_is_due.ensures c.in-Some.number numbered c.land.new.commands c.land.new.refused.items c.command_posted-by.result c.take.result c.command_posted-by.ensures is_id i.posted c.in_ok-land.ensures in
    let size = ap length (turned_size v g.inst g.log g.agrees c.keeps.ensures newest c.turn.new.self c.args.step c.in_ok-events.events e.makes e.follows c.what_is_posted_lands_as_it_is_due.ensures c.in-Some.number numbered c.land.new.commands c.land.new.refused.items c.command_posted-by.result c.take.result c.command_posted-by.ensures is_id i.posted c.in_ok-land.ensures) in
    let fewer = turned_counted v g.inst g.log g.agrees c.keeps.ensures newest c.turn.new.self c.args.step c.in_ok-events.events e.makes e.follows c.what_is_posted_lands_as_it_is_due.ensures c.in-Some.number numbered c.land.new.commands c.land.new.refused.items c.command_posted-by.result c.take.result c.command_posted-by.ensures is_id i.posted c.in_ok-land.ensures in
    let counted = i.counted in
    subst (λ o. IsHeld (record c.self.inside { spent = false; manager = c.turn.new.self; commands = c.land.new.commands; refused = c.land.new.refused; found = c.in_ok-self-inside.field-0; bearing = c.in_ok-self-inside-2.field-0; submitting = o })) (sym c.take.ensures.after)
    (held_landed c.self.inside held false c.turn.new.self c.land.new.commands c.land.new.refused c.in_ok-self-inside.field-0 c.in_ok-self-inside-2.field-0 e.ready e.makes.size posted size (omega (arith, fewer, counted))
    (turned_time v g.inst g.log g.agrees c.keeps.ensures newest c.turn.new.self c.args.step c.in_ok-events.events e.makes e.follows c.what_is_posted_lands_as_it_is_due.ensures c.in-Some.number numbered c.land.new.commands c.land.new.refused.items c.command_posted-by.result c.take.result c.command_posted-by.ensures is_id i.posted c.in_ok-land.ensures (most_seconds + c.self.inside.span) i.timed)
    (subst (λ b. IsBearing c.land.new.commands b c.in_ok-self-inside-2.field-0) c.book-2.ensures c.in_ok-self-inside-2.ensures)
    (turned_drawn v g.inst g.log g.agrees c.keeps.ensures newest c.turn.new.self c.args.step c.in_ok-events.events e.makes e.follows c.what_is_posted_lands_as_it_is_due.ensures c.in-Some.number numbered c.land.new.commands c.land.new.refused.items c.command_posted-by.result c.take.result c.command_posted-by.ensures is_id i.posted c.in_ok-land.ensures c.self.inside.submitted i.drawn)
    (turned_marked v g.inst g.log g.agrees c.keeps.ensures newest c.turn.new.self c.args.step c.in_ok-events.events e.makes e.follows c.what_is_posted_lands_as_it_is_due.ensures c.in-Some.number numbered c.land.new.commands c.land.new.refused.items c.command_posted-by.result c.take.result c.command_posted-by.ensures is_id i.posted c.in_ok-land.ensures c.self.inside.second i.marked)
    (turned_judged v g.inst g.log g.agrees c.keeps.ensures newest c.turn.new.self c.args.step c.in_ok-events.events e.makes e.follows c.what_is_posted_lands_as_it_is_due.ensures c.in-Some.number numbered c.land.new.commands c.land.new.refused.items c.command_posted-by.result c.take.result c.command_posted-by.ensures is_id i.posted c.in_ok-land.ensures i.judged) c.in_ok-self-inside.ensures
    (record {
      inst = g.inst;
      log = g.log ++ map happening c.in_ok-events.events;
      agrees = respan (with_parts v false c.turn.new.self c.land.new.commands c.land.new.refused.items (option_map post_of c.in_ok-self-inside.field-0) c.self.inside.submitted) g.inst (g.log ++ map happening c.in_ok-events.events) c.self.inside.span c.in_ok-self-inside-2.field-0
          (turned_agrees v g.inst g.log g.agrees c.keeps.ensures newest c.turn.new.self c.args.step c.in_ok-events.events e.makes e.follows c.what_is_posted_lands_as_it_is_due.ensures c.in-Some.number numbered c.land.new.commands c.land.new.refused.items c.command_posted-by.result c.take.result c.command_posted-by.ensures is_id i.posted c.in_ok-land.ensures
          false (option_map post_of c.in_ok-self-inside.field-0) smalls (is_soon v i) short c.what_is_made_is_due.ensures.some c.what_is_made_is_due.ensures.none c.in_ok-self-inside.ensures);
    }))

pub returns-clause-makes : goal.returns-clause-makes
returns-clause-makes c =
    let held = c.self.invariant (ap (λ v. v.spent) c.self.view_is ∙ c.requires.ready) in
    let i = held.fit in
    let v = value_of c.self.inside in
    let e = c.in_ok-events.ensures in
    let numbered = sym c.number_of_post.ensures ∙ c.in-Some.is in
    let is_id = c.take.ensures.value ∙ held.submits in
    let smalls = subst (λ b. Each (λ j. j.id < 2 ^ 64) b.jobs) c.book.ensures c.keeps-2.ensures.small in
    record {
      own = e.makes.own;
      made = λ inst log a. let b = subst (λ w. AgreesJobs w inst log) (sym c.self.view_is) a in e.makes.made inst.service (service_of log) b.core;
      legal = λ inst log a.
          let b = subst (λ w. AgreesJobs w inst log) (sym c.self.view_is) a in
          let newest = subst (λ k. newest_store inst.service (service_of log) primary ≡ Some (newest_of k)) c.core.ensures (c.standing.ensures.newest inst.service (service_of log) (subst (λ k. Agrees k inst.service (service_of log)) (sym c.core.ensures) b.core)) in
          turned_legal v inst log b c.keeps.ensures newest c.turn.new.self c.args.step c.in_ok-events.events e.makes e.follows c.what_is_posted_lands_as_it_is_due.ensures c.in-Some.number numbered c.land.new.commands c.land.new.refused.items c.command_posted-by.result c.take.result c.command_posted-by.ensures is_id i.posted c.in_ok-land.ensures;
      agrees = λ inst log a.
          let b = subst (λ w. AgreesJobs w inst log) (sym c.self.view_is) a in
          let newest = subst (λ k. newest_store inst.service (service_of log) primary ≡ Some (newest_of k)) c.core.ensures (c.standing.ensures.newest inst.service (service_of log) (subst (λ k. Agrees k inst.service (service_of log)) (sym c.core.ensures) b.core)) in
          let short = short_next v i c.land.new.commands (ap length (turned_size v inst log b c.keeps.ensures newest c.turn.new.self c.args.step c.in_ok-events.events e.makes e.follows c.what_is_posted_lands_as_it_is_due.ensures c.in-Some.number numbered c.land.new.commands c.land.new.refused.items c.command_posted-by.result c.take.result c.command_posted-by.ensures is_id i.posted c.in_ok-land.ensures)) in
          respan (with_parts v false c.turn.new.self c.land.new.commands c.land.new.refused.items (option_map post_of c.in_ok-self-inside.field-0) c.self.inside.submitted) inst (log ++ map happening c.in_ok-events.events) c.self.inside.span c.in_ok-self-inside-2.field-0
          (turned_agrees v inst log b c.keeps.ensures newest c.turn.new.self c.args.step c.in_ok-events.events e.makes e.follows c.what_is_posted_lands_as_it_is_due.ensures c.in-Some.number numbered c.land.new.commands c.land.new.refused.items c.command_posted-by.result c.take.result c.command_posted-by.ensures is_id i.posted c.in_ok-land.ensures
          false (option_map post_of c.in_ok-self-inside.field-0) smalls (is_soon v i) short c.what_is_made_is_due.ensures.some c.what_is_made_is_due.ensures.none c.in_ok-self-inside.ensures);
    }

use Rattle.std.proofs.Common.{◌≡◌, ◌∙◌, [], false, None, ◌≤◌, refl, sym, subst, arith}
use Rattle.job_deeds.specs.job_rules.Fits.{IsGrant}
use Rattle.job_service.specs.Agrees.{AgreesJobs, IsAgreed}
use Rattle.job_service.specs.Judged.{AreJudged}
use Rattle.job_service.specs.Posted.{IsNamed, id_posted}
use Rattle.job_service.specs.Value.{JobServiceValue}
use Rattle.job_service.proofs.Calls.{begun_agreed, begun_agrees, begun_bearing, begun_count, begun_drawn, begun_judged, begun_sought, begun_timed}
use Rattle.job_service.proofs.service.JobService.new.Goals as goal

pub invariant_of-result : goal.invariant_of-result
invariant_of-result c = λ _.
    let m = c.in_ok-manager.ensures in
    record {
      fit = record {
        ready = m.ready;
        size = c.in_ok-commands.ensures.size ∙ sym m.size;
        few = subst (λ n. n ≤ 32) (sym m.size) c.requires.size.1;
        order = omega arith;
        soon = omega arith;
        early = c.requires.early;
        timed = begun_timed false c.args.terms c.args.birth c.args.setting.size c.args.setting.fanout c.args.setting.hash c.args.grant.now c.in_ok-manager.manager c.in_ok-commands.commands m.book m.posted c.in_ok-commands.ensures.agrees m.agrees;
        near = omega arith;
        sought = begun_sought false c.args.terms c.args.birth c.args.setting.size c.args.setting.fanout c.args.setting.hash c.args.grant.now c.in_ok-manager.manager c.in_ok-commands.commands m.book m.posted c.in_ok-commands.ensures.agrees m.agrees;
        posted = subst (IsNamed c.in_ok-commands.commands c.args.birth) (sym m.posted) tt;
        named = tt;
        counted = begun_count false c.args.terms c.args.birth c.args.setting.size c.args.setting.fanout c.args.setting.hash c.args.grant.now c.in_ok-manager.manager c.in_ok-commands.commands m.book m.posted c.in_ok-commands.ensures.agrees m.agrees;
        bounded = omega arith;
        drawn = begun_drawn false c.args.terms c.args.birth c.args.setting.size c.args.setting.fanout c.args.setting.hash c.args.grant.now c.in_ok-manager.manager c.in_ok-commands.commands m.book m.posted c.in_ok-commands.ensures.agrees m.agrees;
        marked = c.in_ok-commands.ensures.marked c.args.birth;
        judged = subst (AreJudged c.args.terms.limits c.in_ok-commands.commands c.in_ok-manager.manager.book.jobs) (sym c.new-3.ensures.items) (begun_judged false c.args.terms c.args.birth c.args.setting.size c.args.setting.fanout c.args.setting.hash c.args.grant.now c.in_ok-manager.manager c.in_ok-commands.commands m.book m.posted c.in_ok-commands.ensures.agrees m.agrees);
        bearing = begun_bearing false c.args.terms c.args.birth c.args.setting.size c.args.setting.fanout c.args.setting.hash c.args.grant.now c.in_ok-manager.manager c.in_ok-commands.commands m.book m.posted c.in_ok-commands.ensures.agrees m.agrees;
        agreed = subst (λ l. IsAgreed (let v : JobServiceValue = record { spent = false; terms = c.args.terms; birth = c.args.birth; second = c.args.birth; manager = c.in_ok-manager.manager; commands = c.in_ok-commands.commands; refused = l; feeds = c.new-4.result.items; found = None; bearing = None; submitted = 0; span = 0 } in v)) (sym c.new-3.ensures.items) (subst (λ l. IsAgreed (let v : JobServiceValue = record { spent = false; terms = c.args.terms; birth = c.args.birth; second = c.args.birth; manager = c.in_ok-manager.manager; commands = c.in_ok-commands.commands; refused = []; feeds = l; found = None; bearing = None; submitted = 0; span = 0 } in v)) (sym c.new-4.ensures.items) (begun_agreed false c.args.terms c.args.birth c.args.setting.size c.args.setting.fanout c.args.setting.hash c.args.grant.now c.in_ok-manager.manager c.in_ok-commands.commands m.book m.posted c.in_ok-commands.ensures.agrees m.agrees
            (subst (λ b. IsGrant b.grant.nodes) (c.book.ensures ∙ m.book) c.keeps.ensures.sets)));
      };
      submits = subst (λ p. None ≡ id_posted p) (sym m.posted) refl;
    }

pub returns-clause-agrees : goal.returns-clause-agrees
returns-clause-agrees c = λ inst of digest.
    let m = c.in_ok-manager.ensures in
    subst (λ l. AgreesJobs (let v : JobServiceValue = record { spent = false; terms = c.args.terms; birth = c.args.birth; second = c.args.birth; manager = c.in_ok-manager.manager; commands = c.in_ok-commands.commands; refused = l; feeds = c.new-4.result.items; found = None; bearing = None; submitted = 0; span = 0 } in v) inst []) (sym c.new-3.ensures.items)
    (subst (λ l. AgreesJobs (let v : JobServiceValue = record { spent = false; terms = c.args.terms; birth = c.args.birth; second = c.args.birth; manager = c.in_ok-manager.manager; commands = c.in_ok-commands.commands; refused = []; feeds = l; found = None; bearing = None; submitted = 0; span = 0 } in v) inst []) (sym c.new-4.ensures.items)
    (begun_agrees false c.args.terms c.args.birth c.args.setting.size c.args.setting.fanout c.args.setting.hash c.args.grant.now c.in_ok-manager.manager c.in_ok-commands.commands m.book m.posted c.in_ok-commands.ensures.agrees m.agrees inst of digest))

pub returns-clause-grant : goal.returns-clause-grant
returns-clause-grant c = subst (λ b. IsGrant b.grant.nodes) (c.book.ensures ∙ c.in_ok-manager.ensures.book) c.keeps.ensures.sets

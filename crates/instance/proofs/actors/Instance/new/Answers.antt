use Rattle.std.proofs.Common.{All, ℕ, ◌<◌, sym, subst}
use Rattle.services.specs.workload.Laws.{HasOwnLabels, IsBuilt, IsWithin, KeepsTallies}
use Rattle.services.specs.answers.Jobs.{instance_of}
use Rattle.instance.specs.First.{AreFirstSeats}
use Rattle.instance.proofs.Beginning.{begin_agrees}
use Rattle.instance.proofs.Given.{is_given}
use Rattle.instance.proofs.actors.Instance.new.Goals as goal

pub returns-clause-agrees : goal.returns-clause-agrees
returns-clause-agrees c = λ set size fanout hash grant resources anew terms birth work.
    let within = subst (λ n. IsWithin n set.work) (sym size) (subst (IsWithin c.args.setting.size) (sym work) c.requires.within) in
    let ranks = subst (λ (n : ℕ). All (λ a. a.rank < n) set.work.actors) (sym size) (subst (λ w. All (λ a. a.rank < c.args.setting.size) w.actors) (sym work) c.requires.ranks) in
    let built = subst (λ w. All (λ l. IsBuilt l.command) w.lines) (sym work) c.requires.built in
    begin_agrees set c.in_ok-services.services c.in_ok-seats.seats.items
    within ranks built
    (subst (λ w. KeepsTallies w.lines) (sym work) c.requires.few)
    c.in_ok-services.ensures.start
    (c.in_ok-services.ensures.agrees (instance_of set)
    (is_given set c.args.setting.size c.args.setting.fanout c.args.setting.hash c.args.grant.now c.args.birth c.args.terms size fanout hash grant resources anew terms birth c.in_ok-services.ensures.grant
    within ranks built (subst (λ w. HasOwnLabels w.lines) (sym work) c.requires.labels)))
    (subst (λ w. AreFirstSeats w c.in_ok-seats.seats.items) (sym work) c.in_ok-seats.ensures)

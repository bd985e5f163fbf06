use Rattle.std.proofs.Common.{◌≡◌, ◌∙◌, ◌+◌, ◌<◌, ◌++◌, ℕ, [], ◌∷◌, Some, false, sym, ap, subst, arith}
use Rattle.instance_rules.specs.Log as rules
use Rattle.instance_rules.specs.Log.{service_of}
use Rattle.kvs_core.specs.Agrees.{Agrees}
use Rattle.kvs_core.specs.Seen.{primary_heard, root_of}
use Rattle.kvs_rules.specs.Brokers.{heard}
use Rattle.kvs_rules.specs.Namespaces.{primary, store_after}
use Rattle.job_service.specs.Agrees.{AgreesJobs, IsAgreed}
use Rattle.job_service.specs.Feeds.{Feeds, IsFedByRow}
use Rattle.job_service.specs.View.{value_of}
use Rattle.job_service.specs.Watching.{fed_before}
use Rattle.job_service.proofs.Calls.{rank_within}
use Rattle.job_service.proofs.Held.{held_fed}
use Rattle.job_service.proofs.Watching.{before, feed_agrees, feed_legal, hears-now}
use Rattle.job_service.proofs.service.JobService.feed.Goals as goal

pub fed_now-fed-requires : goal.fed_now-fed-requires
fed_now-fed-requires c =
    let held = c.self.invariant (ap (λ v. v.spent) c.self.view_is ∙ c.requires.ready) in
    let v = value_of c.self.inside in
    let g = held.fit.agreed in
    let core = subst (λ k. Agrees k g.inst.service (service_of g.log)) (sym c.core.ensures) g.agrees.core in
    let roots = subst (λ k. (number : ℕ) → store_after g.inst.service (service_of g.log) primary number ≡ root_of k number) c.core.ensures (c.standing.ensures.roots g.inst.service (service_of g.log) core) in
    let w = subst (λ x. IsFedByRow x c.args.by c.in-Ok.next) (sym c.self.view_is) c.in-Ok.ensures.fed in
    let low = rank_within v g.inst g.log g.agrees w.row w.stands in
    let hears = subst (λ k. (broker : ℕ) → broker < k.size → heard (service_of g.log) broker primary ≡ Some (primary_heard k broker)) c.core.ensures (c.standing.ensures.heard g.inst.service (service_of g.log) core) in
    let b = before v g.inst g.log g.agrees c.keeps.ensures roots c.args.by c.in-Ok.next c.in-Ok.ensures.by w (hears w.row.rank low) in
    subst (λ l. fed_before l c.in-Ok.next.by < c.in-Ok.next.count) (sym c.as_slice.ensures.value)
    (subst (λ x. fed_before c.self.inside.feeds.items x < c.in-Ok.next.count) (sym c.in-Ok.ensures.by) b.less)

pub invariant_of-self-2 : goal.invariant_of-self-2
invariant_of-self-2 c = λ _.
    let held = c.self.invariant (ap (λ v. v.spent) c.self.view_is ∙ c.requires.ready) in
    let v = value_of c.self.inside in
    let g = held.fit.agreed in
    let f = c.in-Ok.next in
    let core = subst (λ k. Agrees k g.inst.service (service_of g.log)) (sym c.core.ensures) g.agrees.core in
    let roots = subst (λ k. (number : ℕ) → store_after g.inst.service (service_of g.log) primary number ≡ root_of k number) c.core.ensures (c.standing.ensures.roots g.inst.service (service_of g.log) core) in
    let w = subst (λ x. IsFedByRow x c.args.by f) (sym c.self.view_is) c.in-Ok.ensures.fed in
    let low = rank_within v g.inst g.log g.agrees w.row w.stands in
    let hears = subst (λ k. (broker : ℕ) → broker < k.size → heard (service_of g.log) broker primary ≡ Some (primary_heard k broker)) c.core.ensures (c.standing.ensures.heard g.inst.service (service_of g.log) core) in
    let e = c.fed_now-fed.ensures in
    let first : c.fed_now-fed.result.first ≡ fed_before c.self.inside.feeds.items c.args.by = e.first ∙ ap (λ l. fed_before l f.by) c.as_slice.ensures.value ∙ ap (fed_before c.self.inside.feeds.items) c.in-Ok.ensures.by in
    held_fed c.self.inside held false c.put_feed.new.list
    (subst (λ l. IsAgreed (record v { spent = false; feeds = l })) (sym c.in_ok-put_feed.ensures)
    (record {
      inst = g.inst;
      log = g.log ++ rules.Fed f.by f.number c.fed_now-fed.result.first c.fed_now-fed.result.count ∷ [];
      agrees = feed_agrees v g.inst g.log g.agrees c.keeps.ensures roots c.args.by f c.in-Ok.ensures.by w (hears w.row.rank low) c.fed_now-fed.result.first c.fed_now-fed.result.count first e.all false;
    }))

pub returns-clause-feeds : goal.returns-clause-feeds
returns-clause-feeds c = λ inst log a.
    let v = value_of c.self.inside in
    let b = subst (λ x. AgreesJobs x inst log) (sym c.self.view_is) a in
    let f = c.in-Ok.next in
    let core = subst (λ k. Agrees k inst.service (service_of log)) (sym c.core.ensures) b.core in
    let roots = subst (λ k. (number : ℕ) → store_after inst.service (service_of log) primary number ≡ root_of k number) c.core.ensures (c.standing.ensures.roots inst.service (service_of log) core) in
    let w = subst (λ x. IsFedByRow x c.args.by f) (sym c.self.view_is) c.in-Ok.ensures.fed in
    let low = rank_within v inst log b w.row w.stands in
    let hears = subst (λ k. (broker : ℕ) → broker < k.size → heard (service_of log) broker primary ≡ Some (primary_heard k broker)) c.core.ensures (c.standing.ensures.heard inst.service (service_of log) core) in
    let e = c.fed_now-fed.ensures in
    let first : c.fed_now-fed.result.first ≡ fed_before c.self.inside.feeds.items c.args.by = e.first ∙ ap (λ l. fed_before l f.by) c.as_slice.ensures.value ∙ ap (fed_before c.self.inside.feeds.items) c.in-Ok.ensures.by in
    let old = before v inst log b c.keeps.ensures roots c.args.by f c.in-Ok.ensures.by w (hears w.row.rank low) in
    let less = old.less in
    let all = e.all in
    let legal = feed_legal v inst log b c.keeps.ensures roots c.args.by f c.in-Ok.ensures.by w (hears w.row.rank low) c.fed_now-fed.result.first c.fed_now-fed.result.count first e.all in
    let agrees = feed_agrees v inst log b c.keeps.ensures roots c.args.by f c.in-Ok.ensures.by w (hears w.row.rank low) c.fed_now-fed.result.first c.fed_now-fed.result.count first e.all false in
    let new = record v { spent = false; feeds = c.put_feed.new.list.items } in
    subst (λ n. Feeds new inst log c.args.by (record { number = n; first = c.fed_now-fed.result.first; count = c.fed_now-fed.result.count })) (sym e.number)
    (record {
      legal = legal;
      agrees = subst (λ x. AgreesJobs new inst (log ++ rules.Fed x f.number c.fed_now-fed.result.first c.fed_now-fed.result.count ∷ [])) c.in-Ok.ensures.by
          (subst (λ l. AgreesJobs (record v { spent = false; feeds = l }) inst (log ++ rules.Fed f.by f.number c.fed_now-fed.result.first c.fed_now-fed.result.count ∷ [])) (sym c.in_ok-put_feed.ensures) agrees);
      number = hears-now v inst log b c.keeps.ensures roots c.args.by f c.in-Ok.ensures.by w (hears w.row.rank low);
      some = omega (arith, first, less, all);
    })

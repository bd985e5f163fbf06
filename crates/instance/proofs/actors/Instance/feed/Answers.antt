use Rattle.std.proofs.Common.{◌≡◌, ◌∙◌, ◌<◌, ℕ, Some, ap, sym, subst, true, ◌∷◌, []}
use Rattle.std.proofs.lemmas.Option.{slice_get-get_or, slice_get_within}
use Rattle.services.specs.kvs_core.Agrees.{Agrees}
use Rattle.services.specs.kvs_core.Seen.{primary_heard}
use Rattle.services.specs.kvs_rules.Brokers.{heard}
use Rattle.services.specs.kvs_rules.Namespaces.{primary}
use Rattle.services.specs.answers.declared.chronicle.Entry.TheVariants as entry
use Rattle.services.specs.answers.Chronicle.{top}
use Rattle.services.specs.answers.Jobs.{instance_of, log_in}
use Rattle.services.specs.answers.Services.{log_of, setting_of}
use Rattle.services.specs.Asks.{Feeds}
use Rattle.instance.specs.Agrees.{AgreesOwn, command_of}
use Rattle.instance.specs.Steps.{can_feed}
use Rattle.instance.specs.View.{value_of}
use Rattle.instance.proofs.Feeding.{feed_follows, feed_within}
use Rattle.instance.proofs.Owning.{own_of}
use Rattle.instance.proofs.Stilling.{core_agrees}
use Rattle.instance.proofs.actors.Instance.feed.Goals as goal

pub returns-clause-makes : goal.returns-clause-makes
returns-clause-makes c = λ set own agrees.
    let w = value_of c.self.inside in
    let v = own_of w set own in
    let a = c.args.actor in
    let h = subst (λ x. AgreesOwn x set own) (sym c.self.view_is) agrees in
    let can = subst (λ x. can_feed x a ≡ true) (sym c.self.view_is) c.requires.can in
    let there = feed_within w a can in
    let seat = c.index.result.now in
    let sits = slice_get-get_or w.seats a seat (slice_get_within w.seats a there.0 there.1) ∙ ap Some (sym c.index.ensures) in
    let log = log_of set.work top own in
    let is : c.core.result.now ≡ w.services.jobs.manager.core = c.core.ensures.value ∙ sym (ap (λ v. v.services.jobs.manager.core) c.self.view_is) in
    let hears = subst (λ k. (broker : ℕ) → broker < k.size → heard log broker primary ≡ Some (primary_heard k broker)) is
    (c.standing.ensures.heard (setting_of set) log (subst (λ k. Agrees k (setting_of set) log) (sym is) (core_agrees v h))) in
    let fed = c.in_ok-fed.fed in
    let last = c.saturating_sub-command.ensures in
    feed_follows v h a seat sits can hears c.feed.new.self fed c.in_ok-fed.ensures.keeps
    (subst (λ n. Feeds c.feed.new.self (instance_of set) (log_in set.work own) (command_of a n) fed) last (c.in_ok-fed.ensures.feeds (instance_of set) (log_in set.work own) h.agrees))
    c.in_ok-made.made (c.in_ok-made.ensures ∙ ap (λ n. entry.Watched a n fed.number fed.first fed.count ∷ []) last)

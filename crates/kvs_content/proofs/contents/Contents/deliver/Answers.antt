use Rattle.std.proofs.Common.{◌≡◌, ◌<◌, true, length, ap, subst, sym, arith, get_or}
use Rattle.kvs_content.specs.Messages.{is_offer_on, is_want_on, loads_of}
use Rattle.kvs_content.specs.Steps.{can_deliver}
use Rattle.kvs_content.specs.Value.{ContentValue}
use Rattle.kvs_content.proofs.Delivering.{found-at, found-passes, offer-shorter, some-found}
use Rattle.kvs_content.proofs.contents.Contents.deliver.Goals as goal

pub deliver_offer-requires-clause-within : goal.deliver_offer-requires-clause-within
deliver_offer-requires-clause-within c =
    subst (λ (v : ContentValue). c.in-Some.i < length v.offers) c.self.view_is (found-at (is_offer_on c.self.inside.fanout c.args.from c.args.to) c.self.inside.offers.items c.in-Some.i c.in-Some.ensures)

pub deliver_offer-requires-clause-on : goal.deliver_offer-requires-clause-on
deliver_offer-requires-clause-on c = λ d. (
  c.args.from,
  subst (λ (v : ContentValue). is_offer_on v.fanout c.args.from c.args.to (get_or v.offers c.in-Some.i d) ≡ true) c.self.view_is
      (found-passes (is_offer_on c.self.inside.fanout c.args.from c.args.to) c.self.inside.offers.items c.in-Some.i d c.in-Some.ensures),
)

pub returns-in-Some-clause-shorter : goal.returns-in-Some-clause-shorter
returns-in-Some-clause-shorter c =
    let done = c.in_ok-events.ensures in
    offer-shorter c.args.self.now c.deliver_offer.new.self done.alike done.wants done.left

pub returns-in-Some-clause-waits : goal.returns-in-Some-clause-waits
returns-in-Some-clause-waits c = λ by.
    let same = ap (loads_of by) c.in_ok-events.ensures.wants in
    omega (arith, same)

pub returns-in-Some-clause-told : goal.returns-in-Some-clause-told
returns-in-Some-clause-told c = λ set log a. tt

pub deliver_want-requires-clause-within : goal.deliver_want-requires-clause-within
deliver_want-requires-clause-within c =
    subst (λ (v : ContentValue). c.in-Some-first_want.i < length v.wants) c.self.view_is (found-at (is_want_on c.self.inside.fanout c.args.from c.args.to) c.self.inside.wants.items c.in-Some-first_want.i c.in-Some-first_want.ensures)

pub deliver_want-requires-clause-on : goal.deliver_want-requires-clause-on
deliver_want-requires-clause-on c = λ d. (
  c.args.from,
  subst (λ (v : ContentValue). is_want_on v.fanout c.args.from c.args.to (get_or v.wants c.in-Some-first_want.i d) ≡ true) c.self.view_is
      (found-passes (is_want_on c.self.inside.fanout c.args.from c.args.to) c.self.inside.wants.items c.in-Some-first_want.i d c.in-Some-first_want.ensures),
)

pub unreachable-requires : goal.unreachable-requires
unreachable-requires c =
    some-found (is_offer_on c.self.inside.fanout c.args.from c.args.to) (is_want_on c.self.inside.fanout c.args.from c.args.to) c.self.inside.offers.items c.self.inside.wants.items
    (subst (λ v. can_deliver v c.args.from c.args.to ≡ true) (sym c.self.view_is) c.requires.can) c.in_default.ensures c.in-None.ensures

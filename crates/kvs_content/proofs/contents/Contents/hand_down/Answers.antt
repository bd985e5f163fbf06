use Rattle.std.proofs.Common.{◌≡◌, ◌∙◌, ◌<◌, ◌++◌, map, ap, refl, subst, sym, arith}
use Rattle.std.specs.List.{sum_by}
use Rattle.std.proofs.lemmas.List.Sums.{sum_by_push}
use Rattle.kvs_rules.specs.Log.{Happened}
use Rattle.kvs_rules.specs.Brokers.{parent}
use Rattle.kvs_content.specs.declared.wants.WantStage.TheVariants as wanted
use Rattle.kvs_content.specs.Agrees.{Follows, MayTell}
use Rattle.kvs_content.specs.Messages.{IsAbove, wants_left, want_of}
use Rattle.kvs_content.specs.Sound.{IsGiftSame, IsSoundContent}
use Rattle.kvs_content.specs.Value.{ContentValue, size_of}
use Rattle.kvs_content.proofs.Passing.{hand-follows, handed-told, on-the-way}
use Rattle.kvs_content.proofs.Resting.{parent-below}
use Rattle.kvs_content.proofs.Wanting.{put-want-sound, want-pushed}
use Rattle.kvs_content.proofs.Ways.{above-le}
use Rattle.kvs_content.proofs.contents.Contents.hand_down.Goals as goal

pub keep-requires-clause-within : goal.keep-requires-clause-within
keep-requires-clause-within c = (c.requires.below, on-the-way c.args.self.now c.args.at c.args.broker c.requires.way.1 c.requires.way.0)

pub returns-then-at-broker-clause-follows : goal.returns-then-at-broker-clause-follows
returns-then-at-broker-clause-follows c = λ set log a h. c.in_ok-events.ensures.follows set log c.args.by h.loading.request a h.staged

pub returns-then-at-broker-clause-told : goal.returns-then-at-broker-clause-told
returns-then-at-broker-clause-told c = λ set log a h.
    subst (MayTell set (log ++ map Happened c.in_ok-events.events) c.args.by) (sym c.bytes_of-bytes.ensures)
    (handed-told set log (map Happened c.in_ok-events.events) c.args.self.now.fanout c.args.by c.args.reference c.args.broker c.args.at c.args.gift h)

pub toward-requires-clause-below : goal.toward-requires-clause-below
toward-requires-clause-below c =
    let le = above-le c.args.self.now.fanout c.args.at c.args.broker c.requires.way.1 in
    omega (arith, le)

pub returns-clause-sound : goal.returns-clause-sound
returns-clause-sound c =
    let is = want-pushed c.self.view_is _ (want_of c.args.by c.args.broker c.toward.result c.args.reference (wanted.Falling c.args.gift)) refl _ c.in_ok-push.ensures.items in
    let down = subst (λ (v : ContentValue). (0 < c.toward.result) × (c.args.at ≡ parent v.fanout c.toward.result) × IsAbove v.fanout c.toward.result c.args.broker) c.self.view_is c.toward.ensures in
    subst IsSoundContent (sym is) (put-want-sound c.keep.new.self _ c.in_ok-events.ensures.sound (record {
      below = down.0;
      within = subst (λ n. c.args.broker < n) (sym c.in_ok-events.ensures.alike.size) c.requires.way.0;
      way = down.2;
      named = c.requires.named;
      same = subst (λ s. IsGiftSame s c.args.reference c.args.gift) (sym c.in_ok-events.ensures.store) c.requires.same;
    }))

pub returns-clause-shorter : goal.returns-clause-shorter
returns-clause-shorter c =
    let size = size_of c.args.self.now in
    let down = subst (λ (v : ContentValue). (0 < c.toward.result) × (c.args.at ≡ parent v.fanout c.toward.result) × IsAbove v.fanout c.toward.result c.args.broker) c.self.view_is c.toward.ensures in
    let less = parent-below c.keep.new.self.fanout c.toward.result down.0 in
    let le = above-le c.keep.new.self.fanout c.toward.result c.args.broker down.2 in
    let same = ap (λ (v : ContentValue). sum_by (wants_left size) v.wants) c.self.view_is ∙ ap (sum_by (wants_left size)) c.in_ok-events.ensures.wants in
    let more = ap (sum_by (wants_left size)) c.in_ok-push.ensures.items ∙ sum_by_push (wants_left size) c.self.inside.wants.items _ in
    omega (arith, less, le, same, more, down.1, c.requires.way.0)

pub returns-clause-follows : goal.returns-clause-follows
returns-clause-follows c = λ set log a h.
    let is = want-pushed c.self.view_is _ (want_of c.args.by c.args.broker c.toward.result c.args.reference (wanted.Falling c.args.gift)) refl _ c.in_ok-push.ensures.items in
    let down = subst (λ (v : ContentValue). (0 < c.toward.result) × (c.args.at ≡ parent v.fanout c.toward.result) × IsAbove v.fanout c.toward.result c.args.broker) c.self.view_is c.toward.ensures in
    let up = subst (λ f. c.args.at ≡ parent f c.toward.result) c.in_ok-events.ensures.alike.fanout down.1 in
    subst (λ (w : ContentValue). Follows c.args.self.now w c.in_ok-events.events set log) (sym is)
    (hand-follows c.args.self.now c.keep.new.self c.in_ok-events.ensures.alike c.args.by c.args.reference c.args.broker c.in_ok-events.events set log (c.in_ok-events.ensures.follows set log c.args.by h.loading.request a h.staged)
    c.args.at c.toward.result up c.args.gift h (c.in_ok-events.ensures.told set log c.args.by h.loading.request a h.staged))

use Rattle.std.proofs.Common.{ap, subst, sym}
use Rattle.kvs_content.specs.Agrees.{Follows}
use Rattle.kvs_content.specs.Messages.{link_now, want_of}
use Rattle.kvs_content.specs.Sound.{IsSoundContent}
use Rattle.kvs_content.specs.Value.{ContentValue}
use Rattle.kvs_content.proofs.Passing.{above-within, ask-follows, asked-placed, on-the-way}
use Rattle.kvs_content.proofs.Wanting.{put-want-sound, want-pushed}
use Rattle.kvs_content.proofs.contents.Contents.ask_on.Goals as goal

pub find-requires-clause-within : goal.find-requires-clause-within
find-requires-clause-within c =
    above-within c.args.self.now c.args.at c.args.child c.requires.child.0 c.requires.child.1 (on-the-way c.args.self.now c.args.child c.args.broker c.requires.way.1 c.requires.way.0)

pub returns-clause-sound : goal.returns-clause-sound
returns-clause-sound c =
    let stage = c.in_ok-stage.field-0.stage in
    let link = ap (λ k. want_of c.args.by c.args.broker k c.args.reference c.in_ok-stage.field-0.stage) c.link-child.ensures in
    let is = want-pushed c.self.view_is _ (want_of c.args.by c.args.broker (link_now c.args.child c.args.at stage) c.args.reference stage) link _ c.in_ok-push.ensures.items in
    subst IsSoundContent (sym is) (put-want-sound c.find.new.self _ c.in_ok-stage.ensures.sound
    (asked-placed c.args.self.now c.find.new.self c.in_ok-stage.ensures.alike c.args.by c.args.reference c.args.broker c.args.child c.args.at c.requires.child.0 c.requires.child.1 c.requires.way.0 c.requires.way.1
    stage (λ e. (c.in_ok-stage.ensures.none e).0) c.in_ok-stage.ensures.named c.in_ok-stage.ensures.same))

pub returns-clause-follows : goal.returns-clause-follows
returns-clause-follows c = λ set log a h.
    let stage = c.in_ok-stage.field-0.stage in
    let link = ap (λ k. want_of c.args.by c.args.broker k c.args.reference c.in_ok-stage.field-0.stage) c.link-child.ensures in
    let is = want-pushed c.self.view_is _ (want_of c.args.by c.args.broker (link_now c.args.child c.args.at stage) c.args.reference stage) link _ c.in_ok-push.ensures.items in
    subst (λ (w : ContentValue). Follows c.args.self.now w c.in_ok-stage.field-0.events set log) (sym is)
    (ask-follows c.args.self.now c.find.new.self c.in_ok-stage.ensures.alike c.args.by c.args.reference c.args.broker c.in_ok-stage.field-0.events set log (c.in_ok-stage.ensures.follows set log a)
    c.args.child c.args.at c.requires.child.1 stage h (c.in_ok-stage.ensures.told set log a))

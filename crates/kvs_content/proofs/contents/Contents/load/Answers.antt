use Rattle.std.proofs.Common.{◌<◌, ◌++◌, map, refl, subst, sym}
use Rattle.kvs_rules.specs.Log.{Happened}
use Rattle.kvs_content.specs.declared.wants.WantStage.TheVariants as wanted
use Rattle.kvs_content.specs.Messages.{want_of}
use Rattle.kvs_content.specs.Agrees.{Follows, IsFound, MayTell}
use Rattle.kvs_content.specs.Sound.{IsSoundContent}
use Rattle.kvs_content.specs.Value.{ContentValue}
use Rattle.kvs_content.proofs.Finding.{load-told, load-waits}
use Rattle.kvs_content.proofs.Passing.{load-follows}
use Rattle.kvs_content.proofs.Wanting.{put-want-sound, want-pushed}
use Rattle.kvs_content.proofs.Ways.{above-itself}
use Rattle.kvs_content.proofs.contents.Contents.load.Goals as goal

pub returns-in-Falling-clause-follows : goal.returns-in-Falling-clause-follows
returns-in-Falling-clause-follows c = λ set log a h. c.in_ok-stage.ensures.follows set log a

pub returns-in-Falling-clause-told : goal.returns-in-Falling-clause-told
returns-in-Falling-clause-told c = λ set log a h.
    let found = subst (IsFound set (log ++ map Happened c.in_ok-stage.field-0.events) c.args.reference c.args.broker) c.in-Falling.is (c.in_ok-stage.ensures.told set log a) in
    subst (MayTell set (log ++ map Happened c.in_ok-stage.field-0.events) c.args.by) (sym c.bytes_of.ensures)
    (load-told c.args.self.now set log a c.args.by c.args.broker c.requires.within c.args.reference h c.in_ok-stage.field-0.events c.requires.sound.placed.root c.in-Falling.gift found)

pub returns-clause-sound : goal.returns-clause-sound
returns-clause-sound c =
    let none = c.in_ok-stage.ensures.none c.in_default.is in
    let is = want-pushed c.self.view_is _ (want_of c.args.by c.args.broker c.args.broker c.args.reference wanted.Rising) refl _ c.in_ok-push.ensures.items in
    subst IsSoundContent (sym is) (put-want-sound c.find.new.self _ c.in_ok-stage.ensures.sound (record {
      below = none.0;
      within = subst (λ n. c.args.broker < n) (sym c.in_ok-stage.ensures.alike.size) c.requires.within;
      way = above-itself _ c.args.broker;
      named = tt;
      same = tt;
    }))

pub returns-clause-follows : goal.returns-clause-follows
returns-clause-follows c = λ set log a h.
    let none = c.in_ok-stage.ensures.none c.in_default.is in
    let is = want-pushed c.self.view_is _ (want_of c.args.by c.args.broker c.args.broker c.args.reference wanted.Rising) refl _ c.in_ok-push.ensures.items in
    subst (λ (w : ContentValue). Follows c.args.self.now w c.in_ok-stage.field-0.events set log) (sym is)
    (load-follows c.args.self.now c.find.new.self c.in_ok-stage.ensures.alike c.args.by c.args.reference c.args.broker c.in_ok-stage.field-0.events set log (c.in_ok-stage.ensures.follows set log a)
    (load-waits c.args.self.now set log a c.args.by c.args.broker c.requires.within c.args.reference h c.in_ok-stage.field-0.events none.1))

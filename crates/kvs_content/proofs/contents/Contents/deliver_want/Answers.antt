use Rattle.std.proofs.Common.{◌≡◌, ◌∙◌, ◌<◌, ◌+◌, ◌-◌, true, cond, ap, subst, sym, get_or}
use Rattle.std.specs.Prelude.{OnOk}
use Rattle.std.specs.List.{remove, sum_by}
use Rattle.kvs_rules.specs.Log.{same_command}
use Rattle.kvs_rules.specs.Brokers.{parent}
use Rattle.kvs_content.specs.declared.wants.Want.{Want}
use Rattle.kvs_content.specs.declared.wants.WantStage.{WantStage}
use Rattle.kvs_content.specs.declared.wants.WantStage.TheVariants as wanted
use Rattle.kvs_content.specs.Agrees.{AgreesContent, Follows, WantAgrees}
use Rattle.kvs_content.specs.Messages.{IsAbove, is_wanted_so, is_want_on, loads_of, offers_left, want_left, wants_left, want_of}
use Rattle.kvs_content.specs.Sound.{IsGiftSame, IsSoundContent, IsWantNamed, IsWantSame}
use Rattle.kvs_content.specs.Steps.{AreAlike}
use Rattle.kvs_content.specs.Value.{ContentValue, size_of}
use Rattle.kvs_content.proofs.Delivering.{ok-then, read-at, want-agrees, want-left-out, want-shorter, want-there, wants-removed}
use Rattle.kvs_content.proofs.Passing.{falls-to, rises-to}
use Rattle.kvs_content.proofs.Wanting.{taken-loads, taken-want-agrees, taken-want-follows, taken-want-sound}
use Rattle.kvs_content.proofs.contents.Contents.deliver_want.Goals as goal

pub ask_on-requires-clause-sound : goal.ask_on-requires-clause-sound
ask_on-requires-clause-sound c =
    let is = wants-removed c.self.view_is c.args.i c.remove-broker.new.self.items c.remove-broker.ensures.items in
    subst IsSoundContent (sym is) (taken-want-sound c.args.self.now c.requires.sound c.args.i)

pub ask_on-requires-clause-child : goal.ask_on-requires-clause-child
ask_on-requires-clause-child c =
    let read = subst (λ (v : ContentValue). c.remove-broker.result ≡ get_or v.wants c.args.i c.remove-broker.result) c.self.view_is c.remove-broker.ensures.value in
    let there = want-there c.args.self.now c.requires.sound c.args.i c.requires.within c.remove-broker.result read in
    let on = c.requires.on c.remove-broker.result in
    let rises = subst (λ s. is_wanted_so c.args.self.now.fanout on.0 c.args.to c.remove-broker.result.child s ≡ true) c.in-Rising.is (subst (λ (o : Want). is_want_on c.args.self.now.fanout on.0 c.args.to o ≡ true) (sym read) on.1) in
    let up = rises-to c.args.self.now.fanout on.0 c.args.to c.remove-broker.result.child rises in
    (there.below, subst (λ (v : ContentValue). c.args.to ≡ parent v.fanout c.remove-broker.result.child) (sym c.self.view_is) up)

pub ask_on-requires-clause-way : goal.ask_on-requires-clause-way
ask_on-requires-clause-way c =
    let read = subst (λ (v : ContentValue). c.remove-broker.result ≡ get_or v.wants c.args.i c.remove-broker.result) c.self.view_is c.remove-broker.ensures.value in
    let there = want-there c.args.self.now c.requires.sound c.args.i c.requires.within c.remove-broker.result read in
    (subst (λ v. c.remove-broker.result.broker < size_of v) (sym c.self.view_is) there.within, subst (λ (v : ContentValue). IsAbove v.fanout c.remove-broker.result.child c.remove-broker.result.broker) (sym c.self.view_is) there.way)

pub hand_down-requires-clause-sound : goal.hand_down-requires-clause-sound
hand_down-requires-clause-sound c =
    let is = wants-removed c.self.view_is c.args.i c.remove-broker.new.self.items c.remove-broker.ensures.items in
    subst IsSoundContent (sym is) (taken-want-sound c.args.self.now c.requires.sound c.args.i)

pub hand_down-requires-clause-below : goal.hand_down-requires-clause-below
hand_down-requires-clause-below c =
    let read = subst (λ (v : ContentValue). c.remove-broker.result ≡ get_or v.wants c.args.i c.remove-broker.result) c.self.view_is c.remove-broker.ensures.value in
    let there = want-there c.args.self.now c.requires.sound c.args.i c.requires.within c.remove-broker.result read in
    let on = c.requires.on c.remove-broker.result in
    let falls = subst (λ s. is_wanted_so c.args.self.now.fanout on.0 c.args.to c.remove-broker.result.child s ≡ true) c.in-Falling.is (subst (λ (o : Want). is_want_on c.args.self.now.fanout on.0 c.args.to o ≡ true) (sym read) on.1) in
    subst (λ b. 0 < b) (sym (falls-to c.args.self.now.fanout on.0 c.args.to c.remove-broker.result.child falls)) there.below

pub hand_down-requires-clause-way : goal.hand_down-requires-clause-way
hand_down-requires-clause-way c =
    let read = subst (λ (v : ContentValue). c.remove-broker.result ≡ get_or v.wants c.args.i c.remove-broker.result) c.self.view_is c.remove-broker.ensures.value in
    let there = want-there c.args.self.now c.requires.sound c.args.i c.requires.within c.remove-broker.result read in
    let on = c.requires.on c.remove-broker.result in
    let falls = subst (λ s. is_wanted_so c.args.self.now.fanout on.0 c.args.to c.remove-broker.result.child s ≡ true) c.in-Falling.is (subst (λ (o : Want). is_want_on c.args.self.now.fanout on.0 c.args.to o ≡ true) (sym read) on.1) in
    let to = falls-to c.args.self.now.fanout on.0 c.args.to c.remove-broker.result.child falls in (
      subst (λ v. c.remove-broker.result.broker < size_of v) (sym c.self.view_is) there.within,
      subst (λ (v : ContentValue). IsAbove v.fanout c.args.to c.remove-broker.result.broker) (sym c.self.view_is) (subst (λ b. IsAbove c.args.self.now.fanout b c.remove-broker.result.broker) (sym to) there.way),
    )

pub hand_down-requires-clause-named : goal.hand_down-requires-clause-named
hand_down-requires-clause-named c =
    let read = subst (λ (v : ContentValue). c.remove-broker.result ≡ get_or v.wants c.args.i c.remove-broker.result) c.self.view_is c.remove-broker.ensures.value in
    let there = want-there c.args.self.now c.requires.sound c.args.i c.requires.within c.remove-broker.result read in
    subst (IsWantNamed c.remove-broker.result.reference) c.in-Falling.is there.named

pub hand_down-requires-clause-same : goal.hand_down-requires-clause-same
hand_down-requires-clause-same c =
    let read = subst (λ (v : ContentValue). c.remove-broker.result ≡ get_or v.wants c.args.i c.remove-broker.result) c.self.view_is c.remove-broker.ensures.value in
    let there = want-there c.args.self.now c.requires.sound c.args.i c.requires.within c.remove-broker.result read in
    subst (λ (v : ContentValue). IsGiftSame v.store c.remove-broker.result.reference c.in-Falling.gift) (sym c.self.view_is) (subst (IsWantSame c.args.self.now.store c.remove-broker.result.reference) c.in-Falling.is there.same)

pub returns-in-Rising-clause-shorter : goal.returns-in-Rising-clause-shorter
returns-in-Rising-clause-shorter c =
    let size = size_of c.args.self.now in
    let read = subst (λ (v : ContentValue). c.remove-broker.result ≡ get_or v.wants c.args.i c.remove-broker.result) c.self.view_is c.remove-broker.ensures.value in
    let is = wants-removed c.self.view_is c.args.i c.remove-broker.new.self.items c.remove-broker.ensures.items in
    let own : want_left size c.remove-broker.result.child c.remove-broker.result.stage ≡ size + c.remove-broker.result.child = ap (want_left size c.remove-broker.result.child) c.in-Rising.is in
    want-shorter c.ask_on.result c.args.self.now c.ask_on.new.self (remove c.args.self.now.wants c.args.i) (size + c.remove-broker.result.child)
    (subst (λ u. OnOk c.ask_on.result (AreAlike u c.ask_on.new.self)) is c.ask_on.ensures.alike)
    (subst (λ (u : ContentValue). OnOk c.ask_on.result (sum_by offers_left c.ask_on.new.self.offers ≡ sum_by offers_left u.offers)) is c.ask_on.ensures.left)
    (subst (λ (u : ContentValue). OnOk c.ask_on.result (sum_by (wants_left (size_of u)) c.ask_on.new.self.wants < sum_by (wants_left (size_of u)) u.wants + (size_of u + c.remove-broker.result.child))) is c.ask_on.ensures.shorter)
    (ap (λ n. sum_by (wants_left size) (remove c.args.self.now.wants c.args.i) + n) (sym own) ∙ want-left-out c.args.self.now c.requires.sound c.args.i c.requires.within c.remove-broker.result read size)

pub returns-in-Rising-clause-waits : goal.returns-in-Rising-clause-waits
returns-in-Rising-clause-waits c =
    let read = subst (λ (v : ContentValue). c.remove-broker.result ≡ get_or v.wants c.args.i c.remove-broker.result) c.self.view_is c.remove-broker.ensures.value in
    let is = wants-removed c.self.view_is c.args.i c.remove-broker.new.self.items c.remove-broker.ensures.items in
    ok-then c.ask_on.result _ _ c.ask_on.ensures.waits (λ made h. λ other.
    taken-loads other c.args.self.now.wants c.args.i c.remove-broker.result c.requires.within (read-at c.args.self.now.wants c.args.i c.remove-broker.result c.requires.within read c.remove-broker.result)
    ∙ ap (λ (v : ContentValue). loads_of other v.wants + cond (same_command c.remove-broker.result.by other) 1 0) (sym is) ∙ h other)

pub returns-in-Rising-clause-follows : goal.returns-in-Rising-clause-follows
returns-in-Rising-clause-follows c =
    let w = c.remove-broker.result in
    let read = subst (λ (v : ContentValue). c.remove-broker.result ≡ get_or v.wants c.args.i c.remove-broker.result) c.self.view_is c.remove-broker.ensures.value in
    let is = wants-removed c.self.view_is c.args.i c.remove-broker.new.self.items c.remove-broker.ensures.items in
    ok-then c.ask_on.result _ _ c.ask_on.ensures.follows (λ made f. λ set log a.
    let want = subst (λ (s : WantStage). WantAgrees set log c.args.self.now.fanout (want_of w.by w.broker w.child w.reference s)) c.in-Rising.is (want-agrees c.args.self.now c.requires.sound c.args.i c.requires.within c.remove-broker.result read set log a) in
    taken-want-follows c.args.self.now c.ask_on.new.self c.args.i made.events set log
    (subst (λ (u : ContentValue). Follows u c.ask_on.new.self made.events set log) is
    (f set log (subst (λ u. AgreesContent u set log) (sym is) (taken-want-agrees c.args.self.now set log a c.args.i))
    (subst (λ (v : ContentValue). WantAgrees set log v.fanout (want_of w.by w.broker w.child w.reference wanted.Rising)) (sym c.self.view_is) want))))

pub returns-in-Rising-clause-told : goal.returns-in-Rising-clause-told
returns-in-Rising-clause-told c =
    let w = c.remove-broker.result in
    let read = subst (λ (v : ContentValue). c.remove-broker.result ≡ get_or v.wants c.args.i c.remove-broker.result) c.self.view_is c.remove-broker.ensures.value in
    let is = wants-removed c.self.view_is c.args.i c.remove-broker.new.self.items c.remove-broker.ensures.items in
    ok-then c.ask_on.result _ _ c.ask_on.ensures.told (λ made f. λ set log a.
    let want = subst (λ (s : WantStage). WantAgrees set log c.args.self.now.fanout (want_of w.by w.broker w.child w.reference s)) c.in-Rising.is (want-agrees c.args.self.now c.requires.sound c.args.i c.requires.within c.remove-broker.result read set log a) in
    f set log (subst (λ u. AgreesContent u set log) (sym is) (taken-want-agrees c.args.self.now set log a c.args.i))
    (subst (λ (v : ContentValue). WantAgrees set log v.fanout (want_of w.by w.broker w.child w.reference wanted.Rising)) (sym c.self.view_is) want))

pub returns-in-Falling-clause-shorter : goal.returns-in-Falling-clause-shorter
returns-in-Falling-clause-shorter c =
    let size = size_of c.args.self.now in
    let read = subst (λ (v : ContentValue). c.remove-broker.result ≡ get_or v.wants c.args.i c.remove-broker.result) c.self.view_is c.remove-broker.ensures.value in
    let is = wants-removed c.self.view_is c.args.i c.remove-broker.new.self.items c.remove-broker.ensures.items in
    let on = c.requires.on c.remove-broker.result in
    let falls = subst (λ s. is_wanted_so c.args.self.now.fanout on.0 c.args.to c.remove-broker.result.child s ≡ true) c.in-Falling.is (subst (λ (o : Want). is_want_on c.args.self.now.fanout on.0 c.args.to o ≡ true) (sym read) on.1) in
    let to = falls-to c.args.self.now.fanout on.0 c.args.to c.remove-broker.result.child falls in
    let own : want_left size c.remove-broker.result.child c.remove-broker.result.stage ≡ size - c.args.to = ap (want_left size c.remove-broker.result.child) c.in-Falling.is ∙ ap (λ b. size - b) (sym to) in
    want-shorter c.hand_down.result c.args.self.now c.hand_down.new.self (remove c.args.self.now.wants c.args.i) (size - c.args.to)
    (subst (λ u. OnOk c.hand_down.result (AreAlike u c.hand_down.new.self)) is c.hand_down.ensures.alike)
    (subst (λ (u : ContentValue). OnOk c.hand_down.result (sum_by offers_left c.hand_down.new.self.offers ≡ sum_by offers_left u.offers)) is c.hand_down.ensures.left)
    (subst (λ (u : ContentValue). OnOk c.hand_down.result (sum_by (wants_left (size_of u)) c.hand_down.new.self.wants < sum_by (wants_left (size_of u)) u.wants + (size_of u - c.args.to))) is c.hand_down.ensures.shorter)
    (ap (λ n. sum_by (wants_left size) (remove c.args.self.now.wants c.args.i) + n) (sym own) ∙ want-left-out c.args.self.now c.requires.sound c.args.i c.requires.within c.remove-broker.result read size)

pub returns-in-Falling-clause-waits : goal.returns-in-Falling-clause-waits
returns-in-Falling-clause-waits c =
    let read = subst (λ (v : ContentValue). c.remove-broker.result ≡ get_or v.wants c.args.i c.remove-broker.result) c.self.view_is c.remove-broker.ensures.value in
    let is = wants-removed c.self.view_is c.args.i c.remove-broker.new.self.items c.remove-broker.ensures.items in
    ok-then c.hand_down.result _ _ c.hand_down.ensures.waits (λ made h. λ other.
    taken-loads other c.args.self.now.wants c.args.i c.remove-broker.result c.requires.within (read-at c.args.self.now.wants c.args.i c.remove-broker.result c.requires.within read c.remove-broker.result)
    ∙ ap (λ (v : ContentValue). loads_of other v.wants + cond (same_command c.remove-broker.result.by other) 1 0) (sym is) ∙ h other)

pub returns-in-Falling-clause-follows : goal.returns-in-Falling-clause-follows
returns-in-Falling-clause-follows c =
    let w = c.remove-broker.result in
    let read = subst (λ (v : ContentValue). c.remove-broker.result ≡ get_or v.wants c.args.i c.remove-broker.result) c.self.view_is c.remove-broker.ensures.value in
    let is = wants-removed c.self.view_is c.args.i c.remove-broker.new.self.items c.remove-broker.ensures.items in
    let on = c.requires.on c.remove-broker.result in
    let falls = subst (λ s. is_wanted_so c.args.self.now.fanout on.0 c.args.to c.remove-broker.result.child s ≡ true) c.in-Falling.is (subst (λ (o : Want). is_want_on c.args.self.now.fanout on.0 c.args.to o ≡ true) (sym read) on.1) in
    let to = falls-to c.args.self.now.fanout on.0 c.args.to c.remove-broker.result.child falls in
    ok-then c.hand_down.result _ _ c.hand_down.ensures.follows (λ made f. λ set log a.
    let want = subst (λ (s : WantStage). WantAgrees set log c.args.self.now.fanout (want_of w.by w.broker w.child w.reference s)) c.in-Falling.is (want-agrees c.args.self.now c.requires.sound c.args.i c.requires.within c.remove-broker.result read set log a) in
    let here = subst (λ b. WantAgrees set log c.args.self.now.fanout (want_of w.by w.broker b w.reference (wanted.Falling c.in-Falling.gift))) (sym to) want in
    taken-want-follows c.args.self.now c.hand_down.new.self c.args.i made.events set log
    (subst (λ (u : ContentValue). Follows u c.hand_down.new.self made.events set log) is
    (f set log (subst (λ u. AgreesContent u set log) (sym is) (taken-want-agrees c.args.self.now set log a c.args.i))
    (subst (λ (v : ContentValue). WantAgrees set log v.fanout (want_of w.by w.broker c.args.to w.reference (wanted.Falling c.in-Falling.gift))) (sym c.self.view_is) here))))

pub returns-in-Falling-clause-told : goal.returns-in-Falling-clause-told
returns-in-Falling-clause-told c =
    let w = c.remove-broker.result in
    let read = subst (λ (v : ContentValue). c.remove-broker.result ≡ get_or v.wants c.args.i c.remove-broker.result) c.self.view_is c.remove-broker.ensures.value in
    let is = wants-removed c.self.view_is c.args.i c.remove-broker.new.self.items c.remove-broker.ensures.items in
    let on = c.requires.on c.remove-broker.result in
    let falls = subst (λ s. is_wanted_so c.args.self.now.fanout on.0 c.args.to c.remove-broker.result.child s ≡ true) c.in-Falling.is (subst (λ (o : Want). is_want_on c.args.self.now.fanout on.0 c.args.to o ≡ true) (sym read) on.1) in
    let to = falls-to c.args.self.now.fanout on.0 c.args.to c.remove-broker.result.child falls in
    ok-then c.hand_down.result _ _ c.hand_down.ensures.told (λ made f. λ set log a.
    let want = subst (λ (s : WantStage). WantAgrees set log c.args.self.now.fanout (want_of w.by w.broker w.child w.reference s)) c.in-Falling.is (want-agrees c.args.self.now c.requires.sound c.args.i c.requires.within c.remove-broker.result read set log a) in
    let here = subst (λ b. WantAgrees set log c.args.self.now.fanout (want_of w.by w.broker b w.reference (wanted.Falling c.in-Falling.gift))) (sym to) want in
    f set log (subst (λ u. AgreesContent u set log) (sym is) (taken-want-agrees c.args.self.now set log a c.args.i))
    (subst (λ (v : ContentValue). WantAgrees set log v.fanout (want_of w.by w.broker c.args.to w.reference (wanted.Falling c.in-Falling.gift))) (sym c.self.view_is) here))

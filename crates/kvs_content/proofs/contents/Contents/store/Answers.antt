use Rattle.std.proofs.Common.{◌∙◌, ◌<◌, inl, inr, ◌++◌, map, ap, refl, subst, sym}
use Rattle.std.specs.Prelude.{IsTrue}
use Rattle.std.specs.List.{AllByRecursion as Each}
use Rattle.fl_digest.specs.Reference.{reference_of}
use Rattle.kvs_rules.specs.Log.{Happened}
use Rattle.kvs_rules.specs.Brokers.{has_got}
use Rattle.kvs_content.specs.Node.{GetsOrDrops}
use Rattle.kvs_content.specs.Agrees.{Follows, IsKept, IsNoted, IsRuled}
use Rattle.kvs_content.specs.Sound.{IsSoundContent}
use Rattle.kvs_content.specs.Value.{ContentValue, node_at, size_of}
use Rattle.kvs_content.proofs.Following.{follows-then}
use Rattle.kvs_content.proofs.Keeping.{dirty-now, kept-sound, node-read}
use Rattle.kvs_content.proofs.Nothing.{with-nothing}
use Rattle.kvs_content.proofs.Receiving.{clean-got}
use Rattle.kvs_content.proofs.Refusing.{noted, noted-follows, noted-then, noted-there}
use Rattle.kvs_content.proofs.Sounding.{lighter-sound}
use Rattle.kvs_content.proofs.contents.Contents.store.Goals as goal

pub returns-then-taken-clause-follows : goal.returns-then-taken-clause-follows
returns-then-taken-clause-follows c = λ set log a content.
    let named = c.of-reference.ensures ∙ ap (reference_of c.self.inside.hash) c.as_slice.ensures ∙ ap (λ (v : ContentValue). reference_of v.hash c.args.bytes) c.self.view_is ∙ ap (λ h. reference_of h c.args.bytes) (sym a.hash) in
    c.in_ok-taken.ensures.follows set log a (named, content)

pub returns-then-taken-clause-kept : goal.returns-then-taken-clause-kept
returns-then-taken-clause-kept c = λ set log a content.
    let named = c.of-reference.ensures ∙ ap (reference_of c.self.inside.hash) c.as_slice.ensures ∙ ap (λ (v : ContentValue). reference_of v.hash c.args.bytes) c.self.view_is ∙ ap (λ h. reference_of h c.args.bytes) (sym a.hash) in
    let ruled = subst (IsRuled set (log ++ map Happened c.in_ok-taken.taken.events) c.of-reference.result) c.if-taken.true (c.in_ok-taken.ensures.told set log a (named, content)) in
    inr (inl (subst (λ b. IsTrue (has_got (log ++ map Happened c.in_ok-taken.taken.events) b c.of-reference.result)) (sym c.if-broker-eq0.true) ruled))

pub returns-then-broker-eq0-clause-sound : goal.returns-then-broker-eq0-clause-sound
returns-then-broker-eq0-clause-sound c =
    let done = c.in_ok-taken.ensures in
    let some = subst (λ v. 0 < size_of v) (sym c.self-then-broker-eq0.view_is) done.placed.some in
    let read = node-read c.self-then-broker-eq0.inside.nodes.items 0 c.index_mut.result.now some c.index_mut.ensures.value in
    let is = noted-then c.self-then-broker-eq0.view_is c.of-reference.result c.index_mut.result.now c.note.new.self read c.in_ok-note.ensures in
    subst IsSoundContent (sym is) (kept-sound c.take_up.new.self 0 done.placed.some (noted c.of-reference.result (node_at c.take_up.new.self 0)) refl (λ x found e. e)
    (lighter-sound c.args.self.now c.take_up.new.self done.alike.size c.requires.sound done.placed done.lighter))

pub returns-then-broker-eq0-clause-made : goal.returns-then-broker-eq0-clause-made
returns-then-broker-eq0-clause-made c = subst (λ b. Each (GetsOrDrops b) c.in_ok-taken.taken.events) (sym c.if-broker-eq0.true) c.in_ok-taken.ensures.made

pub returns-then-broker-eq0-clause-follows : goal.returns-then-broker-eq0-clause-follows
returns-then-broker-eq0-clause-follows c = λ set log a content.
    let done = c.in_ok-taken.ensures in
    let named = c.of-reference.ensures ∙ ap (reference_of c.self.inside.hash) c.as_slice.ensures ∙ ap (λ (v : ContentValue). reference_of v.hash c.args.bytes) c.self.view_is ∙ ap (λ h. reference_of h c.args.bytes) (sym a.hash) in
    let ruled = subst (IsRuled set (log ++ map Happened c.in_ok-taken.taken.events) c.of-reference.result) c.if-taken.false (done.told set log a (named, content)) in
    let first = done.follows set log a (named, content) in
    let some = subst (λ v. 0 < size_of v) (sym c.self-then-broker-eq0.view_is) done.placed.some in
    let read = node-read c.self-then-broker-eq0.inside.nodes.items 0 c.index_mut.result.now some c.index_mut.ensures.value in
    let is = noted-then c.self-then-broker-eq0.view_is c.of-reference.result c.index_mut.result.now c.note.new.self read c.in_ok-note.ensures in
    subst (λ (w : ContentValue). Follows c.args.self.now w c.in_ok-taken.taken.events set log) (sym is)
    (follows-then c.args.self.now c.take_up.new.self _ c.in_ok-taken.taken.events set log done.alike.size first
    (noted-follows c.take_up.new.self set (log ++ map Happened c.in_ok-taken.taken.events) first.agrees 0 done.placed.some c.of-reference.result ruled _ refl
    (dirty-now c.take_up.new.self 0 done.placed.some (noted c.of-reference.result (node_at c.take_up.new.self 0)) refl)))

pub returns-then-broker-eq0-clause-kept : goal.returns-then-broker-eq0-clause-kept
returns-then-broker-eq0-clause-kept c = λ set log a content.
    let named = c.of-reference.ensures ∙ ap (reference_of c.self.inside.hash) c.as_slice.ensures ∙ ap (λ (v : ContentValue). reference_of v.hash c.args.bytes) c.self.view_is ∙ ap (λ h. reference_of h c.args.bytes) (sym a.hash) in
    inr (inr (subst (IsRuled set (log ++ map Happened c.in_ok-taken.taken.events) c.of-reference.result) c.if-taken.false (c.in_ok-taken.ensures.told set log a (named, content))))

pub returns-then-taken-clause-noted : goal.returns-then-taken-clause-noted
returns-then-taken-clause-noted c = λ set log a content here.
    let named = c.of-reference.ensures ∙ ap (reference_of c.self.inside.hash) c.as_slice.ensures ∙ ap (λ (v : ContentValue). reference_of v.hash c.args.bytes) c.self.view_is ∙ ap (λ h. reference_of h c.args.bytes) (sym a.hash) in
    inl (subst (IsRuled set (log ++ map Happened c.in_ok-taken.taken.events) c.of-reference.result) c.if-taken.true (c.in_ok-taken.ensures.told set log a (named, content)))

pub returns-then-broker-eq0-clause-noted : goal.returns-then-broker-eq0-clause-noted
returns-then-broker-eq0-clause-noted c = λ set log a content here.
    let done = c.in_ok-taken.ensures in
    let some = subst (λ v. 0 < size_of v) (sym c.self-then-broker-eq0.view_is) done.placed.some in
    let read = node-read c.self-then-broker-eq0.inside.nodes.items 0 c.index_mut.result.now some c.index_mut.ensures.value in
    let is = noted-then c.self-then-broker-eq0.view_is c.of-reference.result c.index_mut.result.now c.note.new.self read c.in_ok-note.ensures in
    inr (subst (λ (w : ContentValue). IsNoted w 0 c.of-reference.result) (sym is) (noted-there c.take_up.new.self done.placed.some c.of-reference.result))

pub returns-clause-noted : goal.returns-clause-noted
returns-clause-noted c = λ set log a content here. absurd (c.if-broker-eq0.false here)

pub returns-clause-kept : goal.returns-clause-kept
returns-clause-kept c = λ set log a content.
    with-nothing (λ ms. IsKept c.offer.new.self set ms c.args.broker c.of-reference.result) log c.new-events.result c.new-events.ensures
    (elim c.in_ok-offer.ensures.has [
      | inl clean ↦ inr (inl (clean-got c.args.self.now set log a c.args.broker c.requires.within c.of-reference.result clean))
      | inr dirty ↦ inl dirty
    ])

pub returns-clause-follows : goal.returns-clause-follows
returns-clause-follows c = λ set log a content.
    let named = c.of-reference.ensures ∙ ap (reference_of c.self.inside.hash) c.as_slice.ensures ∙ ap (λ (v : ContentValue). reference_of v.hash c.args.bytes) c.self.view_is ∙ ap (λ h. reference_of h c.args.bytes) (sym a.hash) in
    subst (λ es. Follows c.args.self.now c.offer.new.self es set log) (sym c.new-events.ensures) (c.in_ok-offer.ensures.follows set log a (named, content))

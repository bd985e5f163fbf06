use Rattle.std.proofs.Common.{refl, ◌≡◌, ◌∙◌, true, false, ap, sym, subst, ◌<◌, set as set₁}
use Rattle.kvs_space.specs.Space.{has_news}
use Rattle.kvs_keys.specs.Steps.{is_announced, messages}
use Rattle.kvs_keys.specs.Agrees.{Agrees}
use Rattle.kvs_space.specs.Sound.{IsSoundSpace}
use Rattle.kvs_space.specs.Told.{hearing}
use Rattle.kvs_keys.specs.View.{value_of}
use Rattle.kvs_space.proofs.Finding.{found-within, found-passes, found-none}
use Rattle.kvs_keys.proofs.Delivering.{coming, delivered-sound, told-legal, told-agrees, fewer-announced, fewer-news, hearing-keys, hearing-made}
use Rattle.kvs_keys.specs.Posted.{posted}
use Rattle.kvs_keys.proofs.Queueing.{heard-order}
use Rattle.kvs_keys.specs.Histories.{landings_in}
use Rattle.kvs_keys.proofs.Extending.{heard-history, hearing-inside, of-old, Inside}
use Rattle.kvs_space.proofs.Rolls.{roll-told}
use Rattle.kvs_keys.proofs.service.Keys.deliver_number.Goals as goal

pub unreachable-requires : goal.unreachable-requires
unreachable-requires c = found-none (has_news c.args.to) c.self.inside.spaces.items c.in-None.ensures (coming (value_of c.self.inside) c.args.from c.args.to (subst (λ v. is_announced v c.args.from c.args.to ≡ true) (sym c.self.view_is) c.requires.can)).some

pub deliver-requires-clause-some : goal.deliver-requires-clause-some
deliver-requires-clause-some c = ap (has_news c.args.to) c.index_mut-space.ensures.value ∙ found-passes (has_news c.args.to) c.self.inside.spaces.items c.in-Some.k c.index_mut-space.result.now c.in-Some.ensures

pub let_rest-requires-clause-roll : goal.let_rest-requires-clause-roll
let_rest-requires-clause-roll c =
    let within = found-within (has_news c.args.to) c.self.inside.spaces.items c.in-Some.k c.in-Some.ensures in
    roll-told (c.self.invariant.1 (ap (λ v. v.spent) c.self.view_is ∙ c.requires.ready)) c.in-Some.k c.deliver.new.self c.index_mut-space.result.now within c.index_mut-space.ensures.value c.in_ok-before-in-Some.ensures.heard.name c.args.to
    (ap (has_news c.args.to) c.index_mut-space.ensures.value ∙ found-passes (has_news c.args.to) c.self.inside.spaces.items c.in-Some.k c.index_mut-space.result.now c.in-Some.ensures)

pub invariant_of-self-in-Some : goal.invariant_of-self-in-Some
invariant_of-self-in-Some c = (
  λ _.
      let s = c.self.invariant.0 (ap (λ v. v.spent) c.self.view_is ∙ c.requires.ready) in
      let on = coming (value_of c.self.inside) c.args.from c.args.to (subst (λ v. is_announced v c.args.from c.args.to ≡ true) (sym c.self.view_is) c.requires.can) in
      let within = found-within (has_news c.args.to) c.self.inside.spaces.items c.in-Some.k c.in-Some.ensures in
      delivered-sound s c.in-Some.k within c.index_mut-space.result.now c.deliver.new.self c.index_mut-space.ensures.value c.args.to c.in_ok-before-in-Some.field-0.before c.in_ok-before-in-Some.field-0.after on.above on.within c.in_ok-before-in-Some.ensures.heard
      (c.in_ok-before-in-Some.ensures.sound c.self.inside.grant (subst (IsSoundSpace c.self.inside.fanout c.self.inside.grant) (sym c.index_mut-space.ensures.value) (s.spaces c.in-Some.k c.index_mut-space.result.now within))) false,
  λ _. c.let_rest.ensures,
)

pub returns-clause-makes : goal.returns-clause-makes
returns-clause-makes c =
    let s = c.self.invariant.0 (ap (λ v. v.spent) c.self.view_is ∙ c.requires.ready) in
    let on = coming (value_of c.self.inside) c.args.from c.args.to (subst (λ v. is_announced v c.args.from c.args.to ≡ true) (sym c.self.view_is) c.requires.can) in
    let within = found-within (has_news c.args.to) c.self.inside.spaces.items c.in-Some.k c.in-Some.ensures in
    let heard = c.in_ok-before-in-Some.ensures.heard in
    let v = value_of c.self.inside in
    record {
      ready = refl;
      size = ap (λ v. v.size) c.self.view_is;
      order =
          heard-order s c.in-Some.k within c.index_mut-space.result.now c.deliver.new.self c.index_mut-space.ensures.value heard.name heard.merger c.args.to _ c.in_ok-before-in-Some.field-0.before c.in_ok-before-in-Some.field-0.after
          c.in_ok-events-in-Some.events c.in_ok-events-in-Some.ensures ∙ ap posted c.self.view_is;
      extends = record {
        history = of-old (landings_in c.in_ok-events-in-Some.events) c.self.view_is (heard-history s c.in-Some.k within c.index_mut-space.result.now c.deliver.new.self c.index_mut-space.ensures.value heard.name heard.history c.args.to _ c.in_ok-before-in-Some.field-0.before c.in_ok-before-in-Some.field-0.after c.in_ok-events-in-Some.events c.in_ok-events-in-Some.ensures);
        inside = subst Inside (sym c.in_ok-events-in-Some.ensures) (hearing-inside c.args.to _ c.in_ok-before-in-Some.field-0.before c.in_ok-before-in-Some.field-0.after);
        grant = ap (λ v. v.grant) c.self.view_is;
        fanout = ap (λ v. v.fanout) c.self.view_is;
      };
      does =
          subst (λ w. messages (record { spent = false; size = v.size; fanout = v.fanout; grant = v.grant; spaces = set₁ v.spaces c.in-Some.k c.deliver.new.self; rows = v.rows }) c.args.from c.args.to < messages w c.args.from c.args.to) c.self.view_is
          (fewer-announced v c.args.from c.args.to false (set₁ v.spaces c.in-Some.k c.deliver.new.self) on.sender
          (fewer-news v.spaces c.in-Some.k within c.index_mut-space.result.now c.deliver.new.self c.index_mut-space.ensures.value c.args.to c.in_ok-before-in-Some.ensures.shorter));
      own = hearing-keys c.args.to c.in_ok-before-in-Some.field-0.before c.in_ok-before-in-Some.field-0.after c.name.result.now c.in_ok-events-in-Some.events c.in_ok-events-in-Some.ensures;
      made = λ set log a. hearing-made log c.args.from c.args.to c.in_ok-before-in-Some.field-0.before c.in_ok-before-in-Some.field-0.after c.name.result.now c.in_ok-events-in-Some.events c.in_ok-events-in-Some.ensures;
      legal = λ set log a.
          let b = subst (λ v. Agrees v set log) (sym c.self.view_is) a in
          told-legal s c.in-Some.k within c.index_mut-space.result.now c.deliver.new.self c.index_mut-space.ensures.value c.args.to c.in_ok-before-in-Some.field-0.before c.in_ok-before-in-Some.field-0.after on.above on.within c.in_ok-before-in-Some.ensures.heard b
          c.in_ok-events-in-Some.events (c.in_ok-events-in-Some.ensures ∙ ap (λ n. hearing c.args.to n c.in_ok-before-in-Some.field-0.before c.in_ok-before-in-Some.field-0.after) c.name.ensures);
      agrees = λ set log a.
          let b = subst (λ v. Agrees v set log) (sym c.self.view_is) a in
          told-agrees s c.in-Some.k within c.index_mut-space.result.now c.deliver.new.self c.index_mut-space.ensures.value c.args.to c.in_ok-before-in-Some.field-0.before c.in_ok-before-in-Some.field-0.after on.above on.within c.in_ok-before-in-Some.ensures.heard b
          c.in_ok-events-in-Some.events (c.in_ok-events-in-Some.ensures ∙ ap (λ n. hearing c.args.to n c.in_ok-before-in-Some.field-0.before c.in_ok-before-in-Some.field-0.after) c.name.ensures);
    }

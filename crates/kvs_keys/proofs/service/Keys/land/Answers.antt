use Rattle.std.proofs.Common.{refl, ◌≡◌, ◌∙◌, ◌++◌, true, false, map, ap, sym, subst, set as set₁, ◌≤◌, length, arith}
use Rattle.std.specs.List.{AllByRecursion as Each}
use Rattle.kvs_rules.specs.Log.{Happened}
use Rattle.kvs_rules.specs.Answers.{IsLegalAfter}
use Rattle.kvs_rules.specs.declared.events.KvsStep.TheVariants as kvs
use Rattle.kvs_keys.specs.Agrees.{Agrees}
use Rattle.kvs_keys.specs.Makes.{IsOfKeys}
use Rattle.kvs_space.specs.Rulings.{IsLanding, IsRefusing, IsRuled}
use Rattle.kvs_space.specs.Space.{is_ready}
use Rattle.kvs_space.specs.Sound.{IsSoundSpace}
use Rattle.kvs_keys.specs.Steps.{can_step}
use Rattle.kvs_space.specs.Told.{landing, denial}
use Rattle.kvs_keys.specs.View.{value_of}
use Rattle.kvs_keys.proofs.Landing.{landing-there, landing-made, denial-made, landing-sound, landing-agrees, landing-is-legal, denial-sound, denial-agrees, denial-is-legal}
use Rattle.kvs_keys.specs.Posted.{posted}
use Rattle.kvs_keys.proofs.Queueing.{landed-order, denied-order}
use Rattle.kvs_keys.specs.Histories.{landings_in}
use Rattle.kvs_keys.proofs.Extending.{denied-history, landed-history, landed-inside, of-old, Inside}
use Rattle.kvs_space.proofs.Rolls.{roll-ruled}
use Rattle.kvs_keys.proofs.service.Keys.land.Goals as goal

pub rule-requires-clause-sound : goal.rule-requires-clause-sound
rule-requires-clause-sound c =
    let v = value_of c.self.inside in
    let s = c.self.invariant.0 (ap (λ v. v.spent) c.self.view_is ∙ c.requires.ready) in
    let there = landing-there c.self.inside.spaces.items c.args.number (subst (λ v. can_step v (kvs.Land c.args.number) ≡ true) (sym c.self.view_is) c.requires.can) in
    (c.self.inside.grant, (subst (IsSoundSpace c.self.inside.fanout c.self.inside.grant) (sym c.index_mut-space.ensures.value) (s.spaces c.args.number c.index_mut-space.result.now there.0)))

pub rule-requires-clause-ready : goal.rule-requires-clause-ready
rule-requires-clause-ready c =
    let v = value_of c.self.inside in
    let s = c.self.invariant.0 (ap (λ v. v.spent) c.self.view_is ∙ c.requires.ready) in
    let there = landing-there c.self.inside.spaces.items c.args.number (subst (λ v. can_step v (kvs.Land c.args.number) ≡ true) (sym c.self.view_is) c.requires.can) in
    ap is_ready c.index_mut-space.ensures.value ∙ there.1 c.index_mut-space.result.now

pub invariant_of-self-in-Landed : goal.invariant_of-self-in-Landed
invariant_of-self-in-Landed c = (
  λ _.
      let v = value_of c.self.inside in
      let s = c.self.invariant.0 (ap (λ v. v.spent) c.self.view_is ∙ c.requires.ready) in
      let there = landing-there c.self.inside.spaces.items c.args.number (subst (λ v. can_step v (kvs.Land c.args.number) ≡ true) (sym c.self.view_is) c.requires.can) in
      let ruled : IsLanding c.in-Landed.root c.in-Landed.groups c.index_mut-space.result.now c.rule.new.self = subst (λ r. IsRuled r c.index_mut-space.result.now c.rule.new.self) c.in-Landed.is c.in_ok-root.ensures.ruled in
      let name : c.name.result.now ≡ c.index_mut-space.result.now.name = c.name.ensures ∙ ruled.name in
      let told = c.in_ok-events-in-Landed.ensures ∙ ap (λ n. landing n c.in-Landed.root c.in-Landed.groups) name in
      landing-sound s c.args.number there.0 c.index_mut-space.result.now c.rule.new.self c.index_mut-space.ensures.value c.in-Landed.root c.in-Landed.groups ruled c.settle.new.rows.items c.settle.ensures (c.in_ok-root.ensures.sound c.self.inside.grant (subst (IsSoundSpace c.self.inside.fanout c.self.inside.grant) (sym c.index_mut-space.ensures.value) (s.spaces c.args.number c.index_mut-space.result.now there.0))) false,
  λ _.
      let there = landing-there c.self.inside.spaces.items c.args.number (subst (λ v. can_step v (kvs.Land c.args.number) ≡ true) (sym c.self.view_is) c.requires.can) in
      let old = c.index_mut-space.result.now in
      roll-ruled (c.self.invariant.1 (ap (λ v. v.spent) c.self.view_is ∙ c.requires.ready)) c.args.number c.rule.new.self old there.0 c.index_mut-space.ensures.value (subst (λ r. IsRuled r old c.rule.new.self) c.in-Landed.is c.in_ok-root.ensures.ruled).name (ap is_ready c.index_mut-space.ensures.value ∙ there.1 old),
)

pub invariant_of-self-in-Denied : goal.invariant_of-self-in-Denied
invariant_of-self-in-Denied c = (
  λ _.
      let v = value_of c.self.inside in
      let s = c.self.invariant.0 (ap (λ v. v.spent) c.self.view_is ∙ c.requires.ready) in
      let there = landing-there c.self.inside.spaces.items c.args.number (subst (λ v. can_step v (kvs.Land c.args.number) ≡ true) (sym c.self.view_is) c.requires.can) in
      let ruled : IsRefusing c.in-Denied.group c.in-Denied.refusal c.index_mut-space.result.now c.rule.new.self = subst (λ r. IsRuled r c.index_mut-space.result.now c.rule.new.self) c.in-Denied.is c.in_ok-root.ensures.ruled in
      let name : c.name-in-Denied.result.now ≡ c.index_mut-space.result.now.name = c.name-in-Denied.ensures ∙ ruled.name in
      let told = c.in_ok-events-in-Denied.ensures ∙ ap (λ n. denial n c.in-Denied.group c.in-Denied.refusal) name in
      denial-sound s c.args.number there.0 c.index_mut-space.result.now c.rule.new.self c.index_mut-space.ensures.value c.in-Denied.group c.in-Denied.refusal ruled c.refuse.new.rows.items c.refuse.ensures (c.in_ok-root.ensures.sound c.self.inside.grant (subst (IsSoundSpace c.self.inside.fanout c.self.inside.grant) (sym c.index_mut-space.ensures.value) (s.spaces c.args.number c.index_mut-space.result.now there.0))) false,
  λ _.
      let there = landing-there c.self.inside.spaces.items c.args.number (subst (λ v. can_step v (kvs.Land c.args.number) ≡ true) (sym c.self.view_is) c.requires.can) in
      let old = c.index_mut-space.result.now in
      roll-ruled (c.self.invariant.1 (ap (λ v. v.spent) c.self.view_is ∙ c.requires.ready)) c.args.number c.rule.new.self old there.0 c.index_mut-space.ensures.value (subst (λ r. IsRuled r old c.rule.new.self) c.in-Denied.is c.in_ok-root.ensures.ruled).name (ap is_ready c.index_mut-space.ensures.value ∙ there.1 old),
)

pub returns-in_ok-events-in-Landed-clause-makes : goal.returns-in_ok-events-in-Landed-clause-makes
returns-in_ok-events-in-Landed-clause-makes c =
    let v = value_of c.self.inside in
    let s = c.self.invariant.0 (ap (λ v. v.spent) c.self.view_is ∙ c.requires.ready) in
    let there = landing-there c.self.inside.spaces.items c.args.number (subst (λ v. can_step v (kvs.Land c.args.number) ≡ true) (sym c.self.view_is) c.requires.can) in
    let ruled : IsLanding c.in-Landed.root c.in-Landed.groups c.index_mut-space.result.now c.rule.new.self = subst (λ r. IsRuled r c.index_mut-space.result.now c.rule.new.self) c.in-Landed.is c.in_ok-root.ensures.ruled in
    let name : c.name.result.now ≡ c.index_mut-space.result.now.name = c.name.ensures ∙ ruled.name in
    let told = c.in_ok-events-in-Landed.ensures ∙ ap (λ n. landing n c.in-Landed.root c.in-Landed.groups) name in
    let told = c.in_ok-events-in-Landed.ensures ∙ ap (λ n. landing n c.in-Landed.root c.in-Landed.groups) (c.name.ensures ∙ ruled.name) in
    record {
      ready = refl;
      size = ap (λ v. v.size) c.self.view_is;
      order =
          landed-order s c.args.number there.0 c.index_mut-space.result.now c.rule.new.self c.index_mut-space.ensures.value c.in-Landed.root c.in-Landed.groups ruled c.in_ok-events-in-Landed.events told ∙ ap posted c.self.view_is;
      extends = record {
        history = of-old (landings_in c.in_ok-events-in-Landed.events) c.self.view_is (landed-history s c.args.number there.0 c.index_mut-space.result.now c.rule.new.self c.index_mut-space.ensures.value c.in-Landed.root c.in-Landed.groups ruled c.in_ok-events-in-Landed.events told);
        inside = landed-inside s c.args.number there.0 c.index_mut-space.result.now c.rule.new.self c.index_mut-space.ensures.value c.in-Landed.root c.in-Landed.groups ruled c.in_ok-events-in-Landed.events told;
        grant = ap (λ v. v.grant) c.self.view_is;
        fanout = ap (λ v. v.fanout) c.self.view_is;
      };
      does = subst (λ es. 1 ≤ length es) (sym told) (omega arith);
      own = subst (Each IsOfKeys) (sym told) (tt, (tt, tt));
      made = λ set log a.
          let b = subst (λ v. Agrees v set log) (sym c.self.view_is) a in
          landing-made b c.args.number c.index_mut-space.result.now there.0 c.index_mut-space.ensures.value c.in-Landed.root c.in-Landed.groups c.in_ok-events-in-Landed.events told;
      legal = λ set log a.
          let b = subst (λ v. Agrees v set log) (sym c.self.view_is) a in
          subst (λ es. IsLegalAfter set log (map Happened es)) (sym told) (landing-is-legal s c.args.number there.0 c.index_mut-space.result.now c.rule.new.self c.index_mut-space.ensures.value c.in-Landed.root c.in-Landed.groups ruled b c.settle.new.rows.items c.settle.ensures);
      agrees = λ set log a.
          let b = subst (λ v. Agrees v set log) (sym c.self.view_is) a in
          subst (λ es. Agrees (record { spent = false; size = v.size; fanout = v.fanout; grant = v.grant; spaces = set₁ v.spaces c.args.number c.rule.new.self; rows = c.settle.new.rows.items }) set (log ++ map Happened es)) (sym told) (landing-agrees s c.args.number there.0 c.index_mut-space.result.now c.rule.new.self c.index_mut-space.ensures.value c.in-Landed.root c.in-Landed.groups ruled b c.settle.new.rows.items c.settle.ensures);
    }

pub returns-in_ok-events-in-Denied-clause-makes : goal.returns-in_ok-events-in-Denied-clause-makes
returns-in_ok-events-in-Denied-clause-makes c =
    let v = value_of c.self.inside in
    let s = c.self.invariant.0 (ap (λ v. v.spent) c.self.view_is ∙ c.requires.ready) in
    let there = landing-there c.self.inside.spaces.items c.args.number (subst (λ v. can_step v (kvs.Land c.args.number) ≡ true) (sym c.self.view_is) c.requires.can) in
    let ruled : IsRefusing c.in-Denied.group c.in-Denied.refusal c.index_mut-space.result.now c.rule.new.self = subst (λ r. IsRuled r c.index_mut-space.result.now c.rule.new.self) c.in-Denied.is c.in_ok-root.ensures.ruled in
    let name : c.name-in-Denied.result.now ≡ c.index_mut-space.result.now.name = c.name-in-Denied.ensures ∙ ruled.name in
    let told = c.in_ok-events-in-Denied.ensures ∙ ap (λ n. denial n c.in-Denied.group c.in-Denied.refusal) name in
    let told = c.in_ok-events-in-Denied.ensures ∙ ap (λ n. denial n c.in-Denied.group c.in-Denied.refusal) (c.name-in-Denied.ensures ∙ ruled.name) in
    record {
      ready = refl;
      size = ap (λ v. v.size) c.self.view_is;
      order =
          denied-order s c.args.number there.0 c.index_mut-space.result.now c.rule.new.self c.index_mut-space.ensures.value c.in-Denied.group c.in-Denied.refusal ruled c.in_ok-events-in-Denied.events told ∙ ap posted c.self.view_is;
      extends = record {
        history = of-old (landings_in c.in_ok-events-in-Denied.events) c.self.view_is (denied-history s c.args.number there.0 c.index_mut-space.result.now c.rule.new.self c.index_mut-space.ensures.value c.in-Denied.group c.in-Denied.refusal ruled c.in_ok-events-in-Denied.events told);
        inside = subst Inside (sym told) refl;
        grant = ap (λ v. v.grant) c.self.view_is;
        fanout = ap (λ v. v.fanout) c.self.view_is;
      };
      does = subst (λ es. 1 ≤ length es) (sym told) (omega arith);
      own = subst (Each IsOfKeys) (sym told) (tt, tt);
      made = λ set log a.
          let b = subst (λ v. Agrees v set log) (sym c.self.view_is) a in
          denial-made b c.args.number c.index_mut-space.result.now there.0 c.index_mut-space.ensures.value c.in-Denied.group c.in-Denied.refusal c.in_ok-events-in-Denied.events told;
      legal = λ set log a.
          let b = subst (λ v. Agrees v set log) (sym c.self.view_is) a in
          subst (λ es. IsLegalAfter set log (map Happened es)) (sym told) (denial-is-legal s c.args.number there.0 c.index_mut-space.result.now c.rule.new.self c.index_mut-space.ensures.value c.in-Denied.group c.in-Denied.refusal ruled b);
      agrees = λ set log a.
          let b = subst (λ v. Agrees v set log) (sym c.self.view_is) a in
          subst (λ es. Agrees (record { spent = false; size = v.size; fanout = v.fanout; grant = v.grant; spaces = set₁ v.spaces c.args.number c.rule.new.self; rows = c.refuse.new.rows.items }) set (log ++ map Happened es)) (sym told) (denial-agrees s c.args.number there.0 c.index_mut-space.result.now c.rule.new.self c.index_mut-space.ensures.value c.in-Denied.group c.in-Denied.refusal ruled b c.refuse.new.rows.items c.refuse.ensures);
    }

use Rattle.std.proofs.Common.{◌≡◌, ◌≢◌, ◌∙◌, ◌<◌, ◌⊎◌, inl, inr, None, true, length, arith, get_or, ap, sym, subst}
use Rattle.std.specs.List.{position}
use Rattle.std.proofs.lemmas.List.{get_or_default}
use Rattle.kvs_rules.specs.declared.events.KvsAnswer.TheVariants as answer
use Rattle.kvs_requests.specs.declared.rows.Kind.{Kind}
use Rattle.kvs_requests.specs.declared.rows.Kind.TheVariants as kind
use Rattle.kvs_requests.specs.declared.rows.Row.{Row}
use Rattle.kvs_requests.specs.declared.rows.Stage.TheVariants as stage
use Rattle.kvs_requests.specs.Stages.{is_arrived, kind_of}
use Rattle.kvs_space.specs.Space.{is_named}
use Rattle.kvs_keys.proofs.Looking.{creates}
use Rattle.kvs_keys.proofs.Seen.{told-seen}
use Rattle.kvs_keys.proofs.Taking.{arrived-ask, crowded-fits, unnamed-fits}
use Rattle.kvs_keys.proofs.service.Keys.take_up_new.Goals.{in-Create+else-count_live-lt-MOST_LIVE+in_ok-turn_away-in-Create, in-Land+in_ok-turn_away-in-Land}
use Rattle.kvs_rules.specs.declared.events.KvsStep.TheVariants as kvs
use Rattle.kvs_keys.specs.Makes.{Moves}
use Rattle.kvs_keys.proofs.Making.{silent}
use Rattle.kvs_keys.proofs.service.Keys.take_up_new.Goals as goal

pub turn_away-requires-clause-fits : goal.turn_away-requires-clause-fits
turn_away-requires-clause-fits c = λ set log a d.
    let s = c.self.invariant.0 (ap (λ v. v.spent) c.self.view_is ∙ c.requires.ready) in
    let e = sym c.self.view_is in
    let within = subst (λ v. c.args.i < length v.rows) e c.requires.within in
    let row = get_or c.self.inside.rows.items c.args.i d in
    let none = subst (λ v. (d : Row) → None ≡ position (is_named (get_or v.rows c.args.i d).namespace) v.spaces) e c.requires.new d in
    let ar = arrived-ask row (subst (λ v. (d : Row) → is_arrived (get_or v.rows c.args.i d) ≡ true) e c.requires.arrived d) in
    let create = ap (λ r. kind_of r.stage) (get_or_default c.self.inside.rows.items c.args.i d c.index.result.now within ∙ sym c.index.ensures) ∙ sym c.in-Create.ensures in
    let is = ar.is ∙ ap stage.Arrived (creates ar.asked (sym (ap kind_of ar.is) ∙ create)) in
    told-seen c.self.view_is c.args.i answer.TooMany d (λ b. crowded-fits s c.args.i within row (get_or_default c.self.inside.rows.items c.args.i d row within) none b is (let l = c.count_live.ensures in let f = c.if-count_live-lt-MOST_LIVE.false in omega arith)) a

not-create : (k : Kind) → (k ≡ kind.Land) ⊎ (k ≡ kind.Look) ⊎ (k ≡ kind.Remove) → k ≢ kind.Create
not-create k (inl e) q = let no : kind.Land ≡ kind.Create = sym e ∙ q in cc
not-create k (inr (inl e)) q = let no : kind.Look ≡ kind.Create = sym e ∙ q in cc
not-create k (inr (inr e)) q = let no : kind.Remove ≡ kind.Create = sym e ∙ q in cc

pub turn_away-requires-in-Land : goal.turn_away-requires-in-Land
turn_away-requires-in-Land c = record {
  ready = c.requires.ready;
  within = c.requires.within;
  arrived = c.requires.arrived;
  fits = λ set log a d.
      let s = c.self.invariant.0 (ap (λ v. v.spent) c.self.view_is ∙ c.requires.ready) in
      let e = sym c.self.view_is in
      let within = subst (λ v. c.args.i < length v.rows) e c.requires.within in
      let row = get_or c.self.inside.rows.items c.args.i d in
      let none = subst (λ v. (d : Row) → None ≡ position (is_named (get_or v.rows c.args.i d).namespace) v.spaces) e c.requires.new d in
      let ar = arrived-ask row (subst (λ v. (d : Row) → is_arrived (get_or v.rows c.args.i d) ≡ true) e c.requires.arrived d) in
      let same = c.kind_of.ensures ∙ ap (λ r. kind_of r.stage) (c.index.ensures ∙ get_or_default c.self.inside.rows.items c.args.i c.index.result.now d within) in
      told-seen c.self.view_is c.args.i answer.NoNamespace d (λ b. unnamed-fits s c.args.i within row (get_or_default c.self.inside.rows.items c.args.i d row within) none b ar.asked ar.is (λ q. not-create c.kind_of.result c.in-Land.is (same ∙ q))) a;
}

pub returns-clause-makes : goal.returns-clause-makes
returns-clause-makes c = silent c.new.result c.new.ensures (λ log. tt) (elim c.match-kind_of.branch [
  | in-Create+else-count_live-lt-MOST_LIVE+in_ok-turn_away-in-Create w ↦ subst (Moves (kvs.Serve 0) c.args.self.now) (sym w.self-is) w.in_ok-turn_away-in-Create.ensures.moves
  | in-Land+in_ok-turn_away-in-Land w ↦ subst (Moves (kvs.Serve 0) c.args.self.now) (sym w.self-is) w.in_ok-turn_away-in-Land.ensures.moves
])

use Rattle.std.proofs.Common.{◌≡◌, ◌∙◌, ◌<◌, Some, true, false, length, arith, get_or, ap, sym, subst}
use Rattle.std.specs.List.{position}
use Rattle.std.proofs.lemmas.List.{get_or_default}
use Rattle.kvs_rules.specs.declared.events.KvsAnswer.TheVariants as answer
use Rattle.kvs_requests.specs.declared.rows.Kind.TheVariants as kind
use Rattle.kvs_requests.specs.declared.rows.Row.{Row}
use Rattle.kvs_requests.specs.Stages.{is_arrived, kind_of}
use Rattle.kvs_space.specs.Space.{SpaceValue, is_named}
use Rattle.kvs_space.proofs.Finding.{found-within}
use Rattle.kvs_keys.proofs.Looking.{gone-fits, primary-fits}
use Rattle.kvs_requests.proofs.Tables.{any}
use Rattle.kvs_keys.proofs.Seen.{told-seen}
use Rattle.kvs_keys.proofs.Taking.{arrived-ask}
use Rattle.kvs_keys.proofs.service.Keys.take_up_removal.Goals.{then-k-eq0+in_ok-turn_away, else-k-eq0+then-removed+in_ok-turn_away-2}
use Rattle.kvs_rules.specs.declared.events.KvsStep.TheVariants as kvs
use Rattle.kvs_keys.specs.Makes.{Moves}
use Rattle.kvs_keys.proofs.Making.{silent}
use Rattle.kvs_keys.proofs.service.Keys.take_up_removal.Goals as goal

pub index-requires : goal.index-requires
index-requires c =
    let found = subst (λ v. (d : Row) → Some c.args.k ≡ position (is_named (get_or v.rows c.args.i d).namespace) v.spaces) (sym c.self.view_is) c.requires.found any in
    let f = found-within (is_named (get_or c.self.inside.rows.items c.args.i any).namespace) c.self.inside.spaces.items c.args.k found in
    omega (arith, c.self.inside.spaces.ok.0, f)

pub turn_away-requires-clause-fits : goal.turn_away-requires-clause-fits
turn_away-requires-clause-fits c = λ set log a d.
    let s = c.self.invariant.0 (ap (λ v. v.spent) c.self.view_is ∙ c.requires.ready) in
    let e = sym c.self.view_is in
    let within = subst (λ v. c.args.i < length v.rows) e c.requires.within in
    let row = get_or c.self.inside.rows.items c.args.i d in
    let found = subst (λ v. (d : Row) → Some c.args.k ≡ position (is_named (get_or v.rows c.args.i d).namespace) v.spaces) e c.requires.found d in
    let remove = subst (λ v. (d : Row) → kind_of (get_or v.rows c.args.i d).stage ≡ kind.Remove) e c.requires.asked d in
    let ar = arrived-ask row (subst (λ v. (d : Row) → is_arrived (get_or v.rows c.args.i d) ≡ true) e c.requires.arrived d) in
    told-seen c.self.view_is c.args.i answer.IsPrimary d (λ b. primary-fits s c.args.i within row (get_or_default c.self.inside.rows.items c.args.i d row within) c.args.k found ar.asked ar.is c.index.result.now c.index.ensures b remove c.if-k-eq0.true) a

pub turn_away-requires-then-removed-clause-fits : goal.turn_away-requires-then-removed-clause-fits
turn_away-requires-then-removed-clause-fits c = λ set log a d.
    let s = c.self.invariant.0 (ap (λ v. v.spent) c.self.view_is ∙ c.requires.ready) in
    let e = sym c.self.view_is in
    let within = subst (λ v. c.args.i < length v.rows) e c.requires.within in
    let row = get_or c.self.inside.rows.items c.args.i d in
    let found = subst (λ v. (d : Row) → Some c.args.k ≡ position (is_named (get_or v.rows c.args.i d).namespace) v.spaces) e c.requires.found d in
    let remove = subst (λ v. (d : Row) → kind_of (get_or v.rows c.args.i d).stage ≡ kind.Remove) e c.requires.asked d in
    let ar = arrived-ask row (subst (λ v. (d : Row) → is_arrived (get_or v.rows c.args.i d) ≡ true) e c.requires.arrived d) in
    told-seen c.self.view_is c.args.i answer.NoNamespace d (λ b. gone-fits s c.args.i within row (get_or_default c.self.inside.rows.items c.args.i d row within) c.args.k found ar.asked ar.is c.index.result.now c.index.ensures b
    (sym c.is_removed-removed.ensures ∙ c.if-removed.true) (λ q. let no : kind.Remove ≡ kind.Look = sym remove ∙ q in cc) (λ q. let no : kind.Remove ≡ kind.Create = sym remove ∙ q in cc)) a

pub remove-requires-clause-living : goal.remove-requires-clause-living
remove-requires-clause-living c =
    let found = subst (λ v. (d : Row) → Some c.args.k ≡ position (is_named (get_or v.rows c.args.i d).namespace) v.spaces) (sym c.self.view_is) c.requires.found any in
    let inside = found-within (is_named (get_or c.self.inside.rows.items c.args.i any).namespace) c.self.inside.spaces.items c.args.k found in
    subst (λ v. (d : SpaceValue) → (get_or v.spaces c.args.k d).removed ≡ false) c.self.view_is
    (λ d. ap (λ x. x.removed) (sym (c.index.ensures ∙ get_or_default c.self.inside.spaces.items c.args.k c.index.result.now d inside)) ∙ sym c.is_removed-removed.ensures ∙ c.if-removed.false)

pub returns-clause-makes : goal.returns-clause-makes
returns-clause-makes c = silent c.new.result c.new.ensures (λ log. tt) (elim c.if-k-eq0.branch [
  | then-k-eq0+in_ok-turn_away w ↦ subst (Moves (kvs.Serve 0) c.args.self.now) (sym w.self-is) w.in_ok-turn_away.ensures.moves
  | else-k-eq0+then-removed+in_ok-turn_away-2 w ↦ subst (Moves (kvs.Serve 0) c.args.self.now) (sym w.self-is) w.in_ok-turn_away-2.ensures.moves
])

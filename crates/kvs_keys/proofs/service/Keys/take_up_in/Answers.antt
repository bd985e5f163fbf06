use Rattle.std.proofs.Common.{◌≡◌, ◌∙◌, ◌<◌, Some, true, length, get_or, ap, sym, subst}
use Rattle.std.specs.List.{position}
use Rattle.std.proofs.lemmas.List.{get_or_default}
use Rattle.kvs_rules.specs.declared.events.KvsAnswer.TheVariants as answer
use Rattle.kvs_requests.specs.declared.rows.Row.{Row}
use Rattle.kvs_requests.specs.Stages.{is_arrived, kind_of}
use Rattle.kvs_space.specs.Space.{is_named}
use Rattle.kvs_keys.proofs.Heard.{no-space}
use Rattle.kvs_keys.proofs.Looking.{exists-fits}
use Rattle.kvs_keys.proofs.Moving.{found-there}
use Rattle.kvs_keys.proofs.Seen.{told-seen}
use Rattle.kvs_keys.proofs.Taking.{arrived-ask}
use Rattle.kvs_keys.proofs.service.Keys.take_up_in.Goals.{in-Land+in_ok-enter-in-Land, in-Look+in_ok-give_back-in-Look, in-Create+in_ok-turn_away-in-Create}
use Rattle.kvs_rules.specs.declared.events.KvsStep.TheVariants as kvs
use Rattle.kvs_keys.specs.Makes.{Moves}
use Rattle.kvs_keys.proofs.Making.{silent}
use Rattle.kvs_keys.proofs.service.Keys.take_up_in.Goals as goal

pub turn_away-requires-clause-fits : goal.turn_away-requires-clause-fits
turn_away-requires-clause-fits c = λ set log a d.
    let s = c.self.invariant.0 (ap (λ v. v.spent) c.self.view_is ∙ c.requires.ready) in
    let e = sym c.self.view_is in
    let within = subst (λ v. c.args.i < length v.rows) e c.requires.within in
    let row = get_or c.self.inside.rows.items c.args.i d in
    let found = subst (λ v. (d : Row) → Some c.args.k ≡ position (is_named (get_or v.rows c.args.i d).namespace) v.spaces) e c.requires.found d in
    let ar = arrived-ask row (subst (λ v. (d : Row) → is_arrived (get_or v.rows c.args.i d) ≡ true) e c.requires.arrived d) in
    let create = ap (λ r. kind_of r.stage) (get_or_default c.self.inside.rows.items c.args.i d c.index.result.now within ∙ sym c.index.ensures) ∙ sym c.in-Create.ensures in
    let inside = found-there s row.namespace c.args.k found in
    let space = get_or c.self.inside.spaces.items c.args.k no-space in
    told-seen c.self.view_is c.args.i answer.Exists d (λ b. exists-fits s c.args.i within row (get_or_default c.self.inside.rows.items c.args.i d row within) c.args.k found ar.asked ar.is space (get_or_default c.self.inside.spaces.items c.args.k no-space space inside) b create) a

pub returns-clause-makes : goal.returns-clause-makes
returns-clause-makes c = silent c.new.result c.new.ensures (λ log. tt) (elim c.match-kind_of.branch [
  | in-Land+in_ok-enter-in-Land w ↦ subst (Moves (kvs.Serve 0) c.args.self.now) (sym w.self-is) w.in_ok-enter-in-Land.ensures.moves
  | in-Look+in_ok-give_back-in-Look w ↦ subst (Moves (kvs.Serve 0) c.args.self.now) (sym w.self-is) w.in_ok-give_back-in-Look.ensures.moves
  | in-Create+in_ok-turn_away-in-Create w ↦ subst (Moves (kvs.Serve 0) c.args.self.now) (sym w.self-is) w.in_ok-turn_away-in-Create.ensures.moves
])

use Rattle.std.proofs.Common.{ap, ◌∙◌, ◌<◌, sym, subst, refl}
use Rattle.kvs_keys.specs.Posted.{posted}
use Rattle.kvs_keys.specs.Agrees.{Agrees}
use Rattle.kvs_keys.specs.Steps.{messages}
use Rattle.kvs_keys.specs.View.{value_of}
use Rattle.kvs_keys.proofs.Heads.{head-of, rows-of, agrees-of}
use Rattle.kvs_keys.proofs.Moving.{moved-sound, fewer-carried}
use Rattle.kvs_keys.proofs.Extending.{as-before}
use Rattle.kvs_keys.proofs.Turns.{carried-from, turns-moved}
use Rattle.kvs_keys.specs.Histories.{history_of}
use Rattle.kvs_keys.proofs.service.Keys.deliver_message.Goals as goal

pub invariant_of-self : goal.invariant_of-self
invariant_of-self c = (
  λ ready. let s = c.self.invariant.0 ready in moved-sound s c.self.inside.spent c.carry.new.rows.items (c.carry.ensures.placed _ _ s.placed),
  λ ready. c.self.invariant.1 ready,
)

pub returns-clause-moves : goal.returns-clause-moves
returns-clause-moves c =
    let e = c.self.view_is in
    let s = c.self.invariant.0 (ap (λ v. v.spent) e ∙ c.requires.ready) in
    let v = value_of c.self.inside in
    record {
      ready = ap (λ v. v.spent) c.self.view_is ∙ c.requires.ready;
      size = ap (λ v. v.size) c.self.view_is;
      order = ap posted c.self.view_is;
      extends = record { history = as-before (ap history_of c.self.view_is); inside = refl; grant = ap (λ v. v.grant) c.self.view_is; fanout = ap (λ v. v.fanout) c.self.view_is };
      does =
          subst (λ w. messages (record { spent = v.spent; size = v.size; fanout = v.fanout; grant = v.grant; spaces = v.spaces; rows = c.carry.new.rows.items }) c.args.from c.args.to < messages w c.args.from c.args.to) e
          (fewer-carried v c.args.from c.args.to v.spent c.carry.new.rows.items (c.carry.ensures.left v.size _ s.placed));
      agrees = λ set log a.
          let b = subst (λ v. Agrees v set log) (sym c.self.view_is) a in
          agrees-of (head-of b) (c.carry.ensures.agrees b.entered set log (value_of c.self.inside).spaces (rows-of b))
          (λ settled. turns-moved (b.turns settled) v.spaces c.carry.new.rows.items (λ space fence count f. f) (carried-from c.self.inside.fanout c.args.from c.args.to v.rows c.carry.new.rows.items c.carry.ensures.carried));
    }

use Rattle.std.proofs.Common.{inl, ◌≡◌, ◌∙◌, ◌<◌, [], Some, length, get_or, ap, sym, subst, refl}
use Rattle.kvs_keys.specs.Posted.{posted}
use Rattle.std.specs.List.{position}
use Rattle.std.proofs.lemmas.List.{get_or_default}
use Rattle.kvs_requests.specs.declared.rows.Kind.TheVariants as kind
use Rattle.kvs_requests.specs.declared.rows.Row.{Row}
use Rattle.kvs_requests.specs.declared.rows.Stage.TheVariants as stage
use Rattle.kvs_requests.specs.declared.rows.Work.TheVariants as work
use Rattle.kvs_keys.specs.Agrees.{Agrees}
use Rattle.kvs_requests.specs.Stages.{all_services, kind_of}
use Rattle.kvs_space.specs.Space.{is_named}
use Rattle.kvs_keys.proofs.Heads.{agrees-of, head-of}
use Rattle.kvs_keys.proofs.Looking.{returned-agrees, returned-fewer, returned-sound}
use Rattle.kvs_keys.proofs.Extending.{as-before}
use Rattle.kvs_keys.specs.Turns.{InTurn, is_coming_stage}
use Rattle.kvs_keys.proofs.Turns.{returning-goes, turns-taken}
use Rattle.kvs_requests.specs.Rows.{with_stage}
use Rattle.kvs_keys.specs.Histories.{history_of}
use Rattle.kvs_keys.proofs.service.Keys.give_back.Goals as goal

any : Row
any = record { by = record { actor = 0; command = 0 }; broker = 0; namespace = []; need = 0; stage = stage.Joined 0 work.Commit }

pub invariant_of-self : goal.invariant_of-self
invariant_of-self c = (
  λ ready.
      let s = c.self.invariant.0 ready in
      let e = sym c.self.view_is in
      let rows = c.self.inside.rows.items in
      let row = get_or rows c.args.i any in
      let within = subst (λ v. c.args.i < length v.rows) e c.requires.within in
      let read : row ≡ get_or rows c.args.i row = get_or_default rows c.args.i any row within in
      let found = subst (λ v. (d : Row) → Some c.args.k ≡ position (is_named (get_or v.rows c.args.i d).namespace) v.spaces) e c.requires.found any in
      let look = subst (λ v. (d : Row) → kind_of (get_or v.rows c.args.i d).stage ≡ kind.Look) e c.requires.asked any in
      let back = c.send_back.ensures in
      returned-sound s c.args.i within row read c.args.k found back.asked (back.was any) look back.stage (back.goes any) c.send_back.new.rows.items (back.others any) c.self.inside.spent,
  λ ready. c.self.invariant.1 ready,
)

pub returns-clause-moves : goal.returns-clause-moves
returns-clause-moves c =
    let s = c.self.invariant.0 (ap (λ v. v.spent) c.self.view_is ∙ c.requires.ready) in
    let e = sym c.self.view_is in
    let rows = c.self.inside.rows.items in
    let row = get_or rows c.args.i any in
    let within = subst (λ v. c.args.i < length v.rows) e c.requires.within in
    let read : row ≡ get_or rows c.args.i row = get_or_default rows c.args.i any row within in
    let found = subst (λ v. (d : Row) → Some c.args.k ≡ position (is_named (get_or v.rows c.args.i d).namespace) v.spaces) e c.requires.found any in
    let look = subst (λ v. (d : Row) → kind_of (get_or v.rows c.args.i d).stage ≡ kind.Look) e c.requires.asked any in
    let back = c.send_back.ensures in
    record {
      ready = ap (λ v. v.spent) c.self.view_is ∙ c.requires.ready;
      size = ap (λ v. v.size) c.self.view_is;
      order = ap posted c.self.view_is;
      extends = record { history = as-before (ap history_of c.self.view_is); inside = refl; grant = ap (λ v. v.grant) c.self.view_is; fanout = ap (λ v. v.fanout) c.self.view_is };
      does =
          inl (subst (λ v. all_services c.send_back.new.rows.items < all_services v.rows) c.self.view_is
          (returned-fewer s c.args.i within row read c.args.k found back.asked (back.was any) look back.stage (back.goes any) c.send_back.new.rows.items (back.others any)));
      agrees = λ set log a.
          let b = subst (λ v. Agrees v set log) e a in
          agrees-of (head-of b) (returned-agrees s c.args.i within row read c.args.k found back.asked (back.was any) look back.stage (back.goes any) b c.send_back.new.rows.items (back.others any))
          (λ settled. subst (InTurn b.entered set log c.self.inside.spaces.items) (sym (back.others any))
          (turns-taken (b.turns settled) b.apart c.args.i within row read (ap is_coming_stage (back.was any)) (with_stage back.stage row) refl (returning-goes c.self.inside.fanout 0 row.broker c.args.k back.asked back.stage (back.goes any)) c.self.inside.spaces.items));
    }

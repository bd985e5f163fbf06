use Rattle.std.proofs.Common.{◌≡◌, None, Result, Ok, Err, ◌∙◌, ap}
use Rattle.std.specs.Prelude.{OnOk}
use Rattle.cache_node.specs.Cache.{dirty_at}
use Rattle.kvs_content.proofs.Sounding.{ack-out}
use Rattle.kvs_content.proofs.node.Node.accept.Goals as goal

on-ok : {T E : Type 0} (result : Result T E) (P : Type 0) → P → OnOk result P
on-ok (Ok t) P h = h
on-ok (Err e) P h = tt

pub returns-clause-out : goal.returns-clause-out
returns-clause-out c =
    on-ok c.got.result (dirty_at c.args.reference c.ack.new.self ≡ None)
    (ap (dirty_at c.args.reference) c.in_ok-gets.ensures.clean ∙ ack-out c.self.inside.cache c.args.reference c.is_sound.ensures.once)

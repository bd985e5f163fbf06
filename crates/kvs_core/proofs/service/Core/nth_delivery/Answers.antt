use Rattle.std.proofs.Common.{◌≡◌, ◌∙◌, ◌+◌, ◌-◌, ◌<◌, ◌≤◌, ap, sym, arith}
use Rattle.std.specs.Prelude.{Ok, Err, flat_map}
use Rattle.std.specs.List.{filter, range_with_len}
use Rattle.kvs_core.specs.Steps.{can_step}
use Rattle.kvs_keys.specs.Walk.{nth, sent}
use Rattle.kvs_keys.proofs.Walking.{peeled, ended, behind-all, within-all}
use Rattle.kvs_core.proofs.service.Core.nth_delivery.Goals as goal

pub returns-in-Ok-clause-value : goal.returns-in-Ok-clause-value
returns-in-Ok-clause-value c =
    let can = can_step c.args.self.now in
    let size = c.args.self.now.size in
    let from = c.loop-from.from in
    let view : c.self.inside.size ≡ size = ap (λ v. v.size) c.self.view_is in
    let less : from < size = omega (arith, view) in
    let e : nth (filter can (sent size from)) c.loop-from.left ≡ Ok c.in-Ok.step = sym c.nth_sent.ensures.value ∙ c.in-Ok.is in
    sym (within-all can (sent size from) (flat_map (sent size) (range_with_len (from + 1) (size - (from + 1)))) c.loop-from.left c.in-Ok.step e)
    ∙ ap (λ ns. nth (filter can (flat_map (sent size) ns)) c.loop-from.left) (sym (peeled from size less)) ∙ c.loop-from.invariant

pub loop-from-preserved : goal.loop-from-preserved
loop-from-preserved c =
    let can = can_step c.args.self.now in
    let size = c.args.self.now.size in
    let from = c.loop-from.from in
    let view : c.self.inside.size ≡ size = ap (λ v. v.size) c.self.view_is in
    let less : from < size = omega (arith, view) in
    let e : nth (filter can (sent size from)) c.loop-from.left ≡ Err c.in-Err.behind = sym c.nth_sent.ensures.value ∙ c.in-Err.is in
    sym (behind-all can (sent size from) (flat_map (sent size) (range_with_len (from + 1) (size - (from + 1)))) c.loop-from.left c.in-Err.behind e)
    ∙ ap (λ ns. nth (filter can (flat_map (sent size) ns)) c.loop-from.left) (sym (peeled from size less)) ∙ c.loop-from.invariant

pub returns-clause-value : goal.returns-clause-value
returns-clause-value c =
    let can = can_step c.args.self.now in
    let size = c.args.self.now.size in
    let view : c.self.inside.size ≡ size = ap (λ v. v.size) c.self.view_is in
    let all : size ≤ c.loop-from.from = omega (arith, view) in
    ap (λ ns. nth (filter can (flat_map (sent size) ns)) c.loop-from.left) (sym (ended c.loop-from.from size all)) ∙ c.loop-from.invariant

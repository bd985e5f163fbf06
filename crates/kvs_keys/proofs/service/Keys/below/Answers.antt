use Rattle.std.proofs.Common.{◌≡◌, ◌*◌, ap, arith}
use Rattle.kvs_keys.proofs.service.Keys.below.Goals as goal

pub returns-clause-first : goal.returns-clause-first
returns-clause-first c =
    let v = c.args.self.now in
    let size : c.self.inside.size ≡ v.size = ap (λ v. v.size) c.self.view_is in
    let times : c.args.broker * c.self.inside.fanout ≡ c.args.broker * v.fanout = ap (λ v. c.args.broker * v.fanout) c.self.view_is in
    omega (arith, size, times, c.saturating_mul.ensures, c.saturating_add.ensures, c.min-first.ensures)

pub returns-clause-end : goal.returns-clause-end
returns-clause-end c =
    let v = c.args.self.now in
    let size : c.self.inside.size ≡ v.size = ap (λ v. v.size) c.self.view_is in
    let fanout : c.self.inside.fanout ≡ v.fanout = ap (λ v. v.fanout) c.self.view_is in
    omega (arith, size, fanout, c.saturating_add-2.ensures, c.min.ensures)

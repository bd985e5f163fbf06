use Rattle.std.proofs.Common.{◌≡◌, Some, subst}
use Rattle.kvs_core.specs.Seen.{store_at}
use Rattle.kvs_core.proofs.service.Core.kept.Goals as goal

pub returns : goal.returns
returns c =
    let e = c.kept.ensures in
    (e.0, subst (λ v. store_at v c.args.broker ≡ Some e.0) c.self.view_is e.1, e.2)

use Rattle.std.proofs.Common.{◌∙◌, ap, subst}
use Rattle.kvs_core.specs.View.{value_of}
use Rattle.kvs_core.proofs.Linking.{all_linked}
use Rattle.kvs_core.proofs.Links.{AreLinked}
use Rattle.kvs_core.proofs.service.Core.links.Goals as goal

pub returns : goal.returns
returns c =
    subst AreLinked c.self.view_is (all_linked (value_of c.self.inside) (c.self.invariant (ap (λ v. v.spent) c.self.view_is ∙ c.requires)) c.links.ensures c.links-2.ensures)

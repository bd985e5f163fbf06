use Rattle.std.proofs.Common.{subst}
use Rattle.std.specs.Prelude.{IfOk}
use Rattle.cache_node.specs.Cache.{Cache, HasDropped}
use Rattle.cache_node.proofs.Caches.{sound_dropped}
use Rattle.cache_node.proofs.Leaving.{left-dropped}
use Rattle.cache_node.proofs.CacheNode.drop_clean.Goals as goal

pub invariant_of-self : goal.invariant_of-self
invariant_of-self c = (sound_dropped c.self.inside.dirty.entries c.self.inside.clean c.drop_unpinned.new.self c.drop_unpinned.result c.self.invariant.0 c.drop_unpinned.ensures.rest c.drop_unpinned.ensures.kept, c.self.invariant.1)

pub returns-clause-left : goal.returns-clause-left
returns-clause-left c =
    subst (λ (v : Cache). IfOk c.drop_unpinned.result (λ gone. HasDropped v.clean c.drop_unpinned.new.self gone)) c.self.view_is
    (left-dropped c.self.inside.clean c.drop_unpinned.new.self c.drop_unpinned.result c.drop_unpinned.ensures.gone c.drop_unpinned.ensures.rest c.are_once.ensures)

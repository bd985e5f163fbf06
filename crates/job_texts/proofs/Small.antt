-- The ranks of hosts are small.
use Rattle.std.proofs.Common.{◌<◌, List, map, subst}
use Rattle.std.specs.Prelude.{All}
use Rattle.job_rules.proofs.Among.{all_at, all_from, among_map}
use Rattle.resource_set.specs.declared.node.Node.{Node}

pub ranks_small : (nodes : List Node) → All (λ node. node.rank < 65536) nodes → All (λ id. id < 65536) (map (λ node. node.rank) nodes)
ranks_small nodes h = all_from (λ id. id < 65536) (map (λ node. node.rank) nodes) (λ id i.
    let hit = among_map (λ node. node.rank) nodes id i in
    subst (λ r. r < 65536) hit.2 (all_at (λ node. node.rank < 65536) nodes hit.0 h hit.1))

-- Names of hosts.
use Rattle.std.proofs.Common.{ℕ, zero, suc, ◌<◌, List, [], ◌∷◌, length, get_or, map, arith}
use Rattle.hostlist.specs.Names.{IsHostName, AreHostNames, is_host_name}
use Rattle.std.specs.List.{list_all}
use Rattle.resource_set.specs.declared.node.Node.{Node}
use Rattle.resource_set.proofs.Booleans.{both}

-- each host has a name
pub named_at : (nodes : List Node) (i : ℕ) (d : Node) → AreHostNames (map (λ node. node.host) nodes) → i < length nodes → IsHostName (get_or nodes i d).host
named_at [] i d a h = absurd (omega arith)
named_at (n ∷ ns) zero d a h = (both (is_host_name n.host) (list_all is_host_name (map (λ node. node.host) ns)) a).0
named_at (n ∷ ns) (suc i) d a h = named_at ns i d (both (is_host_name n.host) (list_all is_host_name (map (λ node. node.host) ns)) a).1 (omega arith)

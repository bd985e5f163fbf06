-- What is left of resources stays an R.
use Rattle.std.proofs.Common.{◌≡◌, ◌<◌, List, [], ◌∷◌, map, refl, sym, ap, subst, ◌∙◌}
use Rattle.std.specs.List.{All}
use Rattle.std.specs.List.Sorted.{IsStrictlyIncreasing}
use Rattle.std.proofs.lemmas.List.Elements.{All-map}
use Rattle.hostlist.specs.Names.{AreHostNames}
use Rattle.resource_set.specs.declared.node.Node.{Node}
use Rattle.resource_set.specs.declared.node.Resources.{Resources}
use Rattle.resource_set.specs.Units.{AreDistinct, without_nodes}
use Rattle.resource_set.specs.Valid.{IsR}
use Rattle.resource_set.proofs.Placed.{All-unmap}

ranks_left : (taken nodes : List Node) → map (λ (n : Node). n.rank) (map (without_nodes taken) nodes) ≡ map (λ (n : Node). n.rank) nodes
ranks_left taken [] = refl
ranks_left taken (n ∷ ns) = ap (λ l. n.rank ∷ l) (ranks_left taken ns)

hosts_left : (taken nodes : List Node) → map (λ (n : Node). n.host) (map (without_nodes taken) nodes) ≡ map (λ (n : Node). n.host) nodes
hosts_left taken [] = refl
hosts_left taken (n ∷ ns) = ap (λ l. n.host ∷ l) (hosts_left taken ns)

-- without units of others
pub left_valid : (a : Resources) (taken nodes : List Node) → nodes ≡ map (without_nodes taken) a.nodes → IsR a → IsR (let left : Resources = record a { nodes = nodes } in left)
left_valid a taken nodes is v =
    let ranks : map (λ (n : Node). n.rank) nodes ≡ map (λ (n : Node). n.rank) a.nodes = ap (map (λ (n : Node). n.rank)) is ∙ ranks_left taken a.nodes in
    let hosts : map (λ (n : Node). n.host) nodes ≡ map (λ (n : Node). n.host) a.nodes = ap (map (λ (n : Node). n.host)) is ∙ hosts_left taken a.nodes in
    record {
      hosts = record {
        rising = subst IsStrictlyIncreasing (sym ranks) v.hosts.rising;
        small = All-unmap (λ id. id < 65536) (λ (n : Node). n.rank) nodes (subst (All (λ id. id < 65536)) (sym ranks) (All-map (λ id. id < 65536) (λ (n : Node). n.rank) a.nodes v.hosts.small));
        hosts = subst AreDistinct (sym hosts) v.hosts.hosts;
      };
      named = subst AreHostNames (sym hosts) v.named;
    }

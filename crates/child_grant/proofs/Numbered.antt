-- Hosts at the ranks from a number on.
use Rattle.std.proofs.Common.{◌≡◌, ℕ, suc, ◌+◌, ◌<◌, ◌≤◌, List, [], ◌∷◌, ◌++◌, length, get_or, map, refl, sym, ap, subst, ◌∙◌, arith}
use Rattle.std.specs.List.{All, range_with_len}
use Rattle.std.specs.List.Sorted.{IsStrictlyIncreasing}
use Rattle.std.proofs.lemmas.List.{length-map}
use Rattle.std.proofs.lemmas.List.Elements.{All-nil, All-cons, All-map}
use Rattle.std.proofs.lemmas.List.FromFn.{get_or-range_with_len, length-range_with_len}
use Rattle.resource_set.specs.declared.node.Node.{Node}
use Rattle.resource_set.specs.declared.node.Resources.{Resources}
use Rattle.resource_set.specs.Units.{AreHosts, AreDistinct, units_of, units_of_node}
use Rattle.resource_set.specs.Valid.{IsR}
use Rattle.resource_set.proofs.Rising.{length-rising}
use Rattle.child_grant.specs.Child.{numbered}

-- one host more
pub numbered_push : (nodes : List Node) (k : ℕ) (node : Node) → numbered k (nodes ++ node ∷ []) ≡ numbered k nodes ++ (let moved : Node = record node { rank = k + length nodes } in moved) ∷ []
numbered_push [] k node = let same : k ≡ k + 0 = omega arith in ap (λ n. (let moved : Node = record node { rank = n } in moved) ∷ []) same
numbered_push (n ∷ ns) k node =
    let same : k + 1 + length ns ≡ k + suc (length ns) = omega arith in
    ap (λ l. (let moved : Node = record n { rank = k } in moved) ∷ l) (numbered_push ns (k + 1) node ∙ ap (λ m. numbered (k + 1) ns ++ (let moved : Node = record node { rank = m } in moved) ∷ []) same)

-- they have the same units
pub units-numbered : (nodes : List Node) (k : ℕ) → units_of (numbered k nodes) ≡ units_of nodes
units-numbered [] k = refl
units-numbered (n ∷ ns) k = ap (λ l. units_of_node n ++ l) (units-numbered ns (k + 1))

hosts-numbered : (nodes : List Node) (k : ℕ) → map (λ node. node.host) (numbered k nodes) ≡ map (λ node. node.host) nodes
hosts-numbered [] k = refl
hosts-numbered (n ∷ ns) k = ap (λ l. n.host ∷ l) (hosts-numbered ns (k + 1))

ranks-numbered : (nodes : List Node) (k : ℕ) → map (λ node. node.rank) (numbered k nodes) ≡ range_with_len k (length nodes)
ranks-numbered [] k = refl
ranks-numbered (n ∷ ns) k = ap (λ l. k ∷ l) (ranks-numbered ns (k + 1))

rising_range : (n m : ℕ) → IsStrictlyIncreasing (range_with_len n m)
rising_range n m k h =
    let len = length-range_with_len n m in
    let here : get_or (range_with_len n m) k 0 ≡ n + k = get_or-range_with_len n m k 0 (omega arith) in
    let next : get_or (range_with_len n m) (k + 1) 0 ≡ n + (k + 1) = get_or-range_with_len n m (k + 1) 0 (omega arith) in
    omega arith

small-numbered : (nodes : List Node) (k : ℕ) → k + length nodes ≤ 65536 → All (λ node. node.rank < 65536) (numbered k nodes)
small-numbered [] k h = All-nil (λ (node : Node). node.rank < 65536)
small-numbered (n ∷ ns) k h = All-cons (λ (node : Node). node.rank < 65536) (let moved : Node = record n { rank = k } in moved) (numbered (k + 1) ns) (omega arith) (small-numbered ns (k + 1) (omega arith))

-- there are few hosts
pub few : (r : Resources) → IsR r → length r.nodes ≤ 65536
few r v = let all : length (map (λ (n : Node). n.rank) r.nodes) ≤ 65536 = length-rising (map (λ (n : Node). n.rank) r.nodes) v.hosts.rising (All-map (λ id. id < 65536) (λ (n : Node). n.rank) r.nodes v.hosts.small) in omega (arith, length-map r.nodes (λ (n : Node). n.rank))

-- and can be printed
pub numbered_valid : (r granted : Resources) → IsR r → granted.nodes ≡ numbered 0 r.nodes → IsR granted
numbered_valid r granted v is = record {
  hosts = subst AreHosts (sym is) (record {
    rising = subst IsStrictlyIncreasing (sym (ranks-numbered r.nodes 0)) (rising_range 0 (length r.nodes));
    small = small-numbered r.nodes 0 (omega (arith, few r v));
    hosts = subst AreDistinct (sym (hosts-numbered r.nodes 0)) v.hosts.hosts;
  });
  named = let same : map (λ (n : Node). n.host) granted.nodes ≡ map (λ (n : Node). n.host) r.nodes = ap (map (λ (n : Node). n.host)) is ∙ hosts-numbered r.nodes 0 in rw same v.named;
}

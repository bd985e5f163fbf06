-- One host for each broker.
use Rattle.std.proofs.Common.{◌≡◌, ◌≢◌, ◌∙◌, ℕ, zero, suc, ◌+◌, ◌<◌, ◌≤◌, ◌^◌, ◌&&◌, List, [], ◌∷◌, ◌++◌, All, drop, map, get_or, ap, ap₂, refl, sym, subst, arith}
use Rattle.std.specs.Prelude.{codes, decimal}
use Rattle.std.specs.List.{range_with_len}
use Rattle.std.specs.List.Sorted.{IsStrictlyIncreasing}
use Rattle.std.proofs.lemmas.Fmt.{decimal_injective, digits_decimal}
use Rattle.std.proofs.lemmas.List.Elements.{All-nil, All-cons}
use Rattle.std.proofs.lemmas.List.FromFn.{map-range_with_len_more, length-range_with_len, get_or-range_with_len}
use Rattle.instance.specs.hostlist.Names.{AreHostNames}
use Rattle.instance.proofs.hostlist_proofs.NameLemmas.{digits_named, longer_named}
use Rattle.instance.proofs.hostlist_proofs.Numbers.{own}
use Rattle.instance.specs.resource_set.declared.node.Node.{Node}
use Rattle.instance.specs.resource_set.declared.node.Resources.{Resources}
use Rattle.instance.specs.resource_set.Units.{AreDistinct, host_names}
use Rattle.instance.specs.resource_set.Valid.{IsR}
use Rattle.homes.specs.Grant.{host_at, hosts_of_brokers}

ranks : (a n : ℕ) → map (λ (node : Node). node.rank) (map host_at (range_with_len a n)) ≡ range_with_len a n
ranks a zero = refl
ranks a (suc n) = ap (λ more. a ∷ more) (ranks (a + 1) n)

rising_range : (a n : ℕ) → IsStrictlyIncreasing (range_with_len a n)
rising_range a n k h =
    let len = length-range_with_len a n in
    let here : get_or (range_with_len a n) k 0 ≡ a + k = get_or-range_with_len a n k 0 (omega arith) in
    let next : get_or (range_with_len a n) (k + 1) 0 ≡ a + (k + 1) = get_or-range_with_len a n (k + 1) 0 (omega arith) in
    omega arith

small : (a n : ℕ) → a + n ≤ 65536 → All (λ (node : Node). node.rank < 65536) (map host_at (range_with_len a n))
small a zero h = All-nil (λ (node : Node). node.rank < 65536)
small a (suc n) h = All-cons (λ (node : Node). node.rank < 65536) (host_at a) (map host_at (range_with_len (a + 1) n)) (omega arith) (small (a + 1) n (omega arith))

-- two brokers have hosts of different names
other_name : (a b : ℕ) → a < b → b < 2 ^ 64 → codes "node" ++ decimal a ≢ codes "node" ++ decimal b
other_name a b less high same = let e : a ≡ b = decimal_injective a b (omega arith) high (behind same) in absurd (omega (arith, e, less))
  where
    behind : {xs ys : List ℕ} → codes "node" ++ xs ≡ codes "node" ++ ys → xs ≡ ys
    behind e = ap (drop 4) e

others : (a b n : ℕ) → a < b → b + n ≤ 65536 → All (λ name. codes "node" ++ decimal a ≢ name) (host_names (map host_at (range_with_len b n)))
others a b zero less high = All-nil (λ name. codes "node" ++ decimal a ≢ name)
others a b (suc n) less high = All-cons (λ name. codes "node" ++ decimal a ≢ name) (codes "node" ++ decimal b) (host_names (map host_at (range_with_len (b + 1) n)))
    (other_name a b less (omega arith)) (others a (b + 1) n (omega arith) (omega arith))

distinct : (a n : ℕ) → a + n ≤ 65536 → AreDistinct (host_names (map host_at (range_with_len a n)))
distinct a zero high = tt
distinct a (suc n) high = (others a (a + 1) n (omega arith) (omega arith), distinct (a + 1) n (omega arith))

names : (a n : ℕ) → a + n ≤ 65536 → AreHostNames (host_names (map host_at (range_with_len a n)))
names a zero high = refl
names a (suc n) high = ap₂ (λ x y. x && y)
    (longer_named (codes "node") (decimal a) refl (digits_named (decimal a) (digits_decimal own a (omega arith))))
    (names (a + 1) n (omega arith))

pub hosts_valid : (size : ℕ) (r : Resources) → size ≤ 32 → r ≡ hosts_of_brokers size → IsR r
hosts_valid size r high is = subst IsR (sym is) (record {
  hosts = record {
    rising = subst IsStrictlyIncreasing (sym (ranks 0 size)) (rising_range 0 size);
    small = small 0 size (omega arith);
    hosts = distinct 0 size (omega arith);
  };
  named = names 0 size (omega arith);
})

-- the host of one broker more
pub one_more : (rank : ℕ) (nodes : List Node) (node : Node) → nodes ≡ map host_at (range_with_len 0 rank) → node ≡ host_at rank → nodes ++ node ∷ [] ≡ map host_at (range_with_len 0 (rank + 1))
one_more rank nodes node is here =
    ap₂ (λ ns n. ns ++ n ∷ []) is here
    ∙ sym (map-range_with_len_more host_at 0 rank rank (omega arith))

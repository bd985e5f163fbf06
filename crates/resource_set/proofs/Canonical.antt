-- Entries of different children, each host in one of them.
use Rattle.std.proofs.Common.{◌≡◌, ◌<◌, ℕ, Bool, true, false, cond, ◌&&◌, List, [], ◌∷◌, length, filter, map, Some, refl, sym, ap₂, ◌∙◌, arith}
use Rattle.std.specs.List.{All, AllPairs, AllByRecursion, find, fold}
use Rattle.std.specs.List.Sorted.{IsStrictlyIncreasing}
use Rattle.std.proofs.lemmas.Slice.Eq.{bytes_eq-Decides}
use Rattle.std.proofs.lemmas.List.Elements.{All-from_recursion}
use Rattle.std.proofs.lemmas.List.Kept.{AllPairs-cons}
use Rattle.idset.specs.Ids.{has}
use Rattle.resource_set.specs.declared.entries.Entry.{Entry}
use Rattle.resource_set.specs.declared.node.Node.{Node}
use Rattle.resource_set.specs.Canonical.{HaveOtherChildren, StandsInOne, first_rank}
use Rattle.resource_set.specs.Reading.{has_rank}
use Rattle.resource_set.specs.Units.{AreHosts}
use Rattle.resource_set.specs.Writing.{fits_in, single, added, with_node, entries_of}
use Rattle.resource_set.proofs.Grouping.{all_weaker, all-with_node}
use Rattle.resource_set.proofs.Holdings.{filter_none}
use Rattle.resource_set.proofs.Regroup.{IsUp, Once, Tells, are_up, are_told}

-- ---- children

abbrev AreDifferent : List Entry → Type 0
AreDifferent [] = Unit {0}
AreDifferent (e ∷ more) = AllByRecursion (HaveOtherChildren e) more × AreDifferent more

unfit : (node : Node) (e : Entry) → fits_in node e ≡ false → HaveOtherChildren e (single node)
unfit node e un c g =
    let fit : fits_in node e ≡ true = ap₂ (λ x y. x && y) ((bytes_eq-Decides node.cores e.cores).1 (sym c)) ((bytes_eq-Decides node.gpus e.gpus).1 (sym g)) in
    let clash : false ≡ true = sym un ∙ fit in
    cc

different-with_node : (entries : List Entry) (node : Node) → AreDifferent entries → AreDifferent (with_node entries node)
different-with_node [] node d = (tt, tt)
different-with_node (e ∷ more) node d = go (fits_in node e) refl (different-with_node more node d.1)
  where
    go : (b : Bool) → fits_in node e ≡ b → AreDifferent (with_node more node) → AreDifferent (cond b (added node e ∷ more) (e ∷ with_node more node))
    go true fit rest = d
    go false un rest = (all-with_node (HaveOtherChildren e) (HaveOtherChildren e) node (λ x o. o) (λ x o. o) (unfit node e un) more d.0, rest)

all_different : (nodes : List Node) (entries : List Entry) → AreDifferent entries → AreDifferent (fold with_node entries nodes)
all_different [] entries d = d
all_different (n ∷ ns) entries d = all_different ns (with_node entries n) (different-with_node entries n d)

pairs : (entries : List Entry) → AreDifferent entries → AllPairs HaveOtherChildren entries
pairs [] d = λ i j x h g. absurd (omega arith)
pairs (e ∷ more) d = AllPairs-cons HaveOtherChildren e more (All-from_recursion (HaveOtherChildren e) more d.0) (pairs more d.1)

pub other_children : (nodes : List Node) → AllPairs HaveOtherChildren (entries_of nodes)
other_children nodes = pairs (entries_of nodes) (all_different nodes [] tt)

-- ---- ranks

pub some_ranks : (nodes : List Node) → AreHosts nodes → All (λ entry. 0 < length entry.ranks) (entries_of nodes)
some_ranks nodes a = let all = are_up nodes a in λ k d h. (All-from_recursion (IsUp all.bound) (entries_of nodes) all.up.up k d h).some

pub rising_ranks : (nodes : List Node) → AreHosts nodes → All (λ entry. IsStrictlyIncreasing entry.ranks) (entries_of nodes)
rising_ranks nodes a = let all = are_up nodes a in λ k d h. (All-from_recursion (IsUp all.bound) (entries_of nodes) all.up.up k d h).rising

pub rising_firsts : (nodes : List Node) → AreHosts nodes → IsStrictlyIncreasing (map first_rank (entries_of nodes))
rising_firsts nodes a = (are_up nodes a).up.firsts

-- ---- hosts

only_entry : (q : ℕ) (entries : List Entry) (t : Entry) → Once entries → find (has_rank q) entries ≡ Some t → filter (has_rank q) entries ≡ t ∷ []
only_entry q [] t o h = cc
only_entry q (e ∷ more) t o h = go (has e.ranks q) refl h (λ f. only_entry q more t o.1 f)
  where
    go : (b : Bool) → has e.ranks q ≡ b → cond b (Some e) (find (has_rank q) more) ≡ Some t → (find (has_rank q) more ≡ Some t → filter (has_rank q) more ≡ t ∷ []) → cond b (e ∷ filter (has_rank q) more) (filter (has_rank q) more) ≡ t ∷ []
    go true met h f = let is : e ≡ t = cc in ap₂ (λ x l. x ∷ l) is (filter_none (has_rank q) more (o.0 q met))
    go false met h f = f h

pub in_one : (nodes : List Node) → AreHosts nodes → All (StandsInOne (entries_of nodes)) nodes
in_one nodes a =
    let entries = entries_of nodes in
    All-from_recursion (StandsInOne entries) nodes (all_weaker (Tells entries) (StandsInOne entries)
    (λ node t. record { entry = t.entry; only = only_entry node.rank entries t.entry (are_up nodes a).up.once t.found; cores = t.cores; gpus = t.gpus }) nodes (are_told nodes a))

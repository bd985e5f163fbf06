-- Entries and hosts at their ranks.
use Rattle.std.proofs.Common.{◌≡◌, ℕ, zero, suc, ◌+◌, ◌<◌, true, cond, List, [], ◌∷◌, ◌++◌, length, take, drop, get_or, map, Option, Some, None, is_some, refl, sym, ap, ap₂, subst, ◌∙◌, arith, drop-cons, add-one, length-take-le}
use Rattle.std.specs.Prelude.{Result, Ok, Err, IsErrAnd}
use Rattle.std.specs.List.{find, list_any, All}
use Rattle.std.proofs.lemmas.List.{take_more, get_or-map, length-map}
use Rattle.std.specs.List.Sorted.{IsStrictlyIncreasing}
use Rattle.outcomes.specs.Outcomes.{Fails, Gives, or_else}
use Rattle.idset.specs.Ids.{has, IsIdSet}
use Rattle.resource_set.specs.Units.{AreHosts, AreDistinct}
use Rattle.resource_set.proofs.Ranks.{distinct_told}
use Rattle.resource_set.proofs.Booleans.{placed_anew}
use Rattle.resource_set.specs.Places.{place_of}
use Rattle.resource_set.specs.Reading.{has_rank, twice_behind, unless_twice, node_at, nodes_with, ranks_of, are_distinct, lasting}
use Rattle.resource_set.specs.declared.entries.Entry.{Entry}
use Rattle.resource_set.specs.declared.node.Node.{Node}
use Rattle.resource_set.specs.declared.faults.RFault.{RFault}
use Rattle.resource_set.specs.declared.faults.RFault.TheVariants.{NoMemory, NotJson, BadVersion, BadField, RankTwice, HostsDiffer, HostTwice}
use Rattle.resource_set.proofs.Places.{or_place, place_of-push, is_some-place_of, find-alike, not_found}

-- what hands on a fault
pub err_gives : {X Y : Type 0} (seen : X → Y) (r : Result X RFault) (e : RFault) (found : Result Y RFault) → IsErrAnd r (λ x. x ≡ e) → Fails lasting e found → Gives lasting seen r found
err_gives seen (Ok x) e found is h = absurd is
err_gives seen (Err x) e found is h = subst (λ y. Fails lasting y found) (sym is) h

-- the first rank that stands twice is the fault of all
fails_first : (e : RFault) (o later : Option ℕ) → Fails lasting e (unless_twice o) → Fails lasting e (unless_twice (or_else o later))
fails_first e (Some r) later h = h
fails_first NoMemory None later h = tt
fails_first (NotJson f) None later h = cc
fails_first BadVersion None later h = cc
fails_first (BadField f) None later h = cc
fails_first (RankTwice r) None later h = cc
fails_first (HostsDiffer r n) None later h = cc
fails_first HostTwice None later h = cc

-- ranks that have an entry
met_alike : (old : ℕ → Option ℕ) (done : List Entry) (ids ranks : List ℕ) → ((r : ℕ) → old r ≡ place_of (has_rank r) done) → ids ≡ ranks → find (λ r. is_some (old r)) ids ≡ find (λ r. list_any (has_rank r) done) ranks
met_alike old done ids ranks placed same = ap (find (λ r. is_some (old r))) same ∙ find-alike (λ r. is_some (old r)) (λ r. list_any (has_rank r) done) ranks (λ r. ap is_some (placed r) ∙ is_some-place_of (has_rank r) done)

-- one entry more
next_entry : (entries : List Entry) (i : ℕ) (entry : Entry) → i < length entries → entry ≡ get_or entries i entry → take (i + 1) entries ≡ take i entries ++ entry ∷ []
next_entry entries i entry inside is = take_more entries i entry inside ∙ ap (λ e. take i entries ++ e ∷ []) (sym is)

rest_of : (entries : List Entry) (i : ℕ) (entry : Entry) → i < length entries → entry ≡ get_or entries i entry → drop i entries ≡ entry ∷ drop (i + 1) entries
rest_of entries i entry inside is = drop-cons entries i entry inside ∙ ap₂ (λ e n. e ∷ drop n entries) (sym is) (sym (add-one i))

pub placed_more : (entries : List Entry) (i : ℕ) (entry : Entry) (ids : List ℕ) (old new : ℕ → Option ℕ) → i < length entries → entry ≡ get_or entries i entry → ((r : ℕ) → old r ≡ place_of (has_rank r) (take i entries)) → ids ≡ entry.ranks
    → find (λ r. is_some (old r)) ids ≡ None → ((r : ℕ) → new r ≡ cond (has ids r) (Some i) (old r)) → (r : ℕ) → new r ≡ place_of (has_rank r) (take (i + 1) entries)
placed_more entries i entry ids old new inside at placed same none is r =
    let done = take i entries in
    let len : length done ≡ i = length-take-le i entries (omega arith) in
    is r ∙ placed_anew (has ids r) (old r) i (λ t. not_found (λ q. is_some (old q)) ids r none t)
    ∙ ap₂ (λ o b. or_place o (cond b (Some i) None)) (placed r) (ap (λ l. has l r) same)
    ∙ ap (λ n. or_place (place_of (has_rank r) done) (cond (has entry.ranks r) (Some n) None)) (sym len)
    ∙ sym (place_of-push (has_rank r) done entry) ∙ ap (place_of (has_rank r)) (sym (next_entry entries i entry inside at))

pub once_more : (entries : List Entry) (i : ℕ) (entry : Entry) (ids : List ℕ) (old : ℕ → Option ℕ) → i < length entries → entry ≡ get_or entries i entry → ((r : ℕ) → old r ≡ place_of (has_rank r) (take i entries)) → ids ≡ entry.ranks
    → find (λ r. is_some (old r)) ids ≡ None → twice_behind (take i entries) (drop i entries) ≡ twice_behind (take (i + 1) entries) (drop (i + 1) entries)
once_more entries i entry ids old inside at placed same none =
    let done = take i entries in
    ap (twice_behind done) (rest_of entries i entry inside at)
    ∙ ap (λ o. or_else o (twice_behind (done ++ entry ∷ []) (drop (i + 1) entries))) (sym (met_alike old done ids entry.ranks placed same) ∙ none)
    ∙ ap (λ l. twice_behind l (drop (i + 1) entries)) (sym (next_entry entries i entry inside at))

-- an entry with a rank that stands before
pub fails_there : (entries : List Entry) (i : ℕ) (entry : Entry) (ids : List ℕ) (old : ℕ → Option ℕ) (e : RFault) → i < length entries → entry ≡ get_or entries i entry → ((r : ℕ) → old r ≡ place_of (has_rank r) (take i entries)) → ids ≡ entry.ranks
    → Fails lasting e (unless_twice (find (λ r. is_some (old r)) ids)) → Fails lasting e (unless_twice (twice_behind (take i entries) (drop i entries)))
fails_there entries i entry ids old e inside at placed same fails =
    let done = take i entries in
    subst (λ l. Fails lasting e (unless_twice (twice_behind done l))) (sym (rest_of entries i entry inside at))
    (fails_first e (find (λ r. list_any (has_rank r) done) entry.ranks) (twice_behind (done ++ entry ∷ []) (drop (i + 1) entries))
    (subst (λ o. Fails lasting e (unless_twice o)) (met_alike old done ids entry.ranks placed same) fails))

-- ---- nodes

pub length-nodes_with : (entries : List Entry) (ranks : List ℕ) (hosts : List (List ℕ)) → length ranks ≡ length hosts → length (nodes_with entries ranks hosts) ≡ length ranks
length-nodes_with entries [] hosts h = refl
length-nodes_with entries (r ∷ rs) [] h = absurd (omega arith)
length-nodes_with entries (r ∷ rs) (n ∷ ns) h = ap suc (length-nodes_with entries rs ns (omega arith))

pub ranks-nodes_with : (entries : List Entry) (ranks : List ℕ) (hosts : List (List ℕ)) → length ranks ≡ length hosts → map (λ node. node.rank) (nodes_with entries ranks hosts) ≡ ranks
ranks-nodes_with entries [] hosts h = refl
ranks-nodes_with entries (r ∷ rs) [] h = absurd (omega arith)
ranks-nodes_with entries (r ∷ rs) (n ∷ ns) h = ap (λ l. r ∷ l) (ranks-nodes_with entries rs ns (omega arith))

pub hosts-nodes_with : (entries : List Entry) (ranks : List ℕ) (hosts : List (List ℕ)) → length ranks ≡ length hosts → map (λ node. node.host) (nodes_with entries ranks hosts) ≡ hosts
hosts-nodes_with entries [] [] h = refl
hosts-nodes_with entries [] (n ∷ ns) h = absurd (omega arith)
hosts-nodes_with entries (r ∷ rs) [] h = absurd (omega arith)
hosts-nodes_with entries (r ∷ rs) (n ∷ ns) h = ap (λ l. n ∷ l) (hosts-nodes_with entries rs ns (omega arith))

at_node : (entries : List Entry) (ranks : List ℕ) (hosts : List (List ℕ)) (i : ℕ) (node : Node) (host : List ℕ) → i < length ranks → i < length hosts → get_or (nodes_with entries ranks hosts) i node ≡ node_at entries (get_or ranks i 0) (get_or hosts i host)
at_node entries [] hosts i node host h g = absurd (omega arith)
at_node entries (r ∷ rs) [] i node host h g = absurd (omega arith)
at_node entries (r ∷ rs) (n ∷ ns) zero node host h g = refl
at_node entries (r ∷ rs) (n ∷ ns) (suc i) node host h g = at_node entries rs ns i node host (omega arith) (omega arith)

-- one node more
pub node_next : (entries : List Entry) (ranks : List ℕ) (hosts : List (List ℕ)) (i : ℕ) (node : Node) (host : List ℕ) → length ranks ≡ length hosts → i < length ranks → host ≡ get_or hosts i host
    → node ≡ node_at entries (get_or ranks i 0) host → take (i + 1) (nodes_with entries ranks hosts) ≡ take i (nodes_with entries ranks hosts) ++ node ∷ []
node_next entries ranks hosts i node host same inside at is =
    let len = length-nodes_with entries ranks hosts same in
    take_more (nodes_with entries ranks hosts) i node (omega arith)
    ∙ ap (λ n. take i (nodes_with entries ranks hosts) ++ n ∷ []) (at_node entries ranks hosts i node host inside (omega arith) ∙ ap (node_at entries (get_or ranks i 0)) (sym at) ∙ sym is)

-- what holds of each image holds of each element through it
pub All-unmap : {A B : Type 0} (P : B → Type 0) (f : A → B) (xs : List A) → All P (map f xs) → All (λ x. P (f x)) xs
All-unmap P f xs all k d h = subst P (get_or-map f xs k d (f d) h) (all k (f d) (omega (arith, length-map xs f)))

-- the hosts at the ranks of entries
pub nodes_are_hosts : (entries : List Entry) (ranks : List ℕ) (names : List (List ℕ)) (nodes : List Node) → nodes ≡ nodes_with entries ranks names → length ranks ≡ length names → ranks ≡ ranks_of entries
    → IsIdSet (ranks_of entries) → are_distinct names ≡ true → AreHosts nodes
nodes_are_hosts entries ranks names nodes is same ids set distinct =
    let told : map (λ (node : Node). node.rank) nodes ≡ ranks_of entries = ap (map (λ (node : Node). node.rank)) is ∙ ranks-nodes_with entries ranks names same ∙ ids in
    let hosts : map (λ (node : Node). node.host) nodes ≡ names = ap (map (λ (node : Node). node.host)) is ∙ hosts-nodes_with entries ranks names same in
    record {
      rising = subst IsStrictlyIncreasing (sym told) set.rising;
      small = All-unmap (λ id. id < 65536) (λ (node : Node). node.rank) nodes (subst (All (λ id. id < 65536)) (sym told) set.below);
      hosts = subst AreDistinct (sym hosts) (distinct_told names distinct);
    }

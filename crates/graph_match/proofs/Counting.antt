-- Counts of what is left on hosts while the units of more or fewer nodes are taken, and what they bring to a job.
use Rattle.std.proofs.Common.{◌≡◌, ◌≢◌, ℕ, suc, zero, ◌+◌, ◌-◌, ◌*◌, ◌/◌, ◌<◌, ◌≤◌, min, Bool, true, false, cond, not, ◌&&◌, ◌||◌, eqb, inl, inr, List, [], ◌∷◌, length, get_or, set, map, Option, Some, None, refl, sym, ap, ◌∙◌, arith}
use Rattle.std.specs.Prelude.{filter}
use Rattle.std.specs.List.{AllByRecursion as Each}
use Rattle.std.specs.Str.{bytes_eq}
use Rattle.std.proofs.Math.Nat.{div-le_self}
use Rattle.std.proofs.lemmas.Bool.{true≢false, or_left}
use Rattle.std.proofs.lemmas.List.{length-map}
use Rattle.std.proofs.lemmas.List.Elements.{filter_agree}
use Rattle.idset.specs.Ids.{has}
use Rattle.job_spec.specs.declared.spec.JobSpec.{JobSpec}
use Rattle.resource_set.specs.declared.node.Node.{Node}
use Rattle.job_rules.specs.Fits.{AreApart, HasIdSets, IsGrant, IsPartOf, has_unit, left_on, without_nodes}
use Rattle.job_rules.specs.Worths.{total, worth}
use Rattle.job_rules.proofs.Among.{Among, Distinct, among_filter, among_has, among_kept, among_mapped, distinct_filter, distinct_from, has_among, no_more}
use Rattle.job_rules.proofs.UnitKinds.{kind, kind_apart, kind_distinct, kind_part, kind_set}
use Rattle.job_rules.proofs.Sets.{filter_short}
use Rattle.job_rules.proofs.Few.{hosts_of, other_bytes, same_bytes}
use Rattle.graph_match.specs.declared.rooms.Room.{Room}
use Rattle.graph_match.specs.Rooms.{brought, has_enough, room_of, rooms_without, slot_count, worth_of, worth_as as worth_in}
use Rattle.graph_match.proofs.Spots.{rising_length, set_length}
use Rattle.graph_match.proofs.Hosts.{worth_is}
use Rattle.graph_match.proofs.Fitting.{ranks_rising}

abbrev pub room_with : ℕ → ℕ → Room
room_with cores gpus = record { cores = cores; gpus = gpus }

-- a room with so many units more, and less
abbrev pub more_room : Room → Room → Room
more_room room units = room_with (room.cores + units.cores) (room.gpus + units.gpus)

abbrev pub less_room : Room → Room → Room
less_room room units = room_with (room.cores - units.cores) (room.gpus - units.gpus)

same_room : (a b : Room) → a.cores ≡ b.cores → a.gpus ≡ b.gpus → a ≡ b
same_room a b c g = ap (λ x. room_with x a.gpus) c ∙ ap (λ x. room_with b.cores x) g

pub more_less : (room units : Room) → less_room (more_room room units) units ≡ room
more_less room units = same_room _ _ (omega arith) (omega arith)

-- nodes that have the same units of a host leave the same there
pub room_same : (a b : List Node) (g : Node) → ((gpu : Bool) (id : ℕ) → has_unit (kind gpu) a g.host id ≡ has_unit (kind gpu) b g.host id) → room_of (without_nodes a g) ≡ room_of (without_nodes b g)
room_same a b g h = same_room _ _ (same false) (same true)
  where
    same : (gpu : Bool) → length (left_on (kind gpu) a g) ≡ length (left_on (kind gpu) b g)
    same gpu = ap length (filter_agree (λ id. not (has_unit (kind gpu) a g.host id)) (λ id. not (has_unit (kind gpu) b g.host id)) (λ id. ap not (h gpu id)) (kind gpu g))

pub rooms_same : (a b : List Node) (grant : List Node) → ((gpu : Bool) (host : List ℕ) (id : ℕ) → has_unit (kind gpu) a host id ≡ has_unit (kind gpu) b host id) → rooms_without a grant ≡ rooms_without b grant
rooms_same a b [] h = refl
rooms_same a b (g ∷ gs) h = ap (λ r. r ∷ rooms_without a gs) (room_same a b g (λ gpu. h gpu g.host)) ∙ ap (λ rs. room_of (without_nodes b g) ∷ rs) (rooms_same a b gs h)

-- two lists of nodes that differ at one host alone
pub only_at : (a b : List Node) (grant : List Node) (at : ℕ) (d : Node) → at < length grant → Distinct (hosts_of grant) → ((g : Node) → g.host ≢ (get_or grant at d).host → room_of (without_nodes a g) ≡ room_of (without_nodes b g)) → rooms_without a grant ≡ set (rooms_without b grant) at (room_of (without_nodes a (get_or grant at d)))
only_at a b [] at d h apart f = let no : ⊥ = omega (arith, h) in absurd no
only_at a b (g ∷ gs) zero d h apart f = ap (λ rs. room_of (without_nodes a g) ∷ rs) (rest gs (λ x i e. apart.0 x.host (among_mapped (λ n. n.host) gs x i) (sym e)))
  where
    rest : (xs : List Node) → ((x : Node) → Among x xs → x.host ≢ g.host) → rooms_without a xs ≡ rooms_without b xs
    rest [] h = refl
    rest (x ∷ xs) h = ap (λ r. r ∷ rooms_without a xs) (f x (h x (inl refl))) ∙ ap (λ rs. room_of (without_nodes b x) ∷ rs) (rest xs (λ y i. h y (inr i)))
only_at a b (g ∷ gs) (suc at) d h apart f =
    let within : at < length gs = omega (arith, h) in
    ap (λ r. r ∷ rooms_without a gs) (f g (λ e. apart.0 (get_or gs at d).host (among_mapped (λ n. n.host) gs (get_or gs at d) (there gs at d within)) e))
    ∙ ap (λ rs. room_of (without_nodes b g) ∷ rs) (only_at a b gs at d within apart.1 f)
  where
    there : (xs : List Node) (at : ℕ) (d : Node) → at < length xs → Among (get_or xs at d) xs
    there [] at d h = let no : ⊥ = omega (arith, h) in absurd no
    there (x ∷ xs) zero d h = inl refl
    there (x ∷ xs) (suc at) d h = inr (there xs at d (omega (arith, h)))

-- a node's units at its host: as many more are left without it
split_count : (p q : ℕ → Bool) (ids : List ℕ) → ((id : ℕ) → p id ≡ true → q id ≡ false) → length (filter (λ id. not (q id)) ids) ≡ length (filter (λ id. not (p id || q id)) ids) + length (filter p ids)
split_count p q [] h = omega arith
split_count p q (x ∷ xs) h = at (p x) (q x) (h x) (split_count p q xs h)
  where
    at : (a b : Bool) → (a ≡ true → b ≡ false) → length (filter (λ id. not (q id)) xs) ≡ length (filter (λ id. not (p id || q id)) xs) + length (filter p xs)
        → length (cond (not b) (x ∷ filter (λ id. not (q id)) xs) (filter (λ id. not (q id)) xs)) ≡ length (cond (not (a || b)) (x ∷ filter (λ id. not (p id || q id)) xs) (filter (λ id. not (p id || q id)) xs)) + length (cond a (x ∷ filter p xs) (filter p xs))
    at true true f e = absurd (true≢false (f refl))
    at true false f e = omega (arith, e)
    at false true f e = omega (arith, e)
    at false false f e = omega (arith, e)

among_count : (ids all : List ℕ) → Distinct ids → Distinct all → ((id : ℕ) → has ids id ≡ true → has all id ≡ true) → length (filter (has ids) all) ≡ length ids
among_count ids all d e h =
    let few : length (filter (has ids) all) ≤ length ids = no_more (filter (has ids) all) ids (distinct_filter (has ids) all e) (λ id i. has_among ids id (among_filter (has ids) all id i).1) in
    let many : length ids ≤ length (filter (has ids) all) = no_more ids (filter (has ids) all) d (λ id i. among_kept (has ids) all id (has_among all id (h id (among_has ids id i))) (among_has ids id i)) in
    omega (arith, few, many)

pub room_counts : (node g : Node) (rest : List Node) → IsPartOf node g → HasIdSets node → HasIdSets g → AreApart (node ∷ []) rest → room_of (without_nodes rest g) ≡ more_room (room_of (without_nodes (node ∷ rest) g)) (room_of node)
room_counts node g rest part sn sg apart = same_room _ _ (counts false) (counts true)
  where
    here : (gpu : Bool) (id : ℕ) → (bytes_eq node.host g.host && has (kind gpu node) id) ≡ has (kind gpu node) id
    here gpu id = ap (λ b. b && has (kind gpu node) id) (same_bytes node.host g.host part.host)

    counts : (gpu : Bool) → length (left_on (kind gpu) rest g) ≡ length (left_on (kind gpu) (node ∷ rest) g) + length (kind gpu node)
    counts gpu =
        split_count (has (kind gpu node)) (λ id. has_unit (kind gpu) rest g.host id) (kind gpu g) (λ id t. kind_apart gpu (node ∷ []) rest apart g.host id (or_left _ _ (here gpu id ∙ t)))
        ∙ ap (λ n. length (filter (λ id. not (has (kind gpu node) id || has_unit (kind gpu) rest g.host id)) (kind gpu g)) + n) (among_count (kind gpu node) (kind gpu g) (kind_distinct gpu node sn) (kind_distinct gpu g sg) (kind_part gpu node g part))
        ∙ ap (λ ids. length ids + length (kind gpu node)) (filter_agree (λ id. not (has (kind gpu node) id || has_unit (kind gpu) rest g.host id)) (λ id. not (has_unit (kind gpu) (node ∷ rest) g.host id)) (λ id. ap (λ b. not (b || has_unit (kind gpu) rest g.host id)) (sym (here gpu id))) (kind gpu g))

-- elsewhere the node counts for nothing
pub elsewhere : (node : Node) (rest : List Node) (g : Node) → g.host ≢ node.host → room_of (without_nodes (node ∷ rest) g) ≡ room_of (without_nodes rest g)
elsewhere node rest g far = room_same (node ∷ rest) rest g (λ gpu id. ap (λ b. (b && has (kind gpu node) id) || has_unit (kind gpu) rest g.host id) (other_bytes node.host g.host (λ e. far (sym e))))

-- ---- what rooms bring
pub brought_set : (spec : JobSpec) (grant : List Node) (rooms : List Room) (at : ℕ) (new : Room) (d : Node) (e : Room) → at < length grant → length rooms ≡ length grant → brought spec grant (set rooms at new) + worth_of spec (room_of (get_or grant at d)) (get_or rooms at e) ≡ brought spec grant rooms + worth_of spec (room_of (get_or grant at d)) new
brought_set spec [] rooms at new d e h l = let no : ⊥ = omega (arith, h) in absurd no
brought_set spec (g ∷ gs) [] at new d e h l = let no : ⊥ = omega (arith, l) in absurd no
brought_set spec (g ∷ gs) (r ∷ rs) zero new d e h l = omega arith
brought_set spec (g ∷ gs) (r ∷ rs) (suc at) new d e h l = let more = brought_set spec gs rs at new d e (omega (arith, h)) (omega (arith, l)) in omega (arith, more)

pub brought_at : (spec : JobSpec) (grant : List Node) (rooms : List Room) (at : ℕ) (d : Node) (e : Room) → at < length grant → length rooms ≡ length grant → worth_of spec (room_of (get_or grant at d)) (get_or rooms at e) ≤ brought spec grant rooms
brought_at spec [] rooms at d e h l = let no : ⊥ = omega (arith, h) in absurd no
brought_at spec (g ∷ gs) [] at d e h l = let no : ⊥ = omega (arith, l) in absurd no
brought_at spec (g ∷ gs) (r ∷ rs) zero d e h l = omega arith
brought_at spec (g ∷ gs) (r ∷ rs) (suc at) d e h l = let more = brought_at spec gs rs at d e (omega (arith, h)) (omega (arith, l)) in omega (arith, more)

pub brought_in : (spec : JobSpec) (grant taken : List Node) → Distinct (hosts_of grant) → (gs : List Node) → ((g : Node) → Among g gs → Among g grant) → brought spec gs (rooms_without taken gs) ≡ total (worth spec grant) (map (without_nodes taken) gs)
brought_in spec grant taken d [] h = refl
brought_in spec grant taken d (g ∷ gs) h =
    ap (λ n. n + brought spec gs (rooms_without taken gs)) (worth_is spec grant g (without_nodes taken g) d (h g (inl refl)) refl)
    ∙ ap (λ n. worth spec grant (without_nodes taken g) + n) (brought_in spec grant taken d gs (λ x i. h x (inr i)))

pub brought_is : (spec : JobSpec) (grant taken : List Node) → IsGrant grant → brought spec grant (rooms_without taken grant) ≡ total (worth spec grant) (map (without_nodes taken) grant)
brought_is spec grant taken is = brought_in spec grant taken (distinct_from (hosts_of grant) is.hosts.hosts) grant (λ g i. i)

pub worth_small : (spec : JobSpec) (whole room : Room) → room.cores ≤ 65536 → worth_of spec whole room ≤ 65536
worth_small spec whole room h = at spec.nodes
  where
    slots : slot_count spec room ≤ 65536
    slots = by (eqb spec.gpus 0)
      where
        by : (b : Bool) → cond b (room.cores / spec.cores) (min (room.cores / spec.cores) (room.gpus / spec.gpus)) ≤ 65536
        by true = omega (arith, div-le_self room.cores spec.cores, h)
        by false = omega (arith, div-le_self room.cores spec.cores, h)

    one : (b : Bool) → cond b 1 0 ≤ 65536
    one true = omega arith
    one false = omega arith

    at : (o : Option ℕ) → worth_in o spec whole room ≤ 65536
    at None = slots
    at (Some count) = one (has_enough spec whole room)

pub left_small : (gpu : Bool) (taken : List Node) (g : Node) → HasIdSets g → length (left_on (kind gpu) taken g) ≤ 65536
left_small gpu taken g s = omega (arith, filter_short (λ id. not (has_unit (kind gpu) taken g.host id)) (kind gpu g), set_length (kind gpu g) (kind_set gpu g s))

brought_small : (spec : JobSpec) (taken gs : List Node) → Each HasIdSets gs → brought spec gs (rooms_without taken gs) ≤ length gs * 65536
brought_small spec taken [] s = omega arith
brought_small spec taken (g ∷ gs) s =
    let here = worth_small spec (room_of g) (room_of (without_nodes taken g)) (left_small false taken g s.0) in
    let more = brought_small spec taken gs s.1 in
    omega (arith, here, more)

pub grant_length : (grant : List Node) → IsGrant grant → length grant ≤ 65536
grant_length grant is = let h = rising_length 0 (map (λ n. n.rank) grant) (omega arith) (ranks_rising grant is.hosts) in omega (arith, h, length-map grant (λ n. n.rank))

pub brought_bound : (spec : JobSpec) (grant taken : List Node) → IsGrant grant → brought spec grant (rooms_without taken grant) ≤ 4294967296
brought_bound spec grant taken is = let h = brought_small spec taken grant is.sets in let l = grant_length grant is in omega (arith, h, l)

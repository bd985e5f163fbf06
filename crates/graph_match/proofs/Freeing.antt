-- A job's units leave the rooms of hosts and come back, one node after another.
use Rattle.std.proofs.Common.{◌≡◌, ◌≢◌, ℕ, suc, zero, ◌+◌, ◌<◌, ◌≤◌, Bool, true, false, cond, ◌&&◌, ◌||◌, inl, inr, List, [], ◌∷◌, ◌++◌, length, get_or, set, take, drop, map, refl, sym, ap, ◌∙◌, subst, arith}
use Rattle.std.specs.Prelude.{MatchBool}
use Rattle.std.specs.Str.{bytes_eq}
use Rattle.std.proofs.lemmas.Bool.{and_parts, or_cases, true≢false, or_from, false_from_ne_true}
use Rattle.std.proofs.lemmas.List.{drop_more, take_more, get_or-map, get_or_default, length-map}
use Rattle.idset.specs.Ids.{has}
use Rattle.job_spec.specs.declared.spec.JobSpec.{JobSpec}
use Rattle.resource_set.specs.declared.node.Node.{Node}
use Rattle.job_rules.specs.Fits.{AreApart, AreWithin, HasIdSets, IsGrant, has_unit, without_nodes}
use Rattle.job_rules.proofs.Among.{Among, Distinct, among_mapped, any_at, any_from, distinct_from}
use Rattle.job_rules.proofs.UnitKinds.{apart_from, kind, kind_apart}
use Rattle.job_rules.proofs.Few.{bytes_same, hosts_of}
use Rattle.graph_match.specs.declared.place.Place.{Place}
use Rattle.graph_match.specs.declared.rooms.Room.{Room}
use Rattle.graph_match.specs.Places.{node_of}
use Rattle.graph_match.specs.Rooms.{AreRooms, brought, room_of, rooms_without, worth_of}
use Rattle.graph_match.proofs.Turns.{IsRead, read_among, read_is, read_part, read_sets, read_within}
use Rattle.graph_match.proofs.Holds.{has_both}
use Rattle.graph_match.proofs.Counting.{brought_at, brought_bound, brought_set, elsewhere, left_small, only_at, room_counts, more_less, more_room, less_room, room_with, rooms_same}

-- nodes of distinct hosts, and the one at an index
far_drop : (nodes : List Node) (i : ℕ) (node m : Node) → Distinct (hosts_of nodes) → i < length nodes → node ≡ get_or nodes i node → Among m (drop (suc i) nodes) → m.host ≢ node.host
far_drop [] i node m d h e j = absurd j
far_drop (x ∷ xs) zero node m d h e j = λ same. d.0 m.host (among_mapped (λ n. n.host) xs m j) (ap (λ n. n.host) (sym e) ∙ sym same)
far_drop (x ∷ xs) (suc i) node m d h e j = far_drop xs i node m d.1 (omega (arith, h)) e j

far_take : (nodes : List Node) (i : ℕ) (node m : Node) → Distinct (hosts_of nodes) → i < length nodes → node ≡ get_or nodes i node → Among m (take i nodes) → m.host ≢ node.host
far_take [] i node m d h e j = let no : ⊥ = omega (arith, h) in absurd no
far_take (x ∷ xs) zero node m d h e j = absurd j
far_take (x ∷ xs) (suc i) node m d h e j =
    let within : i < length xs = omega (arith, h) in
    elim j [
      | inl same ↦ λ equal. d.0 node.host (among_mapped (λ n. n.host) xs node (read_among xs i node within e)) (ap (λ n. n.host) same ∙ equal)
      | inr k ↦ far_take xs i node m d.1 within e k
    ]

-- one more node of a list stands before others
has_taken_more : (kind : Node → List ℕ) (nodes others : List Node) (i : ℕ) (node : Node) (host : List ℕ) (id : ℕ) → i < length nodes → node ≡ get_or nodes i node → has_unit kind (node ∷ (take i nodes ++ others)) host id ≡ has_unit kind (take (i + 1) nodes ++ others) host id
has_taken_more kind nodes others i node host id h e = sym (
    has_both kind (take (i + 1) nodes) others host id
    ∙ ap (λ b. b || has_unit kind others host id) (ap (λ ns. has_unit kind ns host id) (take_more nodes i node h ∙ ap (λ n. take i nodes ++ n ∷ []) (sym e)) ∙ has_both kind (take i nodes) (node ∷ []) host id)
    ∙ moved (has_unit kind (take i nodes) host id) (bytes_eq node.host host && has (kind node) id) (has_unit kind others host id)
    ∙ ap (λ b. (bytes_eq node.host host && has (kind node) id) || b) (sym (has_both kind (take i nodes) others host id))
    )
  where
    moved : (a b c : Bool) → ((a || (b || false)) || c) ≡ (b || (a || c))
    moved true true c = refl
    moved true false c = refl
    moved false true c = refl
    moved false false c = refl

taken_more : (grant nodes others : List Node) (i : ℕ) (node : Node) → i < length nodes → node ≡ get_or nodes i node → rooms_without (node ∷ (take i nodes ++ others)) grant ≡ rooms_without (take (i + 1) nodes ++ others) grant
taken_more grant nodes others i node h e = rooms_same (node ∷ (take i nodes ++ others)) (take (i + 1) nodes ++ others) grant (λ gpu host id. has_taken_more (kind gpu) nodes others i node host id h e)

drop_step : (nodes others : List Node) (i : ℕ) (node : Node) → i < length nodes → node ≡ get_or nodes i node → drop i nodes ++ others ≡ node ∷ (drop (i + 1) nodes ++ others)
drop_step nodes others i node h e = ap (λ ns. ns ++ others) (drop_more nodes i node h ∙ ap (λ n. n ∷ drop (i + 1) nodes) (sym e))

far_after : (nodes : List Node) (i : ℕ) (node m : Node) → Distinct (hosts_of nodes) → i < length nodes → node ≡ get_or nodes i node → Among m (drop (i + 1) nodes) → m.host ≢ node.host
far_after nodes i node m d h e j = let next : i + 1 ≡ suc i = omega arith in far_drop nodes i node m d h e (subst (λ n. Among m (drop n nodes)) next j)

-- ---- a turn over a job's nodes: this one is apart from what the others of its job and other jobs hold
module _ {grant nodes : List Node} (w : AreWithin nodes grant) {i : ℕ} {node : Node} (h : i < length nodes) (e : node ≡ get_or nodes i node) (others : List Node) where
  alone : (ms : List Node) → AreApart nodes others → ((m : Node) → Among m ms → m.host ≢ node.host) → AreApart (node ∷ []) (ms ++ others)
  alone ms apart far = apart_from (node ∷ []) (ms ++ others) (λ gpu host id t.
      let test = λ (n : Node). bytes_eq n.host host && has (kind gpu n) id in
      let hit : test node ≡ true = elim (or_cases (test node) false t) [ inl here ↦ here | inr none ↦ absurd (true≢false (sym none)) ] in
      let named : (n : Node) → test n ≡ true → n.host ≡ host = λ n u. bytes_same n.host host (and_parts (bytes_eq n.host host) (has (kind gpu n) id) u).0 in
      let none : has_unit (kind gpu) ms host id ≡ false = false_from_ne_true (has_unit (kind gpu) ms host id) (λ u.
      let other = any_from test ms u in
      far other.0 other.1 (named other.0 other.2 ∙ sym (named node hit))) in
      has_both (kind gpu) ms others host id ∙ or_from (has_unit (kind gpu) ms host id) (has_unit (kind gpu) others host id) none (kind_apart gpu nodes others apart host id (any_at test nodes node (read_among nodes i node h e) hit)))

  pub apart_behind : AreApart nodes others → AreApart (node ∷ []) (drop (i + 1) nodes ++ others)
  apart_behind apart = alone (drop (i + 1) nodes) apart (λ m j. far_after nodes i node m (distinct_from (hosts_of nodes) w.hosts.hosts) h e j)

  pub apart_before : AreApart nodes others → AreApart (node ∷ []) (take i nodes ++ others)
  apart_before apart = alone (take i nodes) apart (λ m j. far_take nodes i node m (distinct_from (hosts_of nodes) w.hosts.hosts) h e j)

  pub rooms_behind : {spec : JobSpec} {rooms : List Room} {sum : ℕ} → AreRooms spec grant (drop i nodes ++ others) rooms sum → AreRooms spec grant (node ∷ (drop (i + 1) nodes ++ others)) rooms sum
  rooms_behind {spec} {rooms} {sum} a = subst (λ ns. AreRooms spec grant ns rooms sum) (drop_step nodes others i node h e) a

  pub rooms_before : {spec : JobSpec} {rooms : List Room} {sum : ℕ} → AreRooms spec grant (node ∷ (take i nodes ++ others)) rooms sum → AreRooms spec grant (take (i + 1) nodes ++ others) rooms sum
  rooms_before a = record { rooms_are = a.rooms_are ∙ taken_more grant nodes others i node h e; sum_is = a.sum_is }

-- ---- a node's units are freed, or taken: what is taken before and after, where the rest stays taken
abbrev pub before : Bool → Node → List Node → List Node
before free node rest = cond free (node ∷ rest) rest

abbrev pub after : Bool → Node → List Node → List Node
after free node rest = cond free rest (node ∷ rest)

-- the room of its host then
abbrev pub changed_room : Bool → Room → Room → Room
changed_room free room units = cond free (more_room room units) (less_room room units)

abbrev pub CanChange : Bool → Room → Room → Type 0
CanChange free room units = MatchBool free ((room.cores + units.cores < 4294967296) × (room.gpus + units.gpus < 4294967296)) ((units.cores ≤ room.cores) × (units.gpus ≤ room.gpus))

-- as many units more are left on a host without the node as it has there
abbrev IsCounted : Node → Node → List Node → Type 0
IsCounted node g rest = room_of (without_nodes rest g) ≡ more_room (room_of (without_nodes (node ∷ rest) g)) (room_of node)

changes : (free : Bool) (node g : Node) (rest : List Node) → IsCounted node g rest → changed_room free (room_of (without_nodes (before free node rest) g)) (room_of node) ≡ room_of (without_nodes (after free node rest) g)
changes true node g rest e = sym e
changes false node g rest e = ap (λ r. less_room r (room_of node)) e ∙ more_less (room_of (without_nodes (node ∷ rest) g)) (room_of node)

can_change : (free : Bool) (node g : Node) (rest : List Node) → HasIdSets g → IsCounted node g rest → CanChange free (room_of (without_nodes (before free node rest) g)) (room_of node)
can_change true node g rest s e = (small (ap (λ r. r.cores) e) (left_small false rest g s), small (ap (λ r. r.gpus) e) (left_small true rest g s))
  where
    small : {a b : ℕ} → a ≡ b → a ≤ 65536 → b < 4294967296
    small same h = omega arith
can_change false node g rest s e = (omega (arith, ap (λ r. r.cores) e), omega (arith, ap (λ r. r.gpus) e))

elsewhere_too : (free : Bool) (node : Node) (rest : List Node) (x : Node) → x.host ≢ node.host → room_of (without_nodes (after free node rest) x) ≡ room_of (without_nodes (before free node rest) x)
elsewhere_too true node rest x far = sym (elsewhere node rest x far)
elsewhere_too false node rest x far = elsewhere node rest x far

sum_moves : (spec : JobSpec) (grant : List Node) (rooms : List Room) (at : ℕ) (new old : Room) (g : Node) (sum sum' : ℕ) → at < length grant → length rooms ≡ length grant → g ≡ get_or grant at g → old ≡ get_or rooms at old → sum ≡ brought spec grant rooms → sum' + worth_of spec (room_of g) old ≡ sum + worth_of spec (room_of g) new → sum' ≡ brought spec grant (set rooms at new)
sum_moves spec grant rooms at new old g sum sum' lt l q o s m =
    let step : brought spec grant (set rooms at new) + worth_of spec (room_of (get_or grant at g)) (get_or rooms at old) ≡ brought spec grant rooms + worth_of spec (room_of (get_or grant at g)) new = brought_set spec grant rooms at new g old lt l in
    let before : worth_of spec (room_of (get_or grant at g)) (get_or rooms at old) ≡ worth_of spec (room_of g) old = ap (λ x. worth_of spec (room_of x) (get_or rooms at old)) (sym q) ∙ ap (λ x. worth_of spec (room_of g) x) (sym o) in
    let after : worth_of spec (room_of (get_or grant at g)) new ≡ worth_of spec (room_of g) new = ap (λ x. worth_of spec (room_of x) new) (sym q) in
    omega (arith, step, before, after, s, m)

old_within : (spec : JobSpec) (grant : List Node) (rooms : List Room) (at : ℕ) (old : Room) (g : Node) (sum : ℕ) → at < length grant → length rooms ≡ length grant → g ≡ get_or grant at g → old ≡ get_or rooms at old → sum ≡ brought spec grant rooms → worth_of spec (room_of g) old ≤ sum
old_within spec grant rooms at old g sum lt l q o s =
    let bound = brought_at spec grant rooms at g old lt l in
    let before : worth_of spec (room_of (get_or grant at g)) (get_or rooms at old) ≡ worth_of spec (room_of g) old = ap (λ x. worth_of spec (room_of x) (get_or rooms at old)) (sym q) ∙ ap (λ x. worth_of spec (room_of g) x) (sym o) in
    omega (arith, bound, before, s)

rooms_length : (taken grant : List Node) (rooms : List Room) → rooms ≡ rooms_without taken grant → length rooms ≡ length grant
rooms_length taken grant rooms e = ap length e ∙ length-map (map (without_nodes taken) grant) room_of ∙ length-map grant (without_nodes taken)

sum_bound : (spec : JobSpec) (grant taken : List Node) (rooms : List Room) (sum : ℕ) → IsGrant grant → AreRooms spec grant taken rooms sum → sum ≤ 4294967296
sum_bound spec grant taken rooms sum is a = let bound = brought_bound spec grant taken is in let same = ap (brought spec grant) a.rooms_are in omega (arith, bound, same, a.sum_is)

-- a room as the code reads it
abbrev pub old_at : List Room → ℕ → Room
old_at rooms at = get_or rooms at (room_with 0 0)

-- ---- a turn at a node's host
module _ {places : List Place} {node : Node} {at : ℕ} {p : Place} (read : IsRead places node at p) {spec : JobSpec} {taken : List Node} {rooms : List Room} {sum : ℕ} (a : AreRooms spec (map node_of places) taken rooms sum) where
  abbrev grant : List Node
  grant = map node_of places

  abbrev g : Node
  g = node_of p

  long : length rooms ≡ length grant
  long = rooms_length taken grant rooms a.rooms_are

  old_is : old_at rooms at ≡ get_or rooms at (old_at rooms at)
  old_is = get_or_default rooms at (room_with 0 0) (old_at rooms at) (omega (arith, long, length-map places node_of, read.there))

  pub room_within : (worth_of spec (room_of (node_of p)) (old_at rooms at) ≤ sum) × (sum ≤ 4294967296)
  room_within = (
    old_within spec grant rooms at (old_at rooms at) g sum (read_within read) long (read_is read) old_is a.sum_is,
    sum_bound spec grant taken rooms sum read.grant a,
  )

  room_at : old_at rooms at ≡ room_of (without_nodes taken g)
  room_at =
      old_is ∙ ap (λ rs. get_or rs at (old_at rooms at)) a.rooms_are
      ∙ get_or-map room_of (map (without_nodes taken) grant) at (without_nodes taken g) (old_at rooms at) (subst (λ n. at < n) (sym (length-map grant (without_nodes taken))) (read_within read))
      ∙ ap room_of (get_or-map (without_nodes taken) grant at g (without_nodes taken g) (read_within read))
      ∙ ap (λ x. room_of (without_nodes taken x)) (sym (read_is read))

  -- once the host has another room, since other nodes are taken there
  moved : (now : List Node) (new : Room) (sum' : ℕ) → ((x : Node) → x.host ≢ node.host → room_of (without_nodes now x) ≡ room_of (without_nodes taken x)) → new ≡ room_of (without_nodes now g) → sum' + worth_of spec (room_of g) (old_at rooms at) ≡ sum + worth_of spec (room_of g) new → AreRooms spec grant now (set rooms at new) sum'
  moved now new sum' far n m = record {
    rooms_are =
        ap (λ x. set rooms at x) n ∙ ap (λ rs. set rs at (room_of (without_nodes now g))) a.rooms_are
        ∙ ap (λ x. set (rooms_without taken grant) at (room_of (without_nodes now x))) (read_is read)
        ∙ sym (only_at now taken grant at g (read_within read) (distinct_from (hosts_of grant) read.grant.hosts.hosts) (λ x away. far x (λ same. away (same ∙ (read_part read).host ∙ ap (λ n. n.host) (read_is read)))));
    sum_is = sum_moves spec grant rooms at new (old_at rooms at) g sum sum' (read_within read) long (read_is read) old_is a.sum_is m;
  }

module _ {places : List Place} {node : Node} {at : ℕ} {p : Place} (read : IsRead places node at p) (s : HasIdSets node) (free : Bool) (rest : List Node) (apart : AreApart (node ∷ []) rest) {spec : JobSpec} {rooms : List Room} {sum : ℕ} (a : AreRooms spec (map node_of places) (before free node rest) rooms sum) where
  counted : IsCounted node (node_of p) rest
  counted = room_counts node (node_of p) rest (read_part read) s (read_sets read) apart

  pub can_exchange : CanChange free (old_at rooms at) (room_of node)
  can_exchange = subst (λ r. CanChange free r (room_of node)) (sym (room_at read a)) (can_change free node (node_of p) rest (read_sets read) counted)

  pub exchanged : (new : Room) (sum' : ℕ) → new ≡ changed_room free (old_at rooms at) (room_of node) → sum' + worth_of spec (room_of (node_of p)) (old_at rooms at) ≡ sum + worth_of spec (room_of (node_of p)) new → AreRooms spec (map node_of places) (after free node rest) (set rooms at new) sum'
  exchanged new sum' n m = moved read a (after free node rest) new sum' (elsewhere_too free node rest) (n ∙ ap (λ r. changed_room free r (room_of node)) (room_at read a) ∙ changes free node (node_of p) rest counted) m

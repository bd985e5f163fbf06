-- The jobs in a job's way: from all live jobs each is left out, in order of id, without which the rest still leaves no room.
use Rattle.std.proofs.Common.{◌≡◌, ◌≢◌, ℕ, suc, zero, ◌+◌, ◌<◌, ◌≤◌, Bool, true, false, cond, ◌&&◌, ◌||◌, eqb, ltb, ◌⊎◌, inl, inr, List, [], ◌∷◌, ◌++◌, length, get_or, take, drop, map, refl, sym, ap, ◌∙◌, subst, arith}
use Rattle.std.specs.Prelude.{◌↔◌, Contains}
use Rattle.std.specs.List.Sorted.{IsStrictlyIncreasing}
use Rattle.std.proofs.lemmas.Bool.{true≢false, ne_eqb, lt-ltb, le-ltb, ltb-true, or_from, false_from_ne_true}
use Rattle.std.proofs.lemmas.List.{append-nil, append_assoc, drop_more, take_more, take_all, drop_all}
use Rattle.std.proofs.lemmas.List.Concat.{flat_map-append}
use Rattle.std.proofs.lemmas.List.Elements.{filter-append, filter_agree}
use Rattle.std.proofs.lemmas.List.Folds.{list_any-append}
use Rattle.idset.specs.Ids.{has}
use Rattle.job_spec.specs.declared.spec.JobSpec.{JobSpec}
use Rattle.job_rules.specs.declared.hold.Hold.{Hold}
use Rattle.resource_set.specs.declared.node.Node.{Node}
use Rattle.job_rules.specs.Fits.{AllApart, AreApart, AreBlockers, CanFit, IsGrant, IsSpec, free_of, has_unit, nodes_of, others_at, with_ids, without_nodes}
use Rattle.job_rules.specs.Worths.{total, wanted, worth}
use Rattle.job_rules.proofs.Among.{Among, among_append, among_from, among_has, among_left, among_map, among_mapped, among_right, contains_from, has_among}
use Rattle.job_rules.proofs.UnitKinds.{kind, kind_apart}
use Rattle.job_rules.proofs.Sets.{can_fit_enough, enough_can_fit, free_is}
use Rattle.graph_match.specs.declared.place.Place.{Place}
use Rattle.graph_match.specs.declared.rooms.Room.{Room}
use Rattle.graph_match.specs.Kept.{IsKept}
use Rattle.graph_match.specs.Places.{free_node, node_of}
use Rattle.graph_match.specs.Rooms.{AreRooms, brought, room_of, rooms_without}
use Rattle.graph_match.proofs.Hosts.{free_places}
use Rattle.graph_match.proofs.Holds.{RiseFrom, has_both, has_fewer, has_held, ids_of, rise_of, rises}
use Rattle.graph_match.proofs.Turns.{read_among}
use Rattle.graph_match.proofs.Counting.{brought_is, rooms_same}

-- what the jobs of the list among the first so many hold, and all jobs behind these
abbrev pub listed : List ℕ → ℕ → List Hold → List Node
listed list i live = nodes_of (with_ids list (take i live))

abbrev pub later : ℕ → List Hold → List Node
later i live = nodes_of (drop i live)

-- what all others hold while a job is left out
abbrev pub rest_of : List ℕ → ℕ → List Hold → List Node
rest_of list i live = listed list i live ++ later (i + 1) live

-- of nodes that are apart no unit of a kind is in both
abbrev pub IsApartBy : (Node → List ℕ) → Type 0
IsApartBy kind = (a b : List Node) → AreApart a b → (host : List ℕ) (id : ℕ) → has_unit kind a host id ≡ true → has_unit kind b host id ≡ false

-- ---- a job is apart from those before and behind it
apart_at : (gpu : Bool) (live : List Hold) (i : ℕ) (hold : Hold) (host : List ℕ) (id : ℕ) → AllApart live → i < length live → hold ≡ get_or live i hold → has_unit (kind gpu) hold.nodes host id ≡ true → (has_unit (kind gpu) (nodes_of (take i live)) host id ≡ false) × (has_unit (kind gpu) (nodes_of (drop (suc i) live)) host id ≡ false)
apart_at gpu [] i hold host id a h e t = let no : ⊥ = omega (arith, h) in absurd no
apart_at gpu (x ∷ xs) zero hold host id a h e t = (refl, kind_apart gpu x.nodes (nodes_of xs) a.0 host id (ap (λ y. has_unit (kind gpu) y.nodes host id) (sym e) ∙ t))
apart_at gpu (x ∷ xs) (suc i) hold host id a h e t =
    let within : i < length xs = omega (arith, h) in
    let more = apart_at gpu xs i hold host id a.1 within e t in
    let there : has_unit (kind gpu) (nodes_of xs) host id ≡ true = has_held (kind gpu) xs hold host id (read_among xs i hold within e) t in
    let none : has_unit (kind gpu) x.nodes host id ≡ false = false_from_ne_true (has_unit (kind gpu) x.nodes host id) (λ u. true≢false (sym there ∙ kind_apart gpu x.nodes (nodes_of xs) a.0 host id u)) in
    (has_both (kind gpu) x.nodes (nodes_of (take i xs)) host id ∙ or_from (has_unit (kind gpu) x.nodes host id) (has_unit (kind gpu) (nodes_of (take i xs)) host id) none more.0, more.1)

pub apart_others : (list : List ℕ) (live : List Hold) (i : ℕ) (hold : Hold) → AllApart live → i < length live → hold ≡ get_or live i hold → AreApart hold.nodes (rest_of list i live)
apart_others list live i hold a h e host id = (one false, one true)
  where
    next : i + 1 ≡ suc i
    next = omega arith

    one : (gpu : Bool) → has_unit (kind gpu) hold.nodes host id ≡ true → has_unit (kind gpu) (rest_of list i live) host id ≡ false
    one gpu t =
        let both = apart_at gpu live i hold host id a h e t in
        has_both (kind gpu) (listed list i live) (later (i + 1) live) host id
        ∙ or_from (has_unit (kind gpu) (listed list i live) host id) (has_unit (kind gpu) (later (i + 1) live) host id)
        (has_fewer (kind gpu) (λ x. has list x.id) (take i live) host id both.0)
        (ap (λ n. has_unit (kind gpu) (nodes_of (drop n live)) host id) next ∙ both.1)

-- ---- the order of the jobs doesn't matter to what is left
swap : (a h b : Bool) → (a || (h || b)) ≡ (h || (a || b))
swap true true b = refl
swap true false b = refl
swap false h b = refl

has_swapped : (kind : Node → List ℕ) (a h b : List Node) (host : List ℕ) (id : ℕ) → has_unit kind (a ++ (h ++ b)) host id ≡ has_unit kind (h ++ (a ++ b)) host id
has_swapped kind a h b host id =
    has_both kind a (h ++ b) host id ∙ ap (λ x. has_unit kind a host id || x) (has_both kind h b host id)
    ∙ swap (has_unit kind a host id) (has_unit kind h host id) (has_unit kind b host id)
    ∙ sym (has_both kind h (a ++ b) host id ∙ ap (λ x. has_unit kind h host id || x) (has_both kind a b host id))

pub rooms_swapped : (a h b : List Node) (grant : List Node) → rooms_without (a ++ (h ++ b)) grant ≡ rooms_without (h ++ (a ++ b)) grant
rooms_swapped a h b grant = rooms_same (a ++ (h ++ b)) (h ++ (a ++ b)) grant (λ gpu host id. has_swapped (kind gpu) a h b host id)

later_step : (live : List Hold) (i : ℕ) (hold : Hold) → i < length live → hold ≡ get_or live i hold → later i live ≡ hold.nodes ++ later (i + 1) live
later_step live i hold h e = ap nodes_of (drop_more live i hold h ∙ ap (λ x. x ∷ drop (i + 1) live) (sym e))

-- ---- the other jobs at an id
above : (m : ℕ) (ys : List Hold) (j : ℕ) (d : Hold) → RiseFrom m (ids_of ys) → j < length ys → m ≤ (get_or ys j d).id
above m [] j d r h = let no : ⊥ = omega (arith, h) in absurd no
above m (y ∷ ys) zero d r h = r.0
above m (y ∷ ys) (suc j) d r h = omega (arith, r.0, above (y.id + 1) ys j d r.1 (omega (arith, h)))

split_at : (list : List ℕ) (n i : ℕ) (live : List Hold) (hold : Hold) → RiseFrom n (ids_of live) → i < length live → hold ≡ get_or live i hold → others_at hold.id list live ≡ with_ids list (take i live) ++ drop (suc i) live
split_at list n i [] hold r h e = let no : ⊥ = omega (arith, h) in absurd no
split_at list n zero (x ∷ xs) hold r h e =
    ap (λ b. cond b (x ∷ others_at hold.id list xs) (others_at hold.id list xs)) none ∙ all_later (x.id + 1) xs r.1 (omega (arith, same))
  where
    same : hold.id ≡ x.id
    same = ap (λ y. y.id) e

    none : ((ltb x.id hold.id && has list x.id) || ltb hold.id x.id) ≡ false
    none = ap (λ b. (b && has list x.id) || ltb hold.id x.id) (le-ltb x.id hold.id (omega (arith, same))) ∙ le-ltb hold.id x.id (omega (arith, same))

    all_later : (m : ℕ) (ys : List Hold) → RiseFrom m (ids_of ys) → hold.id < m → others_at hold.id list ys ≡ ys
    all_later m [] r h = refl
    all_later m (y ∷ ys) r h =
        ap (λ b. cond b (y ∷ others_at hold.id list ys) (others_at hold.id list ys))
        (ap (λ b. (b && has list y.id) || ltb hold.id y.id) (le-ltb y.id hold.id (omega (arith, r.0, h))) ∙ lt-ltb hold.id y.id (omega (arith, r.0, h)))
        ∙ ap (λ zs. y ∷ zs) (all_later (y.id + 1) ys r.1 (omega (arith, r.0, h)))
split_at list n (suc i) (x ∷ xs) hold r h e = step (split_at list (x.id + 1) i xs hold r.1 within e) below
  where
    within : i < length xs
    within = omega (arith, h)

    below : x.id < hold.id
    below = omega (arith, above (x.id + 1) xs i hold r.1 within, ap (λ y. y.id) e)

    step : others_at hold.id list xs ≡ with_ids list (take i xs) ++ drop (suc i) xs → x.id < hold.id → others_at hold.id list (x ∷ xs) ≡ with_ids list (x ∷ take i xs) ++ drop (suc i) xs
    step more b =
        ap (λ t. cond t (x ∷ others_at hold.id list xs) (others_at hold.id list xs)) test ∙ at (has list x.id) more
      where
        or_nothing : (t : Bool) → (t || false) ≡ t
        or_nothing true = refl
        or_nothing false = refl

        test : ((ltb x.id hold.id && has list x.id) || ltb hold.id x.id) ≡ has list x.id
        test = ap (λ t. (t && has list x.id) || ltb hold.id x.id) (lt-ltb x.id hold.id b) ∙ ap (λ t. has list x.id || t) (le-ltb hold.id x.id (omega (arith, b))) ∙ or_nothing (has list x.id)

        at : (t : Bool) → others_at hold.id list xs ≡ with_ids list (take i xs) ++ drop (suc i) xs → cond t (x ∷ others_at hold.id list xs) (others_at hold.id list xs) ≡ cond t (x ∷ with_ids list (take i xs)) (with_ids list (take i xs)) ++ drop (suc i) xs
        at true more = ap (λ zs. x ∷ zs) more
        at false more = more

-- the grant without the other jobs' units
pub others_free : (grant : List Node) (list : List ℕ) (live : List Hold) (i : ℕ) (hold : Hold) → IsStrictlyIncreasing (ids_of live) → i < length live → hold ≡ get_or live i hold → free_of grant (others_at hold.id list live) ≡ map (without_nodes (rest_of list i live)) grant
others_free grant list live i hold r h e =
    ap (λ hs. map (without_nodes (nodes_of hs)) grant) (split_at list 0 i live hold (rise_of 0 (ids_of live) (λ w. omega arith) r) h e)
    ∙ ap (λ ns. map (without_nodes ns) grant) (flat_map-append (λ x. x.nodes) (with_ids list (take i live)) (drop (suc i) live) ∙ ap (λ n. listed list i live ++ nodes_of (drop n live)) next)
  where
    next : suc i ≡ i + 1
    next = omega arith

-- ---- one id more in the list
has_push : (list : List ℕ) (new id : ℕ) → id ≢ new → has (list ++ new ∷ []) id ≡ has list id
has_push list new id far = list_any-append (λ i. eqb i id) list (new ∷ []) ∙ ap (λ b. has list id || (b || false)) (ne_eqb new id (λ e. far (sym e))) ∙ none (has list id)
  where
    none : (b : Bool) → (b || false) ≡ b
    none true = refl
    none false = refl

kept_ids : (list : List ℕ) (new : ℕ) (holds : List Hold) → ((h : Hold) → Among h holds → h.id ≢ new) → with_ids (list ++ new ∷ []) holds ≡ with_ids list holds
kept_ids list new [] far = refl
kept_ids list new (x ∷ xs) far =
    ap (λ b. cond b (x ∷ with_ids (list ++ new ∷ []) xs) (with_ids (list ++ new ∷ []) xs)) (has_push list new x.id (far x (inl refl)))
    ∙ ap (λ ys. cond (has list x.id) (x ∷ ys) ys) (kept_ids list new xs (λ y i. far y (inr i)))

others_push : (list : List ℕ) (new at : ℕ) (live : List Hold) → at < new → others_at at (list ++ new ∷ []) live ≡ others_at at list live
others_push list new at live h = filter_agree (λ x. (ltb x.id at && has (list ++ new ∷ []) x.id) || ltb at x.id) (λ x. (ltb x.id at && has list x.id) || ltb at x.id) same live
  where
    same : (x : Hold) → ((ltb x.id at && has (list ++ new ∷ []) x.id) || ltb at x.id) ≡ ((ltb x.id at && has list x.id) || ltb at x.id)
    same x = by (ltb x.id at) refl
      where
        by : (b : Bool) → ltb x.id at ≡ b → ((b && has (list ++ new ∷ []) x.id) || ltb at x.id) ≡ ((b && has list x.id) || ltb at x.id)
        by true e = let below : x.id < at = ltb-true x.id at e in ap (λ t. t || ltb at x.id) (has_push list new x.id (λ s. let no : ⊥ = omega (arith, below, h, s) in no))
        by false e = refl

-- ---- the state as the jobs are gone over
pub record IsBlocking (spec : JobSpec) (grant : List Node) (live : List Hold) (i : ℕ) (list : List ℕ) (rooms : List Room) (sum : ℕ) : Type 0 where
  pub are_rooms : AreRooms spec grant (listed list i live ++ later i live) rooms sum
  pub few : sum < wanted spec
  pub alive : (id : ℕ) → Among id list → Among id (ids_of (take i live))
  pub rising : RiseFrom 0 list
  pub exact : (hold : Hold) → Among hold (take i live) → Contains list hold.id ↔ CanFit spec grant (free_of grant (others_at hold.id list live))

pub blocking_begun : (spec : JobSpec) (grant : List Node) (live : List Hold) (rooms : List Room) (sum : ℕ) (list : List ℕ) → AreRooms spec grant (nodes_of live) rooms sum → sum < wanted spec → list ≡ [] → IsBlocking spec grant live 0 list rooms sum
blocking_begun spec grant live rooms sum list a few l = subst (λ xs. IsBlocking spec grant live 0 xs rooms sum) (sym l) (record {
  are_rooms = a;
  few = few;
  alive = λ id i. absurd i;
  rising = tt;
  exact = λ hold i. absurd i;
})

pub rooms_begun : (spec : JobSpec) (places : List Place) (live : List Hold) (rooms : List Room) (sum : ℕ) → IsKept places live → rooms ≡ map room_of (map free_node places) → sum ≡ total (worth spec (map node_of places)) (map free_node places) → AreRooms spec (map node_of places) (nodes_of live) rooms sum
rooms_begun spec places live rooms sum k r s = record {
  rooms_are = rooms_is;
  sum_is = s ∙ ap (total (worth spec (map node_of places))) free ∙ sym (brought_is spec (map node_of places) (nodes_of live) k.grant) ∙ ap (brought spec (map node_of places)) (sym rooms_is);
}
  where
    free : map free_node places ≡ map (without_nodes (nodes_of live)) (map node_of places)
    free = free_places (nodes_of live) places k.marks

    rooms_is : rooms ≡ rooms_without (nodes_of live) (map node_of places)
    rooms_is = r ∙ ap (map room_of) free

-- the nodes' rooms bring as much as a job asks for where it can have what they leave
pub room_for : (spec : JobSpec) (grant taken : List Node) (rooms : List Room) (sum : ℕ) → IsSpec spec → IsGrant grant → AreRooms spec grant taken rooms sum → CanFit spec grant (map (without_nodes taken) grant) ↔ (wanted spec ≤ sum)
room_for spec grant taken rooms sum is g a = (
  λ can. let many = can_fit_enough spec grant (map (without_nodes taken) grant) is (free_is grant taken g) can in omega (arith, many, same),
  λ many. enough_can_fit spec grant (map (without_nodes taken) grant) (free_is grant taken g) is (omega (arith, many, same)),
)
  where
    same : sum ≡ total (worth spec grant) (map (without_nodes taken) grant)
    same = a.sum_is ∙ ap (brought spec grant) a.rooms_are ∙ brought_is spec grant taken g

module _ {spec : JobSpec} {grant : List Node} {live : List Hold} {i : ℕ} {list : List ℕ} {rooms : List Room} {sum : ℕ} (b : IsBlocking spec grant live i list rooms sum) (is : IsSpec spec) (g : IsGrant grant) (r : IsStrictlyIncreasing (ids_of live)) (hold : Hold) (h : i < length live) (e : hold ≡ get_or live i hold) where
  pub ready : AreRooms spec grant (hold.nodes ++ rest_of list i live) rooms sum
  ready = record {
    rooms_are = b.are_rooms.rooms_are ∙ ap (λ ns. rooms_without (listed list i live ++ ns) grant) (later_step live i hold h e) ∙ rooms_swapped (listed list i live) hold.nodes (later (i + 1) live) grant;
    sum_is = b.are_rooms.sum_is;
  }

  -- jobs before have lower ids
  lower : (x : Hold) → Among x (take i live) → x.id < hold.id
  lower x j = below 0 live i (rise_of 0 (ids_of live) (λ w. omega arith) r) h e x j
    where
      below : (m : ℕ) (ys : List Hold) (j : ℕ) → RiseFrom m (ids_of ys) → j < length ys → hold ≡ get_or ys j hold → (x : Hold) → Among x (take j ys) → x.id < hold.id
      below m [] j r h e x k = let no : ⊥ = omega (arith, h) in absurd no
      below m (y ∷ ys) zero r h e x k = absurd k
      below m (y ∷ ys) (suc j) r h e x k = elim k [
        | inl same ↦ omega (arith, ap (λ z. z.id) same, above (y.id + 1) ys j hold r.1 (omega (arith, h)), ap (λ z. z.id) e)
        | inr l ↦ below (y.id + 1) ys j r.1 (omega (arith, h)) e x l
      ]

  listed_lower : (id : ℕ) → Among id list → id < hold.id
  listed_lower id j = let hit = among_map (λ x. x.id) (take i live) id (b.alive id j) in subst (λ n. n < hold.id) hit.2 (lower hit.0 hit.1)

  unlisted : Among hold.id list → ⊥
  unlisted j = let no : ⊥ = omega (arith, listed_lower hold.id j) in no

  take_next : take (i + 1) live ≡ take i live ++ hold ∷ []
  take_next = take_more live i hold h ∙ ap (λ x. take i live ++ x ∷ []) (sym e)

  among_next : (x : Hold) → Among x (take (i + 1) live) → Among x (take i live) ⊎ (hold ≡ x)
  among_next x j = elim (among_append (take i live) (hold ∷ []) x (subst (λ xs. Among x xs) take_next j)) [
    | inl a ↦ inl a
    | inr c ↦ elim c [ inl same ↦ inr same | inr none ↦ absurd none ]
  ]

  ids_more : (id : ℕ) → Among id (ids_of (take i live)) → Among id (ids_of (take (i + 1) live))
  ids_more id j =
      let hit = among_map (λ x. x.id) (take i live) id j in
      subst (λ n. Among n (ids_of (take (i + 1) live))) hit.2 (among_mapped (λ x. x.id) (take (i + 1) live) hit.0 (subst (λ xs. Among hit.0 xs) (sym take_next) (among_left (take i live) (hold ∷ []) hit.0 hit.1)))

  -- the job is left out: the rest leaves no room
  pub left_out : {rooms' : List Room} {sum' : ℕ} → AreRooms spec grant (rest_of list i live) rooms' sum' → sum' < wanted spec → IsBlocking spec grant live (i + 1) list rooms' sum'
  left_out {rooms'} {sum'} a few = record {
    are_rooms = subst (λ hs. AreRooms spec grant (nodes_of hs ++ later (i + 1) live) rooms' sum') (sym kept) a;
    few = few;
    alive = λ id j. ids_more id (b.alive id j);
    rising = b.rising;
    exact = exact;
  }
    where
      kept : with_ids list (take (i + 1) live) ≡ with_ids list (take i live)
      kept =
          ap (with_ids list) take_next ∙ filter-append (λ x. has list x.id) (take i live) (hold ∷ [])
          ∙ ap (λ t. with_ids list (take i live) ++ cond t (hold ∷ []) []) (false_from_ne_true (has list hold.id) (λ t. unlisted (has_among list hold.id t)))
          ∙ append-nil (with_ids list (take i live))

      none : CanFit spec grant (free_of grant (others_at hold.id list live)) → ⊥
      none can =
          let many = (room_for spec grant (rest_of list i live) rooms' sum' is g a).0 (subst (CanFit spec grant) (others_free grant list live i hold r h e) can) in
          omega (arith, few, many)

      here : (x : Hold) → hold ≡ x → Contains list x.id ↔ CanFit spec grant (free_of grant (others_at x.id list live))
      here x same = subst (λ y. Contains list y.id ↔ CanFit spec grant (free_of grant (others_at y.id list live))) same
          (λ c. absurd (unlisted (among_from list hold.id c)), λ can. absurd (none can))

      exact : (x : Hold) → Among x (take (i + 1) live) → Contains list x.id ↔ CanFit spec grant (free_of grant (others_at x.id list live))
      exact x j = elim (among_next x j) [ inl before ↦ b.exact x before | inr same ↦ here x same ]

  -- the job stays: without it there is room
  pub stays : {gone rooms' : List Room} {more sum' : ℕ} {list' : List ℕ} → AreRooms spec grant (rest_of list i live) gone more → wanted spec ≤ more → AreRooms spec grant (hold.nodes ++ rest_of list i live) rooms' sum' → list' ≡ list ++ hold.id ∷ [] → IsBlocking spec grant live (i + 1) list' rooms' sum'
  stays {gone} {rooms'} {more} {sum'} a many a' p = subst (λ xs. IsBlocking spec grant live (i + 1) xs rooms' sum') (sym p) (record {
    are_rooms = record { rooms_are = back ∙ b.are_rooms.rooms_are ∙ ap (λ ns. rooms_without ns grant) taken; sum_is = a'.sum_is };
    few = omega (arith, b.few, b.are_rooms.sum_is, a'.sum_is, ap (brought spec grant) back);
    alive = alive;
    rising = rise_push list b.rising;
    exact = exact;
  })
    where
      pushed : List ℕ
      pushed = list ++ hold.id ∷ []

      back : rooms' ≡ rooms
      back = a'.rooms_are ∙ sym ready.rooms_are

      last : with_ids pushed (hold ∷ []) ≡ hold ∷ []
      last = ap (λ t. cond t (hold ∷ []) []) (among_has pushed hold.id (among_right list (hold.id ∷ []) hold.id (inl refl)))

      kept : with_ids pushed (take (i + 1) live) ≡ with_ids list (take i live) ++ hold ∷ []
      kept =
          ap (with_ids pushed) take_next ∙ filter-append (λ x. has pushed x.id) (take i live) (hold ∷ [])
          ∙ ap (λ hs. hs ++ with_ids pushed (hold ∷ [])) (kept_ids list hold.id (take i live) (λ x j same. let no : ⊥ = omega (arith, lower x j, same) in no))
          ∙ ap (λ hs. with_ids list (take i live) ++ hs) last

      taken : listed list i live ++ later i live ≡ listed pushed (i + 1) live ++ later (i + 1) live
      taken =
          ap (λ ns. listed list i live ++ ns) (later_step live i hold h e)
          ∙ sym (append_assoc (listed list i live) hold.nodes (later (i + 1) live))
          ∙ ap (λ ns. ns ++ later (i + 1) live) (sym (ap nodes_of kept ∙ flat_map-append (λ x. x.nodes) (with_ids list (take i live)) (hold ∷ []) ∙ ap (λ ns. listed list i live ++ ns) (append-nil hold.nodes)))

      alive : (id : ℕ) → Among id pushed → Among id (ids_of (take (i + 1) live))
      alive id j = elim (among_append list (hold.id ∷ []) id j) [
        | inl a ↦ ids_more id (b.alive id a)
        | inr c ↦ elim c [
          | inl same ↦ subst (λ n. Among n (ids_of (take (i + 1) live))) same (among_mapped (λ x. x.id) (take (i + 1) live) hold (subst (λ xs. Among hold xs) (sym take_next) (among_right (take i live) (hold ∷ []) hold (inl refl))))
          | inr none ↦ absurd none
        ]
      ]

      rise_more : (n : ℕ) (xs : List ℕ) → RiseFrom n xs → n ≤ hold.id → ((id : ℕ) → Among id xs → id < hold.id) → RiseFrom n (xs ++ hold.id ∷ [])
      rise_more n [] r h f = (h, tt)
      rise_more n (x ∷ xs) r h f = (r.0, rise_more (x + 1) xs r.1 (omega (arith, f x (inl refl))) (λ id j. f id (inr j)))

      rise_push : (xs : List ℕ) → RiseFrom 0 list → RiseFrom 0 pushed
      rise_push xs r = rise_more 0 list r (omega arith) listed_lower

      fits : CanFit spec grant (free_of grant (others_at hold.id pushed live))
      fits =
          let can = (room_for spec grant (rest_of list i live) gone more is g a).1 many in
          let held : listed pushed i live ≡ listed list i live = ap nodes_of (kept_ids list hold.id (take i live) (λ x j same. let no : ⊥ = omega (arith, lower x j, same) in no)) in
          subst (CanFit spec grant) (sym (others_free grant pushed live i hold r h e ∙ ap (λ ns. map (without_nodes (ns ++ later (i + 1) live)) grant) held)) can

      before : (x : Hold) → Among x (take i live) → Contains pushed x.id ↔ CanFit spec grant (free_of grant (others_at x.id pushed live))
      before x j =
          let was = b.exact x j in
          let same : others_at x.id pushed live ≡ others_at x.id list live = others_push list hold.id x.id live (lower x j) in (
            λ c. subst (λ hs. CanFit spec grant (free_of grant hs)) (sym same) (was.0 (contains_from list x.id (older (among_from pushed x.id c)))),
            λ can. contains_from pushed x.id (among_left list (hold.id ∷ []) x.id (among_from list x.id (was.1 (subst (λ hs. CanFit spec grant (free_of grant hs)) same can)))),
          )
        where
          older : Among x.id pushed → Among x.id list
          older k = elim (among_append list (hold.id ∷ []) x.id k) [
            | inl a ↦ a
            | inr c ↦ elim c [ inl same ↦ (let no : ⊥ = omega (arith, lower x j, same) in absurd no) | inr none ↦ absurd none ]
          ]

      here : (x : Hold) → hold ≡ x → Contains pushed x.id ↔ CanFit spec grant (free_of grant (others_at x.id pushed live))
      here x same = subst (λ y. Contains pushed y.id ↔ CanFit spec grant (free_of grant (others_at y.id pushed live))) same
          (λ c. fits, λ can. contains_from pushed hold.id (among_right list (hold.id ∷ []) hold.id (inl refl)))

      exact : (x : Hold) → Among x (take (i + 1) live) → Contains pushed x.id ↔ CanFit spec grant (free_of grant (others_at x.id pushed live))
      exact x j = elim (among_next x j) [ inl a ↦ before x a | inr same ↦ here x same ]

pub blocking_done : {spec : JobSpec} {grant : List Node} {live : List Hold} {i : ℕ} {list : List ℕ} {rooms : List Room} {sum : ℕ} → IsSpec spec → IsGrant grant → length live ≤ i → IsBlocking spec grant live i list rooms sum → AreBlockers spec grant live list
blocking_done {spec} {grant} {live} {i} {list} {rooms} {sum} is g h b = record {
  rising = rises 0 list b.rising;
  alive = λ id c. contains_from (ids_of live) id (subst (λ hs. Among id (ids_of hs)) all (b.alive id (among_from list id c)));
  block = λ can. (let many = (room_for spec grant (nodes_of (with_ids list live)) rooms sum is g (subst (λ ns. AreRooms spec grant ns rooms sum) taken b.are_rooms)).0 can in omega (arith, b.few, many));
  exact = λ hold c. b.exact hold (subst (λ hs. Among hold hs) (sym all) (among_from live hold c));
}
  where
    all : take i live ≡ live
    all = take_all i live h

    taken : listed list i live ++ later i live ≡ nodes_of (with_ids list live)
    taken = ap (λ hs. nodes_of (with_ids list hs) ++ later i live) all ∙ ap (λ hs. nodes_of (with_ids list live) ++ nodes_of hs) (drop_all i live h) ∙ append-nil (nodes_of (with_ids list live))

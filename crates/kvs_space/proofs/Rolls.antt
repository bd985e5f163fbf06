-- On the roll of a table: it tells where a name is, and what is awake tells of all.
use Rattle.std.proofs.Common.{◌≡◌, ◌≢◌, ℕ, zero, suc, ◌+◌, ◌<◌, ◌≤◌, inl, inr, List, [], ◌∷◌, ◌++◌, length, map, Bool, true, false, cond, not, ◌||◌, ◌&&◌, ◌==◌, Option, Some, None, refl, sym, ap, ap₂, ◌∙◌, subst, arith, true≢false, get_or, set, take, length-append}
use Rattle.std.specs.Prelude.{nat_lt, slice_index, if◌then◌else◌}
use Rattle.std.specs.Global.{Vec}
use Rattle.indexmap.specs.IndexSet.{insert_key}
use Rattle.std.specs.List.{All, AllPairs, count_by, filter, list_all, list_any, position, position_or_len}
use Rattle.std.specs.Str.{bytes_eq}
use Rattle.std.proofs.lemmas.Bool.{cases_eq, cases_lt}
use Rattle.std.proofs.lemmas.Bool.Decides.{nat_tests}
use Rattle.std.proofs.lemmas.List.{ext_get_or, get_or-map, get_or-set_same, get_or-set_other, get_or_append_left, get_or_default, length-map, length-set, map-append, take_all}
use Rattle.std.proofs.lemmas.List.Elements.{All-filter, All-push}
use Rattle.std.proofs.lemmas.List.Folds.{Any-from_list_any, list_any-append}
use Rattle.std.proofs.lemmas.List.Kept.{AllPairs-filter}
use Rattle.std.proofs.lemmas.List.Quantifiers.{all_pairs_push, position-Some}
use Rattle.std.proofs.lemmas.List.Sums.{AllPass-from_list_all, count_by_more_no, fails_before_first, position_or_len_is}
use Rattle.std.proofs.lemmas.Map.Views.{any-filter_same}
use Rattle.std.proofs.lemmas.Slice.Eq.{bytes_eq-Decides}
use Rattle.std.proofs.Math.Seq.{map-set_same}
use Rattle.kvs_model.specs.Store.{Name}
use Rattle.kvs_space.specs.Roll.{IsRoll, RollValue, is_awake}
use Rattle.kvs_rules.specs.Brokers.{parent}
use Rattle.kvs_space.specs.Losses.{resynced}
use Rattle.kvs_space.specs.Space.{SpaceValue, has_news, is_at_rest, is_behind, is_known_to, is_named, is_ready, link_at}
use Rattle.kvs_space.proofs.Announced.{parent-low}
use Rattle.kvs_space.proofs.Losses.{resynced-names, resynced-same}
use Rattle.kvs_space.proofs.Finding.{and-left, and-right, both-true, eq-is, eq-true, found-passes, found-within, lt-is, lt-true, none-passes}

-- a place among what f makes is one among what it makes it of
or-len-map : {X Y : Type 0} (f : X → Y) (p : Y → Bool) (xs : List X) → position_or_len p (map f xs) ≡ position_or_len (λ x. p (f x)) xs
or-len-map f p [] = refl
or-len-map f p (x ∷ xs) = ap (λ n. cond (not (p (f x))) (1 + n) 0) (or-len-map f p xs)

pub position-map : {X Y : Type 0} (f : X → Y) (p : Y → Bool) (xs : List X) → position p (map f xs) ≡ position (λ x. p (f x)) xs
position-map f p xs = ap₂ (λ n l. cond (nat_lt n l) (Some n) None) (or-len-map f p xs) (length-map xs f)

-- a first element that passes is the one of its position, and where none passes there is none
pub first-is : {X : Type 0} (p : X → Bool) (xs : List X) (i : ℕ) → i < length xs → ((d : X) → p (get_or xs i d) ≡ true) → ((k : ℕ) (d : X) → k < i → p (get_or xs k d) ≡ false) → position p xs ≡ Some i
first-is p [] i l passes fails = absurd (omega arith)
first-is p (x ∷ xs) i l passes fails =
    let at = position_or_len_is p (x ∷ xs) i x (omega arith) (λ k h. fails k x h) (λ _. passes x) in
    ap (λ n. cond (nat_lt n (length (x ∷ xs))) (Some n) None) at ∙ ap (λ b. cond b (Some i) None) (lt-true i (length (x ∷ xs)) l)

pub none-is : {X : Type 0} (p : X → Bool) (xs : List X) → ((k : ℕ) (d : X) → k < length xs → p (get_or xs k d) ≡ false) → position p xs ≡ None
none-is p [] fails = refl
none-is p (x ∷ xs) fails =
    let n = length (x ∷ xs) in
    let at = position_or_len_is p (x ∷ xs) n x (omega arith) (λ k h. fails k x h) (λ l. absurd (omega arith)) in
    let past : nat_lt n n ≡ false = grind (arith, nat_tests) in
    ap (λ m. cond (nat_lt m n) (Some m) None) at ∙ ap (λ b. cond b (Some n) None) past

-- nothing is found, so nothing passes
pub none-before : {X : Type 0} (p : X → Bool) (xs : List X) → position p xs ≡ None → (k : ℕ) (d : X) → k < length xs → p (get_or xs k d) ≡ false
none-before p xs e k d l = fails_before_first p xs k d past
  where
    past : k < position_or_len p xs
    past = grind (arith, nat_tests)

-- a name that isn't among them is put behind them
pub entered-keys : (keys : List (Vec ℕ)) (key : Vec ℕ) → position (bytes_eq key.items) (map (λ k. k.items) keys) ≡ None → map (λ k. k.items) (insert_key (λ a b. bytes_eq a.items b.items) keys key) ≡ map (λ k. k.items) keys ++ key.items ∷ []
entered-keys keys key e =
    let new : list_any (λ k. bytes_eq key.items k.items) keys ≡ false = none-passes (λ k. bytes_eq key.items k.items) keys (sym (position-map (λ k. k.items) (bytes_eq key.items) keys) ∙ e) in
    ap (λ b. map (λ k. k.items) (if b then keys else keys ++ key ∷ [])) new ∙ map-append (λ k. k.items) keys (key ∷ [])

-- where none between two places passes, as many pass up to the one as up to the other
same-count : {X : Type 0} (p : X → Bool) (xs : List X) (n m : ℕ) → n ≤ m → m ≤ length xs → ((k : ℕ) (d : X) → n ≤ k → k < m → p (get_or xs k d) ≡ false) → count_by p (take m xs) ≡ count_by p (take n xs)
same-count p [] n m le within fails = let a : m ≡ 0 = omega arith in let b : n ≡ 0 = omega arith in rw (a, b) refl
same-count p (x ∷ xs) n m le within fails = go m le within fails
  where
    go : (m : ℕ) → n ≤ m → m ≤ length (x ∷ xs) → ((k : ℕ) (d : _) → n ≤ k → k < m → p (get_or (x ∷ xs) k d) ≡ false) → count_by p (take m (x ∷ xs)) ≡ count_by p (take n (x ∷ xs))
    go zero low high none = let b : n ≡ 0 = omega arith in rw b refl
    go (suc m) low high none = elim (cases_eq n (suc m)) [
      | inl e ↦ ap (λ k. count_by p (take k (x ∷ xs))) (sym e)
      | inr ne ↦ let next : suc m ≡ m + 1 = omega arith in ap (λ k. count_by p (take k (x ∷ xs))) next ∙ count_by_more_no p (x ∷ xs) m x (omega arith) (none m x (omega (arith, ne)) (omega arith)) ∙ go m (omega (arith, ne)) (omega arith) (λ k d from below. none k d from (omega arith))
    ]

-- how far the first n places that are awake reach
abbrev pub upto : RollValue → ℕ → ℕ
upto roll zero = 0
upto roll (suc n) = suc (get_or roll.awake n 0)

pub upto-more : (roll : RollValue) (n : ℕ) → upto roll (n + 1) ≡ get_or roll.awake n 0 + 1
upto-more roll n = let next : n + 1 ≡ suc n = omega arith in ap (upto roll) next ∙ omega arith

-- of a namespace at rest nothing is told, nothing lands there, and no broker is behind
module _ (s : SpaceValue) (rests : is_at_rest s ≡ true) where
  apart-level : (s.removed && not (is_ready s) && list_all (λ link. length link == 0) s.links) ≡ true
  apart-level = and-left _ (list_all (λ known. known == slice_index s.known 0) s.known) rests

  pub rests-removed : s.removed ≡ true
  rests-removed = and-left s.removed _ (and-left (s.removed && not (is_ready s)) _ apart-level)

  pub rests-unready : is_ready s ≡ false
  rests-unready = turned (is_ready s) (and-right s.removed _ (and-left (s.removed && not (is_ready s)) _ apart-level))
    where
      turned : (b : Bool) → not b ≡ true → b ≡ false
      turned true h = cc
      turned false h = refl

  rests-empty : (broker : ℕ) → has_news broker s ≡ false
  rests-empty broker = elim (cases_lt broker (length s.links)) [
    | inl l ↦ let n = eq-is (length (link_at s.links broker)) 0 (AllPass-from_list_all (λ link. length link == 0) s.links (and-right (s.removed && not (is_ready s)) _ apart-level) broker [] l) in ap (nat_lt 0) n
    | inr past ↦ ap (λ link. nat_lt 0 (length link)) (outside s.links broker past)
  ]
    where
      outside : (links : List (List ℕ)) (k : ℕ) → length links ≤ k → link_at links k ≡ []
      outside [] k h = refl
      outside (link ∷ links) zero h = absurd (omega arith)
      outside (link ∷ links) (suc k) h = outside links k (omega arith)

  rests-known : (broker : ℕ) → broker < length s.known → slice_index s.known broker ≡ slice_index s.known 0
  rests-known broker l = eq-is _ _ (AllPass-from_list_all (λ known. known == slice_index s.known 0) s.known (and-right (s.removed && not (is_ready s) && list_all (λ link. length link == 0) s.links) _ rests) broker 0 l)

  rests-even : (fanout broker : ℕ) → is_behind fanout broker s ≡ false
  rests-even fanout broker = elim (cases_lt broker (length s.known)) [
    | inl l ↦
        let p = parent-low fanout broker in
        let one = rests-known broker l in
        let other = rests-known (parent fanout broker) (omega arith) in
        let same : slice_index s.known broker ≡ slice_index s.known (parent fanout broker) = one ∙ sym other in
        no-right (nat_lt broker (length s.known)) _ (lt-false _ _ (omega (arith, same)))
    | inr past ↦ no-left (nat_lt broker (length s.known)) _ (lt-false _ _ past)
  ]
    where
      lt-false : (a b : ℕ) → b ≤ a → nat_lt a b ≡ false
      lt-false a b h = grind (arith, nat_tests)

      no-right : (a b : Bool) → b ≡ false → (a && b) ≡ false
      no-right true b e = e
      no-right false b e = refl

      no-left : (a b : Bool) → a ≡ false → (a && b) ≡ false
      no-left true b e = cc
      no-left false b e = refl

pub rests-silent : (broker : ℕ) (s : SpaceValue) → is_at_rest s ≡ true → has_news broker s ≡ false
rests-silent broker s e = rests-empty s e broker

pub rests-level : (fanout broker : ℕ) (s : SpaceValue) → is_at_rest s ≡ true → is_behind fanout broker s ≡ false
rests-level fanout broker s e = rests-even s e fanout broker

-- the roll of no namespaces
pub roll-none : IsRoll (record { names = []; awake = [] }) []
roll-none = record { names = refl; rises = λ i j d lt within. absurd (omega arith); within = λ k d l. absurd (omega arith); resting = λ k d l h. absurd (omega arith) }

module _ {roll : RollValue} {spaces : List SpaceValue} (is : IsRoll roll spaces) where
  -- the place of a name is that of the namespace
  pub named-at : (name : Name) → position (bytes_eq name) roll.names ≡ position (is_named name) spaces
  named-at name = ap (position (bytes_eq name)) is.names ∙ position-map (λ s. s.name) (bytes_eq name) spaces

  -- with one more namespace, which is awake
  pub roll-entered : (s : SpaceValue) (name : Name) → s.name ≡ name → IsRoll (record { names = roll.names ++ name ∷ []; awake = roll.awake ++ length roll.names ∷ [] }) (spaces ++ s ∷ [])
  roll-entered s name e = record {
    names = ap₂ (λ ns n. ns ++ n ∷ []) is.names (sym e) ∙ sym (map-append (λ x. x.name) spaces (s ∷ []));
    rises = all_pairs_push (λ one other. one < other) roll.awake (length roll.names) is.rises (λ k d l. subst (λ n. get_or roll.awake k d < n) (sym long) (is.within k d l));
    within = All-push (λ place. place < length (spaces ++ s ∷ [])) roll.awake (length roll.names) (λ k d l. let w = is.within k d l in let n = length-append spaces (s ∷ []) in omega arith) (let n = length-append spaces (s ∷ []) in omega (arith, long));
    resting = λ k d l h.
        let n = length-append spaces (s ∷ []) in
        let split : (is_awake roll k || ((length roll.names == k) || false)) ≡ false = sym (list_any-append (λ other. other == k) roll.awake (length roll.names ∷ [])) ∙ h in
        let there : k < length spaces = older k (omega arith) (either (is_awake roll k) _ split) in
        ap is_at_rest (get_or_append_left spaces (s ∷ []) d k there) ∙ is.resting k d there (former (is_awake roll k) _ split);
  } where
    long : length roll.names ≡ length spaces
    long = ap length is.names ∙ length-map spaces (λ x. x.name)

    former : (a b : Bool) → (a || b) ≡ false → a ≡ false
    former true b h = cc
    former false b h = refl

    either : (a b : Bool) → (a || (b || false)) ≡ false → b ≡ false
    either true b h = cc
    either false true h = cc
    either false false h = refl

    older : (k : ℕ) → k ≤ length spaces → (length roll.names == k) ≡ false → k < length spaces
    older k l h = elim (cases_eq k (length spaces)) [
      | inl q ↦ absurd (true≢false (sym (eq-true (length roll.names) k (long ∙ sym q)) ∙ h))
      | inr ne ↦ omega (arith, ne)
    ]

  -- with another value of one namespace, which is awake or at rest
  pub roll-set : (i : ℕ) (s old : SpaceValue) → s.name ≡ (get_or spaces i old).name → (is_awake roll i ≡ false → is_at_rest s ≡ true) → IsRoll roll (set spaces i s)
  roll-set i s old name rests = record {
    names = is.names ∙ sym (map-set_same (λ x. x.name) spaces i s old name);
    rises = is.rises;
    within = λ k d l. subst (λ n. get_or roll.awake k d < n) (sym (length-set spaces i s)) (is.within k d l);
    resting = λ k d l h.
        let inside : k < length spaces = subst (λ n. k < n) (length-set spaces i s) l in
        elim (cases_eq k i) [
          | inl e ↦ ap is_at_rest (ap (λ j. get_or (set spaces i s) j d) e ∙ get_or-set_same spaces i s d (subst (λ j. j < length spaces) e inside)) ∙ rests (subst (λ j. is_awake roll j ≡ false) e h)
          | inr ne ↦ ap is_at_rest (get_or-set_other spaces i k s d ne) ∙ is.resting k d inside h
        ];
  }

  -- with another value of one namespace that wasn't at rest: an announcement of it is on the way, something
  -- is ready to land in it, or it is live
  module _ (i : ℕ) (s old : SpaceValue) (within : i < length spaces) (read : old ≡ get_or spaces i old) (name : s.name ≡ old.name) where
    wakes : (b : Bool) → (is_at_rest old ≡ true → b ≡ false) → b ≡ true → IsRoll roll (set spaces i s)
    wakes b quiet h = roll-set i s old (name ∙ ap (λ x. x.name) read) (λ e. absurd (true≢false (sym h ∙ quiet (ap is_at_rest read ∙ is.resting i old within e))))

    pub roll-told : (broker : ℕ) → has_news broker old ≡ true → IsRoll roll (set spaces i s)
    roll-told broker = wakes (has_news broker old) (rests-silent broker old)

    pub roll-ruled : is_ready old ≡ true → IsRoll roll (set spaces i s)
    roll-ruled = wakes (is_ready old) (rests-unready old)

    pub roll-living : old.removed ≡ false → IsRoll roll (set spaces i s)
    roll-living live = wakes (not old.removed) (λ e. ap not (rests-removed old e)) (ap not live)

  -- after a resync: none at rest is behind
  pub roll-resynced : (fanout broker : ℕ) → IsRoll roll (map (resynced fanout broker) spaces)
  roll-resynced fanout broker = record {
    names = is.names ∙ sym (resynced-names fanout broker spaces);
    rises = is.rises;
    within = λ k d l. subst (λ n. get_or roll.awake k d < n) (sym (length-map spaces (resynced fanout broker))) (is.within k d l);
    resting = λ k d l h.
        let inside : k < length spaces = subst (λ n. k < n) (length-map spaces (resynced fanout broker)) l in
        let rests = is.resting k d inside h in
        ap is_at_rest (get_or-map (resynced fanout broker) spaces k d d inside ∙ resynced-same fanout broker (get_or spaces k d) (rests-level fanout broker (get_or spaces k d) rests)) ∙ rests;
  }

  -- one at rest needs to be awake no longer
  pub roll-rested : (i : ℕ) → ((d : SpaceValue) → is_at_rest (get_or spaces i d) ≡ true) → IsRoll (record { names = roll.names; awake = filter (λ other. not (other == i)) roll.awake }) spaces
  roll-rested i rests = record {
    names = is.names;
    rises = AllPairs-filter (λ one other. one < other) (λ other. not (other == i)) roll.awake is.rises;
    within = All-filter (λ other. not (other == i)) (λ place. place < length spaces) roll.awake is.within;
    resting = λ k d l h. elim (cases_eq k i) [
      | inl e ↦ subst (λ j. is_at_rest (get_or spaces j d) ≡ true) (sym e) (rests d)
      | inr ne ↦ is.resting k d l (sym (any-filter_same (λ other. other == k) (λ other. not (other == i)) true (λ other q. ap not (apart other (λ r. ne (sym (eq-is other k q) ∙ r)))) roll.awake) ∙ h)
    ];
  } where
    apart : (other : ℕ) → other ≢ i → (other == i) ≡ false
    apart other ne = grind (arith, nat_tests)

  -- the next one that is awake comes behind those before it, and those are of the table
  pub awake-next : (n : ℕ) → n < length roll.awake → upto roll n ≤ get_or roll.awake n 0
  awake-next zero l = omega arith
  awake-next (suc n) l = let r = is.rises n (suc n) 0 (omega arith) l in omega arith

  pub upto-within : (n : ℕ) → n ≤ length roll.awake → upto roll n ≤ length spaces
  upto-within zero l = omega arith
  upto-within (suc n) l = let w = is.within n 0 (omega arith) in omega arith

  awake-reached : (n j : ℕ) → j < n → n ≤ length roll.awake → get_or roll.awake j 0 < upto roll n
  awake-reached zero j h q = absurd (omega arith)
  awake-reached (suc n) j h q = elim (cases_eq j n) [
    | inl e ↦ let e = ap (λ i. get_or roll.awake i 0) e in omega arith
    | inr ne ↦ let r = is.rises j n 0 (omega (arith, ne)) (omega arith) in omega arith
  ]

  -- of a test that namespaces at rest fail
  module _ (p : SpaceValue → Bool) (quiet : (s : SpaceValue) → is_at_rest s ≡ true → p s ≡ false) where
    -- before the place that is awake next, or the end, those alone can pass that were awake before
    pub awake-fails : (n k : ℕ) (d : SpaceValue) → k < length spaces → (n < length roll.awake → k < get_or roll.awake n 0) → ((j : ℕ) → j < n → get_or roll.awake j 0 ≡ k → p (get_or spaces k d) ≡ false) → p (get_or spaces k d) ≡ false
    awake-fails n k d l next before = by (is_awake roll k) refl
      where
        by : (b : Bool) → is_awake roll k ≡ b → p (get_or spaces k d) ≡ false
        by false e = quiet (get_or spaces k d) (is.resting k d l e)
        by true e =
            let any = Any-from_list_any (λ other. other == k) roll.awake e in
            let is_k : any.1 ≡ k = eq-is any.1 k any.4 in
            let at : get_or roll.awake any.0 0 ≡ k = rezero roll.awake any.0 any.1 any.2 ∙ any.3 ∙ is_k in
            elim (cases_lt any.0 n) [
              | inl jn ↦ before any.0 jn at
              | inr nj ↦ elim (cases_eq any.0 n) [
                | inl q ↦ absurd (let l = next (omega (arith, any.2)) in let e = ap (λ j. get_or roll.awake j 0) q in omega (arith, at))
                | inr ne ↦ absurd (let l = next (omega (arith, any.2)) in let r = is.rises n any.0 0 (omega (arith, ne)) any.2 in omega (arith, at))
              ]
            ]
          where
            rezero : (xs : List ℕ) (i x : ℕ) → i < length xs → get_or xs i 0 ≡ get_or xs i x
            rezero [] i x l = absurd (omega arith)
            rezero (y ∷ ys) zero x l = refl
            rezero (y ∷ ys) (suc i) x l = rezero ys i x (omega arith)

    -- between those awake before and the place that is awake next, or the end, none passes
    pub between-fails : (n k : ℕ) (d : SpaceValue) → n ≤ length roll.awake → upto roll n ≤ k → k < length spaces → (n < length roll.awake → k < get_or roll.awake n 0) → p (get_or spaces k d) ≡ false
    between-fails n k d l from low next = awake-fails n k d low next (λ j jn at. absurd (let r = awake-reached n j jn l in omega (arith, at, from)))

    -- the first of those awake that passes is the first of all
    pub first-awake : (n : ℕ) → n < length roll.awake → ((d : SpaceValue) → p (get_or spaces (get_or roll.awake n 0) d) ≡ true) → ((j : ℕ) (d : SpaceValue) → j < n → p (get_or spaces (get_or roll.awake j 0) d) ≡ false) → position p spaces ≡ Some (get_or roll.awake n 0)
    first-awake n l passes fails =
        let inside = is.within n 0 l in
        first-is p spaces (get_or roll.awake n 0) inside passes (λ k d h. awake-fails n k d (omega (arith, inside)) (λ _. h) (λ j jn at. subst (λ i. p (get_or spaces i d) ≡ false) at (fails j d jn)))

    -- and where none of those passes, none does
    pub none-awake : ((j : ℕ) (d : SpaceValue) → j < length roll.awake → p (get_or spaces (get_or roll.awake j 0) d) ≡ false) → position p spaces ≡ None
    none-awake fails = none-is p spaces (λ k d l. awake-fails (length roll.awake) k d l (λ q. absurd (omega arith)) (λ j jn at. subst (λ i. p (get_or spaces i d) ≡ false) at (fails j d jn)))

    -- those awake hold all that pass: so many pass up to the place that is awake next, or the end, as up
    -- to the one before it
    pub awake-count : (n m : ℕ) → n ≤ length roll.awake → upto roll n ≤ m → m ≤ length spaces → (n < length roll.awake → m ≤ get_or roll.awake n 0) → count_by p (take m spaces) ≡ count_by p (take (upto roll n) spaces)
    awake-count n m l low high next = same-count p spaces (upto roll n) m low high (λ k d from below. between-fails n k d l from (omega (arith, high, below)) (λ q. let b = next q in omega (arith, below)))

  -- a resync that goes over those awake: up to the place that is awake next, or the end, each namespace is
  -- resynced, and the others are as before
  module _ (fanout broker n : ℕ) (now : List SpaceValue) (long : length now ≡ length spaces)
      (so_far : (k : ℕ) (d : SpaceValue) → k < upto roll n → get_or now k d ≡ resynced fanout broker (get_or spaces k d))
      (rest : (k : ℕ) (d : SpaceValue) → upto roll n ≤ k → get_or now k d ≡ get_or spaces k d) where
    unmoved : (k : ℕ) (d : SpaceValue) → n ≤ length roll.awake → upto roll n ≤ k → k < length spaces → (n < length roll.awake → k < get_or roll.awake n 0) → get_or now k d ≡ resynced fanout broker (get_or spaces k d)
    unmoved k d l from low next = rest k d from ∙ sym (resynced-same fanout broker (get_or spaces k d) (between-fails (is_behind fanout broker) (rests-level fanout broker) n k d l from low next))

    module _ (l : n < length roll.awake) (p : ℕ) (at : p ≡ get_or roll.awake n 0) (old new : SpaceValue) (read : old ≡ get_or now p old) (is_new : new ≡ resynced fanout broker old) where
      pub resynced-next : (k : ℕ) (d : SpaceValue) → k < upto roll (n + 1) → get_or (set now p new) k d ≡ resynced fanout broker (get_or spaces k d)
      resynced-next k d h =
          let within = is.within n 0 l in
          let inside : p < length spaces = omega (arith, at, within) in
          let there : p < length now = omega (arith, long, inside) in
          let next = awake-next n l in
          let more = upto-more roll n in
          elim (cases_eq k p) [
            | inl e ↦
                ap (λ j. get_or (set now p new) j d) e ∙ get_or-set_same now p new d there ∙ is_new
                ∙ ap (resynced fanout broker) (read ∙ get_or_default now p old d there ∙ rest p d (omega (arith, at, next)) ∙ ap (λ j. get_or spaces j d) (sym e))
            | inr ne ↦
                get_or-set_other now p k new d ne ∙ elim (cases_lt k (upto roll n)) [
                  | inl lt ↦ so_far k d lt
                  | inr ge ↦ unmoved k d (omega arith) ge (omega (arith, h, more, at, inside)) (λ q. omega (arith, h, more, at, ne))
                ]
          ]

      pub resynced-rest : (k : ℕ) (d : SpaceValue) → upto roll (n + 1) ≤ k → get_or (set now p new) k d ≡ get_or spaces k d
      resynced-rest k d h =
          let next = awake-next n l in
          let more = upto-more roll n in
          get_or-set_other now p k new d (λ e. omega (arith, e, h, more, at)) ∙ rest k d (omega (arith, h, more, next))

    pub resynced-all : n ≡ length roll.awake → now ≡ map (resynced fanout broker) spaces
    resynced-all e = ext_get_or none now (map (resynced fanout broker) spaces) (long ∙ sym (length-map spaces (resynced fanout broker))) (λ k l.
        let inside : k < length spaces = omega (arith, long, l) in
        elim (cases_lt k (upto roll n)) [
          | inl lt ↦ so_far k none lt
          | inr ge ↦ unmoved k none (omega (arith, e)) ge inside (λ q. absurd (omega (arith, e, q)))
        ] ∙ sym (get_or-map (resynced fanout broker) spaces k none none inside))
      where
        none : SpaceValue
        none = record { name = []; removed = false; history = []; known = []; stores = []; links = []; merger = record { fences = []; ready = [] } }

  -- where a broker has heard of the namespace of a name, it is known there
  module _ (name : Name) (broker : ℕ) where
    pub known-there : (k : ℕ) → Some k ≡ position (is_named name) spaces → ((d : SpaceValue) → 0 < slice_index (get_or spaces k d).known broker) → Some k ≡ position (is_known_to broker name) spaces
    known-there k e heard = sym (first-is (is_known_to broker name) spaces k (found-within (is_named name) spaces k e)
        (λ d. both-true _ _ (found-passes (is_named name) spaces k d e) (lt-true 0 _ (heard d)))
        (λ j d jk. ap (λ b. b && nat_lt 0 (slice_index (get_or spaces j d).known broker)) ((position-Some (is_named name) spaces k d (sym e)).2 j jk)))

    pub unnamed-none : None ≡ position (is_named name) spaces → None ≡ position (is_known_to broker name) spaces
    unnamed-none e = sym (none-is (is_known_to broker name) spaces (λ k d l. ap (λ b. b && nat_lt 0 (slice_index (get_or spaces k d).known broker)) (none-before (is_named name) spaces (sym e) k d l)))

    -- and where it has not, none of the name is, since no two have one name
    pub unheard-none : AllPairs (λ one other. one.name ≢ other.name) spaces → (k : ℕ) → Some k ≡ position (is_named name) spaces → ((d : SpaceValue) → slice_index (get_or spaces k d).known broker ≡ 0) → None ≡ position (is_known_to broker name) spaces
    unheard-none apart k e unheard = sym (none-is (is_known_to broker name) spaces (λ j d l. elim (cases_eq j k) [
      | inl q ↦ subst (λ i. is_known_to broker name (get_or spaces i d) ≡ false) (sym q) (ap (λ n. is_named name (get_or spaces k d) && nat_lt 0 n) (unheard d) ∙ ends (is_named name (get_or spaces k d)))
      | inr ne ↦ ap (λ b. b && nat_lt 0 (slice_index (get_or spaces j d).known broker)) (other j d l ne)
    ]))
      where
        ends : (b : Bool) → (b && false) ≡ false
        ends true = refl
        ends false = refl

        there : (d : SpaceValue) → name ≡ (get_or spaces k d).name
        there d = (bytes_eq-Decides name (get_or spaces k d).name).0 (found-passes (is_named name) spaces k d e)

        differs : (j : ℕ) (d : SpaceValue) → j < length spaces → j ≢ k → (get_or spaces j d).name ≢ (get_or spaces k d).name
        differs j d l ne = elim (cases_lt j k) [
          | inl h ↦ apart j k d h (found-within (is_named name) spaces k e)
          | inr h ↦ λ q. apart k j d (omega (arith, ne)) l (sym q)
        ]

        other : (j : ℕ) (d : SpaceValue) → j < length spaces → j ≢ k → is_named name (get_or spaces j d) ≡ false
        other j d l ne = by (is_named name (get_or spaces j d)) refl
          where
            by : (b : Bool) → is_named name (get_or spaces j d) ≡ b → is_named name (get_or spaces j d) ≡ false
            by false q = q
            by true q = absurd (differs j d l ne (sym ((bytes_eq-Decides name (get_or spaces j d).name).0 q) ∙ there d))

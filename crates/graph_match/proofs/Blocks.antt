-- Counts of what is free in blocks of hosts, and what hosts that lack something bring.
use Rattle.std.proofs.Common.{◌≡◌, ◌≢◌, ℕ, suc, zero, ◌+◌, ◌-◌, ◌*◌, ◌/◌, ◌%◌, ◌<◌, ◌≤◌, max, true, false, cond, ltb, inl, inr, List, [], ◌∷◌, ◌++◌, length, get_or, set, take, drop, map, Some, None, refl, sym, ap, ap₂, ◌∙◌, subst, arith}
use Rattle.std.specs.Prelude.{◌⊎◌}
use Rattle.std.specs.List.{AllByRecursion as Each}
use Rattle.std.proofs.Math.Nat.{div-mul-le_self, lt-div-mul-add, mul-le-mul_right, suc-mul}
use Rattle.std.proofs.lemmas.Bool.{cases_lt, cases_order, lt-ltb, le-ltb}
use Rattle.std.proofs.lemmas.Nat.{div-add-mod'}
use Rattle.std.proofs.lemmas.List.{get_or-set_same, get_or-set_other, get_or-append-add, get_or_append_left, length-append, length-drop, length-set, length-map, length-take}
use Rattle.job_spec.specs.declared.spec.JobSpec.{JobSpec}
use Rattle.resource_set.specs.declared.node.Node.{Node}
use Rattle.job_rules.specs.Fits.{HasIdSets}
use Rattle.job_rules.specs.Worths.{total}
use Rattle.graph_match.specs.declared.place.Place.{Place}
use Rattle.graph_match.specs.declared.racks.Free.{Free}
use Rattle.graph_match.specs.declared.rooms.Room.{Room}
use Rattle.graph_match.specs.Places.{free_node, node_of}
use Rattle.graph_match.specs.Racks.{AreBlocks, AreCounts, IsRoom, Lacks, free_in, rack_of, units_in}
use Rattle.graph_match.specs.Rooms.{room_of}
use Rattle.graph_match.proofs.Spots.{free_length}

-- ---- sums over a block of a list
module _ {A : Type 0} (f : A → ℕ) where
  pub split : (xs : List A) (w : ℕ) → total f (take w xs) + total f (drop w xs) ≡ total f xs
  split [] zero = omega arith
  split [] (suc w) = omega arith
  split (x ∷ xs) zero = omega arith
  split (x ∷ xs) (suc w) = omega (arith, split xs w)

  pub item : (xs : List A) (n w at : ℕ) (d : A) → n ≤ at → at < n + w → at < length xs → f (get_or xs at d) ≤ total f (take w (drop n xs))
  item [] n w at d a b h = let no : ⊥ = omega (arith, h) in absurd no
  item (x ∷ xs) (suc n) w (suc at) d a b h = item xs n w at d (omega (arith, a)) (omega (arith, b)) (omega (arith, h))
  item (x ∷ xs) (suc n) w zero d a b h = let no : ⊥ = omega (arith, a) in absurd no
  item (x ∷ xs) zero zero at d a b h = let no : ⊥ = omega (arith, b) in absurd no
  item (x ∷ xs) zero (suc w) zero d a b h = omega arith
  item (x ∷ xs) zero (suc w) (suc at) d a b h =
      let more : f (get_or xs at d) ≤ total f (take w xs) = item xs zero w at d (omega arith) (omega (arith, b)) (omega (arith, h)) in
      omega (arith, more)

  pub inside : (xs : List A) (n w at : ℕ) (y d : A) → n ≤ at → at < n + w → at < length xs → total f (take w (drop n (set xs at y))) + f (get_or xs at d) ≡ total f (take w (drop n xs)) + f y
  inside [] n w at y d a b h = let no : ⊥ = omega (arith, h) in absurd no
  inside (x ∷ xs) (suc n) w (suc at) y d a b h = inside xs n w at y d (omega (arith, a)) (omega (arith, b)) (omega (arith, h))
  inside (x ∷ xs) (suc n) w zero y d a b h = let no : ⊥ = omega (arith, a) in absurd no
  inside (x ∷ xs) zero zero at y d a b h = let no : ⊥ = omega (arith, b) in absurd no
  inside (x ∷ xs) zero (suc w) zero y d a b h = omega arith
  inside (x ∷ xs) zero (suc w) (suc at) y d a b h =
      let more : total f (take w (set xs at y)) + f (get_or xs at d) ≡ total f (take w xs) + f y = inside xs zero w at y d (omega arith) (omega (arith, b)) (omega (arith, h)) in
      omega (arith, more)

  pub each_less : (bound : ℕ) (xs : List A) → total f xs < bound → Each (λ x. f x < bound) xs
  each_less bound [] h = tt
  each_less bound (x ∷ xs) h = (omega (arith, h), each_less bound xs (omega (arith, h)))

  pub small : (xs : List A) → Each (λ x. f x ≤ 65536) xs → total f xs ≤ length xs * 65536
  small [] e = omega arith
  small (x ∷ xs) e = omega (arith, e.0, small xs e.1)

  pub none : (xs : List A) (k : ℕ) → Each (λ x. f x ≡ 0) (take k xs) → total f xs ≡ total f (drop k xs)
  none xs zero e = refl
  none [] (suc k) e = refl
  none (x ∷ xs) (suc k) e = omega (arith, e.0, none xs k e.1)

pub outside : {A : Type 0} (xs : List A) (n w at : ℕ) (y : A) → (at < n) ⊎ (n + w ≤ at) → take w (drop n (set xs at y)) ≡ take w (drop n xs)
outside [] n w at y o = refl
outside (x ∷ xs) (suc n) w zero y o = refl
outside (x ∷ xs) (suc n) w (suc at) y (inl h) = outside xs n w at y (inl (omega (arith, h)))
outside (x ∷ xs) (suc n) w (suc at) y (inr h) = outside xs n w at y (inr (omega (arith, h)))
outside (x ∷ xs) zero zero at y o = refl
outside (x ∷ xs) zero (suc w) zero y (inl h) = let no : ⊥ = omega (arith, h) in absurd no
outside (x ∷ xs) zero (suc w) zero y (inr h) = let no : ⊥ = omega (arith, h) in absurd no
outside (x ∷ xs) zero (suc w) (suc at) y (inl h) = let no : ⊥ = omega (arith, h) in absurd no
outside (x ∷ xs) zero (suc w) (suc at) y (inr h) = ap (λ ys. x ∷ ys) (outside xs zero w at y (inr (omega (arith, h))))

-- ---- what holds of each
pub each_of : {A : Type 0} (P Q : A → Type 0) → ((x : A) → P x → Q x) → (xs : List A) → Each P xs → Each Q xs
each_of P Q by [] e = tt
each_of P Q by (x ∷ xs) e = (by x e.0, each_of P Q by xs e.1)

pub each_block : {A : Type 0} (P : A → Type 0) (xs : List A) (n w : ℕ) → Each P xs → Each P (take w (drop n xs))
each_block P [] zero zero e = tt
each_block P [] zero (suc w) e = tt
each_block P [] (suc n) zero e = tt
each_block P [] (suc n) (suc w) e = tt
each_block P (x ∷ xs) (suc n) w e = each_block P xs n w e.1
each_block P (x ∷ xs) zero zero e = tt
each_block P (x ∷ xs) zero (suc w) e = (e.0, each_block P xs zero w e.1)

-- behind the first of a block
pub behind : {A : Type 0} (P : A → Type 0) (xs : List A) (i k : ℕ) → i < length xs → Each P (take k (drop i xs)) → Each P (take (max k 1 - 1) (drop (i + 1) xs))
behind P [] i k h e = let no : ⊥ = omega (arith, h) in absurd no
behind P (x ∷ xs) (suc i) k h e =
    let on : suc i + 1 ≡ suc (i + 1) = omega arith in
    subst (λ n. Each P (take (max k 1 - 1) (drop n (x ∷ xs)))) (sym on) (behind P xs i k (omega (arith, h)) e)
behind P (x ∷ xs) zero zero h e = tt
behind P (x ∷ xs) zero (suc k) h e =
    let same : max (suc k) 1 - 1 ≡ k = omega arith in
    subst (λ n. Each P (take n xs)) (sym same) e.1

-- ---- what hosts have free
pub mapped : (f : Node → ℕ) (places : List Place) → total f (map free_node places) ≡ total (λ p. f (free_node p)) places
mapped f [] = refl
mapped f (p ∷ ps) = ap (λ n. f (free_node p) + n) (mapped f ps)

abbrev pub cores_of : Place → ℕ
cores_of p = let n : Node = free_node p in length n.cores

abbrev pub gpus_of : Place → ℕ
gpus_of p = let n : Node = free_node p in length n.gpus

abbrev pub free_with : ℕ → ℕ → Free
free_with cores gpus = record { cores = cores; gpus = gpus }

pub free_is : (places : List Place) → free_in places ≡ free_with (total cores_of places) (total gpus_of places)
free_is places = ap₂ free_with (mapped (λ n. length n.cores) places) (mapped (λ n. length n.gpus) places)

-- ---- a block that lacks something
pub block_lacks : (spec : JobSpec) (places : List Place) (free : Free) → free ≡ free_in places → (free.cores < spec.cores) ⊎ (free.gpus < spec.gpus) → Each (Lacks spec) places
block_lacks spec places free e (inl h) = each_of (λ p. cores_of p < spec.cores) (Lacks spec) (λ p l. inl l) places (each_less cores_of spec.cores places (subst (λ n. n < spec.cores) (ap (λ x. x.cores) (e ∙ free_is places)) h))
block_lacks spec places free e (inr h) = each_of (λ p. gpus_of p < spec.gpus) (Lacks spec) (λ p l. inr l) places (each_less gpus_of spec.gpus places (subst (λ n. n < spec.gpus) (ap (λ x. x.gpus) (e ∙ free_is places)) h))

-- ---- the block of a place
step : (i w : ℕ) → (i + 1) * w ≡ i * w + w
step i w = let on : i + 1 ≡ suc i = omega arith in ap (λ n. n * w) on ∙ suc-mul i w

pub lacking_block : (spec : JobSpec) (hosts : List Place) (counts : List Free) (width at : ℕ) (free : Free) → at % width ≡ 0 → at / width < length counts → free ≡ get_or counts (at / width) free
    → AreCounts width hosts counts → (free.cores < spec.cores) ⊎ (free.gpus < spec.gpus) → Each (Lacks spec) (take width (drop at hosts))
lacking_block spec hosts counts width at free even within e counted short =
    let at_is : at / width * width ≡ at = omega (arith, div-add-mod' at width, even) in
    let is : free ≡ free_in (take width (drop at hosts)) = e ∙ counted.blocks.each (at / width) free within ∙ ap (λ n. free_in (take width (drop n hosts))) at_is in
    block_lacks spec (take width (drop at hosts)) free is short

pub blank : Place
blank = record { rank = 0; host = []; cores = []; gpus = [] }

pub counts_small : (width : ℕ) (hosts : List Place) (counts : List Free) → AreCounts width hosts counts → length hosts ≤ 65536 → Each (λ p. HasIdSets (node_of p)) hosts → (i : ℕ) (d : Free) → i < length counts
    → (let c : Free = get_or counts i d in (c.cores ≤ 281474976710656) × (c.gpus ≤ 281474976710656))
counts_small width hosts counts counted few sets i d within =
    let block : List Place = take width (drop (i * width) hosts) in
    let is = counted.blocks.each i d within ∙ free_is block in
    let here : Each (λ p. HasIdSets (node_of p)) block = each_block (λ p. HasIdSets (node_of p)) hosts (i * width) width sets in
    let cores : total cores_of block ≤ length block * 65536 = small cores_of block (each_of (λ p. HasIdSets (node_of p)) (λ p. cores_of p ≤ 65536) (λ p h. free_length p.cores h.0) block here) in
    let gpus : total gpus_of block ≤ length block * 65536 = small gpus_of block (each_of (λ p. HasIdSets (node_of p)) (λ p. gpus_of p ≤ 65536) (λ p h. free_length p.gpus h.1) block here) in
    let long : length block ≤ 65536 = omega (arith, few, length-take width (drop (i * width) hosts), length-drop (i * width) hosts) in
    (omega (arith, cores, long, ap (λ x. x.cores) is), omega (arith, gpus, long, ap (λ x. x.gpus) is))

module _ {width at : ℕ} {hosts : List Place} {counts : List Free} (wide : 1 ≤ width) (counted : AreCounts width hosts counts) where
  from : at / width * width ≤ at
  from = div-mul-le_self at width

  to : at < at / width * width + width
  to = lt-div-mul-add (omega (arith, wide))

  pub room_there : (room : Room) → IsRoom hosts at room → at / width < length counts → (d : Free)
      → (let c : Free = get_or counts (at / width) d in (room.cores ≤ c.cores) × (room.gpus ≤ c.gpus))
  room_there room r within d =
      let is = counted.blocks.each (at / width) d within ∙ free_is (take width (drop (at / width * width) hosts)) in
      let cores : cores_of (get_or hosts at blank) ≤ total cores_of (take width (drop (at / width * width) hosts)) = item cores_of hosts (at / width * width) width at blank from to r.there in
      let gpus : gpus_of (get_or hosts at blank) ≤ total gpus_of (take width (drop (at / width * width) hosts)) = item gpus_of hosts (at / width * width) width at blank from to r.there in
      (omega (arith, cores, ap (λ x. x.cores) is, ap (λ x. x.cores) (r.is blank)), omega (arith, gpus, ap (λ x. x.gpus) is, ap (λ x. x.gpus) (r.is blank)))

  pub counts_set : (host : Place) (old new : Room) (moved d : Free) → IsRoom hosts at old → new ≡ room_of (free_node host) → at / width < length counts
      → (let c : Free = get_or counts (at / width) d in moved ≡ free_with (c.cores - old.cores + new.cores) (c.gpus - old.gpus + new.gpus))
      → AreCounts width (set hosts at host) (set counts (at / width) moved)
  counts_set host old new moved d r n within m = record {
    blocks = record { each = each; begun = begun };
    all = omega (arith, counted.all, same_length, same_hosts, ap (λ k. k * width) same_length);
  }
    where
      q : ℕ
      q = at / width

      same_length : length (set counts q moved) ≡ length counts
      same_length = length-set counts q moved

      same_hosts : length (set hosts at host) ≡ length hosts
      same_hosts = length-set hosts at host

      begun : (i : ℕ) → i < length (set counts q moved) → i * width < length (set hosts at host)
      begun i h = subst (λ k. i * width < k) (sym same_hosts) (counted.blocks.begun i (subst (λ k. i < k) same_length h))

      block : List Place
      block = take width (drop (q * width) hosts)

      changed : List Place
      changed = take width (drop (q * width) (set hosts at host))

      moved_is : moved ≡ free_in changed
      moved_is =
          let is = counted.blocks.each q d within ∙ free_is block in
          let there = room_there old r within d in
          let cores : total cores_of changed + cores_of (get_or hosts at blank) ≡ total cores_of block + cores_of host = inside cores_of hosts (q * width) width at host blank from to r.there in
          let gpus : total gpus_of changed + gpus_of (get_or hosts at blank) ≡ total gpus_of block + gpus_of host = inside gpus_of hosts (q * width) width at host blank from to r.there in
          m ∙ ap₂ free_with
          (omega (arith, cores, there.0, ap (λ x. x.cores) is, ap (λ x. x.cores) (r.is blank), ap (λ x. x.cores) n))
          (omega (arith, gpus, there.1, ap (λ x. x.gpus) is, ap (λ x. x.gpus) (r.is blank), ap (λ x. x.gpus) n))
          ∙ sym (free_is changed)

      other : (i : ℕ) (e : Free) → i ≢ q → i < length counts → (at < i * width) ⊎ (i * width + width ≤ at) → get_or (set counts q moved) i e ≡ free_in (take width (drop (i * width) (set hosts at host)))
      other i e apart h o = get_or-set_other counts q i moved e apart ∙ counted.blocks.each i e h ∙ ap free_in (sym (outside hosts (i * width) width at host o))

      each : (i : ℕ) (e : Free) → i < length (set counts q moved) → get_or (set counts q moved) i e ≡ free_in (take width (drop (i * width) (set hosts at host)))
      each i e h =
          let h' : i < length counts = subst (λ k. i < k) same_length h in
          elim (cases_order i q) [
            | inl same ↦ subst (λ k. get_or (set counts q moved) k e ≡ free_in (take width (drop (k * width) (set hosts at host)))) (sym same) (get_or-set_same counts q moved e within ∙ moved_is)
            | inr o ↦ elim o [
              | inl below ↦ other i e (λ s. let no : ⊥ = omega (arith, s, below) in no) h' (inr (let up : (i + 1) * width ≤ q * width = mul-le-mul_right width (omega (arith, below)) in omega (arith, up, step i width, from)))
              | inr above ↦ other i e (λ s. let no : ⊥ = omega (arith, s, above) in no) h' (inl (let up : (q + 1) * width ≤ i * width = mul-le-mul_right width (omega (arith, above)) in omega (arith, up, step q width, to)))
            ]
          ]

-- ---- one more block
pub blocks_more : (width : ℕ) (hosts : List Place) (counts : List Free) (free : Free) → AreBlocks width hosts counts → length counts * width < length hosts
    → free ≡ free_in (take width (drop (length counts * width) hosts)) → AreBlocks width hosts (counts ++ free ∷ [])
blocks_more width hosts counts free b h e = record {
  each = λ i d w. elim (cases_lt i (length counts)) [
    | inl low ↦ get_or_append_left counts (free ∷ []) d i low ∙ b.each i d low
    | inr high ↦
        let last : length counts ≡ i = omega (arith, high, w, length-append counts (free ∷ [])) in
        subst (λ k. get_or (counts ++ free ∷ []) k d ≡ free_in (take width (drop (k * width) hosts))) last (at_end d ∙ e)
  ];
  begun = λ i w. elim (cases_lt i (length counts)) [
    | inl low ↦ b.begun i low
    | inr high ↦
        let last : length counts ≡ i = omega (arith, high, w, length-append counts (free ∷ [])) in
        subst (λ k. k * width < length hosts) last h
  ];
}
  where
    at_end : (d : Free) → get_or (counts ++ free ∷ []) (length counts) d ≡ free
    at_end d = let on : length counts ≡ length counts + 0 = omega arith in ap (λ k. get_or (counts ++ free ∷ []) k d) on ∙ get_or-append-add counts (free ∷ []) 0 d

-- ---- the rack of a number
blocks_map : (f : Place → Node) (places : List Place) (n w : ℕ) → take w (drop n (map f places)) ≡ map f (take w (drop n places))
blocks_map f [] zero zero = refl
blocks_map f [] zero (suc w) = refl
blocks_map f [] (suc n) zero = refl
blocks_map f [] (suc n) (suc w) = refl
blocks_map f (p ∷ ps) (suc n) w = blocks_map f ps n w
blocks_map f (p ∷ ps) zero zero = refl
blocks_map f (p ∷ ps) zero (suc w) = ap (λ xs. f p ∷ xs) (blocks_map f ps zero w)

pub rack_none : (places : List Place) (counts : List Free) (rack : ℕ) → AreCounts 32 places counts → length counts ≤ rack → None ≡ rack_of (map free_node places) rack
rack_none places counts rack counted past =
    let none : ltb (rack * 32) (length (map free_node places)) ≡ false = le-ltb _ _ (omega (arith, counted.all, past, length-map places free_node)) in
    sym (ap (λ b. cond b (Some (units_in (take 32 (drop (rack * 32) (map free_node places))))) None) none)

pub rack_some : (places : List Place) (counts : List Free) (rack : ℕ) (free : Free) → AreCounts 32 places counts → rack < length counts → free ≡ get_or counts rack free → Some free ≡ rack_of (map free_node places) rack
rack_some places counts rack free counted there e =
    let some : ltb (rack * 32) (length (map free_node places)) ≡ true = lt-ltb _ _ (omega (arith, counted.blocks.begun rack there, length-map places free_node)) in
    ap Some (e ∙ counted.blocks.each rack free there ∙ ap units_in (sym (blocks_map free_node places (rack * 32) 32)))
    ∙ sym (ap (λ b. cond b (Some (units_in (take 32 (drop (rack * 32) (map free_node places))))) None) some)

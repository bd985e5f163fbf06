-- Hosts that lack something bring nothing, so they may be left out.
use Rattle.std.proofs.Common.{◌≡◌, ℕ, suc, zero, ◌+◌, ◌-◌, ◌/◌, ◌<◌, ◌≤◌, min, max, Bool, true, false, cond, eqb, ltb, leb, not, ◌&&◌, ◌||◌, inl, inr, List, [], ◌∷◌, ◌++◌, length, take, drop, map, Option, Some, None, refl, sym, ap, ◌∙◌, arith}
use Rattle.std.specs.List.{AllByRecursion as Each}
use Rattle.std.proofs.Math.Nat.{div-eq_of_lt}
use Rattle.std.proofs.lemmas.Bool.{eqb-true, le-ltb, lt-leb}
use Rattle.std.proofs.lemmas.List.{append-nil, drop-drop}
use Rattle.job_spec.specs.declared.spec.JobSpec.{JobSpec}
use Rattle.resource_set.specs.declared.node.Node.{Node}
use Rattle.job_rules.specs.Fits.{IsSpec, is_wholly_free, with_host}
use Rattle.job_rules.specs.Worths.{give_as, total, wanted, worth, worth_as}
use Rattle.job_rules.proofs.Counts.{picks}
use Rattle.graph_match.specs.declared.place.Place.{Place}
use Rattle.graph_match.specs.Places.{free_node, node_of}
use Rattle.graph_match.specs.Racks.{Lacks}
use Rattle.graph_match.specs.Rooms.{room_of, slot_count, worth_of, worth_as as worth_in}
use Rattle.graph_match.proofs.Blocks.{behind, cores_of, each_of, gpus_of, none}
use Rattle.graph_match.proofs.Turns.{IsFitting, IsLacking}

-- ---- what such a host brings
slot_none : (spec : JobSpec) (p : Place) → Lacks spec p → slot_count spec (room_of (free_node p)) ≡ 0
slot_none spec p l = at (eqb spec.gpus 0) refl l
  where
    at : (b : Bool) → eqb spec.gpus 0 ≡ b → Lacks spec p → cond b (cores_of p / spec.cores) (min (cores_of p / spec.cores) (gpus_of p / spec.gpus)) ≡ 0
    at true e (inl h) = div-eq_of_lt h
    at true e (inr h) =
        let none : spec.gpus ≡ 0 = eqb-true spec.gpus 0 e in
        let no : ⊥ = omega (arith, none, h) in absurd no
    at false e (inl h) = let z : cores_of p / spec.cores ≡ 0 = div-eq_of_lt h in omega (arith, z)
    at false e (inr h) = let z : gpus_of p / spec.gpus ≡ 0 = div-eq_of_lt h in omega (arith, z)

no_slots : (slots count : ℕ) (rest : Bool) → 1 ≤ slots → count ≡ 0 → (let n : ℕ = cond (leb slots count && rest) 1 0 in n ≡ 0)
no_slots slots count rest h e = ap (λ b. let n : ℕ = cond (b && rest) 1 0 in n) (lt-leb slots count (omega (arith, h, e)))

pub worth_none : (spec : JobSpec) (p : Place) → IsSpec spec → Lacks spec p → worth_of spec (room_of (node_of p)) (room_of (free_node p)) ≡ 0
worth_none spec p s l = at spec.nodes
  where
    at : (o : Option ℕ) → worth_in o spec (room_of (node_of p)) (room_of (free_node p)) ≡ 0
    at None = slot_none spec p l
    at (Some count) = no_slots spec.slots (slot_count spec (room_of (free_node p))) _ s.slots.0 (slot_none spec p l)

node_none : (spec : JobSpec) (grant : List Node) (p : Place) → IsSpec spec → Lacks spec p → worth spec grant (free_node p) ≡ 0
node_none spec grant p s l = at spec.nodes
  where
    at : (o : Option ℕ) → worth_as o spec grant (free_node p) ≡ 0
    at None = slot_none spec p l
    at (Some count) = no_slots spec.slots (slot_count spec (room_of (free_node p))) (not spec.exclusive || is_wholly_free grant (free_node p)) s.slots.0 (slot_none spec p l)

-- ---- the hosts behind one that was asked
on : (i k : ℕ) → i + 1 + (max k 1 - 1) ≡ i + max k 1
on i k = omega arith

pub lack_skip : (spec : JobSpec) (places : List Place) (i k lacking asked : ℕ) → IsSpec spec → i < length places → Each (Lacks spec) (take k (drop i places))
    → IsLacking (λ p. worth_of spec (room_of (node_of p)) (room_of (free_node p))) places (i + 1) lacking asked
    → IsLacking (λ p. worth_of spec (room_of (node_of p)) (room_of (free_node p))) places (i + max k 1) lacking asked
lack_skip spec places i k lacking asked s h e l =
    let rest : List Place = drop (i + 1) places in
    let zeros = each_of (Lacks spec) (λ p. w p ≡ 0) (λ p x. worth_none spec p s x) (take (max k 1 - 1) rest) (behind (Lacks spec) places i k h e) in
    let same : total w rest ≡ total w (drop (i + max k 1) places) = none w rest (max k 1 - 1) zeros ∙ ap (total w) (drop-drop (max k 1 - 1) (i + 1) places) ∙ ap (λ n. total w (drop n places)) (on i k) in
    omega (arith, same, l)
  where
    w : Place → ℕ
    w p = worth_of spec (room_of (node_of p)) (room_of (free_node p))

pub lack_stop : (w : Place → ℕ) (places : List Place) (i lacking asked : ℕ) → lacking ≤ 0 → IsLacking w places i lacking asked → ltb (total w places) asked ≡ false
lack_stop w places i lacking asked h l = le-ltb (total w places) asked (omega (arith, h, l))

pub lack_end : (w : Place → ℕ) (places : List Place) (i lacking asked : ℕ) → lacking ≤ 0 → IsLacking w places i lacking asked → ltb 0 lacking ≡ ltb (total w places) asked
lack_end w places i lacking asked h l = le-ltb 0 lacking h ∙ sym (lack_stop w places i lacking asked h l)

-- ---- first fit without them
picks_skip : (spec : JobSpec) (grant : List Node) (left : ℕ) (xs : List Place) (k : ℕ) → IsSpec spec → Each (Lacks spec) (take k xs) → picks spec grant left (map free_node xs) ≡ picks spec grant left (map free_node (drop k xs))
picks_skip spec grant left xs zero s e = refl
picks_skip spec grant left [] (suc k) s e = refl
picks_skip spec grant left (x ∷ xs) (suc k) s e =
    let here : min left (worth spec grant (free_node x)) ≡ 0 = omega (arith, node_none spec grant x s e.0) in
    let still : left - 0 ≡ left = omega arith in
    ap (λ n. with_host n (give_as spec.nodes spec n (free_node x)) (picks spec grant (left - n) (map free_node xs))) here
    ∙ ap (λ n. picks spec grant n (map free_node xs)) still
    ∙ picks_skip spec grant left xs k s e.1

picks_none : (spec : JobSpec) (grant nodes : List Node) → picks spec grant 0 nodes ≡ []
picks_none spec grant [] = refl
picks_none spec grant (n ∷ ns) =
    let here : min 0 (worth spec grant n) ≡ 0 = omega arith in
    ap (λ k. with_host k (give_as spec.nodes spec k n) (picks spec grant (0 - k) ns)) here ∙ picks_none spec grant ns

pub fit_skip : (spec : JobSpec) (places : List Place) (i k left : ℕ) (nodes : List Node) → IsSpec spec → i < length places → Each (Lacks spec) (take k (drop i places))
    → IsFitting spec places (i + 1) left nodes → IsFitting spec places (i + max k 1) left nodes
fit_skip spec places i k left nodes s h e f =
    let same = picks_skip spec (map node_of places) left (drop (i + 1) places) (max k 1 - 1) s (behind (Lacks spec) places i k h e)
    ∙ ap (λ xs. picks spec (map node_of places) left (map free_node xs)) (drop-drop (max k 1 - 1) (i + 1) places)
    ∙ ap (λ n. picks spec (map node_of places) left (map free_node (drop n places))) (on i k) in
    ap (λ ns. nodes ++ ns) (sym same) ∙ f

pub fit_end : (spec : JobSpec) (places : List Place) (i left : ℕ) (nodes : List Node) → left ≤ 0 → IsFitting spec places i left nodes → nodes ≡ picks spec (map node_of places) (wanted spec) (map free_node places)
fit_end spec places i left nodes h f =
    let zero_left : left ≡ 0 = omega (arith, h) in
    let none = ap (λ n. picks spec (map node_of places) n (map free_node (drop i places))) zero_left ∙ picks_none spec (map node_of places) (map free_node (drop i places)) in
    sym (append-nil nodes) ∙ sym (ap (λ ns. nodes ++ ns) none) ∙ f

-- ---- what holds of each host
pub each_unmapped : {A B : Type 0} (P : B → Type 0) (f : A → B) (xs : List A) → Each P (map f xs) → Each (λ x. P (f x)) xs
each_unmapped P f [] e = tt
each_unmapped P f (x ∷ xs) e = (e.0, each_unmapped P f xs e.1)

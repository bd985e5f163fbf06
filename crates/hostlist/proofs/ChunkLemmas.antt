-- Parts of a list in which each element goes with the one before it.
use Rattle.std.proofs.Common.{◌≡◌, ℕ, ◌-◌, ◌<◌, ◌≤◌, suc, zero, Bool, true, false, cond, eqb, List, [], ◌∷◌, ◌++◌, length, map, take, drop, get_or, refl, ap, sym, ◌∙◌, arith}
use Rattle.std.specs.List.{join_with_byte}
use Rattle.std.proofs.lemmas.List.{append-nil}
use Rattle.hostlist.specs.Printing.{chunks_by, onto_chunks, run_text, group_text}
use Rattle.hostlist.specs.Names.{number_digits, number_prefix, follows}
use Rattle.std.proofs.lemmas.Bool.Decides.{nat_tests}

-- the first part begins with the first element
begins : {X : Type 0} (goes : X → X → Bool) (y : X) (ys : List X) → (zs : List X) × (more : List (List X)) × (chunks_by goes (y ∷ ys) ≡ (y ∷ zs) ∷ more)
begins goes y ys = begins_onto goes y (chunks_by goes ys) where
  begins_onto : {X : Type 0} (goes : X → X → Bool) (y : X) (parts : List (List X)) → (zs : List X) × (more : List (List X)) × (onto_chunks goes y parts ≡ (y ∷ zs) ∷ more)
  begins_onto goes y [] = ([], [], refl)
  begins_onto goes y ([] ∷ more) = ([], more, refl)
  begins_onto goes y ((z ∷ zs) ∷ more) = elim (goes y z) as (λ b. (ws : List _) × (rest : List (List _)) × (cond b ((y ∷ z ∷ zs) ∷ more) ((y ∷ []) ∷ (z ∷ zs) ∷ more) ≡ (y ∷ ws) ∷ rest)) [
    | true ↦ (z ∷ zs, more, refl)
    | false ↦ ([], (z ∷ zs) ∷ more, refl)
  ]

-- where the second element doesn't go with the first
apart : {X : Type 0} (goes : X → X → Bool) (x y : X) (ys : List X) → goes x y ≡ false → chunks_by goes (x ∷ y ∷ ys) ≡ (x ∷ []) ∷ chunks_by goes (y ∷ ys)
apart goes x y ys breaks =
    let b = begins goes y ys in
    ap (onto_chunks goes x) b.2 ∙ ap (λ t. cond t ((x ∷ y ∷ b.0) ∷ b.1) ((x ∷ []) ∷ (y ∷ b.0) ∷ b.1)) breaks ∙ ap (λ parts. (x ∷ []) ∷ parts) (sym b.2)

-- the first part ends where an element doesn't go with the one before it
pub first_part : (goes : List ℕ → List ℕ → Bool) (n : ℕ) (names : List (List ℕ)) → suc n ≤ length names
    → ((k : ℕ) → k < n → goes (get_or names k []) (get_or names (suc k) []) ≡ true)
    → (suc n < length names → goes (get_or names n []) (get_or names (suc n) []) ≡ false)
    → chunks_by goes names ≡ take (suc n) names ∷ chunks_by goes (drop (suc n) names)
first_part goes n [] within on off = absurd (omega arith)
first_part goes zero (x ∷ []) within on off = refl
first_part goes zero (x ∷ y ∷ ys) within on off = apart goes x y ys (off (omega arith))
first_part goes (suc n) (x ∷ []) within on off = absurd (omega arith)
first_part goes (suc n) (x ∷ y ∷ ys) within on off =
    let more = first_part goes n (y ∷ ys) (omega arith) (λ k h. on (suc k) (omega arith)) (λ h. off (omega arith)) in
    ap (onto_chunks goes x) more ∙ ap (λ t. cond t ((x ∷ y ∷ take n ys) ∷ chunks_by goes (drop n ys)) ((x ∷ []) ∷ (y ∷ take n ys) ∷ chunks_by goes (drop n ys))) (on 0 (omega arith))

-- texts with a comma before each
abbrev pub comma_texts : (List (List ℕ) → List ℕ) → List (List (List ℕ)) → List ℕ
comma_texts text [] = []
comma_texts text (part ∷ parts) = 44 ∷ (text part ++ comma_texts text parts)

-- texts joined by commas are the first one, and the others with a comma before each
pub joined_is : (text : List (List ℕ) → List ℕ) (part : List (List ℕ)) (parts : List (List (List ℕ))) → join_with_byte 44 (map text (part ∷ parts)) ≡ text part ++ comma_texts text parts
joined_is text part [] = sym (append-nil (text part))
joined_is text part (next ∷ parts) = ap (λ t. text part ++ (44 ∷ t)) (joined_is text next parts)

-- the text of a run, and of a group, by its length
pub run_one : (run : List (List ℕ)) → length run ≡ 1 → run_text run ≡ number_digits (get_or run 0 [])
unfolding run_text
run_one run one = let test : eqb (length run) 1 ≡ true = grind (arith, nat_tests) in rw test refl

pub run_more : (run : List (List ℕ)) → 1 < length run → run_text run ≡ number_digits (get_or run 0 []) ++ 45 ∷ number_digits (get_or run (length run - 1) [])
unfolding run_text
run_more run more = let test : eqb (length run) 1 ≡ false = grind (arith, nat_tests) in rw test refl

pub group_one : (group : List (List ℕ)) → length group ≡ 1 → group_text group ≡ get_or group 0 []
unfolding group_text
group_one group one = let test : eqb (length group) 1 ≡ true = grind (arith, nat_tests) in rw test refl

pub group_more : (group : List (List ℕ)) → 1 < length group → group_text group ≡ number_prefix (get_or group 0 []) ++ 91 ∷ join_with_byte 44 (map run_text (chunks_by follows group)) ++ 93 ∷ []
unfolding group_text
group_more group more = let test : eqb (length group) 1 ≡ false = grind (arith, nat_tests) in rw test refl

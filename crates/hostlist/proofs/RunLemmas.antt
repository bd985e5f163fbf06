-- Parts of a list of hosts, and runs of followers.
use Rattle.std.proofs.Common.{◌≡◌, ℕ, ◌+◌, ◌-◌, ◌^◌, ◌<◌, ◌≤◌, suc, Bool, true, false, cond, ◌&&◌, ltb, leb, List, [], ◌∷◌, ◌++◌, length, map, get_or, refl, ap, ap₂, sym, ◌∙◌, arith}
use Rattle.std.specs.Prelude.{bytes_eq}
use Rattle.std.specs.List.{flat_map, range_with_len}
use Rattle.std.proofs.lemmas.Bool.Decides.{nat_tests}
use Rattle.std.proofs.lemmas.Slice.Eq.{bytes_eq-Decides}
use Rattle.std.proofs.lemmas.List.{take-append-drop, append_cancel_left, length-take}
use Rattle.hostlist.specs.Names.{padded, value_of, digits_len, number_digits, number_prefix, is_numbered, shares_prefix, follows}
use Rattle.hostlist.specs.Printing.{chunks_by, onto_chunks}
use Rattle.hostlist.proofs.Numbers.{number_digits_pass, length-number_digits, value_small}
use Rattle.hostlist.proofs.NameLemmas.{and_left, and_right}
use Rattle.hostlist.proofs.PaddedLemmas.{IsNumber, value_of-padded, padded_next, padded_is_digits}

-- each element has this
abbrev pub Each : {X : Type 0} → (X → Type 0) → List X → Type 0
Each P [] = Unit {0}
Each P (x ∷ xs) = P x × Each P xs

-- each element goes with the one before it
abbrev pub Linked : (List ℕ → List ℕ → Bool) → List (List ℕ) → Type 0
Linked goes [] = Unit {0}
Linked goes (x ∷ []) = Unit {0}
Linked goes (x ∷ y ∷ ys) = (goes x y ≡ true) × Linked goes (y ∷ ys)

abbrev pub joined : List (List (List ℕ)) → List (List ℕ)
joined parts = flat_map (λ part. part) parts

joined-onto_chunks : (goes : List ℕ → List ℕ → Bool) (x : List ℕ) (parts : List (List (List ℕ))) → joined (onto_chunks goes x parts) ≡ x ∷ joined parts
joined-onto_chunks goes x [] = refl
joined-onto_chunks goes x ([] ∷ more) = refl
joined-onto_chunks goes x ((y ∷ ys) ∷ more) = elim (goes x y) as (λ b. joined (cond b ((x ∷ y ∷ ys) ∷ more) ((x ∷ []) ∷ (y ∷ ys) ∷ more)) ≡ x ∷ joined ((y ∷ ys) ∷ more)) [ true ↦ refl | false ↦ refl ]

-- the parts make the list
pub joined-chunks_by : (goes : List ℕ → List ℕ → Bool) (xs : List (List ℕ)) → joined (chunks_by goes xs) ≡ xs
joined-chunks_by goes [] = refl
joined-chunks_by goes (x ∷ xs) = joined-onto_chunks goes x (chunks_by goes xs) ∙ ap (λ ys. x ∷ ys) (joined-chunks_by goes xs)

-- a part: some elements, each with this, and each goes with the one before it
pub record IsPart (goes : List ℕ → List ℕ → Bool) (P : List ℕ → Type 0) (part : List (List ℕ)) : Type 0 where
  pub some : 0 < length part
  pub linked : Linked goes part
  pub each : Each P part

onto_parts : (goes : List ℕ → List ℕ → Bool) (P : List ℕ → Type 0) (x : List ℕ) (parts : List (List (List ℕ))) → P x → Each (IsPart goes P) parts → Each (IsPart goes P) (onto_chunks goes x parts)
onto_parts goes P x [] h parts = (record { some = omega arith; linked = tt; each = (h, tt) }, tt)
onto_parts goes P x ([] ∷ more) h parts = (record { some = omega arith; linked = tt; each = (h, tt) }, parts.1)
onto_parts goes P x ((y ∷ ys) ∷ more) h parts =
    elim (goes x y) as (λ b. goes x y ≡ b → Each (IsPart goes P) (cond b ((x ∷ y ∷ ys) ∷ more) ((x ∷ []) ∷ (y ∷ ys) ∷ more))) [
      | true ↦ λ q. (record { some = omega arith; linked = (q, parts.0.linked); each = (h, parts.0.each) }, parts.1)
      | false ↦ λ q. (record { some = omega arith; linked = tt; each = (h, tt) }, parts)
    ] refl

pub parts_of : (goes : List ℕ → List ℕ → Bool) (P : List ℕ → Type 0) (xs : List (List ℕ)) → Each P xs → Each (IsPart goes P) (chunks_by goes xs)
parts_of goes P [] h = tt
parts_of goes P (x ∷ xs) h = onto_parts goes P x (chunks_by goes xs) h.0 (parts_of goes P xs h.1)

-- a host with a number, behind this prefix
pub record IsMember (prefix name : List ℕ) : Type 0 where
  pub numbered : is_numbered name ≡ true
  pub same : number_prefix name ≡ prefix

numbered_len : (d n : ℕ) → (ltb 0 d && leb d 9 && ltb d n) ≡ true → (0 < d) × (d ≤ 9) × (d < n)
numbered_len d n h = (grind (arith, nat_tests), grind (arith, nat_tests), grind (arith, nat_tests))

pub number_is : (name : List ℕ) → is_numbered name ≡ true → IsNumber (number_digits name)
number_is name h =
    let len = numbered_len (digits_len name) (length name) h in
    let long = length-number_digits name in
    record { pass = number_digits_pass name; some = omega (arith, len.0); short = omega (arith, len.1) }

pub name_is : (name : List ℕ) → number_prefix name ++ number_digits name ≡ name
name_is name = take-append-drop (length name - digits_len name) name

-- what follows a member is one
pub follower : (prefix a b : List ℕ) → shares_prefix a b ≡ true → IsMember prefix a → IsMember prefix b
follower prefix a b h m =
    let both = and_left (is_numbered a && is_numbered b) (bytes_eq (number_prefix a) (number_prefix b)) h in
    let same = (bytes_eq-Decides (number_prefix a) (number_prefix b)).0 (and_right (is_numbered a && is_numbered b) (bytes_eq (number_prefix a) (number_prefix b)) h) in
    record { numbered = and_right (is_numbered a) (is_numbered b) both; same = sym same ∙ m.same }

pub members : (prefix x : List ℕ) (xs : List (List ℕ)) → Linked shares_prefix (x ∷ xs) → IsMember prefix x → Each (IsMember prefix) (x ∷ xs)
members prefix x [] linked m = (m, tt)
members prefix x (y ∷ ys) linked m = (m, members prefix y ys linked.1 (follower prefix x y linked.0 m))

-- the first of several that share a prefix has a number
pub first_member : (x y : List ℕ) → shares_prefix x y ≡ true → IsMember (number_prefix x) x
first_member x y h = record { numbered = and_left (is_numbered x) (is_numbered y) (and_left (is_numbered x && is_numbered y) (bytes_eq (number_prefix x) (number_prefix y)) h); same = refl }

-- the digits behind a prefix
digits_behind : (prefix name digits : List ℕ) → IsMember prefix name → name ≡ prefix ++ digits → number_digits name ≡ digits
digits_behind prefix name digits m is = append_cancel_left prefix (number_digits name) digits (ap (λ p. p ++ number_digits name) (sym m.same) ∙ name_is name ∙ is)

-- a run of followers has the numbers from the first on, up to that of its last host
pub record IsCounted (prefix : List ℕ) (width n : ℕ) (x : List ℕ) (xs : List (List ℕ)) : Type 0 where
  pub hosts : x ∷ xs ≡ map (λ number. prefix ++ padded width number) (range_with_len n (suc (length xs)))
  pub last : value_of (number_digits (get_or (x ∷ xs) (length xs) [])) ≡ n + length xs

pub counted : (prefix : List ℕ) (width n : ℕ) (x : List ℕ) (xs : List (List ℕ)) → Linked follows (x ∷ xs) → Each (IsMember prefix) (x ∷ xs) → x ≡ prefix ++ padded width n → n < 2 ^ 60 → IsCounted prefix width n x xs
counted prefix width n x [] linked each is small =
    let digits : number_digits x ≡ padded width n = digits_behind prefix x (padded width n) each.0 is in
    let value : value_of (number_digits x) ≡ n = ap value_of digits ∙ value_of-padded width n (omega arith) in
    record { hosts = ap (λ y. y ∷ []) is; last = omega arith }
counted prefix width n x (y ∷ ys) linked each is small =
    let digits : number_digits x ≡ padded width n = digits_behind prefix x (padded width n) each.0 is in
    let value : value_of (number_digits x) ≡ n = ap value_of digits ∙ value_of-padded width n (omega arith) in
    let below : value_of (number_digits x) < 1000000000 = let number = number_is x each.0.numbered in value_small (number_digits x) number.pass number.short in
    let next : number_digits y ≡ padded (length (number_digits x)) (value_of (number_digits x) + 1) =
    (bytes_eq-Decides _ _).0 (and_right (shares_prefix x y) (bytes_eq (number_digits y) (padded (length (number_digits x)) (value_of (number_digits x) + 1))) linked.0) in
    let padded_is : number_digits y ≡ padded width (n + 1) = next ∙ ap₂ (λ d v. padded (length d) (v + 1)) digits value ∙ padded_next width n (omega arith) in
    let member : y ≡ prefix ++ padded width (n + 1) = sym (name_is y) ∙ ap₂ (λ p d. p ++ d) each.1.0.same padded_is in
    let more = counted prefix width (n + 1) y ys linked.1 each.1 member (omega arith) in
    record { hosts = ap₂ (λ z zs. z ∷ zs) is more.hosts; last = omega (arith, more.last) }

-- the last of several members is one
pub last_member : (prefix x : List ℕ) (xs : List (List ℕ)) → Each (IsMember prefix) (x ∷ xs) → IsMember prefix (get_or (x ∷ xs) (length xs) [])
last_member prefix x [] each = each.0
last_member prefix x (y ∷ ys) each = last_member prefix y ys each.1

-- a run, by the digits of its first and its last host
pub record IsRun (prefix : List ℕ) (run : List (List ℕ)) (low high : List ℕ) : Type 0 where
  pub low_number : IsNumber low
  pub high_number : IsNumber high
  pub ordered : value_of low ≤ value_of high
  pub hosts : run ≡ map (λ number. prefix ++ padded (length low) number) (range_with_len (value_of low) (value_of high + 1 - value_of low))

pub run_of : (prefix x : List ℕ) (xs : List (List ℕ)) → IsPart follows (IsMember prefix) (x ∷ xs) → IsRun prefix (x ∷ xs) (number_digits x) (number_digits (get_or (x ∷ xs) (length xs) []))
run_of prefix x xs part =
    let low = number_digits x in
    let last = get_or (x ∷ xs) (length xs) [] in
    let low_number = number_is x part.each.0.numbered in
    let m = last_member prefix x xs part.each in
    let high_number = number_is last m.numbered in
    let small = value_small low low_number.pass low_number.short in
    let first : x ≡ prefix ++ padded (length low) (value_of low) = sym (name_is x) ∙ ap₂ (λ p d. p ++ d) part.each.0.same (sym (padded_is_digits low low_number)) in
    let all = counted prefix (length low) (value_of low) x xs part.linked part.each first (omega arith) in
    let count : value_of (number_digits last) + 1 - value_of low ≡ suc (length xs) = omega (arith, all.last) in
    record {
      low_number = low_number;
      high_number = high_number;
      ordered = omega (arith, all.last);
      hosts = all.hosts ∙ ap (λ n. map (λ number. prefix ++ padded (length low) number) (range_with_len (value_of low) n)) (sym count);
    }

-- something stands before a host's number
pub prefix_some : (name : List ℕ) → is_numbered name ≡ true → 0 < length (number_prefix name)
prefix_some name h =
    let len = numbered_len (digits_len name) (length name) h in
    omega (arith, len.2, length-take (length name - digits_len name) name)

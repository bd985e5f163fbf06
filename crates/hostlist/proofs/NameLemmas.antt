-- Names of hosts, and those that a part has.
use Rattle.std.proofs.Common.{◌≡◌, ℕ, ◌+◌, ◌-◌, ◌^◌, ◌<◌, ◌≤◌, suc, zero, Bool, true, false, cond, eqb, not, ◌&&◌, List, [], ◌∷◌, ◌++◌, length, map, replicate, refl, ap, ap₂, arith}
use Rattle.std.specs.Prelude.{Some, None, IfSome}
use Rattle.std.specs.Option.{option_map_or}
use Rattle.std.specs.List.{list_all, range_with_len}
use Rattle.std.specs.Str.{all_ascii_digits}
use Rattle.std.specs.Char.{is_ascii_digit}
use Rattle.std.specs.Fmt.{decimal}
use Rattle.std.proofs.lemmas.Bool.Decides.{nat_tests}
use Rattle.std.proofs.lemmas.Fmt.{digits_decimal}
use Rattle.hostlist.specs.Names.{is_name_byte, is_host_name, IsHostName, AreHostNames, padded}
use Rattle.hostlist.specs.Parts.{part_hosts, part_bracket}
use Rattle.hostlist.specs.declared.parts.Part.{Part}
use Rattle.hostlist.proofs.Numbers.{own}

pub and_true : (a b : Bool) → a ≡ true → b ≡ true → (a && b) ≡ true
and_true a b h k = ap₂ (λ x y. x && y) h k

pub and_left : (a b : Bool) → (a && b) ≡ true → a ≡ true
and_left true b h = refl
and_left false b h = h

pub and_right : (a b : Bool) → (a && b) ≡ true → b ≡ true
and_right true b h = h
and_right false b h = cc

pub list_all-append : {X : Type 0} (p : X → Bool) (xs ys : List X) → list_all p xs ≡ true → list_all p ys ≡ true → list_all p (xs ++ ys) ≡ true
list_all-append p [] ys h k = k
list_all-append p (x ∷ xs) ys h k = and_true (p x) (list_all p (xs ++ ys)) (and_left (p x) (list_all p xs) h) (list_all-append p xs ys (and_right (p x) (list_all p xs) h) k)

digit_named : (b : ℕ) → is_ascii_digit b ≡ true → is_name_byte b ≡ true
digit_named b h = rw h refl

-- digits are bytes of a name
pub digits_named : (ds : List ℕ) → all_ascii_digits ds ≡ true → list_all is_name_byte ds ≡ true
digits_named [] h = refl
digits_named (d ∷ ds) h = and_true (is_name_byte d) (list_all is_name_byte ds) (digit_named d (and_left (is_ascii_digit d) (all_ascii_digits ds) h)) (digits_named ds (and_right (is_ascii_digit d) (all_ascii_digits ds) h))

zeros_digits : (n : ℕ) → list_all is_name_byte (replicate n 48) ≡ true
zeros_digits zero = refl
zeros_digits (suc n) = zeros_digits n

padded_named : (width n : ℕ) → n < 2 ^ 64 → list_all is_name_byte (padded width n) ≡ true
unfolding padded
padded_named width n small = list_all-append is_name_byte (replicate (width - length (decimal n)) 48) (decimal n) (zeros_digits (width - length (decimal n))) (digits_named (decimal n) (digits_decimal own n small))

-- a name with further bytes of a name behind it
pub longer_named : (name more : List ℕ) → IsHostName name → list_all is_name_byte more ≡ true → IsHostName (name ++ more)
longer_named [] more h k = cc
longer_named (b ∷ bs) more h k =
    let some : eqb (length (b ∷ bs ++ more)) 0 ≡ false = grind (arith, nat_tests) in
    and_true (not (eqb (length (b ∷ bs ++ more)) 0)) (list_all is_name_byte (b ∷ bs ++ more)) (ap not some)
    (list_all-append is_name_byte (b ∷ bs) more (and_right (not (eqb (length (b ∷ bs)) 0)) (list_all is_name_byte (b ∷ bs)) h) k)

range_named : (prefix : List ℕ) (width a n : ℕ) → IsHostName prefix → a + n ≤ 2 ^ 64 → AreHostNames (map (λ number. prefix ++ padded width number) (range_with_len a n))
range_named prefix width a zero h small = refl
range_named prefix width a (suc n) h small =
    and_true (is_host_name (prefix ++ padded width a)) (list_all is_host_name (map (λ number. prefix ++ padded width number) (range_with_len (a + 1) n)))
    (longer_named prefix (padded width a) h (padded_named width a (omega arith))) (range_named prefix width (a + 1) n h (omega arith))

-- the hosts of a part whose prefix is a name have names
pub part_named : (part : Part) → IsHostName part.prefix.now → AreHostNames (part_hosts part)
unfolding part_hosts
part_named part h = elim part.range as (λ r. list_all is_host_name (option_map_or (λ range. map (λ number. part.prefix.now ++ padded range.width number) (range_with_len range.first (range.last + 1 - range.first))) r (part.prefix.now ∷ [])) ≡ true) [
  | None ↦ and_true (is_host_name part.prefix.now) true h refl
  | Some range ↦ range_named part.prefix.now range.width range.first (range.last + 1 - range.first) h (omega (arith, range.small))
]

pub part_inside : (part : Part) → IsHostName part.prefix.now → IfSome (part_bracket part) IsHostName
unfolding part_bracket
part_inside part h = elim part.range as (λ r. IfSome (option_map_or (λ range. cond range.is_last None (Some part.prefix.now)) r None) IsHostName) [
  | None ↦ tt
  | Some range ↦ elim range.is_last as (λ b. IfSome (cond b None (Some part.prefix.now)) IsHostName) [ true ↦ tt | false ↦ h ]
]

-- One piece more of a text.
use Rattle.std.proofs.Common.{◌≡◌, ℕ, ◌+◌, ◌-◌, ◌^◌, ◌<◌, ◌≤◌, suc, true, false, cond, eqb, ltb, not, min, List, [], ◌∷◌, ◌++◌, length, take, drop, refl, ap, sym, ◌∙◌, arith}
use Rattle.std.specs.Prelude.{Option, Some, None, IfSome}
use Rattle.std.specs.List.{slice_split, onto_first, position_or_len}
use Rattle.std.proofs.lemmas.Bool.Decides.{nat_tests}
use Rattle.std.proofs.lemmas.List.{length-drop, drop-drop, take_all}
use Rattle.std.proofs.lemmas.List.Splits.{slice_split_first}
use Rattle.std.specs.Option.{option_map_or}
use Rattle.outcomes.specs.Outcomes.{Faults, or_else}
use Rattle.hostlist.specs.Reading.{fault_in, hosts_in, piece_fault, piece_hosts, bracket_behind, pieces, text_fault, spelled, first_fault, lasting}
use Rattle.hostlist.specs.Parts.{left}
use Rattle.hostlist.specs.declared.faults.HostFault.{HostFault}
use Rattle.hostlist.specs.declared.faults.HostFault.TheVariants.{TooMany, NoMemory}

-- the first fault of what is left of a text of this size
abbrev pub left_fault : ℕ → Option (List ℕ) → Option (List ℕ) → Option HostFault
left_fault size bracket rest = option_map_or (λ tail. fault_in size (size - length tail) bracket (slice_split (λ c. eqb c 44) tail)) rest (fault_in size 0 bracket [])

-- how long what is left is
abbrev pub left_len : Option (List ℕ) → ℕ
left_len rest = option_map_or (λ tail. length tail + 1) rest 0

pub fault_begins : (text : List ℕ) (rest : Option (List ℕ)) → left rest ≡ pieces text → IfSome rest (λ tail. tail ≡ text) → left_fault (length text) None rest ≡ text_fault text
unfolding text_fault
fault_begins text None is whole = ap (fault_in (length text) 0 None) is
fault_begins text (Some tail) is whole =
    let size : length text - length tail ≡ 0 = omega (arith, ap length whole) in
    ap (λ n. fault_in (length text) n None (slice_split (λ c. eqb c 44) tail)) size ∙ ap (fault_in (length text) 0 None) is

-- where the next piece has no fault, the first fault is behind it
pub fault_behind : (end place : ℕ) (bracket : Option (List ℕ)) (all rest : List (List ℕ)) (piece : List ℕ) → all ≡ piece ∷ rest → piece_fault place bracket piece ≡ None
    → fault_in end place bracket all ≡ fault_in end (place + length piece + 1) (bracket_behind bracket piece) rest
fault_behind end place bracket all rest piece here none = ap (fault_in end place bracket) here ∙ ap (λ f. or_else f (fault_in end (place + length piece + 1) (bracket_behind bracket piece) rest)) none

-- a fault of the next piece is the first one
pub fault_here : (end place : ℕ) (bracket : Option (List ℕ)) (all rest : List (List ℕ)) (piece : List ℕ) (e : HostFault) → all ≡ piece ∷ rest → Faults lasting e (piece_fault place bracket piece)
    → Faults lasting e (fault_in end place bracket all)
fault_here end place bracket all rest piece NoMemory here h = tt
fault_here end place bracket all rest piece e here h = ap (fault_in end place bracket) here ∙ ap (λ f. or_else f (fault_in end (place + length piece + 1) (bracket_behind bracket piece) rest)) h

-- the hosts from the next piece on
pub hosts_behind : (bracket : Option (List ℕ)) (all rest : List (List ℕ)) (piece : List ℕ) → all ≡ piece ∷ rest → hosts_in bracket all ≡ piece_hosts bracket piece ++ hosts_in (bracket_behind bracket piece) rest
hosts_behind bracket all rest piece here = ap (hosts_in bracket) here

-- the first fault is that of what is left behind the next piece, where that has none
pub fault_more : (size : ℕ) (bracket next : Option (List ℕ)) (tail piece : List ℕ) (behind : Option (List ℕ)) → length tail ≤ size
    → slice_split (λ c. eqb c 44) tail ≡ piece ∷ left behind → IfSome behind (λ rest. length piece + 1 + length rest ≡ length tail)
    → piece_fault (size - length tail) bracket piece ≡ None → next ≡ bracket_behind bracket piece
    → left_fault size next behind ≡ fault_in size (size - length tail) bracket (slice_split (λ c. eqb c 44) tail)
fault_more size bracket next tail piece None within here long none is =
    ap (λ b. fault_in size 0 b []) is ∙ sym (fault_behind size (size - length tail) bracket (slice_split (λ c. eqb c 44) tail) [] piece here none)
fault_more size bracket next tail piece (Some rest) within here long none is =
    let at : size - length rest ≡ size - length tail + length piece + 1 = omega arith in
    ap (λ b. fault_in size (size - length rest) b (slice_split (λ c. eqb c 44) rest)) is
    ∙ ap (λ p. fault_in size p (bracket_behind bracket piece) (slice_split (λ c. eqb c 44) rest)) at
    ∙ sym (fault_behind size (size - length tail) bracket (slice_split (λ c. eqb c 44) tail) (slice_split (λ c. eqb c 44) rest) piece here none)

pub hosts_more : (bracket next : Option (List ℕ)) (tail piece : List ℕ) (behind : Option (List ℕ)) → slice_split (λ c. eqb c 44) tail ≡ piece ∷ left behind → next ≡ bracket_behind bracket piece
    → hosts_in bracket (slice_split (λ c. eqb c 44) tail) ≡ piece_hosts bracket piece ++ hosts_in next (left behind)
hosts_more bracket next tail piece behind here is =
    hosts_behind bracket (slice_split (λ c. eqb c 44) tail) (left behind) piece here ∙ ap (λ b. piece_hosts bracket piece ++ hosts_in b (left behind)) (sym is)

-- what is left is no longer than what was left before
pub left_within : (size : ℕ) (tail piece : List ℕ) (behind : Option (List ℕ)) → length tail ≤ size → IfSome behind (λ rest. length piece + 1 + length rest ≡ length tail) → IfSome behind (λ rest. length rest ≤ size)
left_within size tail piece None within long = tt
left_within size tail piece (Some rest) within long = omega arith

pub left_less : (tail piece : List ℕ) (behind : Option (List ℕ)) → IfSome behind (λ rest. length piece + 1 + length rest ≡ length tail) → left_len behind < length tail + 1
left_less tail piece None long = omega arith
left_less tail piece (Some rest) long = omega arith

-- a text is cut at its first comma, if it has one
pub uncut_is : (text : List ℕ) → length text ≤ position_or_len (λ c. eqb c 44) text → slice_split (λ c. eqb c 44) text ≡ text ∷ []
uncut_is [] h = refl
uncut_is (b ∷ bs) h =
    elim (eqb b 44) as (λ t. suc (length bs) ≤ cond (not t) (1 + position_or_len (λ c. eqb c 44) bs) 0 → cond t ([] ∷ slice_split (λ c. eqb c 44) bs) (onto_first b (slice_split (λ c. eqb c 44) bs)) ≡ (b ∷ bs) ∷ []) [
      | true ↦ λ l. absurd (omega arith)
      | false ↦ λ l. ap (onto_first b) (uncut_is bs (omega arith))
    ] h

pub cut_is : (text rest : List ℕ) (at : ℕ) → at ≡ position_or_len (λ c. eqb c 44) text → rest ≡ drop at text → 1 ≤ length rest
    → slice_split (λ c. eqb c 44) text ≡ take at text ∷ slice_split (λ c. eqb c 44) (take (length rest - 1) (drop 1 rest))
cut_is text rest at count is some =
    let long : length rest ≡ length text - at = ap length is ∙ length-drop at text in
    let behind : drop 1 rest ≡ drop (at + 1) text = ap (drop 1) is ∙ drop-drop 1 at text in
    let whole : take (length rest - 1) (drop 1 rest) ≡ drop 1 rest = take_all (length rest - 1) (drop 1 rest) (omega (arith, length-drop 1 rest)) in
    let first = slice_split_first (λ c. eqb c 44) text 0 (omega arith) in
    first ∙ ap (λ n. take n text ∷ slice_split (λ c. eqb c 44) (drop (n + 1) text)) (sym count) ∙ ap (λ x. take at text ∷ slice_split (λ c. eqb c 44) x) (sym (whole ∙ behind))

-- a text that isn't empty is cut at its commas
pub pieces_is : (text : List ℕ) → 0 < length text → pieces text ≡ slice_split (λ c. eqb c 44) text
unfolding pieces
pieces_is [] some = absurd (omega arith)
pieces_is (b ∷ bs) some = refl

pub none_left : (text : List ℕ) → length text ≡ 0 → [] ≡ pieces text
unfolding pieces
none_left [] none = refl
none_left (b ∷ bs) none = absurd (omega arith)

pub rest_within : (text : List ℕ) (rest : Option (List ℕ)) → IfSome rest (λ tail. tail ≡ text) → IfSome rest (λ tail. length tail ≤ length text)
rest_within text None h = tt
rest_within text (Some tail) h = omega (arith, ap length h)

-- the first fault of a text, where its pieces have one
pub first_fault_here : (text : List ℕ) (e : HostFault) → Faults lasting e (text_fault text) → Faults lasting e (first_fault text)
unfolding first_fault
first_fault_here text NoMemory h = tt
first_fault_here text e h = ap (λ f. or_else f (cond (ltb 65536 (length (spelled text))) (Some TooMany) None)) h

-- and where they have none
pub many_hosts : (text : List ℕ) (count : ℕ) → text_fault text ≡ None → count ≡ min (length (spelled text)) (2 ^ 64 - 1) → 65536 < count → first_fault text ≡ Some TooMany
unfolding first_fault
many_hosts text count none is many =
    let test : ltb 65536 (length (spelled text)) ≡ true = grind (arith, nat_tests) in
    rw (none, test) refl

pub few_hosts : (text : List ℕ) (count : ℕ) → text_fault text ≡ None → count ≡ min (length (spelled text)) (2 ^ 64 - 1) → count ≤ 65536 → (first_fault text ≡ None) × (length (spelled text) ≤ 65536)
unfolding first_fault
few_hosts text count none is few =
    let short : length (spelled text) ≤ 65536 = omega arith in
    let test : ltb 65536 (length (spelled text)) ≡ false = grind (arith, nat_tests) in
    (rw (none, test) refl, short)

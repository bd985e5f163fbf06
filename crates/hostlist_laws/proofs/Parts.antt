-- The pieces of a text: how each is read, and what a piece without a fault is.
use Rattle.std.proofs.Common.{◌≡◌, ℕ, ◌+◌, ◌-◌, ◌<◌, ◌≤◌, Bool, true, false, cond, not, eqb, ltb, List, [], ◌∷◌, ◌++◌, length, drop, refl, ap, ap₂, sym, ◌∙◌, subst, arith}
use Rattle.std.specs.Prelude.{Option, Some, None, is_some}
use Rattle.std.specs.Option.{option_map_or}
use Rattle.std.specs.List.{list_all, prefix_len, take_while}
use Rattle.std.proofs.lemmas.Bool.Decides.{nat_tests}
use Rattle.std.proofs.lemmas.List.{append-nil, take-append-drop, take_all}
use Rattle.hostlist.specs.Names.{is_name_byte, IsHostName}
use Rattle.hostlist.specs.Reading.{behind, range_end, range_fault, prefix_of, range_of, name_fault, piece_fault, piece_hosts, bracket_behind}
use Rattle.hostlist.specs.Reading as reading
use Rattle.hostlist.specs.declared.faults.HostFault.{HostFault}
use Rattle.hostlist.specs.declared.faults.HostFault.TheVariants.{BadText}
use Rattle.hostlist.proofs.NameLemmas.{and_left, and_right}
use Rattle.hostlist.proofs.ReadingLemmas.{plain, ranged_item, ranged_inside, front_name}
use Rattle.hostlist_laws.specs.Items.{Range, IsRange, range_text, range_hosts}
use Rattle.hostlist_laws.proofs.Fronts.{front_len, front_is, back_is}
use Rattle.hostlist_laws.proofs.Ranges.{ending, IsRead, range_read, range_clean, hosts_read, IsFound, or_none, test_none, behind_found, range_found}

-- the bracket behind a range
abbrev pub bracket_at : Bool → List ℕ → Option (List ℕ)
bracket_at closes prefix = cond closes None (Some prefix)

-- how a piece is read
pub record IsPiece (bracket : Option (List ℕ)) (text : List ℕ) (hosts : List (List ℕ)) (next : Option (List ℕ)) : Type 0 where
  pub clean : (place : ℕ) → piece_fault place bracket text ≡ None
  pub hosts_are : piece_hosts bracket text ≡ hosts
  pub ends : bracket_behind bracket text ≡ next

ending_bracket : (prefix : List ℕ) (closes : Bool) → cond {A = Option (List ℕ)} (eqb (length (ending closes)) 0) (Some prefix) None ≡ bracket_at closes prefix
ending_bracket prefix true = refl
ending_bracket prefix false = refl

read_of : (range : Range) (closes : Bool) → IsRange range → IsRead (range_text range ++ ending closes) range closes
read_of range closes h = range_read range.first range.last closes h.first h.last

-- a range in the bracket of its prefix
pub inside : (prefix : List ℕ) (range : Range) (closes : Bool) → IsRange range → IsPiece (Some prefix) (range_text range ++ ending closes) (range_hosts prefix range) (bracket_at closes prefix)
inside prefix range closes h =
    let text = range_text range ++ ending closes in
    let t = read_of range closes h in
    let piece = ranged_inside 0 prefix text in
    record {
      clean = λ place. (ranged_inside place prefix text).fault ∙ range_clean text range closes place t h;
      hosts_are = piece.hosts ∙ hosts_read prefix text range closes t;
      ends = piece.next ∙ ap (λ e. cond {A = Option (List ℕ)} (eqb (length e) 0) (Some prefix) None) t.end_is ∙ ending_bracket prefix closes;
    }

name_some : (name : List ℕ) → IsHostName name → 0 < length name
name_some name h = let test = and_left (not (eqb (length name) 0)) (list_all is_name_byte name) h in grind (arith, nat_tests)

pub name_bytes : (name : List ℕ) → IsHostName name → list_all is_name_byte name ≡ true
name_bytes name h = and_right (not (eqb (length name) 0)) (list_all is_name_byte name) h

-- a range behind its prefix, which begins the bracket
pub outside : (prefix : List ℕ) (range : Range) (closes : Bool) → IsHostName prefix → IsRange range → IsPiece None (prefix ++ 91 ∷ (range_text range ++ ending closes)) (range_hosts prefix range) (bracket_at closes prefix)
outside prefix range closes named h =
    let text = range_text range ++ ending closes in
    let t = read_of range closes h in
    let whole = prefix ++ 91 ∷ text in
    let bytes = name_bytes prefix named in
    let len = front_len is_name_byte prefix (91 ∷ text) bytes refl in
    let some : 0 < prefix_len is_name_byte whole = omega (arith, len, name_some prefix named) in
    let is : behind 91 (drop (prefix_len is_name_byte whole) whole) ≡ Some text = ap (behind 91) (back_is is_name_byte prefix (91 ∷ text) bytes refl) in
    let front : prefix_of None whole ≡ prefix = front_is is_name_byte prefix (91 ∷ text) bytes refl in
    let piece = ranged_item 0 whole text some is in
    record {
      clean = λ place. (ranged_item place whole text some is).fault ∙ range_clean text range closes (place + (length whole - length text)) t h;
      hosts_are = piece.hosts ∙ ap (λ p. reading.range_hosts p text) front ∙ hosts_read prefix text range closes t;
      ends = piece.next ∙ ap₂ (λ p e. cond {A = Option (List ℕ)} (eqb (length e) 0) (Some p) None) front t.end_is ∙ ending_bracket prefix closes;
    }

-- a name
pub alone : (name : List ℕ) → IsHostName name → IsPiece None name (name ∷ []) None
alone name named =
    let bytes = name_bytes name named in
    let whole = append-nil name in
    let len : prefix_len is_name_byte name ≡ length name = ap (prefix_len is_name_byte) (sym whole) ∙ front_len is_name_byte name [] bytes tt in
    let some : 0 < prefix_len is_name_byte name = omega (arith, len, name_some name named) in
    let back : drop (prefix_len is_name_byte name) name ≡ [] = ap (λ x. drop (prefix_len is_name_byte x) x) (sym whole) ∙ back_is is_name_byte name [] bytes tt in
    let front : take_while is_name_byte name ≡ name = ap (take_while is_name_byte) (sym whole) ∙ front_is is_name_byte name [] bytes tt in
    let piece = plain 0 name some back in
    record { clean = λ place. (plain place name some back).fault; hosts_are = piece.hosts ∙ ap (λ x. x ∷ []) front; ends = piece.bracket }

-- a piece without a fault behind a prefix is a range
pub inside_found : (place : ℕ) (prefix piece : List ℕ) → piece_fault place (Some prefix) piece ≡ None → IsFound piece
inside_found place prefix piece h = range_found place piece (sym (ranged_inside place prefix piece).fault ∙ h)

-- a piece without a fault outside of brackets is a name, or a name with a range behind it
pub data IsOutside (piece : List ℕ) : Type 0 where
  Plain : IsHostName piece → IsOutside piece
  Opens : (prefix range : List ℕ) → IsHostName prefix → piece ≡ prefix ++ 91 ∷ range → IsFound range → IsOutside piece

outside_by : (place : ℕ) (piece : List ℕ) (rest : Option (List ℕ)) → behind 91 (drop (prefix_len is_name_byte piece) piece) ≡ rest → 0 < prefix_len is_name_byte piece
    → cond (ltb (prefix_len is_name_byte piece) (length piece)) (cond (is_some rest) None (Some (BadText (place + prefix_len is_name_byte piece)))) None ≡ None
    → option_map_or (λ range. range_fault (place + (length piece - length range)) range) rest None ≡ None → IsOutside piece
outside_by place piece None is some stops clean =
    let len = prefix_len is_name_byte piece in
    let past = test_none (ltb len (length piece)) (BadText (place + len)) None stops in
    let all : length piece ≤ len = grind (arith, nat_tests, past.0) in
    Plain (subst IsHostName (take_all len piece all) (front_name piece some))
outside_by place piece (Some range) is some stops clean =
    let whole = take-append-drop (prefix_len is_name_byte piece) piece in
    let front = take_while is_name_byte piece in
    Opens front range (front_name piece some) (sym whole ∙ ap (λ t. front ++ t) (behind_found 91 (drop (prefix_len is_name_byte piece) piece) range is))
    (range_found (place + (length piece - length range)) range clean)

pub outside_found : (place : ℕ) (piece : List ℕ) → piece_fault place None piece ≡ None → IsOutside piece
unfolding piece_fault
outside_found place piece h =
    let len = prefix_len is_name_byte piece in
    let rest = range_of None piece in
    let later : Option HostFault = option_map_or (λ range. range_fault (place + (length piece - length range)) range) rest None in
    let none = or_none (name_fault place piece) later h in
    let behind_name : Option HostFault = cond (ltb len (length piece)) (cond (is_some rest) None (Some (BadText (place + len)))) None in
    let test = test_none (eqb len 0) (BadText place) behind_name none.0 in
    let some : 0 < len = grind (arith, nat_tests, test.0) in
    outside_by place piece rest refl some test.1 none.1

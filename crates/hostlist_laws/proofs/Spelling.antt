-- The text of items spells their hosts.
use Rattle.std.proofs.Common.{◌≡◌, ℕ, ◌<◌, ◌≤◌, Bool, true, false, cond, ltb, List, [], ◌∷◌, ◌++◌, length, map, flat_map, refl, ap, ap₂, sym, ◌∙◌, subst, append_assoc, arith}
use Rattle.std.specs.Prelude.{Option, Some, None, unwrap_or}
use Rattle.std.specs.List.{AllByRecursion as Each, list_all, join_with_byte}
use Rattle.std.proofs.lemmas.Bool.Decides.{nat_tests}
use Rattle.std.proofs.lemmas.List.{append-nil}
use Rattle.outcomes.specs.Outcomes.{or_else}
use Rattle.hostlist.specs.Names.{IsHostName}
use Rattle.hostlist.specs.Reading.{pieces, spelled, text_fault, first_fault}
use Rattle.hostlist.specs.declared.faults.HostFault.TheVariants.{TooMany}
use Rattle.hostlist.proofs.NameLemmas.{and_true, list_all-append}
use Rattle.hostlist.proofs.ReadingLemmas.{no_name}
use Rattle.hostlist.proofs.PieceReading.{Spells, comma_pieces, clean_fault, spells_on, spells_piece, is_other, names_other, digits_other}
use Rattle.hostlist_laws.specs.Items.{Range, Item, Host, Bracket, IsNumber, IsRange, IsItem, AreItems, range_text, item_text, text_of, range_hosts, item_hosts, hosts_of}
use Rattle.hostlist_laws.proofs.Ranges.{ending}
use Rattle.hostlist_laws.proofs.Parts.{IsPiece, bracket_at, inside, outside, alone, name_bytes}

-- no comma stands in a piece
ending_other : (closes : Bool) → list_all is_other (ending closes) ≡ true
unfolding is_other
ending_other true = refl
ending_other false = refl

dash_other : is_other 45 ≡ true
unfolding is_other
dash_other = refl

open_other : is_other 91 ≡ true
unfolding is_other
open_other = refl

range_other : (first : List ℕ) (last : Option (List ℕ)) → IsNumber first → IsNumber (unwrap_or last first) → list_all is_other (range_text (record { first = first; last = last })) ≡ true
range_other low None h k = digits_other low h.decimal
range_other low (Some high) h k =
    list_all-append is_other low (45 ∷ high) (digits_other low h.decimal) (and_true (is_other 45) (list_all is_other high) dash_other (digits_other high k.decimal))

piece_other : (range : Range) (closes : Bool) → IsRange range → list_all is_other (range_text range ++ ending closes) ≡ true
piece_other range closes h = list_all-append is_other (range_text range) (ending closes) (range_other range.first range.last h.first h.last) (ending_other closes)

spells : (bracket next : Option (List ℕ)) (text : List ℕ) (hosts : List (List ℕ)) → list_all is_other text ≡ true → IsPiece bracket text hosts next → Spells bracket text hosts next
spells bracket next text hosts other p = spells_piece bracket next text hosts other p.clean p.hosts_are p.ends

inside_spells : (prefix : List ℕ) (range : Range) (closes : Bool) → IsRange range → Spells (Some prefix) (range_text range ++ ending closes) (range_hosts prefix range) (bracket_at closes prefix)
inside_spells prefix range closes h = spells (Some prefix) (bracket_at closes prefix) (range_text range ++ ending closes) (range_hosts prefix range) (piece_other range closes h) (inside prefix range closes h)

-- what stands before a bracket's first range
abbrev opening : List ℕ → List ℕ
opening prefix = prefix ++ 91 ∷ []

outside_spells : (prefix : List ℕ) → IsHostName prefix → (range : Range) (closes : Bool) → IsRange range → Spells None (opening prefix ++ (range_text range ++ ending closes)) (range_hosts prefix range) (bracket_at closes prefix)
outside_spells prefix named range closes h =
    let text = range_text range ++ ending closes in
    let other = list_all-append is_other prefix (91 ∷ text) (names_other prefix (name_bytes prefix named)) (and_true (is_other 91) (list_all is_other text) open_other (piece_other range closes h)) in
    let P : List ℕ → Type 0 = λ t. Spells None t (range_hosts prefix range) (bracket_at closes prefix) in
    subst P (sym (append_assoc prefix (91 ∷ []) text)) (spells None (bracket_at closes prefix) (prefix ++ 91 ∷ text) (range_hosts prefix range) other (outside prefix range closes named h))

-- the ranges of a bracket, where this stands before the first one
ranges_spell : (prefix : List ℕ) (bracket : Option (List ℕ)) (lead : List ℕ) → ((range : Range) (closes : Bool) → IsRange range → Spells bracket (lead ++ (range_text range ++ ending closes)) (range_hosts prefix range) (bracket_at closes prefix))
    → (range : Range) (ranges : List Range) → Each IsRange (range ∷ ranges)
    → Spells bracket (lead ++ (join_with_byte 44 (map range_text (range ∷ ranges)) ++ 93 ∷ [])) (flat_map (range_hosts prefix) (range ∷ ranges)) None
ranges_spell prefix bracket lead first range [] each =
    let P : List (List ℕ) → Type 0 = λ hosts. Spells bracket (lead ++ (range_text range ++ 93 ∷ [])) hosts None in
    subst P (sym (append-nil (range_hosts prefix range))) (first range true each.0)
ranges_spell prefix bracket lead first range (next ∷ ranges) each =
    let text = range_text range in
    let more = join_with_byte 44 (map range_text (next ∷ ranges)) in
    let hosts = flat_map (range_hosts prefix) (next ∷ ranges) in
    let P : List ℕ → Type 0 = λ t. Spells bracket (lead ++ t) (range_hosts prefix range) (Some prefix) in
    let begun : Spells bracket (lead ++ text) (range_hosts prefix range) (Some prefix) = subst P (append-nil text) (first range false each.0) in
    let rest : Spells (Some prefix) (more ++ 93 ∷ []) hosts None = ranges_spell prefix (Some prefix) [] (inside_spells prefix) next ranges each.1 in
    let same : (lead ++ text) ++ 44 ∷ (more ++ 93 ∷ []) ≡ lead ++ ((text ++ 44 ∷ more) ++ 93 ∷ []) =
    append_assoc lead text (44 ∷ (more ++ 93 ∷ [])) ∙ ap (λ t. lead ++ t) (sym (append_assoc text (44 ∷ more) (93 ∷ []))) in
    let Q : List ℕ → Type 0 = λ t. Spells bracket t (range_hosts prefix range ++ hosts) None in
    subst Q same (spells_on bracket (Some prefix) None (lead ++ text) (more ++ 93 ∷ []) (range_hosts prefix range) hosts begun rest)

item_spells : (item : Item) → IsItem item → Spells None (item_text item) (item_hosts item) None
item_spells (Host name) named = spells None None name (name ∷ []) (names_other name (name_bytes name named)) (alone name named)
item_spells (Bracket prefix []) h = absurd (omega (arith, h.1))
item_spells (Bracket prefix (range ∷ ranges)) h =
    let text = join_with_byte 44 (map range_text (range ∷ ranges)) ++ 93 ∷ [] in
    let P : List ℕ → Type 0 = λ t. Spells None t (flat_map (range_hosts prefix) (range ∷ ranges)) None in
    subst P (append_assoc prefix (91 ∷ []) text) (ranges_spell prefix None (opening prefix) (outside_spells prefix h.0) range ranges h.2)

items_spell : (item : Item) (items : List Item) → AreItems (item ∷ items) → Spells None (text_of (item ∷ items)) (hosts_of (item ∷ items)) None
items_spell item [] each =
    let P : List (List ℕ) → Type 0 = λ hosts. Spells None (item_text item) hosts None in
    subst P (sym (append-nil (item_hosts item))) (item_spells item each.0)
items_spell item (next ∷ items) each =
    spells_on None None None (item_text item) (text_of (next ∷ items)) (item_hosts item) (hosts_of (next ∷ items)) (item_spells item each.0) (items_spell next items each.1)

-- a text that is read through
pub record IsSpelled (text : List ℕ) (hosts : List (List ℕ)) : Type 0 where
  pub clean : text_fault text ≡ None
  pub hosts_are : spelled text ≡ hosts

text_spells : (text : List ℕ) (hosts : List (List ℕ)) → Spells None text hosts None → IsSpelled text hosts
unfolding text_fault spelled pieces
text_spells [] hosts h = absurd (let none = h.clean.0 0 in let some = no_name 0 [] refl in let no : ⊥ = cc in no)
text_spells (b ∷ bs) hosts h = record { clean = clean_fault (length (b ∷ bs)) 0 None (comma_pieces (b ∷ bs)) h.clean h.ends; hosts_are = h.hosts_are }

none_spelled : IsSpelled [] []
unfolding text_fault spelled pieces
none_spelled = record { clean = refl; hosts_are = refl }

pub items_spelled : (items : List Item) → AreItems items → IsSpelled (text_of items) (hosts_of items)
items_spelled [] each = none_spelled
items_spelled (item ∷ items) each = text_spells (text_of (item ∷ items)) (hosts_of (item ∷ items)) (items_spell item items each)

-- whether there are too many hosts
first_fault_is : (text : List ℕ) (hosts : List (List ℕ)) → IsSpelled text hosts → first_fault text ≡ cond (ltb 65536 (length hosts)) (Some TooMany) None
unfolding first_fault
first_fault_is text hosts h = ap₂ (λ f hs. or_else f (cond (ltb 65536 (length hs)) (Some TooMany) None)) h.clean h.hosts_are

pub few : (items : List Item) → AreItems items → length (hosts_of items) ≤ 65536 → first_fault (text_of items) ≡ None
few items each short =
    let test : ltb 65536 (length (hosts_of items)) ≡ false = grind (arith, nat_tests) in
    first_fault_is (text_of items) (hosts_of items) (items_spelled items each) ∙ ap (λ t. cond t (Some TooMany) None) test

pub many : (items : List Item) → AreItems items → 65536 < length (hosts_of items) → first_fault (text_of items) ≡ Some TooMany
many items each long =
    let test : ltb 65536 (length (hosts_of items)) ≡ true = grind (arith, nat_tests) in
    first_fault_is (text_of items) (hosts_of items) (items_spelled items each) ∙ ap (λ t. cond t (Some TooMany) None) test

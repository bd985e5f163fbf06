-- A text without a fault is the text of items.
use Rattle.std.proofs.Common.{◌≡◌, ℕ, ◌+◌, ◌<◌, Bool, true, false, eqb, List, [], ◌∷◌, ◌++◌, length, map, refl, ap, ap₂, sym, ◌∙◌, subst, append_assoc, arith}
use Rattle.std.specs.Prelude.{Option, Some, None}
use Rattle.std.specs.List.{AllByRecursion as Each, join_with_byte, slice_split}
use Rattle.std.proofs.lemmas.List.{append-nil}
use Rattle.std.proofs.lemmas.List.Splits.{join_with_byte-slice_split, length-slice_split}
use Rattle.hostlist.specs.Names.{IsHostName}
use Rattle.hostlist.specs.Reading.{bracket_behind, fault_in, piece_fault, pieces, spelled, text_fault}
use Rattle.hostlist_laws.specs.Items.{Range, Item, Host, Bracket, IsRange, AreItems, range_text, item_text, text_of, hosts_of}
use Rattle.hostlist_laws.proofs.Ranges.{ending, IsFound, or_none}
use Rattle.hostlist_laws.proofs.Parts.{IsOutside, Plain, Opens, inside, outside, alone, inside_found, outside_found, bracket_at}
use Rattle.hostlist_laws.proofs.Spelling.{items_spelled}

-- texts with a comma before each
abbrev commas : List (List ℕ) → List ℕ
commas [] = []
commas (text ∷ texts) = 44 ∷ (text ++ commas texts)

joined : (text : List ℕ) (texts : List (List ℕ)) → join_with_byte 44 (text ∷ texts) ≡ text ++ commas texts
joined text [] = sym (append-nil text)
joined text (next ∷ texts) = ap (λ t. text ++ 44 ∷ t) (joined next texts)

-- what pieces make, with a comma before each: items, or ranges up to a bracket's end and items
record AreOfItems (text : List ℕ) : Type 0 where
  items : List Item
  valid : AreItems items
  text_is : text ≡ commas (map item_text items)

record AreOfRanges (text : List ℕ) : Type 0 where
  ranges : List Range
  each : Each IsRange ranges
  items : List Item
  valid : AreItems items
  text_is : text ≡ commas (map range_text ranges) ++ 93 ∷ commas (map item_text items)

abbrev AreOf : Option (List ℕ) → List ℕ → Type 0
AreOf None text = AreOfItems text
AreOf (Some prefix) text = AreOfRanges text

-- one range more
range_more : (prefix : List ℕ) (range : Range) (closes : Bool) (rest : List ℕ) → IsRange range → AreOf (bracket_at closes prefix) rest → AreOfRanges (44 ∷ ((range_text range ++ ending closes) ++ rest))
range_more prefix range true rest h more = record {
  ranges = range ∷ [];
  each = (h, tt);
  items = more.items;
  valid = more.valid;
  text_is = let text = range_text range in
      let items = commas (map item_text more.items) in
      ap (λ t. 44 ∷ t) (append_assoc text (93 ∷ []) rest ∙ ap (λ t. text ++ 93 ∷ t) more.text_is ∙ ap (λ t. t ++ 93 ∷ items) (sym (append-nil text)));
}
range_more prefix range false rest h more = record {
  ranges = range ∷ more.ranges;
  each = (h, more.each);
  items = more.items;
  valid = more.valid;
  text_is = let text = range_text range in
      let items = commas (map item_text more.items) in
      ap (λ t. 44 ∷ t) (ap (λ t. t ++ rest) (append-nil text) ∙ ap (λ t. text ++ t) more.text_is ∙ sym (append_assoc text (commas (map range_text more.ranges)) (93 ∷ items)));
}

-- one item more, which is a name, or begins with this range
host_more : (name rest : List ℕ) → IsHostName name → AreOfItems rest → AreOfItems (44 ∷ (name ++ rest))
host_more name rest named more = record {
  items = Host name ∷ more.items;
  valid = (named, more.valid);
  text_is = ap (λ t. 44 ∷ (name ++ t)) more.text_is;
}

bracket_more : (prefix : List ℕ) (range : Range) (closes : Bool) (rest : List ℕ) → IsHostName prefix → IsRange range → AreOf (bracket_at closes prefix) rest
    → AreOfItems (44 ∷ ((prefix ++ 91 ∷ (range_text range ++ ending closes)) ++ rest))
bracket_more prefix range true rest named h more = record {
  items = Bracket prefix (range ∷ []) ∷ more.items;
  valid = ((named, omega arith, (h, tt)), more.valid);
  text_is = ap (λ t. 44 ∷ ((prefix ++ 91 ∷ (range_text range ++ 93 ∷ [])) ++ t)) more.text_is;
}
bracket_more prefix range false rest named h more = record {
  items = Bracket prefix (range ∷ more.ranges) ∷ more.items;
  valid = ((named, omega arith, (h, more.each)), more.valid);
  text_is = let text = range_text range in
      let ranges = commas (map range_text more.ranges) in
      let items = commas (map item_text more.items) in
      let whole = joined text (map range_text more.ranges) in
      let same : (prefix ++ 91 ∷ text) ++ (ranges ++ 93 ∷ items) ≡ (prefix ++ 91 ∷ ((text ++ ranges) ++ 93 ∷ [])) ++ items = simp append_assoc in
      ap (λ t. 44 ∷ t) (ap₂ (λ t u. (prefix ++ 91 ∷ t) ++ u) (append-nil text) more.text_is ∙ same ∙ ap (λ t. (prefix ++ 91 ∷ (t ++ 93 ∷ [])) ++ items) (sym whole));
}

-- one piece more, by what it is
outside_more : (piece rest : List ℕ) → IsOutside piece → AreOf (bracket_behind None piece) rest → AreOfItems (44 ∷ (piece ++ rest))
outside_more piece rest (Plain named) more = host_more piece rest named (subst (λ b. AreOf b rest) (alone piece named).ends more)
outside_more piece rest (Opens prefix range named is found) more =
    let whole : piece ≡ prefix ++ 91 ∷ (range_text found.range ++ ending found.closes) = is ∙ ap (λ t. prefix ++ 91 ∷ t) found.text_is in
    let behind : bracket_behind None piece ≡ bracket_at found.closes prefix = ap (bracket_behind None) whole ∙ (outside prefix found.range found.closes named found.valid).ends in
    subst (λ t. AreOfItems (44 ∷ (t ++ rest))) (sym whole) (bracket_more prefix found.range found.closes rest named found.valid (subst (λ b. AreOf b rest) behind more))

inside_more : (prefix piece rest : List ℕ) → IsFound piece → AreOf (bracket_behind (Some prefix) piece) rest → AreOfRanges (44 ∷ (piece ++ rest))
inside_more prefix piece rest found more =
    let behind : bracket_behind (Some prefix) piece ≡ bracket_at found.closes prefix = ap (bracket_behind (Some prefix)) found.text_is ∙ (inside prefix found.range found.closes found.valid).ends in
    subst (λ t. AreOfRanges (44 ∷ (t ++ rest))) (sym found.text_is) (range_more prefix found.range found.closes rest found.valid (subst (λ b. AreOf b rest) behind more))

-- pieces without a fault, the first of which stands in this bracket
pieces_are_of : (end place : ℕ) (bracket : Option (List ℕ)) (parts : List (List ℕ)) → fault_in end place bracket parts ≡ None → AreOf bracket (commas parts)
pieces_are_of end place None [] h = record { items = []; valid = tt; text_is = refl }
pieces_are_of end place (Some prefix) [] h = absurd (let no : ⊥ = cc in no)
pieces_are_of end place None (piece ∷ parts) h =
    let next = place + length piece + 1 in
    let none = or_none (piece_fault place None piece) (fault_in end next (bracket_behind None piece) parts) h in
    outside_more piece (commas parts) (outside_found place piece none.0) (pieces_are_of end next (bracket_behind None piece) parts none.1)
pieces_are_of end place (Some prefix) (piece ∷ parts) h =
    let next = place + length piece + 1 in
    let none = or_none (piece_fault place (Some prefix) piece) (fault_in end next (bracket_behind (Some prefix) piece) parts) h in
    inside_more prefix piece (commas parts) (inside_found place prefix piece none.0) (pieces_are_of end next (bracket_behind (Some prefix) piece) parts none.1)

-- where a text comes from
pub record HasItems (text : List ℕ) : Type 0 where
  pub items : List Item
  pub valid : AreItems items
  pub text_is : text ≡ text_of items

same_text : (piece : List ℕ) (parts : List (List ℕ)) (items : List Item) → commas (piece ∷ parts) ≡ commas (map item_text items) → join_with_byte 44 (piece ∷ parts) ≡ text_of items
same_text piece parts [] h = absurd (let no : ⊥ = cc in no)
same_text piece parts (item ∷ items) h =
    let same : piece ++ commas parts ≡ item_text item ++ commas (map item_text items) = cc in
    joined piece parts ∙ same ∙ sym (joined (item_text item) (map item_text items))

from_pieces : (text : List ℕ) (parts : List (List ℕ)) → 0 < length parts → join_with_byte 44 parts ≡ text → AreOfItems (commas parts) → HasItems text
from_pieces text [] some is are = absurd (omega arith)
from_pieces text (piece ∷ parts) some is are = record { items = are.items; valid = are.valid; text_is = sym is ∙ same_text piece parts are.items are.text_is }

pub text_has_items : (text : List ℕ) → text_fault text ≡ None → HasItems text
unfolding text_fault pieces
text_has_items [] h = record { items = []; valid = tt; text_is = refl }
text_has_items (b ∷ bs) h =
    let text = b ∷ bs in
    let parts = slice_split (λ c. eqb c 44) text in
    let some : 0 < length parts = omega (arith, length-slice_split (λ c. eqb c 44) text) in
    from_pieces text parts some (join_with_byte-slice_split 44 text) (pieces_are_of (length text) 0 None parts h)

-- and what it spells
pub hosts_are : (text : List ℕ) (from : HasItems text) → spelled text ≡ hosts_of from.items
hosts_are text from = ap spelled from.text_is ∙ (items_spelled from.items from.valid).hosts_are

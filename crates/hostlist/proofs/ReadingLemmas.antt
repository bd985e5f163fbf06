-- Numbers and names at a text's start.
use Rattle.std.proofs.Common.{◌≡◌, ℕ, ◌+◌, ◌-◌, ◌<◌, Bool, true, false, cond, eqb, ◌&&◌, List, [], ◌∷◌, length, drop, refl, ap, ap₂, sym, ◌∙◌, subst, arith}
use Rattle.std.specs.List.{list_all, prefix_len, take_while}
use Rattle.std.specs.Str.{all_ascii_digits}
use Rattle.std.specs.Char.{is_ascii_digit}
use Rattle.std.specs.Prelude.{Option, Some, None, Result, Ok, Err, IsErrAnd, not, ◌==◌, nat_lt, if◌then◌else◌}
use Rattle.std.proofs.lemmas.Bool.Decides.{nat_tests}
use Rattle.std.proofs.lemmas.List.{length-take-le, length-drop}
use Rattle.outcomes.specs.Outcomes.{Faults, Reads}
use Rattle.hostlist.proofs.Numbers.{all_digits_is}
use Rattle.hostlist.specs.Names.{is_name_byte, IsHostName}
use Rattle.hostlist.specs.Reading.{behind, range_hosts, range_end, range_fault, prefix_of, name_fault, piece_fault, piece_hosts, bracket_behind, lasting}
use Rattle.hostlist.specs.Parts.{IsRange, part_hosts, part_bracket}
use Rattle.hostlist.specs.declared.parts.Range.{Range}
use Rattle.hostlist.specs.declared.faults.HostFault.{HostFault}
use Rattle.hostlist.specs.declared.faults.HostFault.TheVariants.{BadText}
use denote.Ref.{Bor}
use Rattle.std.proofs.lemmas.List.Sums.{prefix_len-le-length, take_while-cons}

-- all of what stands before the first element that fails passes
pub take_while_passes : {X : Type 0} (p : X → Bool) (xs : List X) → list_all p (take_while p xs) ≡ true
take_while_passes p [] = refl
take_while_passes p (x ∷ xs) =
    rw (take_while-cons p x xs) (elim (p x) as (λ b. p x ≡ b → list_all p (cond b (x ∷ take_while p xs) []) ≡ true) [
      | true ↦ λ e. rw e (take_while_passes p xs)
      | false ↦ λ e. refl
    ] refl)

pub digits_pass : (text : List ℕ) → all_ascii_digits (take_while is_ascii_digit text) ≡ true
digits_pass text = all_digits_is (take_while is_ascii_digit text) ∙ take_while_passes is_ascii_digit text

pub length-take_while : {X : Type 0} (p : X → Bool) (xs : List X) → length (take_while p xs) ≡ prefix_len p xs
length-take_while p xs = length-take-le (prefix_len p xs) xs (prefix_len-le-length p xs)

-- the same reading by another name of the first fault and of the value
pub Reads-along : {X : Type 0} (f g : Option HostFault) (P Q : X → Type 0) (r : Result X HostFault) → f ≡ g → ((x : X) → P x → Q x) → Reads lasting f P r → Reads lasting g Q r
Reads-along f g P Q (Ok x) same to h = (sym same ∙ h.0, to x h.1)
Reads-along f g P Q (Err e) same to h = subst (Faults lasting e) same h

-- what hands on a fault
pub err_reads : {X : Type 0} (r : Result X HostFault) (e : HostFault) (f : Option HostFault) (P : X → Type 0) → IsErrAnd r (λ x. x ≡ e) → Faults lasting e f → Reads lasting f P r
err_reads (Ok x) e f P is h = absurd is
err_reads (Err x) e f P is h = subst (λ y. Faults lasting y f) (sym is) h

-- a piece that begins with no byte of a name
pub no_name : (place : ℕ) (piece : List ℕ) → prefix_len is_name_byte piece ≡ 0 → piece_fault place None piece ≡ Some (BadText place)
unfolding piece_fault
no_name place piece none = rw none refl

-- a piece that is a name
pub record IsPlain (place : ℕ) (piece : List ℕ) : Type 0 where
  pub fault : piece_fault place None piece ≡ None
  pub hosts : piece_hosts None piece ≡ take_while is_name_byte piece ∷ []
  pub bracket : bracket_behind None piece ≡ None

pub plain : (place : ℕ) (piece : List ℕ) → 0 < prefix_len is_name_byte piece → drop (prefix_len is_name_byte piece) piece ≡ [] → IsPlain place piece
unfolding piece_fault piece_hosts bracket_behind
plain place piece some all =
    let none : eqb (prefix_len is_name_byte piece) 0 ≡ false = grind (arith, nat_tests) in
    let long : length piece - prefix_len is_name_byte piece ≡ 0 = sym (length-drop (prefix_len is_name_byte piece) piece) ∙ ap length all in
    let whole : nat_lt (prefix_len is_name_byte piece) (length piece) ≡ false = grind (arith, nat_tests) in
    record {
      fault = rw (none, whole, all) refl;
      hosts = rw all refl;
      bracket = rw all refl;
    }

-- a piece where another byte than `[` stands behind a name
pub stray : (place : ℕ) (piece : List ℕ) → 0 < prefix_len is_name_byte piece → prefix_len is_name_byte piece < length piece → behind 91 (drop (prefix_len is_name_byte piece) piece) ≡ None
    → piece_fault place None piece ≡ Some (BadText (place + prefix_len is_name_byte piece))
unfolding piece_fault
stray place piece some more other =
    let none : eqb (prefix_len is_name_byte piece) 0 ≡ false = grind (arith, nat_tests) in
    let whole : nat_lt (prefix_len is_name_byte piece) (length piece) ≡ true = grind (arith, nat_tests) in
    rw (none, whole, other) refl

-- a piece with a range
pub record IsRanged (place : ℕ) (bracket : Option (List ℕ)) (piece : List ℕ) (at : ℕ) (range : List ℕ) : Type 0 where
  pub fault : piece_fault place bracket piece ≡ range_fault at range
  pub hosts : piece_hosts bracket piece ≡ range_hosts (prefix_of bracket piece) range
  pub next : bracket_behind bracket piece ≡ (if length (range_end range) == 0 then Some (prefix_of bracket piece) else None)

pub ranged_item : (place : ℕ) (piece range : List ℕ) → 0 < prefix_len is_name_byte piece → behind 91 (drop (prefix_len is_name_byte piece) piece) ≡ Some range → IsRanged place None piece (place + (length piece - length range)) range
unfolding piece_fault piece_hosts bracket_behind
ranged_item place piece range some is =
    let none : eqb (prefix_len is_name_byte piece) 0 ≡ false = grind (arith, nat_tests) in
    let named : name_fault place piece ≡ None = rw (none, is) (elim (nat_lt (prefix_len is_name_byte piece) (length piece)) as (λ b. cond {A = Option HostFault} b None None ≡ None) [ true ↦ refl | false ↦ refl ]) in
    record {
      fault = rw (named, is) refl;
      hosts = rw is refl;
      next = rw is refl;
    }

pub ranged_inside : (place : ℕ) (prefix piece : List ℕ) → IsRanged place (Some prefix) piece place piece
unfolding piece_fault piece_hosts bracket_behind
ranged_inside place prefix piece = record { fault = let here : place + (length piece - length piece) ≡ place = omega arith in ap (λ n. range_fault n piece) here; hosts = refl; next = refl }

-- what a part says that keeps a piece's range
pub kept_hosts : (prefix : Bor (List ℕ)) (range : Range) (text : List ℕ) → IsRange text range → part_hosts (record { prefix = prefix; range = Some range }) ≡ range_hosts prefix.now text
unfolding part_hosts
kept_hosts prefix range text h = rw (h.width, h.first, h.last) refl

pub kept_bracket : (prefix : Bor (List ℕ)) (range : Range) (text : List ℕ) → IsRange text range
    → part_bracket (record { prefix = prefix; range = Some range }) ≡ (if length (range_end text) == 0 then Some prefix.now else None)
unfolding part_bracket
kept_bracket prefix range text h = rw h.ends (elim (eqb (length (range_end text)) 0) as (λ b. cond {A = Option (List ℕ)} (not b) None (Some prefix.now) ≡ cond b (Some prefix.now) None) [ true ↦ refl | false ↦ refl ])

pub plain_hosts : (prefix : Bor (List ℕ)) → part_hosts (record { prefix = prefix; range = None }) ≡ prefix.now ∷ []
unfolding part_hosts
plain_hosts prefix = refl

pub plain_bracket : (prefix : Bor (List ℕ)) → part_bracket (record { prefix = prefix; range = None }) ≡ None
unfolding part_bracket
plain_bracket prefix = refl

-- the name that a piece begins with is the name of one host
pub front_name : (piece : List ℕ) → 0 < prefix_len is_name_byte piece → IsHostName (take_while is_name_byte piece)
front_name piece some =
    let long = length-take_while is_name_byte piece in
    let none : eqb (length (take_while is_name_byte piece)) 0 ≡ false = grind (arith, nat_tests) in
    ap₂ (λ a b. not a && b) none (take_while_passes is_name_byte piece)

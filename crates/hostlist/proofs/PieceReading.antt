-- Texts that are read through, piece by piece.
use Rattle.std.proofs.Common.{◌≡◌, ℕ, ◌+◌, ◌<◌, Bool, true, false, cond, not, eqb, List, [], ◌∷◌, ◌++◌, length, refl, ap, ap₂, sym, ◌∙◌, subst, append_assoc, arith}
use Rattle.std.specs.Prelude.{Option, Some, None, is_some}
use Rattle.std.specs.List.{slice_split, onto_first, list_all}
use Rattle.std.specs.Str.{all_ascii_digits}
use Rattle.std.proofs.lemmas.Bool.Decides.{nat_tests}
use Rattle.std.proofs.lemmas.List.{append-nil}
use Rattle.outcomes.specs.Outcomes.{or_else}
use Rattle.hostlist.specs.Names.{is_name_byte}
use Rattle.hostlist.specs.Reading.{piece_fault, piece_hosts, bracket_behind, hosts_in, fault_in}
use Rattle.hostlist.specs.declared.faults.HostFault.TheVariants.{BadText}
use Rattle.hostlist.proofs.NameLemmas.{and_true, and_left, and_right, digits_named}

-- pieces are read through, from this bracket to that one
abbrev pub Clean : Option (List ℕ) → List (List ℕ) → Type 0
Clean bracket [] = Unit {0}
Clean bracket (p ∷ ps) = ((place : ℕ) → piece_fault place bracket p ≡ None) × Clean (bracket_behind bracket p) ps

abbrev pub behind_all : Option (List ℕ) → List (List ℕ) → Option (List ℕ)
behind_all bracket [] = bracket
behind_all bracket (p ∷ ps) = behind_all (bracket_behind bracket p) ps

pub record IsReading (bracket : Option (List ℕ)) (ps hosts : List (List ℕ)) (next : Option (List ℕ)) : Type 0 where
  pub clean : Clean bracket ps
  pub hosts_are : hosts_in bracket ps ≡ hosts
  pub ends : behind_all bracket ps ≡ next

clean-append : (bracket : Option (List ℕ)) (ps qs : List (List ℕ)) → Clean bracket ps → Clean (behind_all bracket ps) qs → Clean bracket (ps ++ qs)
clean-append bracket [] qs h k = k
clean-append bracket (p ∷ ps) qs h k = (h.0, clean-append (bracket_behind bracket p) ps qs h.1 k)

hosts_in-append : (bracket : Option (List ℕ)) (ps qs : List (List ℕ)) → hosts_in bracket (ps ++ qs) ≡ hosts_in bracket ps ++ hosts_in (behind_all bracket ps) qs
hosts_in-append bracket [] qs = refl
hosts_in-append bracket (p ∷ ps) qs = ap (λ hs. piece_hosts bracket p ++ hs) (hosts_in-append (bracket_behind bracket p) ps qs) ∙ sym (append_assoc (piece_hosts bracket p) (hosts_in (bracket_behind bracket p) ps) (hosts_in (behind_all (bracket_behind bracket p) ps) qs))

behind_all-append : (bracket : Option (List ℕ)) (ps qs : List (List ℕ)) → behind_all bracket (ps ++ qs) ≡ behind_all (behind_all bracket ps) qs
behind_all-append bracket [] qs = refl
behind_all-append bracket (p ∷ ps) qs = behind_all-append (bracket_behind bracket p) ps qs

read_on : (bracket mid next : Option (List ℕ)) (ps qs hs gs : List (List ℕ)) → IsReading bracket ps hs mid → IsReading mid qs gs next → IsReading bracket (ps ++ qs) (hs ++ gs) next
read_on bracket mid next ps qs hs gs h k = record {
  clean = clean-append bracket ps qs h.clean (subst (λ b. Clean b qs) (sym h.ends) k.clean);
  hosts_are = hosts_in-append bracket ps qs ∙ ap₂ (λ x y. x ++ y) h.hosts_are (ap (λ b. hosts_in b qs) h.ends ∙ k.hosts_are);
  ends = behind_all-append bracket ps qs ∙ ap (λ b. behind_all b qs) h.ends ∙ k.ends;
}

pub clean_fault : (end place : ℕ) (bracket : Option (List ℕ)) (ps : List (List ℕ)) → Clean bracket ps → behind_all bracket ps ≡ None → fault_in end place bracket ps ≡ None
clean_fault end place bracket [] h none = ap (λ (b : Option (List ℕ)). cond (is_some b) (Some (BadText end)) None) none
clean_fault end place bracket (p ∷ ps) h none = ap (λ f. or_else f (fault_in end (place + length p + 1) (bracket_behind bracket p) ps)) (h.0 place) ∙ clean_fault end (place + length p + 1) (bracket_behind bracket p) ps h.1 none

-- a text is read through, piece by piece
abbrev pub comma_pieces : List ℕ → List (List ℕ)
comma_pieces text = slice_split (λ c. eqb c 44) text

abbrev pub Spells : Option (List ℕ) → List ℕ → List (List ℕ) → Option (List ℕ) → Type 0
Spells bracket text hosts next = IsReading bracket (comma_pieces text) hosts next

onto-append : (b : ℕ) (ps qs : List (List ℕ)) → 0 < length ps → onto_first b (ps ++ qs) ≡ onto_first b ps ++ qs
onto-append b [] qs h = absurd (omega arith)
onto-append b (p ∷ ps) qs h = refl

some_pieces : (text : List ℕ) → 0 < length (comma_pieces text)
some_pieces [] = omega arith
some_pieces (b ∷ bs) = elim (eqb b 44) as (λ t. 0 < length (cond t ([] ∷ comma_pieces bs) (onto_first b (comma_pieces bs)))) [ true ↦ omega arith | false ↦ some_onto b (comma_pieces bs) ] where
  some_onto : (b : ℕ) (ps : List (List ℕ)) → 0 < length (onto_first b ps)
  some_onto b [] = omega arith
  some_onto b (p ∷ ps) = omega arith

-- a text is cut at a comma
pieces-comma : (u v : List ℕ) → comma_pieces (u ++ 44 ∷ v) ≡ comma_pieces u ++ comma_pieces v
pieces-comma [] v = refl
pieces-comma (b ∷ bs) v =
    let more = pieces-comma bs v in
    elim (eqb b 44) as (λ t. cond t ([] ∷ comma_pieces (bs ++ 44 ∷ v)) (onto_first b (comma_pieces (bs ++ 44 ∷ v))) ≡ cond t ([] ∷ comma_pieces bs) (onto_first b (comma_pieces bs)) ++ comma_pieces v) [
      | true ↦ ap (λ ps. [] ∷ ps) more
      | false ↦ ap (onto_first b) more ∙ onto-append b (comma_pieces bs) (comma_pieces v) (some_pieces bs)
    ]

pub spells_on : (bracket mid next : Option (List ℕ)) (u v : List ℕ) (hs gs : List (List ℕ)) → Spells bracket u hs mid → Spells mid v gs next → Spells bracket (u ++ 44 ∷ v) (hs ++ gs) next
spells_on bracket mid next u v hs gs h k = subst (λ ps. IsReading bracket ps (hs ++ gs) next) (sym (pieces-comma u v)) (read_on bracket mid next (comma_pieces u) (comma_pieces v) hs gs h k)

-- a text without a comma is one piece
unfoldable pub is_other : ℕ → Bool
is_other b = not (eqb b 44)

one_piece : (text : List ℕ) → list_all is_other text ≡ true → comma_pieces text ≡ text ∷ []
unfolding is_other
one_piece [] h = refl
one_piece (b ∷ bs) h =
    let head : eqb b 44 ≡ false = grind (arith, nat_tests, and_left (not (eqb b 44)) (list_all is_other bs) h) in
    ap (λ t. cond t ([] ∷ comma_pieces bs) (onto_first b (comma_pieces bs))) head ∙ ap (onto_first b) (one_piece bs (and_right (not (eqb b 44)) (list_all is_other bs) h))

pub spells_piece : (bracket next : Option (List ℕ)) (text : List ℕ) (hosts : List (List ℕ)) → list_all is_other text ≡ true → ((place : ℕ) → piece_fault place bracket text ≡ None) → piece_hosts bracket text ≡ hosts → bracket_behind bracket text ≡ next
    → Spells bracket text hosts next
spells_piece bracket next text hosts other clean is ends =
    subst (λ ps. IsReading bracket ps hosts next) (sym (one_piece text other)) (record { clean = (clean, tt); hosts_are = append-nil (piece_hosts bracket text) ∙ is; ends = ends })

-- bytes of a name are no commas
name_other : (b : ℕ) → is_name_byte b ≡ true → is_other b ≡ true
unfolding is_other
name_other b h = elim (eqb b 44) as (λ t. eqb b 44 ≡ t → not t ≡ true) [
  | true ↦ λ q. let comma : b ≡ 44 = grind (arith, nat_tests) in let no_name_byte : is_name_byte 44 ≡ true = ap is_name_byte (sym comma) ∙ h in cc
  | false ↦ λ q. refl
] refl

pub names_other : (bs : List ℕ) → list_all is_name_byte bs ≡ true → list_all is_other bs ≡ true
names_other [] h = refl
names_other (b ∷ bs) h = and_true (is_other b) (list_all is_other bs) (name_other b (and_left (is_name_byte b) (list_all is_name_byte bs) h)) (names_other bs (and_right (is_name_byte b) (list_all is_name_byte bs) h))

pub digits_other : (ds : List ℕ) → all_ascii_digits ds ≡ true → list_all is_other ds ≡ true
digits_other ds h = names_other ds (digits_named ds h)

-- What is cut out of a UTF-8 text between ASCII bytes is UTF-8.
use Rattle.std.proofs.Common.{◌≡◌, ◌⊎◌, inl, inr, ℕ, ◌+◌, ◌-◌, ◌<◌, ◌≤◌, Bool, true, false, cond, eqb, not, List, [], ◌∷◌, ◌++◌, length, take, drop, refl, sym, ap, ap₂, ◌∙◌, subst, arith, lit<}
use Rattle.std.specs.Prelude.{slice_index}
use Rattle.std.specs.List.{AllByRecursion as Each, slice_split, join_with_byte, prefix_len, before_first, after_first}
use Rattle.std.specs.Str.{IsUtf8, IsCharBoundary}
use Rattle.std.specs.Str.Lines.{strip_carriage_return}
use Rattle.std.proofs.lemmas.Bool.{and_parts}
use Rattle.std.proofs.lemmas.Bool.Decides.{nat_tests}
use Rattle.std.proofs.lemmas.Str.{IsUtf8-nil, IsUtf8-take, IsUtf8-drop, encode_ascii, encode_same}
use Rattle.std.proofs.lemmas.List.Splits.{join_with_byte-slice_split}
use borrow.Author.Tests.{eqb-true}
use Rattle.workload_reader.specs.Lines.{TextLine, lines_in, lines_of}
use Rattle.workload.specs.Words.{is_space, after_spaces, first_word, behind_word}
use Rattle.workload.proofs.WordLemmas.{before_cons, after_cons}

-- an ASCII byte begins a character
boundary : (bs : List ℕ) (i : ℕ) → i ≤ length bs → slice_index bs i < 128 → IsCharBoundary bs i
boundary bs i within small = (within, λ l high. absurd (omega (arith, small, high)))

-- the text behind an ASCII byte
behind_byte : (b : ℕ) (bs : List ℕ) → b < 128 → IsUtf8 (b ∷ bs) → IsUtf8 bs
behind_byte b bs small ([], (scalars, e)) = let wrong : [] ≡ b ∷ bs = e in cc
behind_byte b bs small (c ∷ cs, (scalars, e)) =
    let same = encode_same c b _ bs (e ∙ sym (ap (λ x. x ++ bs) (encode_ascii b small))) in
    (cs, ((and_parts _ _ scalars).1, same.1))

at_end : (xs : List ℕ) (b : ℕ) (ys : List ℕ) → slice_index (xs ++ b ∷ ys) (length xs) ≡ b
at_end [] b ys = refl
at_end (x ∷ xs) b ys = at_end xs b ys

take_all_of : (xs ys : List ℕ) → take (length xs) (xs ++ ys) ≡ xs
take_all_of [] ys = refl
take_all_of (x ∷ xs) ys = ap (λ (t : List ℕ). x ∷ t) (take_all_of xs ys)

drop_all_of : (xs ys : List ℕ) → drop (length xs) (xs ++ ys) ≡ ys
drop_all_of [] ys = refl
drop_all_of (x ∷ xs) ys = drop_all_of xs ys

long_enough : (xs ys : List ℕ) → length xs ≤ length (xs ++ ys)
long_enough [] ys = omega arith
long_enough (x ∷ xs) ys = omega (arith, long_enough xs ys)

-- the texts before and behind an ASCII byte
around : (xs : List ℕ) (b : ℕ) (ys : List ℕ) → b < 128 → IsUtf8 (xs ++ b ∷ ys) → IsUtf8 xs × IsUtf8 ys
around xs b ys small h =
    let there = boundary (xs ++ b ∷ ys) (length xs) (long_enough xs (b ∷ ys)) (subst (λ x. x < 128) (sym (at_end xs b ys)) small) in (
      subst IsUtf8 (take_all_of xs (b ∷ ys)) (IsUtf8-take (xs ++ b ∷ ys) (length xs) h there),
      behind_byte b ys small (subst IsUtf8 (drop_all_of xs (b ∷ ys)) (IsUtf8-drop (xs ++ b ∷ ys) (length xs) h there)),
    )

-- ---- the lines of a text

joined_parts : (parts : List (List ℕ)) → IsUtf8 (join_with_byte 10 parts) → Each IsUtf8 parts
joined_parts [] h = tt
joined_parts (x ∷ []) h = (h, tt)
joined_parts (x ∷ y ∷ more) h =
    let both = around x 10 (join_with_byte 10 (y ∷ more)) (lit< tt) h in
    (both.0, joined_parts (y ∷ more) both.1)

pieces : (text : List ℕ) → IsUtf8 text → Each IsUtf8 (slice_split (λ b. eqb b 10) text)
pieces text h = joined_parts (slice_split (λ b. eqb b 10) text) (subst IsUtf8 (sym (join_with_byte-slice_split 10 text)) h)

without_return : (piece : List ℕ) → IsUtf8 piece → IsUtf8 (strip_carriage_return piece)
without_return piece h =
    elim (eqb (slice_index piece (length piece - 1)) 13) as (λ t. eqb (slice_index piece (length piece - 1)) 13 ≡ t
    → IsUtf8 (cond t (take (length piece - 1) piece) piece)) [
      | true ↦ λ e. IsUtf8-take piece (length piece - 1) h (boundary piece (length piece - 1) (omega arith) (grind (arith, nat_tests)))
      | false ↦ λ e. h
    ] refl

abbrev pub AreTexts : List TextLine → Type 0
AreTexts lines = Each (λ (line : TextLine). IsUtf8 line.text) lines

each_line : (parts : List (List ℕ)) → Each IsUtf8 parts → AreTexts (lines_in parts)
each_line [] h = tt
each_line (piece ∷ []) h = (h.0, tt)
each_line (piece ∷ next ∷ more) h = (without_return piece h.0, each_line (next ∷ more) h.1)

pub lines_utf8 : (text : List ℕ) → IsUtf8 text → AreTexts (lines_of text)
lines_utf8 text h = each_line (slice_split (λ b. eqb b 10) text) (pieces text h)

-- ---- the words of a line

from_word : (text : List ℕ) → IsUtf8 text → IsUtf8 (after_spaces text)
from_word [] h = h
from_word (b ∷ bs) h =
    elim (is_space b) as (λ t. is_space b ≡ t → IsUtf8 (cond t (after_spaces bs) (b ∷ bs))) [
      | true ↦ λ e. from_word bs (behind_byte b bs (grind (arith, nat_tests)) h)
      | false ↦ λ e. h
    ] refl

-- a text is what stands before and behind its first space, or has none
cut_there : (text : List ℕ) → (after_first is_space text ≡ []) ⊎ (text ≡ before_first is_space text ++ 32 ∷ after_first is_space text)
cut_there [] = inl refl
cut_there (b ∷ bs) = go (is_space b) refl (cut_there bs)
  where
    go : (t : Bool) → is_space b ≡ t → (after_first is_space bs ≡ []) ⊎ (bs ≡ before_first is_space bs ++ 32 ∷ after_first is_space bs)
        → (after_first is_space (b ∷ bs) ≡ []) ⊎ (b ∷ bs ≡ before_first is_space (b ∷ bs) ++ 32 ∷ after_first is_space (b ∷ bs))
    go true e h =
        let is : b ≡ 32 = eqb-true b 32 e in
        inr (ap (λ (x : ℕ). x ∷ bs) is ∙ sym (ap₂ (λ (xs ys : List ℕ). xs ++ 32 ∷ ys)
        (ap (λ s. take (cond (not s) (1 + prefix_len (λ x. not (is_space x)) bs) 0) (b ∷ bs)) e)
        (ap (λ s. drop (cond (not s) (1 + prefix_len (λ x. not (is_space x)) bs) 0 + 1) (b ∷ bs)) e)))
    go false e (inl none) = inl (after_cons b bs (ap not e) ∙ none)
    go false e (inr cut) =
        inr (ap (λ (xs : List ℕ). b ∷ xs) cut ∙ sym (ap₂ (λ (xs ys : List ℕ). xs ++ 32 ∷ ys) (before_cons b bs (ap not e)) (after_cons b bs (ap not e))))

pub behind_utf8 : (text : List ℕ) → IsUtf8 text → IsUtf8 (behind_word text)
behind_utf8 text h = elim (cut_there (after_spaces text)) [
  | inl none ↦ subst IsUtf8 (sym none) IsUtf8-nil
  | inr cut ↦ (around (first_word text) 32 (behind_word text) (lit< tt) (subst IsUtf8 cut (from_word text h))).1
]

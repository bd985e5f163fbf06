-- A text cut into pieces, from one piece to the next.
use Rattle.std.proofs.Common.{◌≡◌, ℕ, zero, suc, ◌+◌, ◌-◌, ◌<◌, Bool, true, false, ◌==◌, cond, List, [], ◌∷◌, ◌++◌, length, get_or, take, drop, Option, Some, None, refl, ap, ◌∙◌, arith, add-one, drop-cons}
use Rattle.std.specs.List.{prefix_len}
use Rattle.std.specs.Prelude.{Result, Err}
use Rattle.fl_json.specs.Numbers.{begins_number, continues_number, string_len, piece_len, pieces_behind, pieces, kept, first_lost, all_kept}
use Rattle.fl_json.specs.Reading.{unless_bad}
use Rattle.fl_json.specs.declared.faults.JsonFault.{JsonFault}
use Rattle.fl_json.specs.declared.faults.JsonFault.TheVariants.{BadNumber}

-- one byte of a string
abbrev pub string_step : Bool → ℕ → List ℕ → ℕ
string_step true b bs = suc (string_len false bs)
string_step false b bs = cond (b == 34) 1 (suc (string_len (b == 92) bs))

pub string_len-drop : (escaped : Bool) (t : List ℕ) (i : ℕ) → i < length t → string_len escaped (drop i t) ≡ string_step escaped (get_or t i 0) (drop (i + 1) t)
string_len-drop escaped t i h = rw (drop-cons t i 0, add-one) (step escaped (get_or t i 0) (drop (suc i) t))
  where
    step : (e : Bool) (b : ℕ) (bs : List ℕ) → string_len e (b ∷ bs) ≡ string_step e b bs
    step true b bs = refl
    step false b bs = refl

pieces_behind-drop : (k : ℕ) (t : List ℕ) → pieces_behind k t ≡ pieces_behind 0 (drop k t)
unfolding pieces_behind
pieces_behind-drop zero t = refl
pieces_behind-drop (suc k) [] = refl
pieces_behind-drop (suc k) (b ∷ bs) = pieces_behind-drop k bs

drop_pred : (n : ℕ) (b : ℕ) (bs : List ℕ) → 0 < n → drop (n - 1) bs ≡ drop n (b ∷ bs)
drop_pred zero b bs h = absurd (omega arith)
drop_pred (suc n) b bs h = let e : suc n - 1 ≡ n = omega arith in ap (λ k. drop k bs) e

some_of : (q n : Bool) (x y : ℕ) → 0 < cond q (suc x) (cond n (suc y) 1)
some_of true n x y = omega arith
some_of false true x y = omega arith
some_of false false x y = omega arith

pub piece_len-some : (t : List ℕ) → 0 < length t → 0 < piece_len t
piece_len-some [] h = h
piece_len-some (b ∷ bs) h = some_of (b == 34) (begins_number b) (string_len false bs) (prefix_len continues_number bs)

-- what is left is cut into the next piece and what stands behind it
pub pieces-next : (t : List ℕ) → 0 < length t → pieces t ≡ take (piece_len t) t ∷ pieces (drop (piece_len t) t)
unfolding pieces_behind
pieces-next [] h = absurd (omega arith)
pieces-next (b ∷ bs) h = ap (λ ps. take (piece_len (b ∷ bs)) (b ∷ bs) ∷ ps)
    (pieces_behind-drop (piece_len (b ∷ bs) - 1) bs ∙ ap (pieces_behind 0) (drop_pred (piece_len (b ∷ bs)) b bs (piece_len-some (b ∷ bs) (omega arith))))

pub pieces-nil : pieces [] ≡ []
unfolding pieces_behind
pieces-nil = refl

pub lost_here : (place : ℕ) (piece : List ℕ) (more : List (List ℕ)) → kept piece ≡ None → first_lost place (piece ∷ more) ≡ Some place
unfolding first_lost
lost_here place piece more h = rw h refl

pub lost_later : (place : ℕ) (piece part : List ℕ) (more : List (List ℕ)) → kept piece ≡ Some part → first_lost place (piece ∷ more) ≡ first_lost (place + length piece) more
unfolding first_lost
lost_later place piece part more h = rw h refl

pub kept_first : (piece part : List ℕ) (more : List (List ℕ)) → kept piece ≡ Some part → all_kept (piece ∷ more) ≡ part ++ all_kept more
unfolding all_kept
kept_first piece part more h = rw h refl

pub lost-nil : (place : ℕ) → first_lost place [] ≡ None
unfolding first_lost
lost-nil place = refl

pub kept-nil : all_kept [] ≡ []
unfolding all_kept
kept-nil = refl

pub bad_at : {T : Type 0} (o : Option ℕ) (place : ℕ) (r : Result T JsonFault) → o ≡ Some place → unless_bad o r ≡ Err (BadNumber place)
bad_at o place r h = rw h refl

pub not_bad : {T : Type 0} (o : Option ℕ) (r : Result T JsonFault) → o ≡ None → unless_bad o r ≡ r
not_bad o r h = rw h refl

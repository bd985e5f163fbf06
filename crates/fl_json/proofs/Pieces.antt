-- The pieces of a text make it up, and each is a string, a number token or another byte.
use Rattle.std.proofs.Common.{◌≡◌, ℕ, zero, suc, ◌+◌, ◌<◌, ◌≤◌, Bool, true, false, ◌&&◌, ◌==◌, cond, List, [], ◌∷◌, ◌++◌, length, take, drop, refl, sym, ap, ◌∙◌, subst, arith, length-drop}
use Rattle.std.specs.Prelude.{flat_map}
use Rattle.std.specs.List.{list_all, prefix_len, AllByRecursion as Each}
use Rattle.std.proofs.lemmas.Bool.{eq-eqb}
use Rattle.std.proofs.lemmas.List.{take-append-drop}
use Rattle.json.specs.Ascii.{quote, backslash}
use Rattle.fl_json.specs.Numbers.{begins_number, continues_number, piece_len, pieces, string_len}
use Rattle.fl_json.specs.Pieces.{is_piece}
use Rattle.fl_json.proofs.Cuts.{piece_len-some, pieces-next, pieces-nil}

-- ---- what is taken of a text

one_more : (b : ℕ) (bs : List ℕ) → suc (length bs) ≡ length (b ∷ bs)
one_more b bs = omega arith

taken_string : (escaped : Bool) (t : List ℕ) → string_len escaped (take (string_len escaped t) t) ≡ length (take (string_len escaped t) t)
taken_string escaped [] = refl
taken_string true (b ∷ bs) = ap suc (taken_string false bs) ∙ one_more b (take (string_len false bs) bs)
taken_string false (b ∷ bs) = at (b == quote) refl (taken_string (b == backslash) bs)
  where
    at : (q : Bool) → (b == quote) ≡ q → string_len (b == backslash) (take (string_len (b == backslash) bs) bs) ≡ length (take (string_len (b == backslash) bs) bs)
        → string_len false (take (cond q 1 (suc (string_len (b == backslash) bs))) (b ∷ bs)) ≡ length (take (cond q 1 (suc (string_len (b == backslash) bs))) (b ∷ bs))
    at true e more = ap (λ q. cond q 1 (suc (string_len (b == backslash) []))) e
    at false e more =
        ap (λ q. cond q 1 (suc (string_len (b == backslash) (take (string_len (b == backslash) bs) bs)))) e
        ∙ ap suc more ∙ one_more b (take (string_len (b == backslash) bs) bs)

taken_number : (bs : List ℕ) → list_all continues_number (take (prefix_len continues_number bs) bs) ≡ true
taken_number [] = refl
taken_number (x ∷ xs) = at (continues_number x) refl (taken_number xs)
  where
    longer : 1 + prefix_len continues_number xs ≡ suc (prefix_len continues_number xs)
    longer = omega arith

    at : (b : Bool) → continues_number x ≡ b → list_all continues_number (take (prefix_len continues_number xs) xs) ≡ true → list_all continues_number (take (cond b (1 + prefix_len continues_number xs) 0) (x ∷ xs)) ≡ true
    at true e more =
        ap (λ k. list_all continues_number (take k (x ∷ xs))) longer
        ∙ ap (λ c. c && list_all continues_number (take (prefix_len continues_number xs) xs)) e ∙ more
    at false e more = refl

-- ---- pieces

piece_is : (t : List ℕ) → 0 < length t → is_piece (take (piece_len t) t) ≡ true
piece_is [] h = absurd (omega (arith, h))
piece_is (b ∷ bs) h = at (b == quote) refl (begins_number b) refl
  where
    at : (q : Bool) → (b == quote) ≡ q → (c : Bool) → begins_number b ≡ c → is_piece (take (cond q (suc (string_len false bs)) (cond c (suc (prefix_len continues_number bs)) 1)) (b ∷ bs)) ≡ true
    at true e c f =
        let more = take (string_len false bs) bs in
        ap (λ q. cond q (string_len false more == length more) (cond (begins_number b) (list_all continues_number more) (length more == 0))) e
        ∙ eq-eqb (string_len false more) (length more) (taken_string false bs)
    at false e true f =
        let more = take (prefix_len continues_number bs) bs in
        ap (λ q. cond q (string_len false more == length more) (cond (begins_number b) (list_all continues_number more) (length more == 0))) e
        ∙ ap (λ c. cond c (list_all continues_number more) (length more == 0)) f
        ∙ taken_number bs
    at false e false f =
        ap (λ q. cond q true (cond (begins_number b) true true)) e ∙ ap (λ c. cond c true true) f

-- ---- all of them

whole_up : (n : ℕ) (t : List ℕ) → length t ≤ n → flat_map (λ piece. piece) (pieces t) ≡ t
whole_up n [] h = ap (flat_map (λ piece. piece)) pieces-nil
whole_up zero (b ∷ bs) h = absurd (omega arith)
whole_up (suc n) (b ∷ bs) h =
    let t = b ∷ bs in
    let m = piece_len t in
    let some : 0 < m = piece_len-some t (omega arith) in
    let fits : length (drop m t) ≤ n = omega (arith, length-drop m t) in
    ap (flat_map (λ piece. piece)) (pieces-next t (omega arith))
    ∙ ap (λ rest. take m t ++ rest) (whole_up n (drop m t) fits)
    ∙ take-append-drop m t

pub pieces_whole : (text : List ℕ) → flat_map (λ piece. piece) (pieces text) ≡ text
pieces_whole text = whole_up (length text) text (omega arith)

each_up : (n : ℕ) (t : List ℕ) → length t ≤ n → Each (λ piece. is_piece piece ≡ true) (pieces t)
each_up n [] h = subst (Each (λ piece. is_piece piece ≡ true)) (sym pieces-nil) tt
each_up zero (b ∷ bs) h = absurd (omega arith)
each_up (suc n) (b ∷ bs) h =
    let t = b ∷ bs in
    let m = piece_len t in
    let some : 0 < m = piece_len-some t (omega arith) in
    let fits : length (drop m t) ≤ n = omega (arith, length-drop m t) in
    subst (Each (λ piece. is_piece piece ≡ true)) (sym (pieces-next t (omega arith))) (piece_is t (omega arith), each_up n (drop m t) fits)

pub pieces_each : (text : List ℕ) → Each (λ piece. is_piece piece ≡ true) (pieces text)
pieces_each text = each_up (length text) text (omega arith)

-- How often a word occurs among words, one more at a time.
use Rattle.std.proofs.Common.{◌≡◌, ◌∙◌, ◌==◌, ℕ, zero, suc, ◌+◌, ◌≤◌, Bool, true, false, cond, not, List, [], ◌∷◌, ◌++◌, length, map, Some, unwrap_or, ap, ap₂, refl, sym, arith, add-one, add-zero, append-nil, count_by, take, get_or, ◌<◌, Bor}
use Rattle.std.specs.Prelude.{filter}
use Rattle.std.specs.BTreeMap.{BTreeMap, get, is_at}
use Rattle.std.specs.Cmp.Lexicographic.{slice_cmp, bytes_decides}
use Rattle.std.specs.Map.{lookup}
use Rattle.std.specs.Ordering.{nat_cmp}
use Rattle.std.specs.Str.{bytes_eq}
use Rattle.std.proofs.lemmas.List.Elements.{filter-append}
use Rattle.std.proofs.lemmas.List.Sums.{count_by-le-length, sum_by_push}
use Rattle.std.proofs.lemmas.List.{length-map, length-take, map-append, take_more}
use Rattle.std.proofs.lemmas.Map.Text.{is_eq-slice_cmp}
use Rattle.std.specs.Cmp.Lexicographic.{nat_list_eq_equiv}
use Rattle.summaries.specs.Counts.{counted, times, CountsOneMore}

-- a word more that is counted
pub times_more : (q w : List ℕ) (ws : List (List ℕ)) → not (length w == 0) ≡ true → times q (ws ++ w ∷ []) ≡ times q ws + cond (bytes_eq q w) 1 0
times_more q w ws is =
    ap (count_by (bytes_eq q)) (filter-append (λ x. not (length x == 0)) ws (w ∷ []) ∙ ap (λ b. filter (λ x. not (length x == 0)) ws ++ cond b (w ∷ []) []) is)
    ∙ sum_by_push (λ x. cond (bytes_eq q x) 1 0) (filter (λ x. not (length x == 0)) ws) w

-- an empty word more
pub times_same : (q w : List ℕ) (ws : List (List ℕ)) → not (length w == 0) ≡ false → times q (ws ++ w ∷ []) ≡ times q ws
times_same q w ws is =
    ap (count_by (bytes_eq q)) (filter-append (λ x. not (length x == 0)) ws (w ∷ []) ∙ ap (λ b. filter (λ x. not (length x == 0)) ws ++ cond b (w ∷ []) []) is ∙ append-nil (filter (λ x. not (length x == 0)) ws))

-- no word occurs more often than there are words
length_filter : (p : List ℕ → Bool) (ws : List (List ℕ)) → length (filter p ws) ≤ length ws
length_filter p [] = omega arith
length_filter p (w ∷ ws) = by (p w) (length_filter p ws)
  where
    by : (b : Bool) → length (filter p ws) ≤ length ws → length (cond b (w ∷ filter p ws) (filter p ws)) ≤ length (w ∷ ws)
    by true h = omega arith
    by false h = omega arith

pub times_within : (q : List ℕ) (ws : List (List ℕ)) → times q ws ≤ length ws
times_within q ws = omega (arith, count_by-le-length (bytes_eq q) (filter (λ x. not (length x == 0)) ws), length_filter (λ x. not (length x == 0)) ws)

pub times_before : (q : List ℕ) (words : List (Bor (List ℕ))) (i : ℕ) → times q (map (λ w. w.now) (take i words)) ≤ i
times_before q words i =
    omega (arith, times_within q (map (λ w. w.now) (take i words)), length-map (take i words) (λ w. w.now), length-take i words)

-- the words before the next place
pub word_more : (words : List (Bor (List ℕ))) (i : ℕ) (d : Bor (List ℕ)) → i < length words → map (λ w. w.now) (take (i + 1) words) ≡ map (λ w. w.now) (take i words) ++ (get_or words i d).now ∷ []
word_more words i d h = ap (map (λ w. w.now)) (take_more words i d h) ∙ map-append (λ w. w.now) (take i words) (get_or words i d ∷ [])

-- a count that is there or not, as a number
pub counted_number : (n : ℕ) → unwrap_or (counted n) 0 ≡ n
counted_number zero = refl
counted_number (suc n) = refl

one_more : (n : ℕ) → Some (unwrap_or (counted n) 0 + 1) ≡ counted (n + 1)
one_more n = ap (λ k. Some (k + 1)) (counted_number n) ∙ above n
  where
    above : (n : ℕ) → Some (n + 1) ≡ counted (n + 1)
    above n = rw (add-one n) refl

-- a word is counted once more
pub counts_more : (old new : BTreeMap (List ℕ) ℕ) (w : List ℕ) (ws : List (List ℕ)) → not (length w == 0) ≡ true → CountsOneMore old new w → ((q : List ℕ) → get (slice_cmp nat_cmp) old q ≡ counted (times q ws)) → (q : List ℕ) → get (slice_cmp nat_cmp) new q ≡ counted (times q (ws ++ w ∷ []))
counts_more old new w ws is more was q =
    more.0 q
    ∙ ap (λ b. cond b (Some (unwrap_or (get (slice_cmp nat_cmp) old w) 0 + 1)) (get (slice_cmp nat_cmp) old q)) (is_eq-slice_cmp w q)
    ∙ by (bytes_eq w q) refl
    ∙ ap counted (sym (times_more q w ws is))
  where
    by : (b : Bool) → bytes_eq w q ≡ b → cond b (Some (unwrap_or (get (slice_cmp nat_cmp) old w) 0 + 1)) (get (slice_cmp nat_cmp) old q) ≡ counted (times q ws + cond (bytes_eq q w) 1 0)
    by true e =
        let same : w ≡ q = (bytes_decides w q).0 e in
        ap (λ o. Some (unwrap_or o 0 + 1)) (was w ∙ ap (λ v. counted (times v ws)) same)
        ∙ one_more (times q ws)
        ∙ ap (λ b. counted (times q ws + cond b 1 0)) (sym (nat_list_eq_equiv.symm q w ∙ e))
    by false e =
        was q
        ∙ ap counted (sym (add-zero (times q ws)))
        ∙ ap (λ b. counted (times q ws + cond b 1 0)) (sym (nat_list_eq_equiv.symm q w ∙ e))

-- a look-up by order is one by bytes
pub lookup_by_bytes : {X : Type 0} (q : List ℕ) (es : List (List ℕ × X)) → lookup (bytes_eq q) es ≡ lookup (is_at (slice_cmp nat_cmp q)) es
lookup_by_bytes q [] = refl
lookup_by_bytes q (e ∷ es) = ap₂ (λ b o. cond b (Some e.1) o) (sym (is_eq-slice_cmp q e.0)) (lookup_by_bytes q es)

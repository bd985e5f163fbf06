-- A text from which nothing of a number was lost has whole numbers alone.
use Rattle.fl_json.proofs.Lexing.{WholeLexemes, punctuated, apart_parts, begins_continues, no_letter, ended, one_cut, word_passed, number_first, clean, Known, clean_passed, clean_ended}
use Rattle.std.proofs.Common.{◌≡◌, ℕ, zero, suc, ◌+◌, ◌-◌, ◌<◌, ◌≤◌, Bool, true, false, ◌&&◌, ◌||◌, ◌==◌, cond, List, [], ◌∷◌, ◌++◌, length, take, drop, Option, Some, None, is_some, inl, inr, ◌⊎◌, refl, sym, ap, ap₂, ◌∙◌, subst, arith, length-append, length-drop, ne_eqb}
use Rattle.std.specs.Prelude.{not, nat_eq}
use Rattle.std.specs.List.{list_all, prefix_len, starts_with}
use Rattle.std.proofs.lemmas.Bool.{true≢false, false≢true, eqb-true, and_parts, cases_Bool}
use Rattle.std.proofs.lemmas.List.{take-append-drop}
use Rattle.std.proofs.lemmas.Slice.Eq.{bytes_eq-Decides}
use Rattle.json.specs.Token.{Token}
use Rattle.json.specs.Text.{content, plain}
use Rattle.json.specs.Word.{is_operator, is_space, head, ends_word, after_number, number_before, literal, word}
use Rattle.json.specs.Lex.{Lexeme, Class, quote, backslash, operator, space, other, class, operator_lexeme, string_token, Mode, between, in_word, in_string, in_escape, lex, lex_byte, fresh, tokens}
use Rattle.json.proofs.Printed.Numbers.{in_word-ended, number_alone}
use Rattle.fl_json.specs.Numbers.{begins_number, continues_number, string_len, piece_len, pieces, is_number, is_whole, whole_part, fraction, is_no_fraction, point_at, kept_number, kept, first_lost, all_kept}
use Rattle.fl_json.proofs.Bytes.{AreOfNumber, Behind, behind_number, token_run, number_rest, is_number-from_rest}
use Rattle.fl_json.proofs.Cuts.{piece_len-some, pieces-next, pieces-nil, kept_first, kept-nil, lost_here, lost_later}
use Rattle.fl_json.proofs.Values.{WholeToken, WholeTokens}

-- ---- a string

abbrev in_mode : Bool → Mode
in_mode true = in_escape
in_mode false = in_string

abbrev lexed_at : Mode → Class → ℕ → List ℕ → List Lexeme
lexed_at m c x xs = lex_byte m c x xs (λ next. lex next xs)

-- the lexer passes over a string to what follows it
string_passed : (escaped : Bool) (bs t : List ℕ) → (drop (string_len escaped bs) bs ≡ [] → t ≡ []) → lex (in_mode escaped) (take (string_len escaped bs) bs ++ t) ≡ lex between t
unfolding lex
string_passed true [] t h = let e : t ≡ [] = h refl in ap (lex in_escape) e ∙ sym (ap (lex between) e)
string_passed false [] t h = let e : t ≡ [] = h refl in ap (lex in_string) e ∙ sym (ap (lex between) e)
string_passed true (b ∷ bs) t h = string_passed false bs t h
string_passed false (b ∷ bs) t h = go (b == 34) (b == 92) (is_operator b) (is_space b) refl refl refl refl (λ k. string_passed (b == 92) bs t k)
  where
    step : (q s o p : Bool) (xs : List ℕ) → (b == 34) ≡ q → (b == 92) ≡ s → is_operator b ≡ o → is_space b ≡ p → lex in_string (b ∷ xs) ≡ lexed_at in_string (cond q quote (cond s backslash (cond o operator (cond p space other)))) b xs
    step q s o p xs i j k l = ap (λ c. lexed_at in_string c b xs) (ap (λ z. cond z quote (cond (b == 92) backslash (cond (is_operator b) operator (cond (is_space b) space other)))) i
        ∙ ap (λ z. cond q quote (cond z backslash (cond (is_operator b) operator (cond (is_space b) space other)))) j
        ∙ ap (λ z. cond q quote (cond s backslash (cond z operator (cond (is_space b) space other)))) k
        ∙ ap (λ z. cond q quote (cond s backslash (cond o operator (cond z space other)))) l)

    go : (q s o p : Bool) → (b == 34) ≡ q → (b == 92) ≡ s → is_operator b ≡ o → is_space b ≡ p
        → ((drop (string_len (b == 92) bs) bs ≡ [] → t ≡ []) → lex (in_mode (b == 92)) (take (string_len (b == 92) bs) bs ++ t) ≡ lex between t)
        → lex in_string (take (cond (b == 34) 1 (suc (string_len (b == 92) bs))) (b ∷ bs) ++ t) ≡ lex between t
    go true s o p i j k l ih = ap (λ z. lex in_string (take (cond z 1 (suc (string_len (b == 92) bs))) (b ∷ bs) ++ t)) i ∙ step true s o p t i j k l
    go false true o p i j k l ih =
        let n = string_len (b == 92) bs in
        ap (λ z. lex in_string (take (cond z 1 (suc n)) (b ∷ bs) ++ t)) i ∙ step false true o p (take n bs ++ t) i j k l
        ∙ sym (ap (λ z. lex (in_mode z) (take n bs ++ t)) j) ∙ ih (λ e. h (ap (λ z. drop (cond z 1 (suc n)) (b ∷ bs)) i ∙ e))
    go false false true p i j k l ih =
        let n = string_len (b == 92) bs in
        ap (λ z. lex in_string (take (cond z 1 (suc n)) (b ∷ bs) ++ t)) i ∙ step false false true p (take n bs ++ t) i j k l
        ∙ sym (ap (λ z. lex (in_mode z) (take n bs ++ t)) j) ∙ ih (λ e. h (ap (λ z. drop (cond z 1 (suc n)) (b ∷ bs)) i ∙ e))
    go false false false true i j k l ih =
        let n = string_len (b == 92) bs in
        ap (λ z. lex in_string (take (cond z 1 (suc n)) (b ∷ bs) ++ t)) i ∙ step false false false true (take n bs ++ t) i j k l
        ∙ sym (ap (λ z. lex (in_mode z) (take n bs ++ t)) j) ∙ ih (λ e. h (ap (λ z. drop (cond z 1 (suc n)) (b ∷ bs)) i ∙ e))
    go false false false false i j k l ih =
        let n = string_len (b == 92) bs in
        ap (λ z. lex in_string (take (cond z 1 (suc n)) (b ∷ bs) ++ t)) i ∙ step false false false false (take n bs ++ t) i j k l
        ∙ sym (ap (λ z. lex (in_mode z) (take n bs ++ t)) j) ∙ ih (λ e. h (ap (λ z. drop (cond z 1 (suc n)) (b ∷ bs)) i ∙ e))

string_or_bad : (o : Option (List ℕ)) (more : Type 0) → more → WholeToken (string_token o) more
string_or_bad None more h = tt
string_or_bad (Some s) more h = h

clean_quote : (t : List ℕ) → clean (34 ∷ t) ≡ true → ⊥
clean_quote t h = false≢true h

string_known : (bs t : List ℕ) → (drop (string_len false bs) bs ≡ [] → t ≡ []) → Known t → Known (34 ∷ (take (string_len false bs) bs ++ t))
unfolding lex
string_known bs t h k = record {
  outside = string_or_bad (content plain (take (string_len false bs) bs ++ t)) _ (subst WholeLexemes (sym (string_passed false bs t h)) k.outside);
  inside = λ e. absurd (clean_quote (take (string_len false bs) bs ++ t) e);
}

-- ---- a number

-- a number that is read of a text is what is known to stand in front
number_or_bad : (w t : List ℕ) (o : Option (List ℕ)) (more : Type 0) → ((rest : List ℕ) → o ≡ Some rest → ends_word rest ≡ true → (is_whole (take (length w - length rest) w) ≡ true) × more) → WholeToken (number_before w o) more
number_or_bad w t None more f = tt
number_or_bad w t (Some rest) more f = go (ends_word rest) refl
  where
    go : (b : Bool) → ends_word rest ≡ b → WholeToken (cond b (Token.number (take (length w - length rest) w)) Token.bad) more
    go true e = f rest refl e
    go false e = tt

no_cond : (b : Bool) (x y : Token) (more : Type 0) → b ≡ false → WholeToken y more → WholeToken (cond b x y) more
no_cond true x y more e h = absurd (true≢false e)
no_cond false x y more e h = h

-- the front of two texts
front_taken : (a t : List ℕ) → take (length (a ++ t) - length t) (a ++ t) ≡ a
front_taken a t = let n : length (a ++ t) - length t ≡ length a = omega (arith, length-append a t) in ap (λ k. take k (a ++ t)) n ∙ taken a t
  where
    taken : (a t : List ℕ) → take (length a) (a ++ t) ≡ a
    taken [] t = refl
    taken (x ∷ a) t = ap (λ l. x ∷ l) (taken a t)

number_known : (c : ℕ) (cs t : List ℕ) → AreOfNumber (c ∷ cs) → begins_number c ≡ true → (is_number (c ∷ cs) ≡ true → is_whole (c ∷ cs) ≡ true) → continues_number (head t) ≡ false → Known t → Known (c ∷ (cs ++ t))
unfolding lex word
number_known c cs t passes begins whole stops k =
    let w = c ∷ (cs ++ t) in
    let more = WholeLexemes (lex in_word (cs ++ t)) in
    let letters = no_letter c begins in
    let skipped : lex in_word (cs ++ t) ≡ lex in_word t = word_passed cs t (and_parts (continues_number c) _ passes).1 in
    let is_c = (apart_parts c (begins_continues c begins)).is_other in
    record {
      outside = subst (λ k. WholeLexemes (lexed_at between k c (cs ++ t))) (sym is_c)
          (no_cond (c == 116) _ _ more (ne_eqb c 116 letters.0) (no_cond (c == 102) _ _ more (ne_eqb c 102 letters.1) (no_cond (c == 110) _ _ more (ne_eqb c 110 letters.2)
          (number_or_bad w t (after_number w) more (λ rest e ends. found rest e ends (behind_number w) skipped)))));
      inside = λ e. subst WholeLexemes (sym (word_passed (c ∷ cs) t passes)) (k.inside (sym (clean_passed (c ∷ cs) t passes) ∙ e));
    }
  where
    found : (rest : List ℕ) → after_number (c ∷ (cs ++ t)) ≡ Some rest → ends_word rest ≡ true → Behind (c ∷ (cs ++ t)) (after_number (c ∷ (cs ++ t))) → lex in_word (cs ++ t) ≡ lex in_word t
        → (is_whole (take (length (c ∷ (cs ++ t)) - length rest) (c ∷ (cs ++ t))) ≡ true) × WholeLexemes (lex in_word (cs ++ t))
    found rest e ends behind skipped =
        let b : Behind (c ∷ (cs ++ t)) (Some rest) = subst (Behind (c ∷ (cs ++ t))) e behind in
        let cut = one_cut (c ∷ cs) b.0 t rest b.1 passes b.2 stops (ended rest ends) in
        let end : ends_word t ≡ true = ap ends_word cut.1 ∙ ends in
        let number : after_number ((c ∷ cs) ++ t) ≡ Some t = e ∙ sym (ap Some cut.1) in
        let is : is_whole (c ∷ cs) ≡ true = whole (is_number-from_rest (c ∷ cs) (number_alone (c ∷ cs) t end number)) in
        let same : take (length (c ∷ (cs ++ t)) - length rest) (c ∷ (cs ++ t)) ≡ c ∷ cs = ap (λ r. take (length (c ∷ (cs ++ t)) - length r) (c ∷ (cs ++ t))) (sym cut.1) ∙ front_taken (c ∷ cs) t in
        (ap is_whole same ∙ is, subst WholeLexemes (sym (skipped ∙ in_word-ended t end)) k.outside)

-- ---- another byte

either_lexeme : (b : Bool) (x y : Lexeme) (ls : List Lexeme) → WholeLexemes (x ∷ ls) → WholeLexemes (y ∷ ls) → WholeLexemes (cond b x y ∷ ls)
either_lexeme true x y ls h k = h
either_lexeme false x y ls h k = k

operator_whole : (b : ℕ) (ls : List Lexeme) → WholeLexemes ls → WholeLexemes (operator_lexeme b ∷ ls)
operator_whole b ls h =
    either_lexeme (b == 123) _ _ ls h (either_lexeme (b == 125) _ _ ls h (either_lexeme (b == 91) _ _ ls h (either_lexeme (b == 93) _ _ ls h (either_lexeme (b == 44) _ _ ls h h))))

cond_whole : (b : Bool) (x y : Token) (more : Type 0) → (b ≡ true → WholeToken x more) → WholeToken y more → WholeToken (cond b x y) more
cond_whole true x y more f h = f refl
cond_whole false x y more f h = h

-- behind the first byte of a literal that is read the rest is clean
literal_known : (name : List ℕ) (k : Token) (b : ℕ) (t : List ℕ) (more : Type 0) → (more → WholeToken k more) → ((rest : List ℕ) → clean (drop 1 (name ++ rest)) ≡ clean rest) → (clean t ≡ true → more) → WholeToken (literal name k (b ∷ t)) more
literal_known name k b t more good passes f = cond_whole (starts_with nat_eq (b ∷ t) name && ends_word (drop (length name) (b ∷ t))) k Token.bad more (λ e. good (f (cleaned e))) tt
  where
    cleaned : (starts_with nat_eq (b ∷ t) name && ends_word (drop (length name) (b ∷ t))) ≡ true → clean t ≡ true
    cleaned e =
        let both = and_parts _ _ e in
        let front : name ≡ take (length name) (b ∷ t) = (bytes_eq-Decides name (take (length name) (b ∷ t))).0 both.0 in
        let w : b ∷ t ≡ name ++ drop (length name) (b ∷ t) = sym (take-append-drop (length name) (b ∷ t)) ∙ ap (λ l. l ++ drop (length name) (b ∷ t)) (sym front) in
        ap (λ l. clean (drop 1 l)) w ∙ passes (drop (length name) (b ∷ t)) ∙ clean_ended (drop (length name) (b ∷ t)) both.1

no_number : (b : ℕ) (t : List ℕ) (o : Option (List ℕ)) (more : Type 0) → begins_number b ≡ false → (is_some o ≡ true → begins_number b ≡ true) → WholeToken (number_before (b ∷ t) o) more
no_number b t None more e f = tt
no_number b t (Some rest) more e f = absurd (true≢false (sym (f refl) ∙ e))

-- a word that begins with no byte of a number
other_word : (b : ℕ) (t : List ℕ) (more : Type 0) → begins_number b ≡ false → (clean t ≡ true → more) → WholeToken (word (b ∷ t)) more
unfolding word
other_word b t more e f =
    cond_whole (b == 116) _ _ more (λ _. literal_known (116 ∷ 114 ∷ 117 ∷ 101 ∷ []) (Token.boolean true) b t more (λ m. m) (λ r. refl) f)
    (cond_whole (b == 102) _ _ more (λ _. literal_known (102 ∷ 97 ∷ 108 ∷ 115 ∷ 101 ∷ []) (Token.boolean false) b t more (λ m. m) (λ r. refl) f)
    (cond_whole (b == 110) _ _ more (λ _. literal_known (110 ∷ 117 ∷ 108 ∷ 108 ∷ []) Token.null b t more (λ m. m) (λ r. refl) f)
    (no_number b t (after_number (b ∷ t)) more e (number_first (b ∷ t)))))

class_as : (b : ℕ) (q s o p : Bool) → (b == 34) ≡ q → (b == 92) ≡ s → is_operator b ≡ o → is_space b ≡ p → class b ≡ cond q quote (cond s backslash (cond o operator (cond p space other)))
class_as b q s o p i j k l = ap (λ z. cond z quote (cond (b == 92) backslash (cond (is_operator b) operator (cond (is_space b) space other)))) i
    ∙ ap (λ z. cond q quote (cond z backslash (cond (is_operator b) operator (cond (is_space b) space other)))) j
    ∙ ap (λ z. cond q quote (cond s backslash (cond z operator (cond (is_space b) space other)))) k
    ∙ ap (λ z. cond q quote (cond s backslash (cond o operator (cond z space other)))) l

clean_as : (b : ℕ) (t : List ℕ) (q s o p : Bool) → (b == 34) ≡ q → (b == 92) ≡ s → is_operator b ≡ o → is_space b ≡ p → clean (b ∷ t) ≡ (o || p || (not (q || s) && clean t))
clean_as b t q s o p i j k l = ap (λ z. z || is_space b || (not (b == 34 || b == 92) && clean t)) k
    ∙ ap (λ z. o || z || (not (b == 34 || b == 92) && clean t)) l
    ∙ ap (λ z. o || p || (not (z || b == 92) && clean t)) i
    ∙ ap (λ z. o || p || (not (q || z) && clean t)) j

other_known : (b : ℕ) (t : List ℕ) → (b == 34) ≡ false → begins_number b ≡ false → Known t → Known (b ∷ t)
unfolding lex
other_known b t no_quote no_digit k = go (b == 92) (is_operator b) (is_space b) refl refl refl
  where
    go : (s o p : Bool) → (b == 92) ≡ s → is_operator b ≡ o → is_space b ≡ p → Known (b ∷ t)
    go true o p i j l = let c = class_as b false true o p no_quote i j l in record {
      outside = subst (λ x. WholeLexemes (lexed_at between x b t)) (sym c) tt;
      inside = λ e. let wrong : false ≡ true = subst (λ x. clean (x ∷ t) ≡ true) (eqb-true b 92 i) e in absurd (false≢true wrong);
    }
    go false true p i j l = let c = class_as b false false true p no_quote i j l in record {
      outside = subst (λ x. WholeLexemes (lexed_at between x b t)) (sym c) (operator_whole b _ k.outside);
      inside = λ e. subst (λ x. WholeLexemes (lexed_at in_word x b t)) (sym c) (operator_whole b _ k.outside);
    }
    go false false true i j l = let c = class_as b false false false true no_quote i j l in record {
      outside = subst (λ x. WholeLexemes (lexed_at between x b t)) (sym c) k.outside;
      inside = λ e. subst (λ x. WholeLexemes (lexed_at in_word x b t)) (sym c) k.outside;
    }
    go false false false i j l = let c = class_as b false false false false no_quote i j l in record {
      outside = subst (λ x. WholeLexemes (lexed_at between x b t)) (sym c) (other_word b t (WholeLexemes (lex in_word t)) no_digit k.inside);
      inside = λ e. subst (λ x. WholeLexemes (lexed_at in_word x b t)) (sym c) (k.inside (sym (clean_as b t false false false false no_quote i j l) ∙ e));
    }

-- ---- the pieces of a text

lost_none : (place : ℕ) (piece : List ℕ) (more : List (List ℕ)) → first_lost place (piece ∷ more) ≡ None → (part : List ℕ) × (kept piece ≡ Some part)
lost_none place piece more h = go (kept piece) refl
  where
    go : (o : Option (List ℕ)) → kept piece ≡ o → (part : List ℕ) × (kept piece ≡ Some part)
    go None e = let wrong : Some place ≡ None = sym (lost_here place piece more e) ∙ h in absurd (cc)
    go (Some part) e = (part, e)

pub kept_other : (piece : List ℕ) → begins_number (head piece) ≡ false → kept piece ≡ Some piece
unfolding kept
kept_other piece e = rw e refl

pub kept_as_number : (piece : List ℕ) → begins_number (head piece) ≡ true → kept piece ≡ kept_number piece
unfolding kept
kept_as_number piece e = rw e refl

-- what is kept of a number token
record Part (part : List ℕ) : Type 0 where
  passes : AreOfNumber part
  begins : begins_number (head part) ≡ true
  whole : is_number part ≡ true → is_whole part ≡ true

pub number_of_whole : (t : List ℕ) → is_whole t ≡ true → is_number t ≡ true
unfolding is_whole
number_of_whole t h = (and_parts (is_number t) _ h).0

passes_taken : (n : ℕ) (t : List ℕ) → AreOfNumber t → AreOfNumber (take n t)
passes_taken zero t h = refl
passes_taken (suc n) [] h = refl
passes_taken (suc n) (x ∷ xs) h = let both = and_parts (continues_number x) _ h in ap (λ d. d && list_all continues_number (take n xs)) both.0 ∙ passes_taken n xs both.1

kept_part : (piece part : List ℕ) → AreOfNumber piece → begins_number (head piece) ≡ true → kept_number piece ≡ Some part → Part part
unfolding kept_number
kept_part piece part passes begins e = go (is_whole (whole_part piece)) (is_no_fraction (fraction piece)) (is_number piece) refl refl refl e
  where
    some_is : (x y : List ℕ) → Some x ≡ Some y → x ≡ y
    some_is x y e = cc

    taken : is_whole (whole_part piece) ≡ true → whole_part piece ≡ part → Part part
    taken i same = subst Part same (record {
      passes = passes_taken (point_at piece) piece passes;
      begins = number_first (whole_part piece) (ap is_some (number_rest (whole_part piece) (number_of_whole (whole_part piece) i)));
      whole = λ _. i;
    })

    left : is_number piece ≡ false → piece ≡ part → Part part
    left k same = subst Part same (record { passes = passes; begins = begins; whole = λ n. absurd (true≢false (sym n ∙ k)) })

    go : (a b c : Bool) → is_whole (whole_part piece) ≡ a → is_no_fraction (fraction piece) ≡ b → is_number piece ≡ c
        → cond (is_whole (whole_part piece) && is_no_fraction (fraction piece)) (Some (whole_part piece)) (cond (is_number piece) None (Some piece)) ≡ Some part → Part part
    go true true c i j k e = taken i (some_is _ _ (sym (ap₂ (λ a b. cond (a && b) (Some (whole_part piece)) (cond (is_number piece) None (Some piece))) i j) ∙ e))
    go true false true i j k e = let wrong : None ≡ Some part = sym (ap₂ (λ a b. cond (a && b) (Some (whole_part piece)) (cond (is_number piece) None (Some piece))) i j ∙ ap (λ n. cond n None (Some piece)) k) ∙ e in absurd (cc)
    go true false false i j k e = left k (some_is _ _ (sym (ap₂ (λ a b. cond (a && b) (Some (whole_part piece)) (cond (is_number piece) None (Some piece))) i j ∙ ap (λ n. cond n None (Some piece)) k) ∙ e))
    go false b true i j k e = let wrong : None ≡ Some part = sym (ap (λ a. cond (a && is_no_fraction (fraction piece)) (Some (whole_part piece)) (cond (is_number piece) None (Some piece))) i ∙ ap (λ n. cond n None (Some piece)) k) ∙ e in absurd (cc)
    go false b false i j k e = left k (some_is _ _ (sym (ap (λ a. cond (a && is_no_fraction (fraction piece)) (Some (whole_part piece)) (cond (is_number piece) None (Some piece))) i ∙ ap (λ n. cond n None (Some piece)) k) ∙ e))

stops : (bs : List ℕ) → continues_number (head (drop (prefix_len continues_number bs) bs)) ≡ false
stops [] = refl
stops (x ∷ xs) = go (continues_number x) refl (stops xs)
  where
    longer : 1 + prefix_len continues_number xs ≡ suc (prefix_len continues_number xs)
    longer = omega arith

    go : (b : Bool) → continues_number x ≡ b → continues_number (head (drop (prefix_len continues_number xs) xs)) ≡ false → continues_number (head (drop (cond b (1 + prefix_len continues_number xs) 0) (x ∷ xs))) ≡ false
    go true e h = ap (λ k. continues_number (head (drop k (x ∷ xs)))) longer ∙ h
    go false e h = e

not_begun : (b : ℕ) → continues_number b ≡ false → begins_number b ≡ false
not_begun b h = go (cases_Bool (begins_number b))
  where
    go : (begins_number b ≡ true) ⊎ (begins_number b ≡ false) → begins_number b ≡ false
    go (inl e) = absurd (true≢false (sym (begins_continues b e) ∙ h))
    go (inr e) = e

take_some : (n b : ℕ) (bs : List ℕ) → 0 < n → take n (b ∷ bs) ≡ b ∷ take (n - 1) bs
take_some zero b bs h = absurd (omega arith)
take_some (suc n) b bs h = let e : n ≡ suc n - 1 = omega arith in ap (λ k. b ∷ take k bs) e

abbrev kept_text : List ℕ → List ℕ
kept_text t = all_kept (pieces t)

kept_empty : kept_text [] ≡ []
kept_empty = ap all_kept pieces-nil ∙ kept-nil

-- a text that begins with no number begins as before
head_kept : (t : List ℕ) → begins_number (head t) ≡ false → head (kept_text t) ≡ head t
head_kept [] e = ap head kept_empty
head_kept (b ∷ bs) e =
    let t = b ∷ bs in
    let n = piece_len t in
    let some : 0 < n = piece_len-some t (omega arith) in
    let begun : take n t ≡ b ∷ take (n - 1) bs = take_some n b bs some in
    let same : kept (take n t) ≡ Some (take n t) = kept_other (take n t) (ap (λ l. begins_number (head l)) begun ∙ e) in
    ap (λ ps. head (all_kept ps)) (pieces-next t (omega arith)) ∙ ap head (kept_first (take n t) (take n t) (pieces (drop n t)) same) ∙ ap (λ l. head (l ++ kept_text (drop n t))) begun

-- what is kept of a text, where this is kept of its first piece
kept_next : (b : ℕ) (bs part : List ℕ) (n : ℕ) → n ≡ piece_len (b ∷ bs) → kept (take n (b ∷ bs)) ≡ Some part → Known (kept_text (drop n (b ∷ bs))) → Known (part ++ kept_text (drop n (b ∷ bs)))
kept_next b bs part n is e k = go (b == 34) (begins_number b) refl refl
  where
    some_is : (x y : List ℕ) → Some x ≡ Some y → x ≡ y
    some_is x y e = cc

    len_of : (q d : Bool) → (b == 34) ≡ q → begins_number b ≡ d → n ≡ cond q (suc (string_len false bs)) (cond d (suc (prefix_len continues_number bs)) 1)
    len_of q d i j = is ∙ ap (λ z. cond z (suc (string_len false bs)) (cond (begins_number b) (suc (prefix_len continues_number bs)) 1)) i ∙ ap (λ z. cond q (suc (string_len false bs)) (cond z (suc (prefix_len continues_number bs)) 1)) j

    quoted : (b ≡ 34) → n ≡ suc (string_len false bs) → Known (part ++ kept_text (drop n (b ∷ bs)))
    quoted b_is len =
        let piece : take n (b ∷ bs) ≡ 34 ∷ take (string_len false bs) bs = ap₂ (λ m x. take m (x ∷ bs)) len b_is in
        let rest : drop n (b ∷ bs) ≡ drop (string_len false bs) bs = ap (λ m. drop m (b ∷ bs)) len in
        let same : part ≡ 34 ∷ take (string_len false bs) bs = some_is _ _ (sym e ∙ ap kept piece ∙ kept_other (34 ∷ take (string_len false bs) bs) refl) in
        subst (λ p. Known (p ++ kept_text (drop n (b ∷ bs)))) (sym same)
        (string_known bs (kept_text (drop n (b ∷ bs))) (λ none. ap kept_text (rest ∙ none) ∙ kept_empty) k)

    numbered : begins_number b ≡ true → n ≡ suc (prefix_len continues_number bs) → Known (part ++ kept_text (drop n (b ∷ bs)))
    numbered begins len =
        let front = take (prefix_len continues_number bs) bs in
        let piece : take n (b ∷ bs) ≡ b ∷ front = ap (λ m. take m (b ∷ bs)) len in
        let rest : drop n (b ∷ bs) ≡ drop (prefix_len continues_number bs) bs = ap (λ m. drop m (b ∷ bs)) len in
        let passes : AreOfNumber (b ∷ front) = ap (λ d. d && list_all continues_number front) (begins_continues b begins) ∙ token_run bs in
        let p = kept_part (b ∷ front) part passes begins (sym (kept_as_number (b ∷ front) begins) ∙ sym (ap kept piece) ∙ e) in
        let stop : continues_number (head (drop n (b ∷ bs))) ≡ false = ap (λ l. continues_number (head l)) rest ∙ stops bs in
        let stop_kept : continues_number (head (kept_text (drop n (b ∷ bs)))) ≡ false = ap continues_number (head_kept (drop n (b ∷ bs)) (not_begun (head (drop n (b ∷ bs))) stop)) ∙ stop in
        known_part part p (kept_text (drop n (b ∷ bs))) stop_kept k
      where
        known_part : (part : List ℕ) → Part part → (t : List ℕ) → continues_number (head t) ≡ false → Known t → Known (part ++ t)
        known_part [] p t stop k = absurd (false≢true p.begins)
        known_part (c ∷ cs) p t stop k = number_known c cs t p.passes p.begins p.whole stop k

    single : (b == 34) ≡ false → begins_number b ≡ false → n ≡ 1 → Known (part ++ kept_text (drop n (b ∷ bs)))
    single no_quote no_digit len =
        let piece : take n (b ∷ bs) ≡ b ∷ [] = ap (λ m. take m (b ∷ bs)) len in
        let same : part ≡ b ∷ [] = some_is _ _ (sym e ∙ ap kept piece ∙ kept_other (b ∷ []) no_digit) in
        subst (λ p. Known (p ++ kept_text (drop n (b ∷ bs)))) (sym same) (other_known b (kept_text (drop n (b ∷ bs))) no_quote no_digit k)

    go : (q d : Bool) → (b == 34) ≡ q → begins_number b ≡ d → Known (part ++ kept_text (drop n (b ∷ bs)))
    go true d i j = quoted (eqb-true b 34 i) (len_of true d i j)
    go false true i j = numbered j (len_of false true i j)
    go false false i j = single i j (len_of false false i j)

known_nil : Known []
unfolding lex
known_nil = record { outside = tt; inside = λ _. tt }

lexed : (n : ℕ) (t : List ℕ) (place : ℕ) → length t ≤ n → first_lost place (pieces t) ≡ None → Known (kept_text t)
lexed n [] place h lost = subst Known (sym kept_empty) known_nil
lexed zero (b ∷ bs) place h lost = absurd (omega arith)
lexed (suc n) (b ∷ bs) place h lost =
    let t = b ∷ bs in
    let m = piece_len t in
    let some : 0 < m = piece_len-some t (omega arith) in
    let e = pieces-next t (omega arith) in
    let here : first_lost place (take m t ∷ pieces (drop m t)) ≡ None = sym (ap (first_lost place) e) ∙ lost in
    let part = lost_none place (take m t) (pieces (drop m t)) here in
    let later : first_lost (place + length (take m t)) (pieces (drop m t)) ≡ None = sym (lost_later place (take m t) part.0 (pieces (drop m t)) part.1) ∙ here in
    let fits : length (drop m t) ≤ n = omega (arith, length-drop m t) in
    let whole : kept_text t ≡ part.0 ++ kept_text (drop m t) = ap all_kept e ∙ kept_first (take m t) part.0 (pieces (drop m t)) part.1 in
    subst Known (sym whole) (kept_next b bs part.0 m refl part.1 (lexed n (drop m t) (place + length (take m t)) fits later))

-- where no number was bad, all numbers are whole
pub whole_texts : (text : List ℕ) → first_lost 0 (pieces text) ≡ None → WholeTokens (tokens (all_kept (pieces text)))
whole_texts text h = punctuated fresh _ (lexed (length text) text 0 (omega arith) h).outside

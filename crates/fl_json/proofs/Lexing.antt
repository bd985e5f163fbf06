-- The tokens of a text from which nothing of a number was lost.
use Rattle.std.proofs.Common.{◌≡◌, ℕ, zero, suc, ◌+◌, ◌<◌, ◌≤◌, Bool, true, false, ◌&&◌, ◌||◌, ◌==◌, cond, List, [], ◌∷◌, ◌++◌, drop, Option, Some, None, is_some, option_and_then, inl, inr, ◌⊎◌, refl, sym, ap, ap₂, ◌∙◌, arith}
use Rattle.std.specs.Prelude.{not, ⊤}
use Rattle.std.specs.Char.{is_ascii_digit}
use Rattle.std.specs.List.{prefix_len}
use Rattle.std.proofs.lemmas.Bool.{true≢false, false≢true, eqb-true, and_parts, cases_Bool, cases_lt}
use Rattle.std.proofs.lemmas.Bool.Decides.{nat_tests}
use Rattle.json.specs.Token.{Token}
use Rattle.json.specs.Word.{is_operator, is_space, head, ends_word, after_digits, after_whole, after_fraction, after_exponent, after_number}
use Rattle.json.specs.Lex.{Lexeme, token, comma, colon, Class, quote, backslash, operator, space, other, class, between, in_word, lex, lex_byte, Place, fresh, after_value, after_comma, after_key, begins_colon, if_allowed, place_token, punctuate}
use Rattle.fl_json.specs.Numbers.{begins_number, continues_number}
use Rattle.fl_json.proofs.Bytes.{AreOfNumber}
use Rattle.fl_json.proofs.Values.{WholeToken, WholeTokens}

-- ---- commas and colons

abbrev pub WholeLexemes : List Lexeme → Type 0
WholeLexemes [] = ⊤
WholeLexemes (token t ∷ ls) = WholeToken t (WholeLexemes ls)
WholeLexemes (comma ∷ ls) = WholeLexemes ls
WholeLexemes (colon ∷ ls) = WholeLexemes ls

allowed : (ok : Bool) (t : Token) (next : Place → List Token) (q : Place) → WholeToken t (WholeTokens (next q)) → WholeTokens (if_allowed ok t next q)
allowed true t next q h = h
allowed false t next q h = tt

placed : (p : Place) (t : Token) (colon_next : Bool) (next : Place → List Token) (more : Type 0) → WholeToken t more → (more → (q : Place) → WholeTokens (next q)) → WholeTokens (place_token p t colon_next next)
placed p Token.begin_object c next more h f = allowed _ Token.begin_object next _ (f h _)
placed p Token.end_object c next more h f = allowed _ Token.end_object next _ (f h _)
placed p Token.begin_array c next more h f = allowed _ Token.begin_array next _ (f h _)
placed p Token.end_array c next more h f = allowed _ Token.end_array next _ (f h _)
placed p (Token.key s) c next more h f = tt
placed p (Token.string s) true next more h f = allowed _ (Token.key s) next _ (f h _)
placed p (Token.string s) false next more h f = allowed _ (Token.string s) next _ (f h _)
placed p (Token.number s) c next more h f = allowed _ (Token.number s) next _ (h.0, f h.1 _)
placed p (Token.boolean b) c next more h f = allowed _ (Token.boolean b) next _ (f h _)
placed p Token.null c next more h f = allowed _ Token.null next _ (f h _)
placed p Token.bad c next more h f = tt

-- punctuation leaves the numbers whole
pub punctuated : (p : Place) (ls : List Lexeme) → WholeLexemes ls → WholeTokens (punctuate p ls)
unfolding punctuate
punctuated fresh [] h = tt
punctuated after_value [] h = tt
punctuated after_comma [] h = tt
punctuated after_key [] h = tt
punctuated fresh (token t ∷ ls) h = placed fresh t (begins_colon ls) (λ q. punctuate q ls) (WholeLexemes ls) h (λ k q. punctuated q ls k)
punctuated after_value (token t ∷ ls) h = placed after_value t (begins_colon ls) (λ q. punctuate q ls) (WholeLexemes ls) h (λ k q. punctuated q ls k)
punctuated after_comma (token t ∷ ls) h = placed after_comma t (begins_colon ls) (λ q. punctuate q ls) (WholeLexemes ls) h (λ k q. punctuated q ls k)
punctuated after_key (token t ∷ ls) h = placed after_key t (begins_colon ls) (λ q. punctuate q ls) (WholeLexemes ls) h (λ k q. punctuated q ls k)
punctuated fresh (comma ∷ ls) h = tt
punctuated after_value (comma ∷ ls) h = punctuated after_comma ls h
punctuated after_comma (comma ∷ ls) h = tt
punctuated after_key (comma ∷ ls) h = tt
punctuated fresh (colon ∷ ls) h = tt
punctuated after_value (colon ∷ ls) h = tt
punctuated after_comma (colon ∷ ls) h = tt
punctuated after_key (colon ∷ ls) h = punctuated fresh ls h

-- ---- the bytes of number tokens

-- what a test says of each small number
unfoldable pub holds_below : (ℕ → Bool) → ℕ → Bool
holds_below p zero = true
holds_below p (suc n) = p n && holds_below p n

pub below_holds : (p : ℕ → Bool) (n : ℕ) → holds_below p n ≡ true → (x : ℕ) → x < n → p x ≡ true
unfolding holds_below
below_holds p zero h x l = absurd (omega arith)
below_holds p (suc n) h x l = last (cases_lt x n) (λ s. below_holds p n (and_parts (p n) (holds_below p n) h).1 x s)
  where
    last : (x < n) ⊎ (n ≤ x) → (x < n → p x ≡ true) → p x ≡ true
    last (inl s) f = f s
    last (inr e) f = let same : x ≡ n = omega arith in ap p same ∙ (and_parts (p n) (holds_below p n) h).0

is_plain_class : Class → Bool
is_plain_class quote = false
is_plain_class backslash = false
is_plain_class operator = false
is_plain_class space = false
is_plain_class other = true

plain_class : (c : Class) → is_plain_class c ≡ true → c ≡ other
unfolding is_plain_class
plain_class quote h = absurd (false≢true h)
plain_class backslash h = absurd (false≢true h)
plain_class operator h = absurd (false≢true h)
plain_class space h = absurd (false≢true h)
plain_class other h = refl

-- what holds of a byte of a number token: it is none of JSON's other bytes
abbrev stands_apart : ℕ → Bool
stands_apart x = is_plain_class (class x) && not (is_operator x || is_space x) && not (x == 34 || x == 92)

abbrev if_of_number : ℕ → Bool
if_of_number x = not (continues_number x) || stands_apart x

unless : (a b : Bool) → (not a || b) ≡ true → a ≡ true → b ≡ true
unless true b h e = h
unless false b h e = absurd (false≢true e)

small : (x : ℕ) → continues_number x ≡ true → x < 128
small x h = grind (arith, nat_tests)

apart : (x : ℕ) → continues_number x ≡ true → stands_apart x ≡ true
unfolding holds_below is_plain_class
apart x h = unless (continues_number x) (stands_apart x) (below_holds if_of_number 128 refl x (small x h)) h

-- the parts of what stands apart
pub record Apart (x : ℕ) : Type 0 where
  pub is_other : class x ≡ other
  pub no_end : (is_operator x || is_space x) ≡ false
  pub no_quote : (x == 34 || x == 92) ≡ false

off : (b : Bool) → not b ≡ true → b ≡ false
off true h = absurd (false≢true h)
off false h = refl

pub apart_parts : (x : ℕ) → continues_number x ≡ true → Apart x
apart_parts x h = let one = and_parts _ _ (apart x h) in let two = and_parts _ _ one.0 in record {
  is_other = plain_class (class x) two.0;
  no_end = off _ two.1;
  no_quote = off _ one.1;
}

pub begins_continues : (x : ℕ) → begins_number x ≡ true → continues_number x ≡ true
begins_continues x h = grind (arith, nat_tests)

-- a byte that begins a number begins no literal
pub no_letter : (x : ℕ) → begins_number x ≡ true → (x ≡ 116 → ⊥) × (x ≡ 102 → ⊥) × (x ≡ 110 → ⊥)
no_letter x h = let low : x < 58 = grind (arith, nat_tests) in (λ e. omega arith, λ e. omega arith, λ e. omega arith)

-- where a word ends no number token goes on
pub ended : (t : List ℕ) → ends_word t ≡ true → continues_number (head t) ≡ false
ended t h = go (cases_Bool (continues_number (head t)))
  where
    go : (continues_number (head t) ≡ true) ⊎ (continues_number (head t) ≡ false) → continues_number (head t) ≡ false
    go (inl e) = absurd (true≢false (sym h ∙ (apart_parts (head t) e).no_end))
    go (inr e) = e

-- a text is cut in one way into bytes of number tokens and what goes on with no such byte
pub one_cut : (a b x y : List ℕ) → a ++ x ≡ b ++ y → AreOfNumber a → AreOfNumber b → continues_number (head x) ≡ false → continues_number (head y) ≡ false → (a ≡ b) × (x ≡ y)
one_cut [] [] x y e p q r s = (refl, e)
one_cut [] (d ∷ b) x y e p q r s = absurd (true≢false (sym (and_parts (continues_number d) _ q).0 ∙ sym (ap (λ l. continues_number (head l)) e) ∙ r))
one_cut (c ∷ a) [] x y e p q r s = absurd (true≢false (sym (and_parts (continues_number c) _ p).0 ∙ ap (λ l. continues_number (head l)) e ∙ s))
one_cut (c ∷ a) (d ∷ b) x y e p q r s =
    let heads : c ≡ d = cc in
    let tails : a ++ x ≡ b ++ y = cc in
    let more = one_cut a b x y tails (and_parts (continues_number c) _ p).1 (and_parts (continues_number d) _ q).1 r s in
    (ap₂ (λ h t. h ∷ t) heads more.0, more.1)

-- ---- words

-- inside a word the lexer passes over bytes of number tokens
pub word_passed : (a t : List ℕ) → AreOfNumber a → lex in_word (a ++ t) ≡ lex in_word t
unfolding lex
word_passed [] t h = refl
word_passed (x ∷ a) t h = let both = and_parts (continues_number x) _ h in ap (λ c. lex_byte in_word c x (a ++ t) (λ m. lex m (a ++ t))) (apart_parts x both.0).is_other ∙ word_passed a t both.1

found_first : (f : List ℕ → Option (List ℕ)) (o : Option (List ℕ)) → is_some (option_and_then f o) ≡ true → is_some o ≡ true
found_first f None h = h
found_first f (Some t) h = refl

first_digit : (b : Bool) (n : ℕ) (t : List ℕ) → is_some (cond (cond b (1 + n) 0 == 0) None (Some (drop (cond b (1 + n) 0) t))) ≡ true → b ≡ true
first_digit true n t h = refl
first_digit false n t h = h

digits_first : (t : List ℕ) → is_some (after_digits t) ≡ true → is_ascii_digit (head t) ≡ true
digits_first [] h = absurd (false≢true h)
digits_first (x ∷ xs) h = first_digit (is_ascii_digit x) (prefix_len is_ascii_digit xs) (x ∷ xs) h

whole_first : (t : List ℕ) (z : Bool) → (z ≡ true → head t ≡ 48) → is_some (cond z (Some (drop 1 t)) (after_digits t)) ≡ true → is_ascii_digit (head t) ≡ true
whole_first t true e h = ap is_ascii_digit (e refl)
whole_first t false e h = digits_first t h

minus_first : (t : List ℕ) (m : Bool) → is_some (after_whole (cond m (drop 1 t) t)) ≡ true → (m || is_ascii_digit (head t)) ≡ true
minus_first t true h = refl
minus_first t false h = whole_first t (head t == 48) (eqb-true (head t) 48) h

-- a number begins with a minus or a digit
pub number_first : (t : List ℕ) → is_some (after_number t) ≡ true → begins_number (head t) ≡ true
unfolding after_number
number_first t h = minus_first t (head t == 45) (found_first after_fraction _ (found_first after_exponent _ h))

-- what is known behind a text: the lexer's lexemes there, between words and inside one
abbrev pub clean : List ℕ → Bool
clean [] = true
clean (x ∷ xs) = is_operator x || is_space x || (not (x == 34 || x == 92) && clean xs)

pub record Known (t : List ℕ) : Type 0 where
  pub outside : WholeLexemes (lex between t)
  pub inside : clean t ≡ true → WholeLexemes (lex in_word t)

pub clean_passed : (a t : List ℕ) → AreOfNumber a → clean (a ++ t) ≡ clean t
clean_passed [] t h = refl
clean_passed (x ∷ a) t h =
    let both = and_parts (continues_number x) _ h in
    let k = apart_parts x both.0 in
    ap₂ (λ e q. e || (not q && clean (a ++ t))) k.no_end k.no_quote ∙ clean_passed a t both.1

pub clean_ended : (t : List ℕ) → ends_word t ≡ true → clean t ≡ true
clean_ended [] h = refl
clean_ended (x ∷ xs) h = ap (λ e. e || (not (x == 34 || x == 92) && clean xs)) h

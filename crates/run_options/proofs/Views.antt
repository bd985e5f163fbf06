-- What a word is, as the reference reads it.
use Rattle.std.proofs.Common.{◌≡◌, ◌∙◌, ◌++◌, ◌⊎◌, ◌&&◌, ◌||◌, ◌+◌, ◌==◌, cond, ℕ, suc, Bool, true, false, not, List, [], ◌∷◌, length, Some, None, refl, sym, ap, inl, inr, codes, bytes_eq, true≢false, arith, take, drop}
use Rattle.std.specs.Prelude.{option_and_then, if◌then◌else◌, nat_le, nat_lt, ◌^◌}
use Rattle.std.specs.List.{list_any, before_first, after_first, position_or_len}
use Rattle.std.proofs.lemmas.Slice.Eq.{bytes_eq-Decides}
use Rattle.std.proofs.lemmas.Bool.Decides.{nat_tests}
use Rattle.run_options.specs.declared.given.Given.{Given}
use Rattle.workload.specs.Words.{number_value}
use Rattle.run_options.specs.Given.{as_brokers, as_losses, as_workers, most_digits, number_of, with_backfill, with_fanout, with_journal, with_losses, with_shuffle, with_size, with_value, with_workers}
use Rattle.run_options.specs.Words.{is_flag, wants_value, with_word, with_words}
use Rattle.run_options.proofs.Sets.{with_flag}
use Rattle.run_options.proofs.Steps.{alone, paired, unpaired}
use Rattle.run_options.proofs.Strays.{IsUnknown, HasHyphen, before_more}
use Rattle.run_options.proofs.Walks.{Name, by_size, by_fanout, by_hash, by_shuffle, by_losses, by_workers, Flag, by_journal, by_backfill, Passes, dashed, flag_dashed, passes}

abbrev Text : Type 0
Text = List ℕ

-- ---- a word that the reference refuses

pub no_value : (g : Given) (name value : Text) → ((n : Name) → bytes_eq name (dashed n) ≡ false) → with_value g name value ≡ None
no_value g name value other = rw (other by_size, other by_fanout, other by_hash, other by_shuffle, other by_losses, other by_workers) refl

pub record IsStray (word : Text) : Type 0 where
  pub unknown : IsUnknown word
  pub refused : (g : Given) (words : List Text) → with_words g (word ∷ words) ≡ None

-- ---- `=` in a word

any_head : (a b : Bool) → (a || b) ≡ false → (a ≡ false) × (b ≡ false)
any_head false b e = (refl, e)
any_head true b e = absurd (true≢false e)

uncut : (word : Text) → list_any (λ b. b == 61) word ≡ false → before_first (λ b. b == 61) word ≡ word
uncut [] none = refl
uncut (b ∷ rest) none = let parts = any_head (b == 61) (list_any (λ c. c == 61) rest) none in
    before_more b rest parts.0 ∙ ap (λ t. b ∷ t) (uncut rest parts.1)

after_more : (b : ℕ) (xs : Text) → (b == 61) ≡ false → after_first (λ c. c == 61) (b ∷ xs) ≡ after_first (λ c. c == 61) xs
after_more b xs other =
    let next : 1 + position_or_len (λ c. c == 61) xs + 1 ≡ suc (position_or_len (λ c. c == 61) xs + 1) = omega arith in
    ap (λ t. drop (cond (not t) (1 + position_or_len (λ c. c == 61) xs) 0 + 1) (b ∷ xs)) other ∙ ap (λ k. drop k (b ∷ xs)) next

at_equals : (rest : Text) (b : ℕ) → (b == 61) ≡ true → b ∷ rest ≡ before_first (λ c. c == 61) (b ∷ rest) ++ 61 ∷ after_first (λ c. c == 61) (b ∷ rest)
at_equals rest b e =
    let is : b ≡ 61 = grind (arith, nat_tests) in
    ap (λ c. c ∷ rest) is ∙ ap (λ t. take (cond (not t) (1 + position_or_len (λ c. c == 61) rest) 0) (b ∷ rest) ++ 61 ∷ drop (cond (not t) (1 + position_or_len (λ c. c == 61) rest) 0 + 1) (b ∷ rest)) (sym e)

cut : (word : Text) → list_any (λ b. b == 61) word ≡ true → word ≡ before_first (λ b. b == 61) word ++ 61 ∷ after_first (λ b. b == 61) word
cut [] some = absurd (true≢false (sym some))
cut (b ∷ rest) some = go (b == 61) refl (cut rest)
  where
    go : (t : Bool) → (b == 61) ≡ t
        → (list_any (λ c. c == 61) rest ≡ true → rest ≡ before_first (λ c. c == 61) rest ++ 61 ∷ after_first (λ c. c == 61) rest)
        → b ∷ rest ≡ before_first (λ c. c == 61) (b ∷ rest) ++ 61 ∷ after_first (λ c. c == 61) (b ∷ rest)
    go true e more = at_equals rest b e
    go false e more =
        let later : list_any (λ c. c == 61) rest ≡ true = ap (λ t. t || list_any (λ c. c == 61) rest) (sym e) ∙ some in
        ap (λ t. b ∷ t) (more later) ∙ ap (λ t. t ++ 61 ∷ after_first (λ c. c == 61) rest) (sym (before_more b rest e))
        ∙ ap (λ t. before_first (λ c. c == 61) (b ∷ rest) ++ 61 ∷ t) (sym (after_more b rest e))

-- ---- what a word is

pub data View (word : Text) : Type 0 where
  flagged : (f : Flag) → word ≡ flag_dashed f → View word
  named : (n : Name) → word ≡ dashed n → View word
  whole : (n : Name) (v : Text) → word ≡ dashed n ++ 61 ∷ v → View word
  stray : IsStray word → View word

-- the name is an option's, or none's
abbrev pub Names : Text → Type 0
Names name = ((n : Name) × (name ≡ dashed n)) ⊎ ((n : Name) → bytes_eq name (dashed n) ≡ false)

pub names : (name : Text) → Names name
names name = go (passes (λ n. bytes_eq name (dashed n)))
  where
    go : Passes (λ n. bytes_eq name (dashed n)) → Names name
    go (inl n) = inl (n.0, (bytes_eq-Decides name (dashed n.0)).0 n.1)
    go (inr none) = inr none

-- the word is no flag's
abbrev NoFlag : Text → Type 0
NoFlag word = (f : Flag) → bytes_eq word (flag_dashed f) ≡ false

wants : (word : Text) (b : Bool) → NoFlag word → list_any (λ c. c == 61) word ≡ b → wants_value word ≡ not b
wants word b other eb =
    let no_flag : is_flag word ≡ false = ap (λ x. x || bytes_eq word (codes "--backfill")) (other by_journal) ∙ other by_backfill in
    ap (λ x. not x && not (list_any (λ c. c == 61) word)) no_flag ∙ ap (λ y. not y) eb

-- a word with `=` that names no option
stray_whole : (word : Text) → NoFlag word → list_any (λ c. c == 61) word ≡ true
    → ((n : Name) → bytes_eq (before_first (λ c. c == 61) word) (dashed n) ≡ false) → IsStray word
stray_whole word other some none = record {
  unknown = record { names = none; flags = λ f e. some };
  refused = λ g words. alone g word words (wants word true other some)
      ∙ ap (option_and_then (λ more. with_words more words)) (alone_word g);
}
  where
    alone_word : (g : Given) → with_word g word ≡ None
    alone_word g = ap (λ a. if a then with_journal g else if bytes_eq word (codes "--backfill") then with_backfill g
        else if list_any (λ c. c == 61) word then with_value g (before_first (λ c. c == 61) word) (after_first (λ c. c == 61) word) else None) (other by_journal)
        ∙ ap (λ a. if a then with_backfill g else if list_any (λ c. c == 61) word then with_value g (before_first (λ c. c == 61) word) (after_first (λ c. c == 61) word) else None) (other by_backfill)
        ∙ ap (λ b. if b then with_value g (before_first (λ c. c == 61) word) (after_first (λ c. c == 61) word) else None) some
        ∙ no_value g (before_first (λ c. c == 61) word) (after_first (λ c. c == 61) word) none

-- a word without `=` that names no option
stray_named : (word : Text) → NoFlag word → list_any (λ c. c == 61) word ≡ false
    → ((n : Name) → bytes_eq word (dashed n) ≡ false) → IsStray word
stray_named word other plain none = record {
  unknown = record {
    names = λ n. ap (λ t. bytes_eq t (dashed n)) (uncut word plain) ∙ none n;
    flags = λ f e. absurd (true≢false (sym e ∙ ap (λ t. bytes_eq t (flag_dashed f)) (uncut word plain) ∙ other f));
  };
  refused = refused;
}
  where
    refused : (g : Given) (words : List Text) → with_words g (word ∷ words) ≡ None
    refused g [] = unpaired g word (wants word false other plain)
    refused g (value ∷ words) = paired g word value words (wants word false other plain)
        ∙ ap (option_and_then (λ more. with_words more words)) (no_value g word value none)

pub view : (word : Text) → View word
view word = one (bytes_eq word (flag_dashed by_journal)) (bytes_eq word (flag_dashed by_backfill)) refl refl
  where
    cut_at : NoFlag word → list_any (λ c. c == 61) word ≡ true → Names (before_first (λ c. c == 61) word) → View word
    cut_at other some (inl n) = whole n.0 (after_first (λ c. c == 61) word) (cut word some ∙ ap (λ t. t ++ 61 ∷ after_first (λ c. c == 61) word) n.1)
    cut_at other some (inr none) = stray (stray_whole word other some none)

    plain_as : NoFlag word → list_any (λ c. c == 61) word ≡ false → Names word → View word
    plain_as other plain (inl n) = named n.0 n.1
    plain_as other plain (inr none) = stray (stray_named word other plain none)

    two : NoFlag word → (b : Bool) → list_any (λ c. c == 61) word ≡ b → View word
    two other true some = cut_at other some (names (before_first (λ c. c == 61) word))
    two other false plain = plain_as other plain (names word)

    no_flag : bytes_eq word (flag_dashed by_journal) ≡ false → bytes_eq word (flag_dashed by_backfill) ≡ false → NoFlag word
    no_flag journal backfill by_journal = journal
    no_flag journal backfill by_backfill = backfill

    one : (a b : Bool) → bytes_eq word (flag_dashed by_journal) ≡ a → bytes_eq word (flag_dashed by_backfill) ≡ b → View word
    one true b journal backfill = flagged by_journal ((bytes_eq-Decides word (flag_dashed by_journal)).0 journal)
    one false true journal backfill = flagged by_backfill ((bytes_eq-Decides word (flag_dashed by_backfill)).0 backfill)
    one false false journal backfill = two (no_flag journal backfill) (list_any (λ c. c == 61) word) refl

-- ---- the words of an option, to the reference

pub whole_wants : (n : Name) (v : Text) → wants_value (dashed n ++ 61 ∷ v) ≡ false
whole_wants by_size v = refl
whole_wants _ v = refl

pub whole_word : (n : Name) (v : Text) (g : Given) → with_word g (dashed n ++ 61 ∷ v) ≡ with_value g (dashed n) v
whole_word by_size v g = refl
whole_word _ v g = refl

pub flag_wants : (f : Flag) → wants_value (flag_dashed f) ≡ false
flag_wants by_journal = refl
flag_wants by_backfill = refl

pub flag_word : (f : Flag) (g : Given) → with_word g (flag_dashed f) ≡ with_flag f g
flag_word by_journal g = refl
flag_word by_backfill g = refl

pub named_wants : (n : Name) → wants_value (dashed n) ≡ true
named_wants by_size = refl
named_wants _ = refl

-- no value begins with a hyphen
no_number : (rest : Text) (a b c : Bool) → (if a && (b && false && c) then Some (number_value (45 ∷ rest)) else None) ≡ None
no_number rest true true c = refl
no_number rest true false c = refl
no_number rest false b c = refl

hyphen_number : (rest : Text) → number_of (45 ∷ rest) ≡ None
hyphen_number rest = no_number rest (nat_le (length (45 ∷ rest)) most_digits) (not (length (45 ∷ rest) == 0)) (nat_lt (number_value (45 ∷ rest)) (2 ^ 64))

hyphen_value : (n : Name) (g : Given) (rest : Text) → with_value g (dashed n) (45 ∷ rest) ≡ None
hyphen_value by_size g rest = ap (λ o. option_and_then (with_size g) (option_and_then as_brokers o)) (hyphen_number rest)
hyphen_value by_fanout g rest = ap (λ o. option_and_then (with_fanout g) (option_and_then as_brokers o)) (hyphen_number rest)
hyphen_value by_hash g rest = refl
hyphen_value by_shuffle g rest = ap (option_and_then (with_shuffle g)) (hyphen_number rest)
hyphen_value by_losses g rest = ap (λ o. option_and_then (with_losses g) (option_and_then as_losses o)) (hyphen_number rest)
hyphen_value by_workers g rest = ap (λ o. option_and_then (with_workers g) (option_and_then as_workers o)) (hyphen_number rest)

pub hyphen_refused : (n : Name) (g : Given) (word : Text) → HasHyphen word → with_value g (dashed n) word ≡ None
hyphen_refused n g word h = ap (with_value g (dashed n)) h.1 ∙ hyphen_value n g h.0

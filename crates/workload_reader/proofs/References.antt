-- Texts of references: what they write, and that no two references are written alike.
use Rattle.std.proofs.Common.{◌≡◌, ℕ, zero, suc, ◌+◌, ◌*◌, ◌<◌, true, false, Bool, List, [], ◌∷◌, ◌++◌, inl, inr, length, eqb, refl, sym, ap, ap₂, ◌∙◌, arith, Result, Ok, Err}
use Rattle.std.specs.Prelude.{codes, drop, take, ◌&&◌, ◌||◌, ◌↔◌, IfNone, IfSome, IsOk}
use Rattle.std.specs.Result.{result_ok, result_unwrap_or}
use Rattle.std.proofs.lemmas.Bool.{eq-eqb, eqb-true}
use Rattle.std.proofs.lemmas.List.{length-append, length-drop, take-append-drop}
use Rattle.std.proofs.lemmas.Slice.Eq.{bytes_eq-Decides}
use Rattle.std.proofs.Math.Seq.{drop-append_seam, take-append_seam}
use Rattle.std.specs.List.{All, AllPass, list_all}
use Rattle.std.specs.Str.{bytes_eq}
use Rattle.std.proofs.lemmas.Bool.{and_parts}
use Rattle.std.proofs.lemmas.List.Elements.{All-cons, All-head, All-nil, All-tail}
use Rattle.std.proofs.lemmas.List.Sums.{AllPass-from_list_all, list_all-from_AllPass}
use Rattle.fl_digest.specs.Reference.{hex_text, is_lower_digit, AreBytes, IsReferenceText, IsWhole, NamesDigits, reference_text}
use Rattle.fl_digest.specs.declared.BlobRef.{BlobRef}
use Rattle.fl_digest.proofs.Digits.{values, values_written}
use Rattle.workload_reader.specs.References.{bytes_of, digit_of, has_digits, is_reference, is_sha1, is_sha256, reference_of}

same_values : (ds : List ℕ) → bytes_of ds ≡ values ds
same_values [] = refl
same_values (a ∷ []) = refl
same_values (a ∷ b ∷ ds) = ap (λ (bs : List ℕ). (digit_of a * 16 + digit_of b) ∷ bs) (same_values ds)

digit_small : (c : ℕ) → is_lower_digit c ≡ true → digit_of c < 16
digit_small c h = grind (arith)

small : (ds : List ℕ) → AllPass is_lower_digit ds → All (λ b. b < 256) (bytes_of ds)
small [] h = All-nil (λ b. b < 256)
small (a ∷ []) h = All-nil (λ b. b < 256)
small (a ∷ b ∷ ds) h =
    let tail = All-tail (λ c. is_lower_digit c ≡ true) a (b ∷ ds) h in
    let ha = digit_small a (All-head (λ c. is_lower_digit c ≡ true) a (b ∷ ds) h) in
    let hb = digit_small b (All-head (λ c. is_lower_digit c ≡ true) b ds tail) in
    All-cons (λ n. n < 256) (digit_of a * 16 + digit_of b) (bytes_of ds) (omega (arith, ha, hb))
    (small ds (All-tail (λ c. is_lower_digit c ≡ true) b ds tail))

halved : (n : ℕ) (ds : List ℕ) → length ds ≡ 2 * n → length (bytes_of ds) ≡ n
halved n [] h = omega (arith, h)
halved n (a ∷ []) h = absurd (omega (arith, h))
halved zero (a ∷ b ∷ ds) h = absurd (omega (arith, h))
halved (suc n) (a ∷ b ∷ ds) h = let e = halved n ds (omega (arith, h)) in omega (arith, e)

-- so many digits write so many bytes, whose text they are
pub digits_written : (n : ℕ) (ds : List ℕ) → length ds ≡ 2 * n → AllPass is_lower_digit ds
    → (hex_text (bytes_of ds) ≡ ds) × AreBytes n (bytes_of ds)
digits_written n ds len h = (
  ap hex_text (same_values ds) ∙ values_written ds (omega (arith, len)) h,
  (halved n ds len, small ds h),
)

-- what a text of a name and digits tells
named_digits : (name : List ℕ) (n : ℕ) (text : List ℕ) → has_digits name (2 * n) text ≡ true
    → (name ++ hex_text (bytes_of (drop (length name) text)) ≡ text) × AreBytes n (bytes_of (drop (length name) text))
named_digits name n text h =
    let outer = and_parts (bytes_eq (take (length name) text) name && eqb (length text) (length name + 2 * n)) (list_all is_lower_digit (drop (length name) text)) h in
    let inner = and_parts (bytes_eq (take (length name) text) name) (eqb (length text) (length name + 2 * n)) outer.0 in
    let head : take (length name) text ≡ name = (bytes_eq-Decides (take (length name) text) name).0 inner.0 in
    let long = eqb-true (length text) (length name + 2 * n) inner.1 in
    let rest = length-drop (length name) text in
    let digits = digits_written n (drop (length name) text) (omega (arith, long, rest)) (AllPass-from_list_all is_lower_digit (drop (length name) text) outer.1) in (
      ap₂ (λ (xs ys : List ℕ). xs ++ ys) (sym head) digits.0 ∙ take-append-drop (length name) text,
      digits.1,
    )

-- a text of a name and digits is told to be one
has_named : (name : List ℕ) (count : ℕ) (text : List ℕ) → NamesDigits name count text → has_digits name count text ≡ true
has_named name count text (digits, spelled, long, lower) =
    let head : bytes_eq (take (length name) text) name ≡ true =
    (bytes_eq-Decides (take (length name) text) name).1 (ap (take (length name)) spelled ∙ take-append_seam name digits) in
    let tail : drop (length name) text ≡ digits = ap (drop (length name)) spelled ∙ drop-append_seam name digits in
    let size : eqb (length text) (length name + count) ≡ true =
    eq-eqb (length text) (length name + count) (ap length spelled ∙ length-append name digits ∙ ap (λ (k : ℕ). length name + k) long) in
    let all : list_all is_lower_digit (drop (length name) text) ≡ true =
    ap (list_all is_lower_digit) tail ∙ list_all-from_AllPass is_lower_digit digits lower in
    rw (head, size, all) refl

-- the reference of a text is whole, and is written so
told_sha1 : (text : List ℕ) (a : Bool) → is_sha1 text ≡ a → a ≡ true → IsWhole (reference_of text) × (reference_text (reference_of text) ≡ text)
told_sha1 text true e h = let parts = named_digits (codes "sha1-") 20 text e in rw e (parts.1, parts.0)
told_sha1 text false e h = cc h

told_sha256 : (text : List ℕ) → is_sha1 text ≡ false → is_sha256 text ≡ true
    → IsWhole (reference_of text) × (reference_text (reference_of text) ≡ text)
told_sha256 text e h = let parts = named_digits (codes "sha256-") 32 text h in rw e (parts.1, parts.0)

told : (text : List ℕ) (a b : Bool) → is_sha1 text ≡ a → is_sha256 text ≡ b → (a || b) ≡ true
    → IsWhole (reference_of text) × (reference_text (reference_of text) ≡ text)
told text true b e f h = told_sha1 text true e refl
told text false true e f h = told_sha256 text e f
told text false false e f h = cc h

seen : (text : List ℕ) (a b : Bool) → is_sha1 text ≡ a → is_sha256 text ≡ b → IsReferenceText text → (a || b) ≡ true
seen text true b e f is = refl
seen text false true e f is = refl
seen text false false e f (inl is) = cc (sym e ∙ has_named (codes "sha1-") 40 text is)
seen text false false e f (inr is) = cc (sym f ∙ has_named (codes "sha256-") 64 text is)

-- what reads the texts of references, and no other text, reads the reference of its text
pub read_so : {E : Type 0} (text : List ℕ) (r : Result BlobRef E) → IsOk r ↔ IsReferenceText text
    → ((reference : BlobRef) → IsWhole reference → reference_text reference ≡ text → r ≡ Ok reference)
    → IfSome (result_ok r) (λ reference. (is_reference text ≡ true) × (reference ≡ reference_of text))
read_so text (Ok reference) is only =
    let yes = seen text (is_sha1 text) (is_sha256 text) refl refl (is.0 refl) in
    let parts = told text (is_sha1 text) (is_sha256 text) refl refl yes in
    (yes, ap (λ r. result_unwrap_or r reference) (only (reference_of text) parts.0 parts.1))
read_so text (Err e) is only = tt

unread_by : {E : Type 0} (text : List ℕ) (e : E) (a : Bool) → is_reference text ≡ a
    → (is_reference text ≡ true → Err e ≡ Ok (reference_of text)) → is_reference text ≡ false
unread_by text e true is only = cc (only is)
unread_by text e false is only = is

pub unread_so : {E : Type 0} (text : List ℕ) (r : Result BlobRef E)
    → ((reference : BlobRef) → IsWhole reference → reference_text reference ≡ text → r ≡ Ok reference)
    → IfNone (result_ok r) (is_reference text ≡ false)
unread_so text (Ok reference) only = tt
unread_so text (Err e) only = unread_by text e (is_reference text) refl (λ yes. let parts = told text (is_sha1 text) (is_sha256 text) refl refl yes in only (reference_of text) parts.0 parts.1)

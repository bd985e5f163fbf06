-- Instances are numbered as they are born, and parents outlive their children.
use Rattle.std.proofs.Common.{◌≡◌, ℕ, zero, suc, ◌+◌, ◌<◌, ◌==◌, List, [], ◌∷◌, ◌++◌, Bool, true, false, cond, not, ◌||◌, Option, Some, None, is_some, length, map, refl, sym, ap, ap₂, ◌∙◌, subst, append-nil, arith, true≢false, length-append}
use Rattle.std.specs.Prelude.{find, slice_get}
use Rattle.std.specs.List.{cons_option, range_with_len}
use Rattle.std.proofs.lemmas.Bool.{eq-eqb, eqb-true, false_from_ne_true}
use Rattle.kvs_rules.specs.Sequence.{EachAfter}
use Rattle.kvs_rules.proofs.Sequences.{each_along}
use Rattle.answers.specs.Chronicle.{Setup, top}
use Rattle.answers.specs.declared.chronicle.Entry.{Entry}
use Rattle.answers.specs.declared.chronicle.Entry.TheVariants as entry
use Rattle.hierarchy.specs.Births.{Birth, birth_in, birth_of, births, ends, is_birth_of, is_born, is_gone, lives, numbers}
use Rattle.hierarchy.specs.Legal.{IsLegalRun, IsLegalRunEntry}
use Rattle.hierarchy.specs.Families.{living_in}
use Rattle.hierarchy.specs.Own.{begins}
use Rattle.hierarchy.proofs.Members.{member, member_lives}
use Rattle.hierarchy.proofs.Nested.{born_is}
use Rattle.hierarchy.proofs.Owning.{alive, birth_kept, births_push, born_push, gone_push}

-- ---- on lists

one_more : (a n : ℕ) → range_with_len a (suc n) ≡ range_with_len a n ++ (a + n) ∷ []
one_more a zero = let e : a ≡ a + zero = omega arith in ap (λ k. k ∷ []) e
one_more a (suc n) =
    let e : (a + 1) + n ≡ a + suc n = omega arith in
    ap (λ l. a ∷ l) (one_more (a + 1) n ∙ ap (λ k. range_with_len (a + 1) n ++ k ∷ []) e)

pub map_joined : {A B : Type 0} (f : A → B) (xs ys : List A) → map f (xs ++ ys) ≡ map f xs ++ map f ys
map_joined f [] ys = refl
map_joined f (x ∷ xs) ys = ap (λ l. f x ∷ l) (map_joined f xs ys)

pub mapped_length : {A B : Type 0} (f : A → B) (xs : List A) → length (map f xs) ≡ length xs
mapped_length f [] = refl
mapped_length f (x ∷ xs) = ap suc (mapped_length f xs)

-- births with the numbers from one on are found by them
found_at : (bs : List Birth) (a k n : ℕ) → n ≡ a + k → map (λ b. b.child) bs ≡ range_with_len a (length bs) → find (is_birth_of n) bs ≡ slice_get bs k
found_at [] a k n e h = refl
found_at (b ∷ bs) a zero n e h =
    let same : b.child ≡ a = cc in
    let there : b.child ≡ n = same ∙ (omega arith) in
    ap (λ t. cond t (Some b) (find (is_birth_of n) bs)) (eq-eqb b.child n there)
found_at (b ∷ bs) a (suc k) n e h =
    let same : b.child ≡ a = cc in
    let more : map (λ b. b.child) bs ≡ range_with_len (a + 1) (length bs) = cc in
    let other : (b.child == n) ≡ false = false_from_ne_true (b.child == n) (λ t. let both : b.child ≡ n = eqb-true b.child n t in omega arith) in
    ap (λ t. cond t (Some b) (find (is_birth_of n) bs)) other ∙ found_at bs (a + 1) k n (omega arith) more

got_within : {A : Type 0} (xs : List A) (k : ℕ) → is_some (slice_get xs k) ≡ true → k < length xs
got_within [] k h = absurd (true≢false (sym h))
got_within (x ∷ xs) zero h = omega arith
got_within (x ∷ xs) (suc k) h = let low = got_within xs k h in omega arith

within_got : {A : Type 0} (xs : List A) (k : ℕ) → k < length xs → is_some (slice_get xs k) ≡ true
within_got [] k h = absurd (omega arith)
within_got (x ∷ xs) zero h = refl
within_got (x ∷ xs) (suc k) h = within_got xs k (omega arith)

-- ---- numbers

Numbered : List Entry → Type 0
Numbered c = map (λ b. b.child) (births c) ≡ range_with_len 1 (length (births c))

plain_step : (xs : List Entry) (e : Entry) → birth_in e ≡ None → Numbered xs → Numbered (xs ++ e ∷ [])
unfolding Numbered
plain_step xs e none old = subst (λ bs. map (λ b. b.child) bs ≡ range_with_len 1 (length bs)) (sym (births_push xs e ∙ ap (λ o. births xs ++ cons_option o []) none ∙ append-nil (births xs))) old

born_step : (bs : List Birth) (b : Birth) → b.child ≡ length bs + 1 → map (λ b. b.child) bs ≡ range_with_len 1 (length bs)
    → map (λ b. b.child) (bs ++ b ∷ []) ≡ range_with_len 1 (length (bs ++ b ∷ []))
born_step bs b next old =
    let n : length (bs ++ b ∷ []) ≡ suc (length bs) = length-append bs (b ∷ []) ∙ (omega arith) in
    let same : b.child ≡ 1 + length bs = omega arith in
    map_joined (λ b. b.child) bs (b ∷ []) ∙ ap₂ (λ l k. l ++ k ∷ []) old same ∙ sym (one_more 1 (length bs)) ∙ ap (range_with_len 1) (sym n)

numbered_step : (set : Setup) (xs : List Entry) (e : Entry) → EachAfter (IsLegalRunEntry set) [] xs → IsLegalRunEntry set xs e → Numbered xs → Numbered (xs ++ e ∷ [])
unfolding Numbered
numbered_step set xs (entry.Born child parent job label second grant) before l old =
    let b : Birth = record { child = child; parent = parent; job = job; label = label; second = second; grant = grant } in
    subst (λ bs. map (λ b. b.child) bs ≡ range_with_len 1 (length bs)) (sym (births_push xs (entry.Born child parent job label second grant)))
    (born_step (births xs) b l.grounds.next old)
numbered_step set xs e before l old = plain_step xs e refl old

numbered : (set : Setup) (c : List Entry) → IsLegalRun set c → Numbered c
unfolding Numbered
numbered set c l = each_along (IsLegalRunEntry set) Numbered (numbered_step set) [] c tt l refl

pub numbers_are : (set : Setup) (c : List Entry) → IsLegalRun set c → numbers c ≡ range_with_len 0 (length (numbers c))
unfolding Numbered
numbers_are set c l = ap (λ ns. top ∷ ns) (numbered set c l ∙ ap (range_with_len 1) (sym (mapped_length (λ b. b.child) (births c))))

pub birth_at : (set : Setup) (c : List Entry) (k : ℕ) → IsLegalRun set c → birth_of c (k + 1) ≡ slice_get (births c) k
unfolding Numbered
birth_at set c k l =
    let other : ((k + 1) == top) ≡ false = false_from_ne_true ((k + 1) == top) (λ t. let both : k + 1 ≡ top = eqb-true (k + 1) top t in omega arith) in
    ap (λ t. cond t None (find (is_birth_of (k + 1)) (births c))) other ∙ found_at (births c) 1 k (k + 1) (omega arith) (numbered set c l)

-- how many are born
pub numbers_count : (c : List Entry) → length (numbers c) ≡ suc (length (births c))
numbers_count c = ap suc (mapped_length (λ b. b.child) (births c))

not_top : (k : ℕ) → (suc k == top) ≡ false
not_top k = false_from_ne_true (suc k == top) (λ t. let both : suc k ≡ top = eqb-true (suc k) top t in omega arith)

born_has : (c : List Entry) (k : ℕ) → is_born c (suc k) ≡ is_some (birth_of c (suc k))
born_has c k = ap (λ t. t || is_some (birth_of c (suc k))) (not_top k)

born_below : (set : Setup) (c : List Entry) (i : ℕ) → IsLegalRun set c → is_born c i ≡ true → i < length (numbers c)
born_below set c zero l h = let n = numbers_count c in omega arith
born_below set c (suc k) l h =
    let n = numbers_count c in
    let at : birth_of c (suc k) ≡ slice_get (births c) k = subst (λ n. birth_of c n ≡ slice_get (births c) k) (let e : k + 1 ≡ suc k = omega arith in e) (birth_at set c k l) in
    let low : k < length (births c) = got_within (births c) k (ap is_some (sym at) ∙ sym (born_has c k) ∙ h) in
    omega arith

below_born : (set : Setup) (c : List Entry) (i : ℕ) → IsLegalRun set c → i < length (numbers c) → is_born c i ≡ true
below_born set c zero l h = refl
below_born set c (suc k) l h =
    let n = numbers_count c in
    let at : birth_of c (suc k) ≡ slice_get (births c) k = subst (λ n. birth_of c n ≡ slice_get (births c) k) (let e : k + 1 ≡ suc k = omega arith in e) (birth_at set c k l) in
    born_has c k ∙ ap is_some at ∙ within_got (births c) k (omega arith)

pub born_exactly : (set : Setup) (c : List Entry) (i : ℕ) → IsLegalRun set c → (is_born c i ≡ true → i < length (numbers c)) × (i < length (numbers c) → is_born c i ≡ true)
born_exactly set c i l = (λ h. born_below set c i l h, λ h. below_born set c i l h)

-- ---- parents

-- a birth that is found has the number, and was found among the births
pub number_of : (c : List Entry) (i : ℕ) (b : Birth) → birth_of c i ≡ Some b → b.child ≡ i
number_of c i b h = by (i == top) h
  where
    found : (bs : List Birth) → find (is_birth_of i) bs ≡ Some b → b.child ≡ i
    found [] e = cc
    found (x ∷ bs) e = at (x.child == i) refl e (found bs)
      where
        at : (t : Bool) → (x.child == i) ≡ t → cond t (Some x) (find (is_birth_of i) bs) ≡ Some b → (find (is_birth_of i) bs ≡ Some b → b.child ≡ i) → b.child ≡ i
        at true is e again = let same : x ≡ b = cc in ap (λ (y : Birth). y.child) (sym same) ∙ eqb-true x.child i is
        at false is e again = again e

    by : (t : Bool) → cond t None (find (is_birth_of i) (births c)) ≡ Some b → b.child ≡ i
    by true e = cc
    by false e = found (births c) e

ParentsFirst : List Entry → Type 0
ParentsFirst c = (i : ℕ) (b : Birth) → birth_of c i ≡ Some b → b.parent < i

some_born : (c : List Entry) (i : ℕ) (b : Birth) → birth_of c i ≡ Some b → is_born c i ≡ true
some_born c i b h = ap (λ o. (i == top) || is_some o) h ∙ or_true (i == top)
  where
    or_true : (t : Bool) → (t || true) ≡ true
    or_true true = refl
    or_true false = refl

module _ (set : Setup) where
  first_step : (xs : List Entry) (e : Entry) → EachAfter (IsLegalRunEntry set) [] xs → IsLegalRunEntry set xs e → ParentsFirst xs → ParentsFirst (xs ++ e ∷ [])
  unfolding ParentsFirst
  first_step xs e before l old i b is = by (is_born xs i) refl
    where
      new : (x : Entry) → IsLegalRunEntry set xs x → begins i x ≡ true → birth_in x ≡ Some b → b.parent < i
      new (entry.Born child parent job label second grant) l now is =
          let one : child ≡ i = eqb-true child i now in
          let same : parent ≡ b.parent = cc in
          let next : child ≡ length (births xs) + 1 = l.grounds.next in
          let there : is_born xs parent ≡ true = (alive xs parent (member_lives set xs l.grounds.due.living parent l.grounds.due.lives l.grounds.due.named)).0 in
          let low : parent < length (numbers xs) = born_below set xs parent before there in
          let n = numbers_count xs in
          omega arith
      new _ l now is = cc

      by : (t : Bool) → is_born xs i ≡ t → b.parent < i
      by true was = old i b (sym (birth_kept xs (e ∷ []) i was) ∙ is)
      by false was =
          let now = born_push xs e i (some_born (xs ++ e ∷ []) i b is) was in
          new e l now (sym (born_is xs e i was now) ∙ is)

  pub parents_first : (c : List Entry) → IsLegalRun set c → (i : ℕ) (b : Birth) → birth_of c i ≡ Some b → b.parent < i
  unfolding ParentsFirst
  parents_first c l = each_along (IsLegalRunEntry set) ParentsFirst first_step [] c tt l none
    where
      none : (i : ℕ) (b : Birth) → birth_of [] i ≡ Some b → b.parent < i
      none i b is = by (i == top) is
        where
          by : (t : Bool) → ◌≡◌ {A = Option Birth} (cond t None None) (Some b) → b.parent < i
          by true is = cc
          by false is = cc

  -- ---- the top

  TopStays : List Entry → Type 0
  TopStays c = is_gone c top ≡ false

  no_end : (xs : List Entry) (e : Entry) → IsLegalRunEntry set xs e → ends top e ≡ false
  no_end xs (entry.Gone child parent job shut) l = false_from_ne_true (top == child) (λ t.
      let same : top ≡ child = eqb-true top child t in
      let m = member set xs l.grounds.living l.grounds.may.lives in
      let is : l.grounds.living ≡ living_in set xs top = m.is ∙ ap (living_in set xs) (l.grounds.named ∙ sym same) in
      let from : ◌≡◌ {A = Option (ℕ × ℕ)} None (Some (parent, job)) = sym (ap (λ x. x.from) is) ∙ l.grounds.from in
      cc)
  no_end xs _ l = refl

  top_step : (xs : List Entry) (e : Entry) → EachAfter (IsLegalRunEntry set) [] xs → IsLegalRunEntry set xs e → TopStays xs → TopStays (xs ++ e ∷ [])
  unfolding TopStays
  top_step xs e before l old = gone_push xs e top ∙ ap₂ (λ a b. a || b) old (no_end xs e l)

  pub top_lives : (c : List Entry) → IsLegalRun set c → lives c top ≡ true
  unfolding TopStays
  top_lives c l = ap not (each_along (IsLegalRunEntry set) TopStays top_step [] c tt l refl)

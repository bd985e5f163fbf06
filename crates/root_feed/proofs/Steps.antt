-- Each kind of step keeps the rule, and tells what it should.
use Rattle.std.proofs.Common.{replicate, ◌≡◌, ◌∙◌, ℕ, zero, suc, ◌+◌, ◌≤◌, ◌<◌, ◌≢◌, ◌⊎◌, inl, inr, true, List, [], ◌∷◌, ◌++◌, set, slice_index, refl, sym, ap, subst, length, ⊎_elim, le_refl, le_trans, arith, length-set, if◌then◌else◌, ◌==◌}
use mathlib.Core.Option.{some, some-injective, some-ne-none}
use lib.ListN.{get_elem?}
use Rattle.std.proofs.lemmas.Bool.Decides.{nat_tests}
use Rattle.atomic_table.specs.Table.{State, Me, keeps, Allows, Splits, Joins}
use Rattle.atomic_table.proofs.Lists.{at_set}
use Rattle.root_feed.specs.declared.rule.Load.{Load}
use Rattle.root_feed.specs.declared.rule.View.{View}
use Rattle.root_feed.specs.Numbers.{IsWithin, AreRising, greater, load_of}
use Rattle.root_feed.specs.Rule.{Keeps, Fits, LoadsWord, StoresWord, reader, heralded, joined, loaded, stored, next_made, first_view}

-- ## Numbers by broker
pub within_itself : (v : List ℕ) → IsWithin v v
within_itself v r = le_refl _

pub within_greater_left : (xs ys : List ℕ) → IsWithin xs (greater xs ys)
within_greater_left [] ys r = omega arith
within_greater_left (x ∷ xs) [] r = le_refl _
within_greater_left (x ∷ xs) (y ∷ ys) zero = omega arith
within_greater_left (x ∷ xs) (y ∷ ys) (suc r) = within_greater_left xs ys r

pub within_greater_right : (xs ys : List ℕ) → IsWithin ys (greater xs ys)
within_greater_right [] ys r = le_refl _
within_greater_right (x ∷ xs) [] r = omega arith
within_greater_right (x ∷ xs) (y ∷ ys) zero = omega arith
within_greater_right (x ∷ xs) (y ∷ ys) (suc r) = within_greater_right xs ys r

pub greater_within : (xs ys words : List ℕ) → IsWithin xs words → IsWithin ys words → IsWithin (greater xs ys) words
greater_within [] ys words p q r = q r
greater_within (x ∷ xs) [] words p q r = p r
greater_within (x ∷ xs) (y ∷ ys) [] p q zero = let a = p zero in let b = q zero in omega arith
greater_within (x ∷ xs) (y ∷ ys) [] p q (suc r) = greater_within xs ys [] (λ k. p (suc k)) (λ k. q (suc k)) r
greater_within (x ∷ xs) (y ∷ ys) (w ∷ ws) p q zero = let a = p zero in let b = q zero in omega arith
greater_within (x ∷ xs) (y ∷ ys) (w ∷ ws) p q (suc r) = greater_within xs ys ws (λ k. p (suc k)) (λ k. q (suc k)) r

pub set_up : (words : List ℕ) (i n : ℕ) → slice_index words i ≤ n → IsWithin words (set words i n)
set_up [] i n h r = le_refl _
set_up (x ∷ xs) zero n h zero = h
set_up (x ∷ xs) zero n h (suc r) = le_refl _
set_up (x ∷ xs) (suc i) n h zero = le_refl _
set_up (x ∷ xs) (suc i) n h (suc r) = set_up xs i n h r

pub set_here : (words : List ℕ) (i n : ℕ) → i < length words → slice_index (set words i n) i ≡ n
set_here [] i n h = absurd (omega arith)
set_here (x ∷ xs) zero n h = refl
set_here (x ∷ xs) (suc i) n h = set_here xs i n (omega arith)

pub set_else : (words : List ℕ) (i n r : ℕ) → r ≢ i → slice_index (set words i n) r ≡ slice_index words r
set_else [] i n r d = refl
set_else (x ∷ xs) zero n zero d = absurd (d refl)
set_else (x ∷ xs) zero n (suc r) d = refl
set_else (x ∷ xs) (suc i) n zero d = refl
set_else (x ∷ xs) (suc i) n (suc r) d = set_else xs i n r (λ e. d (ap suc e))

pub set_self : (words : List ℕ) (i : ℕ) → set words i (slice_index words i) ≡ words
set_self [] i = refl
set_self (x ∷ xs) zero = refl
set_self (x ∷ xs) (suc i) = ap (λ (ys : List ℕ). x ∷ ys) (set_self xs i)

-- ## Places in lists
module _ {A : Type 0} where
  pub none_at : (j : ℕ) (b : A) → get_elem? [] j ≡ some b → ⊥
  none_at zero b e = some-ne-none b (sym e)
  none_at (suc j) b e = some-ne-none b (sym e)

  -- the last of a list one longer stands at its old length
  pub at_end : (l : List A) (a b : A) (j : ℕ) → get_elem? (l ++ a ∷ []) j ≡ some b → (get_elem? l j ≡ some b) ⊎ ((j ≡ length l) × (a ≡ b))
  at_end [] a b zero e = inr (refl, some-injective a b e)
  at_end [] a b (suc j) e = absurd (some-ne-none b (sym e))
  at_end (x ∷ xs) a b zero e = inl e
  at_end (x ∷ xs) a b (suc j) e = ⊎_elim (λ t. inl t) (λ t. inr (ap suc t.0, t.1)) (at_end xs a b j e)

  -- what stands somewhere stands below the length
  pub at_inside : (l : List A) (b : A) (j : ℕ) → get_elem? l j ≡ some b → j < length l
  at_inside [] b zero e = absurd (some-ne-none b (sym e))
  at_inside [] b (suc j) e = absurd (some-ne-none b (sym e))
  at_inside (x ∷ xs) b zero e = omega arith
  at_inside (x ∷ xs) b (suc j) e = let h = at_inside xs b j e in omega arith

-- ## Loads
abbrev pub AreKnown : List Load → List ℕ → Type 0
AreKnown loads seen = (i : ℕ) (l : Load) → get_elem? loads i ≡ some l → l.number ≤ slice_index seen l.broker

pub known_none : (seen : List ℕ) → AreKnown [] seen
known_none seen i l e = absurd (none_at i l e)

pub rising_none : AreRising []
rising_none i j a b lt e = absurd (none_at i a e)

pub known_up : (loads : List Load) (seen more : List ℕ) → IsWithin seen more → AreKnown loads seen → AreKnown loads more
known_up loads seen more up known i l e = le_trans (known i l e) (up l.broker)

pub known_more : (loads : List Load) (seen : List ℕ) (word n : ℕ) → AreKnown loads seen → n ≤ slice_index seen word → AreKnown (loads ++ load_of word n ∷ []) seen
known_more loads seen word n known h i l e =
    ⊎_elim (known i l) (λ (t : (i ≡ length loads) × (load_of word n ≡ l)). subst (λ (m : Load). m.number ≤ slice_index seen m.broker) t.1 h) (at_end loads (load_of word n) l i e)

pub rising_more : (loads : List Load) (word n : ℕ) → AreRising loads → ((i : ℕ) (l : Load) → get_elem? loads i ≡ some l → l.broker ≡ word → l.number ≤ n) → AreRising (loads ++ load_of word n ∷ [])
rising_more loads word n rising top i j a b lt ea eb same =
    ⊎_elim
    (λ (there : get_elem? loads j ≡ some b). let inside = at_inside loads b j there in ⊎_elim (λ (ta : get_elem? loads i ≡ some a). rising i j a b lt ta there same)
    (λ (ta : (i ≡ length loads) × (load_of word n ≡ a)). absurd (omega (arith, ta.0, inside))) (at_end loads (load_of word n) a i ea))
    (λ (tb : (j ≡ length loads) × (load_of word n ≡ b)). ⊎_elim (λ (ta : get_elem? loads i ≡ some a). subst (λ (m : Load). a.broker ≡ m.broker → a.number ≤ m.number) tb.1 (λ s. top i a ta s) same)
    (λ (ta : (i ≡ length loads) × (load_of word n ≡ a)). absurd (omega (arith, ta.0, tb.0))) (at_end loads (load_of word n) a i ea))
    (at_end loads (load_of word n) b j eb)

-- ## Seats
-- a view that stands after one was put at id: that one, or another that was there
cases_at : (views : List View) (id j : ℕ) (w v : View) (P : ℕ → View → Type 0) → P id w → (j ≢ id → get_elem? views j ≡ some v → P j v) → get_elem? (set views id w) j ≡ some v → P j v
cases_at views id j w v P here there e =
    ⊎_elim (λ (t : (j ≡ id) × (w ≡ v)). subst (λ (z : View). P j z) t.1 (subst (λ (k : ℕ). P k w) (sym t.0) here)) (λ (t : (j ≢ id) × (get_elem? views j ≡ some v)). there t.0 t.1) (at_set views id j w v e)

-- a seat's view changes to another that fits
pub one_more : (count id : ℕ) (w : View) (s : State (Unit {0}) View) (k : Keeps count s) → Fits s.words k.owner k.maker k.made id w
    → Keeps count record { words = s.words; homes = s.homes; views = set s.views id w }
one_more count id w s k f = record {
  owner = k.owner;
  maker = k.maker;
  made = k.made;
  wide = k.wide;
  rest = k.rest;
  each = λ j v e. cases_at s.views id j w v (λ j v. Fits s.words k.owner k.maker k.made j v) f (λ n t. k.each j v t) e;
}

pub fits_reader : (words seen : List ℕ) (owner : ℕ → ℕ) (maker made seat : ℕ) → IsWithin seen words → Fits words owner maker made seat (reader seen)
fits_reader words seen owner maker made seat b = record { seen = b; known = known_none seen; rising = rising_none; herald = λ t. cc; chief = λ t. cc }

-- the words and the first seat at the start
pub starts : (count : ℕ) (words : List ℕ) → length words ≡ count → ((r : ℕ) → slice_index words r ≡ 0) → Keeps count record { words = words; homes = []; views = first_view ∷ [] }
starts count words len none = record {
  owner = λ b. 0;
  maker = 0;
  made = 0;
  wide = len;
  rest = λ b le. none b;
  each = λ j v e. first_fits j v e;
} where
  first_fits : (j : ℕ) (v : View) → get_elem? (first_view ∷ []) j ≡ some v → Fits words (λ b. 0) 0 0 j v
  first_fits zero v e = subst (λ (z : View). Fits words (λ b. 0) 0 0 zero z) (some-injective first_view v e)
      record { seen = λ r. omega arith; known = known_none []; rising = rising_none; herald = λ t. cc; chief = λ t. (refl, refl) }
  first_fits (suc j) v e = absurd (none_at j v e)

-- ## Steps
pub loads : (slots id i count : ℕ) (me : Me (Unit {0}) View) → i < count
    → Allows (Keeps count) slots id me i (λ n. n) (λ found after. LoadsWord i me.0 found after.0 × (after.1 ≡ me.1))
loads slots id i count me inside s k homes e fits =
    let n = slice_index s.words i in
    let w = loaded me.0 i n s.words in
    let old = k.each id me.0 e in
    let same : set s.words i n ≡ s.words = set_self s.words i in
    let P : List ℕ → Type 0 = λ ws. Keeps count record { words = ws; homes = s.homes; views = set s.views id w } in
    let known : AreKnown me.0.loads s.words = known_up me.0.loads me.0.seen s.words old.seen old.known in
    let rising : AreRising (me.0.loads ++ load_of i n ∷ []) = rising_more me.0.loads i n old.rising (λ j l t b. subst (λ (r : ℕ). l.number ≤ slice_index s.words r) b (known j l t)) in
    let new : Fits s.words k.owner k.maker k.made id w = record {
      seen = within_itself s.words;
      known = known_more me.0.loads s.words i n known (le_refl n);
      rising = rising;
      herald = old.herald;
      chief = old.chief;
    } in
    (w, keeps, tt, subst P (sym same) (one_more count id w s k new), ((refl, old.seen, refl, rising, λ t b. ap (slice_index s.words) (sym b) ∙ (old.herald t).2), refl))

pub forks : (count id : ℕ) (v : View) → Splits (Keeps count) id v v (reader v.seen)
forks count id v s k e =
    let old = k.each id v e in
    record {
      owner = k.owner;
      maker = k.maker;
      made = k.made;
      wide = k.wide;
      rest = k.rest;
      each = λ j u at. ⊎_elim (λ (was : get_elem? (set s.views id v) j ≡ some u). cases_at s.views id j v u (λ j v. Fits s.words k.owner k.maker k.made j v) old (λ n t. k.each j u t) was)
          (λ (t : (j ≡ length (set s.views id v)) × (reader v.seen ≡ u)). subst (λ (z : View). Fits s.words k.owner k.maker k.made j z) t.1 (fits_reader s.words v.seen k.owner k.maker k.made j old.seen))
          (at_end (set s.views id v) (reader v.seen) u j at);
    }

pub joins : (count id other : ℕ) (v w : View) → Joins (Keeps count) id v other w (joined v w) (reader [])
unfolding one_more
joins count id other v w s k e apart there =
    let both = joined v w in
    let old = k.each id v e in
    let told : IsWithin w.seen s.words = cases_at s.views id other both w (λ j u. (j ≢ id) → IsWithin u.seen s.words) (λ n. absurd (n refl)) (λ n t m. (k.each other w t).seen) there apart in
    let new : Fits s.words k.owner k.maker k.made id both = record {
      seen = greater_within v.seen w.seen s.words old.seen told;
      known = known_up v.loads v.seen (greater v.seen w.seen) (within_greater_left v.seen w.seen) old.known;
      rising = old.rising;
      herald = old.herald;
      chief = old.chief;
    } in
    let next = one_more count id both s k new in
    one_more count other (reader []) record { words = s.words; homes = s.homes; views = set s.views id both } next (fits_reader s.words [] k.owner k.maker k.made other (λ r. omega arith))

-- a choice by a number: below it the old, and at it the new
chosen : (m x : ℕ) (f : ℕ → ℕ) → ℕ → ℕ
chosen m x f b = if b == m then x else f b

chosen_old : (m x b : ℕ) (f : ℕ → ℕ) → b < m → chosen m x f b ≡ f b
unfolding chosen
chosen_old m x b f h = grind (arith, nat_tests)

chosen_here : (m x : ℕ) (f : ℕ → ℕ) → chosen m x f m ≡ x
unfolding chosen
chosen_here m x f = grind (arith, nat_tests)

-- what fitted fits with one more herald, unless it makes heralds
kept_on : (words : List ℕ) (owner : ℕ → ℕ) (maker made x j : ℕ) (v : View) → (v.is_maker ≡ true → ⊥) → Fits words owner maker made j v → Fits words (chosen made x owner) maker (made + 1) j v
kept_on words owner maker made x j v idle f = record {
  seen = f.seen;
  known = f.known;
  rising = f.rising;
  herald = λ t. let h = f.herald t in (chosen_old made x v.broker owner h.1 ∙ h.0, omega arith, h.2);
  chief = λ t. absurd (idle t);
}

pub makes : (count id : ℕ) (v : View) → v.is_maker ≡ true → Splits (Keeps count) id v (next_made v) (heralded v.made v.seen)
makes count id v is s k e =
    let old = k.each id v e in
    let mine = old.chief is in
    let end = length (set s.views id (next_made v)) in
    let owner : ℕ → ℕ = chosen k.made end k.owner in
    let left : Fits s.words owner k.maker (k.made + 1) id (next_made v) = record {
      seen = old.seen;
      known = old.known;
      rising = old.rising;
      herald = λ t. let h = old.herald t in (chosen_old k.made end v.broker k.owner h.1 ∙ h.0, omega arith, h.2);
      chief = λ t. (mine.0, ap (λ (n : ℕ). n + 1) mine.1);
    } in
    let right : Fits s.words owner k.maker (k.made + 1) end (heralded v.made v.seen) = record {
      seen = old.seen;
      known = known_none v.seen;
      rising = rising_none;
      herald = λ t. (ap owner mine.1 ∙ chosen_here k.made end k.owner, omega (arith, mine.1), ap (slice_index s.words) mine.1 ∙ k.rest k.made (le_refl k.made));
      chief = λ t. cc;
    } in
    record {
      owner = owner;
      maker = k.maker;
      made = k.made + 1;
      wide = k.wide;
      rest = λ b le. k.rest b (omega arith);
      each = λ j u at. ⊎_elim (λ (was : get_elem? (set s.views id (next_made v)) j ≡ some u).
          cases_at s.views id j (next_made v) u (λ j v. Fits s.words owner k.maker (k.made + 1) j v) left
          (λ n t. kept_on s.words k.owner k.maker k.made end j u (λ m. n (sym ((k.each j u t).chief m).0 ∙ mine.0)) (k.each j u t)) was)
          (λ (t : (j ≡ end) × (heralded v.made v.seen ≡ u)). subst (λ (z : View). Fits s.words owner k.maker (k.made + 1) j z) t.1
          (subst (λ (i : ℕ). Fits s.words owner k.maker (k.made + 1) i (heralded v.made v.seen)) (sym t.0) right))
          (at_end (set s.views id (next_made v)) (heralded v.made v.seen) u j at);
    }

pub stores : (slots id i n count : ℕ) (me : Me (Unit {0}) View) → i < count → me.0.is_herald ≡ true → me.0.broker ≡ i → me.0.number ≤ n
    → Allows (Keeps count) slots id me i (λ _. n) (λ found after. StoresWord i me.0 n after.0 × (after.1 ≡ me.1))
stores slots id i n count me inside writes broker up s k homes e fits =
    let words = set s.words i n in
    let w = stored me.0 n words in
    let old = k.each id me.0 e in
    let mine = old.herald writes in
    let was : slice_index s.words i ≡ me.0.number = ap (slice_index s.words) (sym broker) ∙ mine.2 in
    let higher : IsWithin s.words words = set_up s.words i n (omega arith) in
    let here : slice_index words i ≡ n = set_here s.words i n (rw k.wide inside) in
    let wider : IsWithin me.0.seen words = λ r. le_trans (old.seen r) (higher r) in
    let new : Fits words k.owner k.maker k.made id w = record {
      seen = within_itself words;
      known = known_up me.0.loads me.0.seen words wider old.known;
      rising = old.rising;
      herald = λ t. (mine.0, mine.1, ap (slice_index words) broker ∙ here);
      chief = old.chief;
    } in
    let other : (j : ℕ) (v : View) → j ≢ id → Fits s.words k.owner k.maker k.made j v → Fits words k.owner k.maker k.made j v = λ j v d f. record {
      seen = λ r. le_trans (f.seen r) (higher r);
      known = f.known;
      rising = f.rising;
      herald = λ t. let h = f.herald t in (h.0, h.1, set_else s.words i n v.broker (λ same. d (sym h.0 ∙ (ap k.owner (same ∙ sym broker) ∙ mine.0))) ∙ h.2);
      chief = f.chief;
    } in (
      w,
      keeps,
      tt,
      record {
        owner = k.owner;
        maker = k.maker;
        made = k.made;
        wide = rw length-set k.wide;
        rest = λ b le. set_else s.words i n b (λ same. absurd (omega arith)) ∙ k.rest b le;
        each = λ j v at. cases_at s.views id j w v (λ j v. Fits words k.owner k.maker k.made j v) new (λ d t. other j v d (k.each j v t)) at;
      },
      ((here, wider, refl), refl),
    )

-- so many words of 0
pub zeros : (n r : ℕ) → slice_index (replicate n 0) r ≡ 0
zeros zero zero = refl
zeros zero (suc r) = refl
zeros (suc n) zero = refl
zeros (suc n) (suc r) = zeros n r

-- The actors' places behind what has happened.
use Rattle.std.proofs.Common.{◌≡◌, ◌∙◌, ℕ, ◌+◌, ◌-◌, ◌<◌, ◌≤◌, inl, inr, List, [], ◌∷◌, ◌++◌, Bool, true, false, cond, count_by, refl, sym, ap, ap₂, subst, arith}
use Rattle.std.specs.Prelude.{Some, find, nat_lt, option_map, slice_get, slice_set}
use Rattle.std.specs.List.{AllByRecursion as Each}
use Rattle.std.proofs.lemmas.Bool.{cases_lt, le-ltb, lt-ltb}
use Rattle.std.proofs.lemmas.List.{length-set}
use Rattle.std.proofs.lemmas.List.Sums.{sum_by-append, sum_by-cons}
use Rattle.instance.specs.kvs_txn.declared.txn.By.{By}
use Rattle.instance.specs.answers.Chronicle.{Setup, issues_of, replies_to}
use Rattle.instance.specs.answers.declared.chronicle.Entry.{Entry}
use Rattle.hierarchy.specs.Births.{birth_of, is_at, label_of, numbers}
use Rattle.homes.specs.Homes.{ArePlaces, IsNextLine, IsPlace, answered, home_in}
use Rattle.homes.specs.declared.homes.Place.{Place}
use Rattle.homes.proofs.Standing.{decided, same_item, set_here, set_other}

abbrev pub by_of : ℕ → ℕ → By
by_of actor k = record { actor = actor; command = k }

pub counts_joined : (p : Entry → Bool) (xs ys : List Entry) → count_by p (xs ++ ys) ≡ count_by p xs + count_by p ys
counts_joined p xs ys = sum_by-append (λ x. cond (p x) 1 0) xs ys

pub none_pass : (p : Entry → Bool) (es : List Entry) → Each (λ e. p e ≡ false) es → count_by p es ≡ 0
none_pass p [] h = refl
none_pass p (e ∷ es) h = sum_by-cons (λ x. cond (p x) 1 0) e es ∙ ap₂ (λ b n. cond b 1 0 + n) h.0 (none_pass p es h.1)

-- ---- entries that are no act of an actor

-- the entry neither issues a command of the actor nor replies to one
pub record IsSilent (actor : ℕ) (e : Entry) : Type 0 where
  pub issues : issues_of actor e ≡ false
  pub replies : (k : ℕ) → replies_to (by_of actor k) e ≡ false

-- none of these is an act of the actor
pub record AreSilent (actor : ℕ) (es : List Entry) : Type 0 where
  pub issues : count_by (issues_of actor) es ≡ 0
  pub replies : (k : ℕ) → count_by (replies_to (by_of actor k)) es ≡ 0

pub all_silent : (actor : ℕ) (es : List Entry) → Each (IsSilent actor) es → AreSilent actor es
all_silent actor es h = record {
  issues = none_pass (issues_of actor) es (issueless es h);
  replies = λ k. none_pass (replies_to (by_of actor k)) es (replyless k es h);
}
  where
    issueless : (es : List Entry) → Each (IsSilent actor) es → Each (λ e. issues_of actor e ≡ false) es
    issueless [] h = tt
    issueless (e ∷ es) h = (h.0.issues, issueless es h.1)

    replyless : (k : ℕ) (es : List Entry) → Each (IsSilent actor) es → Each (λ e. replies_to (by_of actor k) e ≡ false) es
    replyless k [] h = tt
    replyless k (e ∷ es) h = (h.0.replies k, replyless k es h.1)

-- ---- where an actor's instance is

-- actors are at home where they were, as long as no instance is born
pub home_stays : (set : Setup) (c more : List Entry) (actor : ℕ) → numbers (c ++ more) ≡ numbers c → ((k : ℕ) → birth_of (c ++ more) k ≡ birth_of c k) → home_in set (c ++ more) actor ≡ home_in set c actor
home_stays set c more actor numbered births =
    ap (find (λ i. is_at set.work.actors (label_of (c ++ more) i) actor)) numbered
    ∙ found (numbers c)
  where
    found : (ns : List ℕ) → find (λ i. is_at set.work.actors (label_of (c ++ more) i) actor) ns ≡ find (λ i. is_at set.work.actors (label_of c i) actor) ns
    found [] = refl
    found (n ∷ ns) = ap₂ (λ b rest. cond (is_at set.work.actors (option_map (λ o. o.label) b) actor) (Some n) rest) (births n) (found ns)

module _ (set : Setup) (c more : List Entry) (actor : ℕ) (home : home_in set (c ++ more) actor ≡ home_in set c actor) (p : Place) (old : IsPlace set c actor p) where
  -- the place of an actor that does nothing stays
  pub place_stays : AreSilent actor more → IsPlace set (c ++ more) actor p
  place_stays silent = record {
    home = old.home ∙ sym home;
    issued = (let all = counts_joined (issues_of actor) c more in let was = old.issued in let none = silent.issues in omega arith);
    next = old.next;
    begun = old.begun;
    replied = λ k. counts_joined (replies_to (by_of actor k)) c more
        ∙ ap₂ (λ a b. a + b) (old.replied k) (silent.replies k)
        ∙ plus_none (cond (nat_lt k (answered p)) 1 0);
  }
    where
      plus_none : (n : ℕ) → n + 0 ≡ n
      plus_none n = omega arith

  -- its last command is replied: nothing is issued, one command has a reply more, and the first ones
  -- have one reply each, of which there are no more than commands
  pub place_replied : count_by (issues_of actor) more ≡ 0 → (k : ℕ) → 1 ≤ count_by (replies_to (by_of actor k)) more
      → (told : ℕ) → told ≤ p.issued → ((k : ℕ) → count_by (replies_to (by_of actor k)) (c ++ more) ≡ cond (nat_lt k told) 1 0)
      → IsPlace set (c ++ more) actor (record p { waits = false })
  place_replied unissued k one told few counted = record {
    home = old.home ∙ sym home;
    issued = (let all = counts_joined (issues_of actor) c more in let was = old.issued in omega arith);
    next = old.next;
    begun = λ e. cc;
    replied = subst (λ n. (k : ℕ) → count_by (replies_to (by_of actor k)) (c ++ more) ≡ cond (nat_lt k n) 1 0) whole counted;
  }
    where
      all_but_one : p.issued ≤ answered p + 1
      all_but_one = by p.waits
        where
          by : (b : Bool) → p.issued ≤ cond b (p.issued - 1) p.issued + 1
          by true = omega arith
          by false = omega arith

      behind : k < told
      behind = elim (cases_lt k told) [
        | inl below ↦ below
        | inr past ↦
            let none : count_by (replies_to (by_of actor k)) (c ++ more) ≡ 0 = counted k ∙ ap (λ b. cond b 1 0) (le-ltb k told past) in
            let all = counts_joined (replies_to (by_of actor k)) c more in
            absurd (omega arith)
      ]

      before : answered p ≤ k
      before = elim (cases_lt k (answered p)) [
        | inl below ↦
            let some : count_by (replies_to (by_of actor k)) c ≡ 1 = old.replied k ∙ ap (λ b. cond b 1 0) (lt-ltb k (answered p) below) in
            let now : count_by (replies_to (by_of actor k)) (c ++ more) ≡ 1 = counted k ∙ ap (λ b. cond b 1 0) (lt-ltb k told behind) in
            let all = counts_joined (replies_to (by_of actor k)) c more in
            absurd (omega arith)
        | inr past ↦ past
      ]

      whole : told ≡ p.issued
      whole = let a = all_but_one in let b = behind in let d = before in omega arith

  -- its next command is issued, and its next line behind that is this one
  pub place_issued : p.waits ≡ false → count_by (issues_of actor) more ≡ 1 → ((k : ℕ) → count_by (replies_to (by_of actor k)) more ≡ 0)
      → (next : ℕ) → IsNextLine set.work.lines actor (p.issued + 1) next
      → IsPlace set (c ++ more) actor (record { home = p.home; next = next; issued = p.issued + 1; waits = true })
  place_issued free one none next line = record {
    home = old.home ∙ sym home;
    issued = (let all = counts_joined (issues_of actor) c more in let was = old.issued in omega arith);
    next = line;
    begun = λ e. omega arith;
    replied = λ k. counts_joined (replies_to (by_of actor k)) c more
        ∙ ap₂ (λ a b. a + b) (old.replied k ∙ ap (λ b. cond (nat_lt k (cond b (p.issued - 1) p.issued)) 1 0) free) (none k)
        ∙ same k;
  }
    where
      one_less : p.issued ≡ p.issued + 1 - 1
      one_less = omega arith

      same : (k : ℕ) → cond (nat_lt k p.issued) 1 0 + 0 ≡ cond (nat_lt k (p.issued + 1 - 1)) 1 0
      same k = plus_none (cond (nat_lt k p.issued) 1 0) ∙ ap (λ n. cond (nat_lt k n) 1 0) one_less
        where
          plus_none : (n : ℕ) → n + 0 ≡ n
          plus_none n = omega arith

-- ---- the places of all

module _ (set : Setup) (c more : List Entry) (numbered : numbers (c ++ more) ≡ numbers c) (births : (k : ℕ) → birth_of (c ++ more) k ≡ birth_of c k)
    (places : List Place) (all : ArePlaces set c places) where
  -- nobody does anything
  pub places_stay : ((actor : ℕ) → AreSilent actor more) → ArePlaces set (c ++ more) places
  places_stay silent = record {
    all = all.all;
    each = λ actor p e. place_stays set c more actor (home_stays set c more actor numbered births) p (all.each actor p e) (silent actor);
  }

  -- nobody but one actor does anything
  pub places_behind : (actor : ℕ) (p new : Place) → slice_get places actor ≡ Some p → ((other : ℕ) → (other ≡ actor → ⊥) → AreSilent other more)
      → IsPlace set (c ++ more) actor new → ArePlaces set (c ++ more) (slice_set places actor new)
  places_behind actor p new here silent is = record {
    all = length-set places actor new ∙ all.all;
    each = λ a q e. elim (decided a actor) [
      | inl same ↦
          let at : slice_get (slice_set places actor new) actor ≡ Some q = ap (slice_get (slice_set places actor new)) (sym same) ∙ e in
          let one_is : new ≡ q = same_item new q (sym (set_here places actor p new here) ∙ at) in
          subst (λ n. IsPlace set (c ++ more) n q) (sym same) (subst (IsPlace set (c ++ more) actor) one_is is)
      | inr other ↦
          let was : slice_get places a ≡ Some q = sym (set_other places actor a new other) ∙ e in
          place_stays set c more a (home_stays set c more a numbered births) q (all.each a q was) (silent a other)
    ];
  }

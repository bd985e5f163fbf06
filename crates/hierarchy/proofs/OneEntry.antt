-- How a run grows by one entry.
use Rattle.std.proofs.Common.{◌≡◌, ℕ, ◌+◌, ◌==◌, inl, inr, List, [], ◌∷◌, ◌++◌, Bool, true, false, cond, not, ◌&&◌, ◌||◌, Option, Some, None, is_some, option_map, map, count_by, refl, sym, ap, ap₂, ◌∙◌, subst, append-nil, true≢false, bytes_eq}
use Rattle.std.specs.Prelude.{IfSome, find, if◌then◌else◌}
use Rattle.std.specs.List.{AllByRecursion as Each, cons_option, list_any}
use Rattle.std.proofs.lemmas.Bool.{and_parts, eq-eqb, eqb-true, or_cases, or_parts}
use Rattle.std.proofs.lemmas.List.Folds.{list_any-append}
use Rattle.std.proofs.lemmas.List.Sums.{sum_by-append, sum_by-cons}
use Rattle.kvs_txn.specs.declared.txn.By.{By}
use Rattle.kvs_rules.proofs.Sequences.{each_push}
use Rattle.resource_set.proofs.Booleans.{same_name}
use Rattle.workload.specs.Actors.{are_together, home_of}
use Rattle.workload.specs.declared.work.Actor.{Actor}
use Rattle.answers.specs.Chronicle.{Setup, issues_of, replies_to, top}
use Rattle.answers.specs.Legal.{IsLegal, IsLegalEntry}
use Rattle.answers.specs.Whole.{IsEarlierEntry, has_ended, is_closing}
use Rattle.answers.specs.declared.chronicle.Entry.{Entry}
use Rattle.answers.specs.declared.chronicle.Entry.TheVariants as entry
use Rattle.answers.specs.declared.chronicle.Reply.{Reply}
use Rattle.answers.specs.declared.chronicle.Reply.TheVariants as reply
use Rattle.hierarchy.specs.Births.{birth_in, birth_of, births, ends, has_home, has_living_home, has_lost_home, is_at, is_birth_of, is_born, is_gone, is_homed, label_of, lives, numbers}
use Rattle.hierarchy.specs.Growing.{ActsAlike, AreLabelled, GoesOn, HasNotActed, IsMadeIn}
use Rattle.hierarchy.specs.Legal.{AreOwnLegal, HasHomeFor, HasRunGrounds, IsLegalRun, IsLegalRunEntry, is_end}
use Rattle.hierarchy.specs.Own.{only_if, own_entry, own_of, setup_in}
use Rattle.hierarchy.specs.Stretches.{entered_in}
use Rattle.hierarchy.proofs.Members.{gone_was_born}
use Rattle.hierarchy.proofs.Owning.{alive, births_push, gone_push, own_push, setup_kept}

-- ---- what an own chronicle sees of its actors

-- what passes in the run passes in the own chronicle too
abbrev Sees : (Entry → Bool) → Option Entry → Entry → Type 0
Sees p None e = p e ≡ false
Sees p (Some f) e = p f ≡ p e

only_sees : (p : Entry → Bool) (b : Bool) (f e : Entry) → p f ≡ p e → (b ≡ false → p e ≡ false) → Sees p (only_if b f) e
only_sees p true f e same none = same
only_sees p false f e same none = none refl

count_seen : (p : Entry → Bool) (o : Option Entry) (e : Entry) → Sees p o e → count_by p (cons_option o []) ≡ count_by p (e ∷ [])
count_seen p None e h = ap (λ b. count_of b) (sym h)
  where
    count_of : Bool → ℕ
    count_of b = 0 + cond b 1 0
count_seen p (Some f) e h = ap (λ b. 0 + cond b 1 0) h

-- where none passes there are none
pub count_none : (p : Entry → Bool) (xs : List Entry) → list_any p xs ≡ false → count_by p xs ≡ 0
count_none p [] h = refl
count_none p (x ∷ xs) h =
    let parts = or_parts (p x) (list_any p xs) h in
    sum_by-cons (λ x. cond (p x) 1 0) x xs ∙ ap₂ (λ b n. cond b 1 0 + n) parts.0 (count_none p xs parts.1)

any_seen : (p : Entry → Bool) (o : Option Entry) (e : Entry) → Sees p o e → list_any p (cons_option o []) ≡ list_any p (e ∷ [])
any_seen p None e h = ap (λ b. b || false) (sym h)
any_seen p (Some f) e h = ap (λ b. b || false) h

-- no actor of the instance is told apart from itself
other_actor : (actors : List Actor) (label : Option (List ℕ)) (actor a : ℕ) → is_at actors label actor ≡ true → is_at actors label a ≡ false → (actor == a) ≡ false
other_actor actors label actor a here there = by (actor == a) refl
  where
    by : (b : Bool) → (actor == a) ≡ b → b ≡ false
    by false is = refl
    by true is = absurd (true≢false (sym here ∙ ap (is_at actors label) (eqb-true actor a is) ∙ there))

module _ (actors : List Actor) (label : Option (List ℕ)) (i actor : ℕ) (here : is_at actors label actor ≡ true) where
  sees_issues : (e : Entry) → Sees (issues_of actor) (own_entry actors label i e) e
  sees_issues (entry.Issued a command) = only_sees (issues_of actor) (is_at actors label a) _ _ refl (other_actor actors label actor a here)
  sees_issues (entry.Landed instance space number authors groups) = only_sees (issues_of actor) (instance == i) _ _ refl (λ no. refl)
  sees_issues (entry.Denied instance space authors group refusal) = only_sees (issues_of actor) (instance == i) _ _ refl (λ no. refl)
  sees_issues (entry.Heard instance broker space number) = only_sees (issues_of actor) (instance == i) _ _ refl (λ no. refl)
  sees_issues (entry.Got instance broker reference) = only_sees (issues_of actor) (instance == i) _ _ refl (λ no. refl)
  sees_issues (entry.Dropped instance broker reference) = only_sees (issues_of actor) (instance == i) _ _ refl (λ no. refl)
  sees_issues (entry.Replied a command given number) = only_sees (issues_of actor) (is_at actors label a) _ _ refl (λ no. refl)
  sees_issues (entry.Told from to) = only_sees (issues_of actor) (is_at actors label from) _ _ refl (λ no. refl)
  sees_issues (entry.Ticked second) = refl
  sees_issues (entry.Born child parent job name second grant) = only_sees (issues_of actor) (parent == i) _ _ refl (λ no. refl)
  sees_issues (entry.Gone child parent job shut) = only_sees (issues_of actor) (parent == i) _ _ refl (λ no. refl)
  sees_issues (entry.Watched a command number first count) = only_sees (issues_of actor) (is_at actors label a) _ _ refl (λ no. refl)
  sees_issues entry.Closed = refl

  sees_replies : (k : ℕ) (e : Entry) → Sees (replies_to (record { actor = actor; command = k })) (own_entry actors label i e) e
  sees_replies k (entry.Issued a command) = only_sees (replies_to (record { actor = actor; command = k })) (is_at actors label a) _ _ refl (λ no. refl)
  sees_replies k (entry.Landed instance space number authors groups) = only_sees (replies_to (record { actor = actor; command = k })) (instance == i) _ _ refl (λ no. refl)
  sees_replies k (entry.Denied instance space authors group refusal) = only_sees (replies_to (record { actor = actor; command = k })) (instance == i) _ _ refl (λ no. refl)
  sees_replies k (entry.Heard instance broker space number) = only_sees (replies_to (record { actor = actor; command = k })) (instance == i) _ _ refl (λ no. refl)
  sees_replies k (entry.Got instance broker reference) = only_sees (replies_to (record { actor = actor; command = k })) (instance == i) _ _ refl (λ no. refl)
  sees_replies k (entry.Dropped instance broker reference) = only_sees (replies_to (record { actor = actor; command = k })) (instance == i) _ _ refl (λ no. refl)
  sees_replies k (entry.Replied a command given number) = only_sees (replies_to (record { actor = actor; command = k })) (is_at actors label a) _ _ refl
      (λ no. ap (λ b. b && (k == command)) (other_actor actors label actor a here no))
  sees_replies k (entry.Told from to) = only_sees (replies_to (record { actor = actor; command = k })) (is_at actors label from) _ _ refl (λ no. refl)
  sees_replies k (entry.Ticked second) = refl
  sees_replies k (entry.Born child parent job name second grant) = only_sees (replies_to (record { actor = actor; command = k })) (parent == i) _ _ refl (λ no. refl)
  sees_replies k (entry.Gone child parent job shut) = only_sees (replies_to (record { actor = actor; command = k })) (parent == i) _ _ refl (λ no. refl)
  sees_replies k (entry.Watched a command number first count) = only_sees (replies_to (record { actor = actor; command = k })) (is_at actors label a) _ _ refl (λ no. refl)
  sees_replies k entry.Closed = refl

  -- what its actors do stands in the own chronicle behind the entry too
  pub alike_push : (own c : List Entry) (e : Entry) → ActsAlike own c actor → ActsAlike (own ++ cons_option (own_entry actors label i e) []) (c ++ e ∷ []) actor
  alike_push own c e h =
      let o = own_entry actors label i e in
      record {
        issued = sum_by-append (λ x. cond (issues_of actor x) 1 0) own (cons_option o [])
            ∙ ap₂ (λ a b. a + b) h.issued (count_seen (issues_of actor) o e (sees_issues e))
            ∙ sym (sum_by-append (λ x. cond (issues_of actor x) 1 0) c (e ∷ []));
        replied = λ k.
            let p = replies_to (record { actor = actor; command = k }) in
            list_any-append p own (cons_option o []) ∙ ap₂ (λ a b. a || b) (h.replied k) (any_seen p o e (sees_replies k e)) ∙ sym (list_any-append p c (e ∷ []));
        counted = λ k.
            let p = replies_to (record { actor = actor; command = k }) in
            sum_by-append (λ x. cond (p x) 1 0) own (cons_option o []) ∙ ap₂ (λ a b. a + b) (h.counted k) (count_seen p o e (sees_replies k e)) ∙ sym (sum_by-append (λ x. cond (p x) 1 0) c (e ∷ []));
      }

-- ---- homes

pub together_all : (home one two : Option (List ℕ)) → are_together home one ≡ true → are_together home two ≡ true → are_together one two ≡ true
together_all None None None h g = refl
together_all None None (Some b) h g = absurd (true≢false (sym g))
together_all None (Some a) two h g = absurd (true≢false (sym h))
together_all (Some x) None two h g = absurd (true≢false (sym h))
together_all (Some x) (Some a) None h g = absurd (true≢false (sym g))
together_all (Some x) (Some a) (Some b) h g = subst (λ n. bytes_eq n b ≡ true) (same_name x a h) g

-- an actor has one home
pub one_home : (actors : List Actor) (c : List Entry) → AreLabelled c → (i k actor : ℕ) → is_born c i ≡ true → is_born c k ≡ true
    → is_at actors (label_of c i) actor ≡ true → is_at actors (label_of c k) actor ≡ true → i ≡ k
one_home actors c apart i k actor bi bk hi hk = apart i k bi bk (together_all (home_of actors actor) (label_of c i) (label_of c k) hi hk)

-- ---- the entries of one instance

module _ (set : Setup) (c : List Entry) (i : ℕ) (f : Entry) (made : IsMadeIn set.work.actors (label_of c i) f) where
  pub is_plain : (birth_in (entered_in i f) ≡ None) × (is_end (entered_in i f) ≡ false)
  is_plain = of f made
    where
      of : (x : Entry) → IsMadeIn set.work.actors (label_of c i) x → (birth_in (entered_in i x) ≡ None) × (is_end (entered_in i x) ≡ false)
      of (entry.Issued actor command) m = (refl, refl)
      of (entry.Landed instance space number authors groups) m = (refl, refl)
      of (entry.Denied instance space authors group refusal) m = (refl, refl)
      of (entry.Heard instance broker space number) m = (refl, refl)
      of (entry.Got instance broker reference) m = (refl, refl)
      of (entry.Dropped instance broker reference) m = (refl, refl)
      of (entry.Replied actor command given number) m = (refl, refl)
      of (entry.Told from to) m = (refl, refl)
      of (entry.Watched actor command number first count) m = (refl, refl)
      of _ m = absurd m

  -- it is one of its own chronicle
  pub own_made : own_entry set.work.actors (label_of c i) i (entered_in i f) ≡ Some f
  own_made = of f made
    where
      same : (i == i) ≡ true
      same = eq-eqb i i refl

      of : (x : Entry) → IsMadeIn set.work.actors (label_of c i) x → own_entry set.work.actors (label_of c i) i (entered_in i x) ≡ Some x
      of (entry.Issued actor command) m = ap (λ b. only_if b (entry.Issued actor command)) m
      of (entry.Landed instance space number authors groups) m = ap (λ b. only_if b (entry.Landed top space number authors groups)) same ∙ ap (λ n. Some (entry.Landed n space number authors groups)) (sym m)
      of (entry.Denied instance space authors group refusal) m = ap (λ b. only_if b (entry.Denied top space authors group refusal)) same ∙ ap (λ n. Some (entry.Denied n space authors group refusal)) (sym m)
      of (entry.Heard instance broker space number) m = ap (λ b. only_if b (entry.Heard top broker space number)) same ∙ ap (λ n. Some (entry.Heard n broker space number)) (sym m)
      of (entry.Got instance broker reference) m = ap (λ b. only_if b (entry.Got top broker reference)) same ∙ ap (λ n. Some (entry.Got n broker reference)) (sym m)
      of (entry.Dropped instance broker reference) m = ap (λ b. only_if b (entry.Dropped top broker reference)) same ∙ ap (λ n. Some (entry.Dropped n broker reference)) (sym m)
      of (entry.Replied actor command given number) m = ap (λ b. only_if b (entry.Replied actor command given number)) m
      of (entry.Told from to) m = ap (λ b. only_if b (entry.Told from to)) m
      of (entry.Watched actor command number first count) m = ap (λ b. only_if b (entry.Watched actor command number first count)) m
      of _ m = absurd m

  -- and of nobody else's
  pub not_made : AreLabelled c → is_born c i ≡ true → (k : ℕ) → is_born c k ≡ true → (i ≡ k → ⊥) → own_entry set.work.actors (label_of c k) k (entered_in i f) ≡ None
  not_made apart born k there differ = of f made
    where
      other : (i == k) ≡ false
      other = by (i == k) refl
        where
          by : (b : Bool) → (i == k) ≡ b → b ≡ false
          by false is = refl
          by true is = absurd (differ (eqb-true i k is))

      away : (actor : ℕ) → is_at set.work.actors (label_of c i) actor ≡ true → is_at set.work.actors (label_of c k) actor ≡ false
      away actor m = by (is_at set.work.actors (label_of c k) actor) refl
        where
          by : (b : Bool) → is_at set.work.actors (label_of c k) actor ≡ b → b ≡ false
          by false is = refl
          by true is = absurd (differ (one_home set.work.actors c apart i k actor born there m is))

      of : (x : Entry) → IsMadeIn set.work.actors (label_of c i) x → own_entry set.work.actors (label_of c k) k (entered_in i x) ≡ None
      of (entry.Issued actor command) m = ap (λ b. only_if b (entry.Issued actor command)) (away actor m)
      of (entry.Landed instance space number authors groups) m = ap (λ b. only_if b (entry.Landed top space number authors groups)) other
      of (entry.Denied instance space authors group refusal) m = ap (λ b. only_if b (entry.Denied top space authors group refusal)) other
      of (entry.Heard instance broker space number) m = ap (λ b. only_if b (entry.Heard top broker space number)) other
      of (entry.Got instance broker reference) m = ap (λ b. only_if b (entry.Got top broker reference)) other
      of (entry.Dropped instance broker reference) m = ap (λ b. only_if b (entry.Dropped top broker reference)) other
      of (entry.Replied actor command given number) m = ap (λ b. only_if b (entry.Replied actor command given number)) (away actor m)
      of (entry.Told from to) m = ap (λ b. only_if b (entry.Told from to)) (away from m)
      of (entry.Watched actor command number first count) m = ap (λ b. only_if b (entry.Watched actor command number first count)) (away actor m)
      of _ m = absurd m

-- ---- an entry that is no birth and no end leaves those that live

pub none_ends : (e : Entry) → is_end e ≡ false → (i : ℕ) → ends i e ≡ false
none_ends (entry.Gone child parent job shut) n i = absurd (true≢false n)
none_ends _ n i = refl

module _ (c : List Entry) (e : Entry) (unborn : birth_in e ≡ None) (plain : is_end e ≡ false) where
  births_same : births (c ++ e ∷ []) ≡ births c
  births_same = births_push c e ∙ ap (λ o. births c ++ cons_option o []) unborn ∙ append-nil (births c)

  pub birth_same : (i : ℕ) → birth_of (c ++ e ∷ []) i ≡ birth_of c i
  birth_same i = ap (λ bs. if i == top then None else find (is_birth_of i) bs) births_same

  pub born_same : (i : ℕ) → is_born (c ++ e ∷ []) i ≡ is_born c i
  born_same i = ap (λ o. (i == top) || is_some o) (birth_same i)

  pub label_same : (i : ℕ) → label_of (c ++ e ∷ []) i ≡ label_of c i
  label_same i = ap (option_map (λ b. b.label)) (birth_same i)

  pub gone_same : (i : ℕ) → is_gone (c ++ e ∷ []) i ≡ is_gone c i
  gone_same i = gone_push c e i ∙ ap (λ b. is_gone c i || b) (none_ends e plain i) ∙ or_none (is_gone c i)
    where
      or_none : (b : Bool) → (b || false) ≡ b
      or_none true = refl
      or_none false = refl

  pub lives_same : (i : ℕ) → lives (c ++ e ∷ []) i ≡ lives c i
  lives_same i = ap₂ (λ a b. a && not b) (born_same i) (gone_same i)

  pub numbers_same : numbers (c ++ e ∷ []) ≡ numbers c
  numbers_same = ap (λ bs. top ∷ map (λ b. b.child) bs) births_same

  labelled_same : AreLabelled c → AreLabelled (c ++ e ∷ [])
  labelled_same h i k bi bk together = h i k (sym (born_same i) ∙ bi) (sym (born_same k) ∙ bk) (sym (ap₂ are_together (label_same i) (label_same k)) ∙ together)

  pub homed_same : (test next : ℕ → Bool) → ((i : ℕ) → next i ≡ test i) → (actors : List Actor) (actor : ℕ)
      → is_homed next actors (c ++ e ∷ []) actor ≡ is_homed test actors c actor
  homed_same test next same actors actor =
      ap (list_any (λ i. next i && is_at actors (label_of (c ++ e ∷ []) i) actor)) numbers_same ∙ any_same (numbers c)
    where
      any_same : (xs : List ℕ) → list_any (λ i. next i && is_at actors (label_of (c ++ e ∷ []) i) actor) xs ≡ list_any (λ i. test i && is_at actors (label_of c i) actor) xs
      any_same [] = refl
      any_same (x ∷ xs) = ap₂ (λ a b. a || b) (ap₂ (λ t l. t && is_at actors l actor) (same x) (label_same x)) (any_same xs)

-- ---- the own chronicles behind one entry

-- the entry may follow in the own chronicle of each living instance that it is about
abbrev pub FollowsOwn : Setup → List Entry → Entry → Type 0
FollowsOwn set c e = (i : ℕ) → lives c i ≡ true
    → IfSome (own_entry set.work.actors (label_of c i) i e) (IsLegalEntry (setup_in set c i) (own_of set c i))

pub legal_more : (s : Setup) (own : List Entry) (o : Option Entry) → IsLegal s own → IfSome o (IsLegalEntry s own) → IsLegal s (own ++ cons_option o [])
legal_more s own None legal h = subst (IsLegal s) (sym (append-nil own)) legal
legal_more s own (Some f) legal h = each_push (IsLegalEntry s) own f legal h

module _ (set : Setup) (c : List Entry) (e : Entry) (unborn : birth_in e ≡ None) (plain : is_end e ≡ false) where
  pub own_more : (i : ℕ) → lives c i ≡ true → own_of set (c ++ e ∷ []) i ≡ own_of set c i ++ cons_option (own_entry set.work.actors (label_of c i) i e) []
  own_more i h = own_push set c e i h (none_ends e plain i)

  pub own_legal : AreOwnLegal set c → FollowsOwn set c e → AreOwnLegal set (c ++ e ∷ [])
  own_legal legal follows i h =
      let was = sym (lives_same c e unborn plain i) ∙ h in
      subst (λ s. IsLegal s (own_of set (c ++ e ∷ []) i)) (sym (setup_kept set c (e ∷ []) i (alive c i was).0))
      (subst (IsLegal (setup_in set c i)) (sym (own_more i was)) (legal_more (setup_in set c i) (own_of set c i) _ (legal i was) (follows i was)))

  pub home_same : (actor : ℕ) → has_home set.work.actors (c ++ e ∷ []) actor ≡ has_home set.work.actors c actor
  home_same actor = homed_same c e unborn plain (is_born c) (is_born (c ++ e ∷ [])) (born_same c e unborn plain) set.work.actors actor

-- whoever has done nothing, and does nothing in the entry, has done nothing behind it
pub quiet_push : (c : List Entry) (e : Entry) (actor : ℕ) → HasNotActed c actor → (issues_of actor e ≡ false) × ((k : ℕ) → replies_to (record { actor = actor; command = k }) e ≡ false) → HasNotActed (c ++ e ∷ []) actor
quiet_push c e actor h n = record {
  issued = sum_by-append (λ x. cond (issues_of actor x) 1 0) c (e ∷ []) ∙ ap₂ (λ a b. a + (0 + cond b 1 0)) h.issued n.0;
  replied = λ k. let p = replies_to (record { actor = actor; command = k }) in list_any-append p c (e ∷ []) ∙ ap₂ (λ a b. a || (b || false)) (h.replied k) (n.1 k);
}

pub each_more : (P : Entry → Type 0) (c : List Entry) (e : Entry) → Each P c → P e → Each P (c ++ e ∷ [])
each_more P [] e h g = (g, tt)
each_more P (x ∷ c) e h g = (h.0, each_more P c e h.1 g)

any_weaker : (p q : ℕ → Bool) (xs : List ℕ) → ((x : ℕ) → p x ≡ true → q x ≡ true) → list_any p xs ≡ true → list_any q xs ≡ true
any_weaker p q [] w h = h
any_weaker p q (x ∷ xs) w h = elim (or_cases (p x) (list_any p xs) h) [
  | inl here ↦ ap (λ b. b || list_any q xs) (w x here)
  | inr more ↦ or_more (q x) (list_any q xs) (any_weaker p q xs w more)
]
  where
    or_more : (a b : Bool) → b ≡ true → (a || b) ≡ true
    or_more true b h = refl
    or_more false b h = h

-- a home that lives, or that has gone, is one
pub living_home : (actors : List Actor) (c : List Entry) (actor : ℕ) → has_living_home actors c actor ≡ true → has_home actors c actor ≡ true
living_home actors c actor h =
    any_weaker (λ i. lives c i && is_at actors (label_of c i) actor) (λ i. is_born c i && is_at actors (label_of c i) actor) (numbers c)
    (λ i both. let p = and_parts (lives c i) (is_at actors (label_of c i) actor) both in ap₂ (λ a b. a && b) (alive c i p.0).0 p.1) h

pub lost_home : (set : Setup) (c : List Entry) → IsLegalRun set c → (actor : ℕ) → has_lost_home set.work.actors c actor ≡ true → has_home set.work.actors c actor ≡ true
lost_home set c run actor h =
    any_weaker (λ i. is_gone c i && is_at set.work.actors (label_of c i) actor) (λ i. is_born c i && is_at set.work.actors (label_of c i) actor) (numbers c)
    (λ i both. let p = and_parts (is_gone c i) (is_at set.work.actors (label_of c i) actor) both in ap₂ (λ a b. a && b) (gone_was_born set c run i p.0) p.1) h

reply_home : (set : Setup) (c : List Entry) → IsLegalRun set c → (by : By) (number : Option ℕ) (given : Reply) → is_closing given ≡ false
    → HasHomeFor set c by number given → has_home set.work.actors c by.actor ≡ true
reply_home set c run by number reply.Gone told h = lost_home set c run by.actor h.2
reply_home set c run by number reply.UnfinishedUnborn told h = absurd (true≢false told)
reply_home set c run by number reply.NotReached told h = absurd (true≢false told)
reply_home set c run by number given told h = living_home set.work.actors c by.actor h

module _ (set : Setup) (c : List Entry) (e : Entry) (run : IsLegalRun set c) (actor : ℕ) (none : has_home set.work.actors c actor ≡ false) where
  differs : (a : ℕ) → has_home set.work.actors c a ≡ true → (actor == a) ≡ false
  differs a home = by (actor == a) refl
    where
      by : (b : Bool) → (actor == a) ≡ b → b ≡ false
      by false is = refl
      by true is = absurd (true≢false (sym home ∙ ap (has_home set.work.actors c) (sym (eqb-true actor a is)) ∙ none))

pub acts_not : (set : Setup) (c : List Entry) (e : Entry) → IsLegalRun set c → IsEarlierEntry e → HasRunGrounds set c e → (actor : ℕ) → has_home set.work.actors c actor ≡ false
    → (issues_of actor e ≡ false) × ((k : ℕ) → replies_to (record { actor = actor; command = k }) e ≡ false)
acts_not set c (entry.Issued a command) run early g actor none = (differs set c (entry.Issued a command) run actor none a g.1, λ k. refl)
acts_not set c (entry.Replied a command given number) run early g actor none =
    (refl, λ k. ap (λ b. b && (k == command)) (differs set c (entry.Replied a command given number) run actor none a (reply_home set c run (record { actor = a; command = command }) number given early g)))
acts_not set c _ run early g actor none = (refl, λ k. refl)

-- ---- a run goes on

module _ (set : Setup) (c : List Entry) (e : Entry) (unborn : birth_in e ≡ None) (plain : is_end e ≡ false) (early : IsEarlierEntry e)
    (on : GoesOn set c) (unended : has_ended c ≡ false) (grounds : HasRunGrounds set c e) (follows : FollowsOwn set c e) where
  pub fits : IsLegalRunEntry set c e
  fits = record { goes_on = unended; grounds = grounds; own = λ n. own_legal set c e unborn plain on.own follows }

  -- behind an entry that is no birth, no end and no closing reply
  pub goes_on : GoesOn set (c ++ e ∷ [])
  goes_on = record {
    run = each_push (IsLegalRunEntry set) c e on.run fits;
    own = own_legal set c e unborn plain on.own follows;
    early = each_more IsEarlierEntry c e on.early early;
    labelled = labelled_same c e unborn plain on.labelled;
    acts = λ i actor h here. acts_so i actor (sym (lives_same c e unborn plain i) ∙ h) (ap (λ l. is_at set.work.actors l actor) (sym (label_same c e unborn plain i)) ∙ here);
    quiet = λ actor none.
        let was = sym (home_same set c e unborn plain actor) ∙ none in
        quiet_push c e actor (on.quiet actor was) (acts_not set c e on.run early grounds actor was);
  }
    where
      acts_so : (i actor : ℕ) → lives c i ≡ true → is_at set.work.actors (label_of c i) actor ≡ true → ActsAlike (own_of set (c ++ e ∷ []) i) (c ++ e ∷ []) actor
      acts_so i actor h here = subst (λ own. ActsAlike own (c ++ e ∷ []) actor) (sym (own_more set c e unborn plain i h))
          (alike_push set.work.actors (label_of c i) i actor here (own_of set c i) c e (on.acts i actor h here))

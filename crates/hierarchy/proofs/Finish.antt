-- How a run ends: its closing replies are legal one by one, and with the end they make it whole.
use Rattle.std.proofs.Common.{◌≡◌, ℕ, ◌+◌, ◌==◌, ◌⊎◌, inl, inr, List, [], ◌∷◌, ◌++◌, Bool, true, false, cond, ◌&&◌, ◌||◌, Option, Some, None, option_map, map, filter_map, count_by, refl, sym, ap, ap₂, ◌∙◌, subst, arith, append-nil, append_assoc, true≢false}
use Rattle.std.specs.Prelude.{Contains, IsNone, IsSome, MatchBool, filter}
use Rattle.std.specs.List.{AllByRecursion as Each, cons_option, list_any}
use Rattle.std.specs.Option.{option_map_or}
use Rattle.std.proofs.lemmas.Bool.{and_parts, eqb-true}
use Rattle.std.proofs.lemmas.List.Elements.{filter_agree, filter_map-append}
use Rattle.std.proofs.lemmas.List.Folds.{list_any-append}
use Rattle.std.proofs.lemmas.List.Sums.{sum_by-append, sum_by-cons}
use Rattle.job_rules.proofs.Among.{Among, among_filter, any_at, any_from}
use Rattle.kvs_txn.specs.declared.txn.By.{By}
use Rattle.kvs_rules.specs.Sequence.{EachAfter}
use Rattle.kvs_rules.proofs.Sequences.{each_joined, each_parts}
use Rattle.instance_rules.specs.Family.{HasTarget, IsEndOf, IsFamilyIdle, IsFamilyTold, IsTarget, Living}
use Rattle.instance_rules.specs.Log.{Log}
use Rattle.workload.specs.declared.work.Workload.{Workload}
use Rattle.answers.specs.Chronicle.{Setup, is_issued, issues, issues_of, replies_to}
use Rattle.answers.specs.Commands.{command_at}
use Rattle.answers.specs.Jobs.{happening_of, instance_of, log_in}
use Rattle.answers.specs.Legal.{IsLegal, IsLegalEntry}
use Rattle.answers.specs.Whole.{IsClosingEntry, IsWhole, has_ended, is_closing, is_end as ends_run}
use Rattle.answers.specs.declared.chronicle.Entry.{Entry}
use Rattle.answers.specs.declared.chronicle.Entry.TheVariants as entry
use Rattle.answers.specs.declared.chronicle.Reply.{Reply}
use Rattle.answers.specs.declared.chronicle.Reply.TheVariants as reply
use Rattle.hierarchy.specs.Births.{Birth, birth_in, birth_of, has_home, has_living_home, has_lost_home, is_at, is_born, is_gone, is_homed, label_of, lives, numbers}
use Rattle.hierarchy.specs.Closing.{EndsAs, IsAnswered, Part}
use Rattle.hierarchy.specs.Families.{family_of, left_in, living_in, shuts_down}
use Rattle.hierarchy.specs.Growing.{ActsAlike, GoesOn}
use Rattle.hierarchy.specs.Legal.{AreOwnLegal, HasHomeFor, HasRunGrounds, IsLegalRunEntry, is_end}
use Rattle.hierarchy.specs.Own.{own_entry, own_of, setup_in}
use Rattle.hierarchy.specs.Whole.{HasUnbornGrounds, IsRunClosing, IsWholeRun}
use Rattle.hierarchy.proofs.Members.{member}
use Rattle.hierarchy.proofs.Nested.{happenings_push}
use Rattle.hierarchy.proofs.OneEntry.{alike_push, birth_same, born_same, count_none, gone_same, label_same, lives_same, living_home, numbers_same, own_more}
use Rattle.hierarchy.proofs.Owning.{alive, is_alive, setup_kept}
use Rattle.hierarchy.proofs.Homes.{all_idle}
use Rattle.hierarchy.proofs.Resting.{all_told, left_empty}
use Rattle.hierarchy.proofs.Steps.{command_same, home_lives, lost_home_born, not_here, replies_so, unended}

-- ---- entries of the end

-- neither a birth nor an end of an instance
abbrev IsPlain : Entry → Type 0
IsPlain e = (birth_in e ≡ None) × (is_end e ≡ false)

closing_plain : (e : Entry) → IsClosingEntry e → IsPlain e
closing_plain (entry.Replied actor command given number) h = (refl, refl)
closing_plain _ h = absurd h

all_plain : (xs : List Entry) → Each IsClosingEntry xs → Each IsPlain xs
all_plain [] h = tt
all_plain (e ∷ xs) h = (closing_plain e h.0, all_plain xs h.1)

closes_not : (xs : List Entry) → Each IsClosingEntry xs → has_ended xs ≡ false
closes_not [] h = refl
closes_not (entry.Replied actor command given number ∷ xs) h = closes_not xs h.1
closes_not (_ ∷ xs) h = absurd h.0

each_head : (P : Entry → Type 0) (xs ys : List Entry) → Each P (xs ++ ys) → Each P xs
each_head P [] ys h = tt
each_head P (x ∷ xs) ys h = (h.0, each_head P xs ys h.1)

each_tail : (P : Entry → Type 0) (xs ys : List Entry) → Each P (xs ++ ys) → Each P ys
each_tail P [] ys h = h
each_tail P (x ∷ xs) ys h = each_tail P xs ys h.1

-- what plain entries leave as it is
record LeavesAll (c : List Entry) (d : List Entry) : Type 0 where
  birth : (i : ℕ) → birth_of d i ≡ birth_of c i
  born : (i : ℕ) → is_born d i ≡ is_born c i
  gone : (i : ℕ) → is_gone d i ≡ is_gone c i
  label : (i : ℕ) → label_of d i ≡ label_of c i
  living : (i : ℕ) → lives d i ≡ lives c i
  all : numbers d ≡ numbers c

-- a chronicle with these entries behind it
module _ (set : Setup) where
  record Behind (c d more : List Entry) : Type 0 where
    leaves : LeavesAll c d
    setup : (i : ℕ) → lives c i ≡ true → setup_in set d i ≡ setup_in set c i
    own : (i : ℕ) → lives c i ≡ true → own_of set d i ≡ own_of set c i ++ filter_map (own_entry set.work.actors (label_of c i) i) more
    acts : (i actor : ℕ) → is_at set.work.actors (label_of c i) actor ≡ true → ActsAlike (own_of set c i) c actor
        → ActsAlike (own_of set c i ++ filter_map (own_entry set.work.actors (label_of c i) i) more) d actor

  cons_joined : {A : Type 0} (o : Option A) (ys : List A) → cons_option o [] ++ ys ≡ cons_option o ys
  cons_joined None ys = refl
  cons_joined (Some x) ys = refl

  none_behind : (c : List Entry) → Behind c c []
  none_behind c = record {
    leaves = record { birth = λ i. refl; born = λ i. refl; gone = λ i. refl; label = λ i. refl; living = λ i. refl; all = refl };
    setup = λ i h. refl;
    own = λ i h. sym (append-nil (own_of set c i));
    acts = λ i actor here h. subst (λ own. ActsAlike own c actor) (sym (append-nil (own_of set c i))) h;
  }

  one_behind : (c d more : List Entry) (e : Entry) → Behind c d more → IsPlain e → Behind c (d ++ e ∷ []) (more ++ e ∷ [])
  one_behind c d more e b p = record {
    leaves = record {
      birth = λ i. birth_same d e p.0 p.1 i ∙ b.leaves.birth i;
      born = λ i. born_same d e p.0 p.1 i ∙ b.leaves.born i;
      gone = λ i. gone_same d e p.0 p.1 i ∙ b.leaves.gone i;
      label = λ i. label_same d e p.0 p.1 i ∙ b.leaves.label i;
      living = λ i. lives_same d e p.0 p.1 i ∙ b.leaves.living i;
      all = numbers_same d e p.0 p.1 ∙ b.leaves.all;
    };
    setup = λ i h. setup_kept set d (e ∷ []) i (alive d i (b.leaves.living i ∙ h)).0 ∙ b.setup i h;
    own = λ i h.
        let f = own_entry set.work.actors (label_of c i) i in
        own_more set d e p.0 p.1 i (b.leaves.living i ∙ h)
        ∙ ap₂ (λ own label. own ++ cons_option (own_entry set.work.actors label i e) []) (b.own i h) (b.leaves.label i)
        ∙ append_assoc (own_of set c i) (filter_map f more) (cons_option (f e) [])
        ∙ ap (λ l. own_of set c i ++ l) (sym (filter_map-append f more (e ∷ [])));
    acts = λ i actor here h.
        let f = own_entry set.work.actors (label_of c i) i in
        subst (λ own. ActsAlike own (d ++ e ∷ []) actor)
        (append_assoc (own_of set c i) (filter_map f more) (cons_option (f e) []) ∙ ap (λ l. own_of set c i ++ l) (sym (filter_map-append f more (e ∷ []))))
        (alike_push set.work.actors (label_of c i) i actor here (own_of set c i ++ filter_map f more) d e (b.acts i actor here h));
  }

  more_behind : (xs c d more : List Entry) → Behind c d more → Each IsPlain xs → Behind c (d ++ xs) (more ++ xs)
  more_behind [] c d more b p = subst (λ x. Behind c x (more ++ [])) (sym (append-nil d)) (subst (Behind c d) (sym (append-nil more)) b)
  more_behind (e ∷ xs) c d more b p =
      subst (λ x. Behind c x (more ++ e ∷ xs)) (append_assoc d (e ∷ []) xs)
      (subst (Behind c ((d ++ e ∷ []) ++ xs)) (append_assoc more (e ∷ []) xs)
      (more_behind xs c (d ++ e ∷ []) (more ++ e ∷ []) (one_behind c d more e b p.0) p.1))

  all_behind : (c xs : List Entry) → Each IsPlain xs → Behind c (c ++ xs) xs
  all_behind c xs p = more_behind xs c c [] (none_behind c) p

-- homes stay where births and labels do
homed_so : (c d : List Entry) → LeavesAll c d → (test next : ℕ → Bool) → ((i : ℕ) → next i ≡ test i) → (set : Setup) (actor : ℕ) → is_homed next set.work.actors d actor ≡ is_homed test set.work.actors c actor
homed_so c d l test next same set actor =
    ap (list_any (λ i. next i && is_at set.work.actors (label_of d i) actor)) l.all ∙ each (numbers c)
  where
    each : (xs : List ℕ) → list_any (λ i. next i && is_at set.work.actors (label_of d i) actor) xs ≡ list_any (λ i. test i && is_at set.work.actors (label_of c i) actor) xs
    each [] = refl
    each (x ∷ xs) = ap₂ (λ a b. a || b) (ap₂ (λ t label. t && is_at set.work.actors label actor) (same x) (l.label x)) (each xs)

-- ---- the closing replies of a run

-- to whom: an actor of a living instance, or one that was never born
pub record IsOfLiving (set : Setup) (c : List Entry) (actor : ℕ) : Type 0 where
  pub home : ℕ
  pub there : lives c home ≡ true
  pub here : is_at set.work.actors (label_of c home) actor ≡ true

abbrev pub HasHomeAtEnd : Setup → List Entry → List Entry → Entry → Type 0
HasHomeAtEnd set c closings (entry.Replied actor command given number) =
    IsOfLiving set c actor ⊎ ((has_home set.work.actors c actor ≡ false) × HasUnbornGrounds closings (record { actor = actor; command = command }) given)
HasHomeAtEnd set c closings _ = ⊥

pub record Closings (set : Setup) (c closings : List Entry) : Type 0 where
  pub on : GoesOn set c
  pub closing : Each IsClosingEntry closings
  pub homes : Each (HasHomeAtEnd set c closings) closings
  pub ends : (i : ℕ) → lives c i ≡ true → EndsAs set c (let part : Part = record { number = i; left = filter_map (own_entry set.work.actors (label_of c i) i) closings } in part)
  pub once : (by : By) → has_home set.work.actors c by.actor ≡ false → IsSome (command_at set.work by) → count_by (replies_to by) closings ≡ 1
  pub no_other : (by : By) → has_home set.work.actors c by.actor ≡ false → IsNone (command_at set.work by) → count_by (replies_to by) closings ≡ 0
  pub lost : (actor : ℕ) → has_lost_home set.work.actors c actor ≡ true → IsAnswered set c actor
  pub stays : (l : Living) → Contains (family_of set c) l → IsEndOf (family_of set c) l → ⊥

-- ---- each of them is legal

match_true : (b : Bool) (P Q : Type 0) → b ≡ true → P → MatchBool b P Q
match_true true P Q e p = p
match_true false P Q e p = absurd (true≢false (sym e))

match_false : (b : Bool) (P Q : Type 0) → b ≡ false → Q → MatchBool b P Q
match_false false P Q e q = q
match_false true P Q e q = absurd (true≢false e)

unborn_grounds : (set : Setup) (c closings : List Entry) (by : By) (number : Option ℕ) (given : Reply) → number ≡ None → has_home set.work.actors c by.actor ≡ false → HasUnbornGrounds closings by given → HasHomeFor set c by number given
unborn_grounds set c closings by number reply.UnfinishedUnborn bare none g = (bare, none)
unborn_grounds set c closings by number reply.NotReached bare none g = (bare, inr none)
unborn_grounds set c closings by number _ bare none g = absurd g

module _ (set : Setup) (c closings : List Entry) (k : Closings set c closings) where
  abbrev mine : ℕ → List Entry → List Entry
  mine i xs = filter_map (own_entry set.work.actors (label_of c i) i) xs

  module _ (done rest : List Entry) (is : done ++ rest ≡ closings) where
    done_closing : Each IsClosingEntry done
    done_closing = each_head IsClosingEntry done rest (subst (Each IsClosingEntry) (sym is) k.closing)

    behind : Behind set c (c ++ done) done
    behind = all_behind set c done (all_plain done done_closing)

    unended_so : has_ended (c ++ done) ≡ false
    unended_so = list_any-append ends_run c done ∙ ap₂ (λ a b. a || b) (unended c k.on.early) (closes_not done done_closing)

    mine_split : (i : ℕ) → mine i closings ≡ mine i done ++ mine i rest
    mine_split i = ap (mine i) (sym is) ∙ filter_map-append (own_entry set.work.actors (label_of c i) i) done rest

    own_rest : (i : ℕ) → lives c i ≡ true → EachAfter (IsLegalEntry (setup_in set c i)) (own_of set c i) (mine i done)
        × EachAfter (IsLegalEntry (setup_in set c i)) (own_of set c i ++ mine i done) (mine i rest ++ entry.Closed ∷ [])
    own_rest i h = each_parts (IsLegalEntry (setup_in set c i)) (own_of set c i) (mine i done) (mine i rest ++ entry.Closed ∷ [])
        (subst (EachAfter (IsLegalEntry (setup_in set c i)) (own_of set c i)) (ap (λ l. l ++ entry.Closed ∷ []) (mine_split i) ∙ append_assoc (mine i done) (mine i rest) (entry.Closed ∷ [])) (k.ends i h).legal)

    own_legal_so : AreOwnLegal set (c ++ done)
    own_legal_so i there =
        let h : lives c i ≡ true = sym (behind.leaves.living i) ∙ there in
        subst (λ s. IsLegal s (own_of set (c ++ done) i)) (sym (behind.setup i h))
        (subst (IsLegal (setup_in set c i)) (sym (behind.own i h))
        (each_joined (IsLegalEntry (setup_in set c i)) [] (own_of set c i) (mine i done) (k.on.own i h) (own_rest i h).0))

  module _ (done : List Entry) (actor command : ℕ) (given : Reply) (number : Option ℕ) (rest : List Entry) (is : done ++ entry.Replied actor command given number ∷ rest ≡ closings) where
    abbrev e : Entry
    e = entry.Replied actor command given number

    abbrev by_ : By
    by_ = record { actor = actor; command = command }

    bare : number ≡ None
    bare = (each_tail IsClosingEntry done (e ∷ rest) (subst (Each IsClosingEntry) (sym is) k.closing)).0.1

    home : HasHomeAtEnd set c closings e
    home = (each_tail (HasHomeAtEnd set c closings) done (e ∷ rest) (subst (Each (HasHomeAtEnd set c closings)) (sym is) k.homes)).0

    of_living : IsOfLiving set c actor → HasHomeFor set (c ++ done) by_ number given
    of_living h =
        let i = h.home in
        let b = behind done (e ∷ rest) is in
        let own = own_rest done (e ∷ rest) is i h.there in
        let shape : mine i (e ∷ rest) ++ entry.Closed ∷ [] ≡ e ∷ mine i rest ++ entry.Closed ∷ [] = ap (λ t. cons_option (cond t (Some e) None) (mine i rest) ++ entry.Closed ∷ []) h.here in
        let fits = (subst (EachAfter (IsLegalEntry (setup_in set c i)) (own_of set c i ++ mine i done)) shape own.1).0 in
        let living : lives (c ++ done) i ≡ true = b.leaves.living i ∙ h.there in
        let here : is_at set.work.actors (label_of (c ++ done) i) actor ≡ true = ap (λ l. is_at set.work.actors l actor) (b.leaves.label i) ∙ h.here in
        replies_so set (c ++ done) (setup_in set c i) (own_of set c i ++ mine i done) by_ number given (home_lives set (c ++ done) i actor living here) fits.grounds

    of_unborn : (has_home set.work.actors c actor ≡ false) × HasUnbornGrounds closings by_ given → HasHomeFor set (c ++ done) by_ number given
    of_unborn u =
        let b = behind done (e ∷ rest) is in
        unborn_grounds set (c ++ done) closings by_ number given bare (homed_so c (c ++ done) b.leaves (is_born c) (is_born (c ++ done)) b.leaves.born set actor ∙ u.0) u.1

    grounds : HasRunGrounds set (c ++ done) e
    grounds = elim home [ inl h ↦ of_living h | inr u ↦ of_unborn u ]

  closing_fits : (done : List Entry) (x : Entry) (rest : List Entry) → done ++ x ∷ rest ≡ closings → IsClosingEntry x → IsLegalRunEntry set (c ++ done) x
  closing_fits done (entry.Replied actor command given number) rest is h = record {
    goes_on = unended_so done (entry.Replied actor command given number ∷ rest) is;
    grounds = grounds done actor command given number rest is;
    own = λ n. subst (AreOwnLegal set) (sym (append_assoc c done (entry.Replied actor command given number ∷ [])))
        (own_legal_so (done ++ entry.Replied actor command given number ∷ []) rest (append_assoc done (entry.Replied actor command given number ∷ []) rest ∙ is));
  }
  closing_fits done _ rest is h = absurd h

  closings_fit : (rest done : List Entry) → done ++ rest ≡ closings → Each IsClosingEntry rest → EachAfter (IsLegalRunEntry set) (c ++ done) rest
  closings_fit [] done is h = tt
  closings_fit (x ∷ rest) done is h = (
    closing_fits done x rest is h.0,
    subst (λ b. EachAfter (IsLegalRunEntry set) b rest) (sym (append_assoc c done (x ∷ [])))
        (closings_fit rest (done ++ x ∷ []) (append_assoc done (x ∷ []) rest ∙ is) h.1),
  )

  -- ---- the end

  abbrev ended : List Entry
  ended = c ++ closings ++ entry.Closed ∷ []

  last : Behind set c ended (closings ++ entry.Closed ∷ [])
  last = one_behind set c (c ++ closings) closings entry.Closed (all_behind set c closings (all_plain closings k.closing)) (refl, refl)

  own_shape : (i : ℕ) → own_of set c i ++ mine i (closings ++ entry.Closed ∷ []) ≡ own_of set c i ++ mine i closings ++ entry.Closed ∷ []
  own_shape i =
      ap (λ l. own_of set c i ++ l) (filter_map-append (own_entry set.work.actors (label_of c i) i) closings (entry.Closed ∷ []))
      ∙ sym (append_assoc (own_of set c i) (mine i closings) (entry.Closed ∷ []))

  own_is : (i : ℕ) → lives c i ≡ true → own_of set ended i ≡ own_of set c i ++ mine i closings ++ entry.Closed ∷ []
  own_is i h = last.own i h ∙ own_shape i

  -- what holds of each living instance at the end, by what it leaves
  at_end : (P : Setup → List Entry → Type 0) (i : ℕ) → lives c i ≡ true → P (setup_in set c i) (own_of set c i ++ mine i closings ++ entry.Closed ∷ []) → P (setup_in set ended i) (own_of set ended i)
  at_end P i h p = subst (λ s. P s (own_of set ended i)) (sym (last.setup i h)) (subst (P (setup_in set c i)) (sym (own_is i h)) p)

  lived_on : (i : ℕ) → lives ended i ≡ true → lives c i ≡ true
  lived_on i there = sym (last.leaves.living i) ∙ there

  end_legal : AreOwnLegal set ended
  end_legal i there =
      let h = lived_on i there in
      at_end IsLegal i h
      (subst (IsLegal (setup_in set c i)) (sym (append_assoc (own_of set c i) (mine i closings) (entry.Closed ∷ [])))
      (each_joined (IsLegalEntry (setup_in set c i)) [] (own_of set c i) (mine i closings ++ entry.Closed ∷ []) (k.on.own i h) (k.ends i h).legal))

  end_whole : (i : ℕ) → lives ended i ≡ true → IsWhole (setup_in set ended i) (own_of set ended i)
  end_whole i there = let h = lived_on i there in at_end IsWhole i h (k.ends i h).whole

-- ---- replies are counted

pub count_zero : (p q : Entry → Bool) → ((e : Entry) → q e ≡ true → p e ≡ true) → (xs : List Entry) → count_by p xs ≡ 0 → list_any q xs ≡ false
count_zero p q weaker [] h = refl
count_zero p q weaker (x ∷ xs) h =
    let split = sum_by-cons (λ e. cond (p e) 1 0) x xs in
    let rest : count_by p xs ≡ 0 = omega (arith, h, split) in
    let here : ◌≡◌ {A = ℕ} (cond (p x) 1 0) 0 = omega (arith, h, split) in
    ap₂ (λ a b. a || b) (by (q x) refl (none (p x) here)) (count_zero p q weaker xs rest)
  where
    none : (b : Bool) → ◌≡◌ {A = ℕ} (cond b 1 0) 0 → b ≡ false
    none false some = refl
    none true some = absurd (let one : ◌≡◌ {A = ℕ} 1 0 = some in omega (arith, one))

    by : (b : Bool) → q x ≡ b → p x ≡ false → b ≡ false
    by false is away = refl
    by true is away = absurd (true≢false (sym (weaker x is) ∙ away))

pub any_none : (p : Entry → Bool) (xs : List Entry) → Each (λ e. p e ≡ false) xs → list_any p xs ≡ false
any_none p [] h = refl
any_none p (x ∷ xs) h = ap₂ (λ a b. a || b) h.0 (any_none p xs h.1)

once_any : (p : Entry → Bool) (xs : List Entry) → count_by p xs ≡ 1 → list_any p xs ≡ true
once_any p xs h = by (list_any p xs) refl
  where
    by : (b : Bool) → list_any p xs ≡ b → b ≡ true
    by true is = refl
    by false is = let none = count_none p xs is in absurd (omega (arith, h, none))

issues_its : (by : By) (e : Entry) → issues by e ≡ true → issues_of by.actor e ≡ true
issues_its by (entry.Issued actor command) h = (and_parts (by.actor == actor) (by.command == command) h).0
issues_its by _ h = absurd (true≢false (sym h))

-- no closing reply issues anything
none_issues : (by : By) (xs : List Entry) → Each IsClosingEntry xs → is_issued by xs ≡ false
none_issues by [] h = refl
none_issues by (entry.Replied actor command given number ∷ xs) h = none_issues by xs h.1
none_issues by (_ ∷ xs) h = absurd h.0

-- whose an actor is
data Whose (set : Setup) (c : List Entry) (actor : ℕ) : Type 0 where
  living : IsOfLiving set c actor → Whose set c actor
  lost : has_lost_home set.work.actors c actor ≡ true → Whose set c actor
  unborn : has_home set.work.actors c actor ≡ false → Whose set c actor

whose : (set : Setup) (c : List Entry) (actor : ℕ) → Whose set c actor
whose set c actor = by (has_home set.work.actors c actor) refl
  where
    at : (i : ℕ) → Among i (numbers c) → is_born c i ≡ true → is_at set.work.actors (label_of c i) actor ≡ true → (b : Bool) → is_gone c i ≡ b → Whose set c actor
    at i there born here true is = lost (any_at (λ n. is_gone c n && is_at set.work.actors (label_of c n) actor) (numbers c) i there (ap₂ (λ a b. a && b) is here))
    at i there born here false is = living (record { home = i; there = is_alive c i born is; here = here })

    by : (b : Bool) → has_home set.work.actors c actor ≡ b → Whose set c actor
    by false is = unborn is
    by true is =
        let f = any_from (λ n. is_born c n && is_at set.work.actors (label_of c n) actor) (numbers c) is in
        let p = and_parts (is_born c f.0) (is_at set.work.actors (label_of c f.0) actor) f.2 in
        at f.0 f.1 p.0 p.1 (is_gone c f.0) refl

module _ (set : Setup) (c closings : List Entry) (k : Closings set c closings) where
  abbrev whole : List Entry
  whole = c ++ closings ++ entry.Closed ∷ []

  counted_so : (by : By) → count_by (replies_to by) whole ≡ count_by (replies_to by) c + count_by (replies_to by) closings
  counted_so by =
      let a : count_by (replies_to by) whole ≡ count_by (replies_to by) (c ++ closings) + 0 = sum_by-append (λ e. cond (replies_to by e) 1 0) (c ++ closings) (entry.Closed ∷ []) in
      let b : count_by (replies_to by) (c ++ closings) ≡ count_by (replies_to by) c + count_by (replies_to by) closings = sum_by-append (λ e. cond (replies_to by e) 1 0) c closings in
      omega (arith, a, b)

  -- as often as in the own chronicle of its living instance
  of_own : (by : By) (h : IsOfLiving set c by.actor) → count_by (replies_to by) whole ≡ count_by (replies_to by) (own_of set c h.home ++ mine set c closings k h.home closings ++ entry.Closed ∷ [])
  of_own by h =
      let alike = (last set c closings k).acts h.home by.actor h.here (k.on.acts h.home by.actor h.there h.here) in
      sym (alike.counted by.command) ∙ ap (count_by (replies_to by)) (own_shape set c closings k h.home)

  -- none of them goes to an actor whose instance has gone
  module _ (actor : ℕ) (gone : has_lost_home set.work.actors c actor ≡ true) where
    other : (a : ℕ) → IsOfLiving set c a ⊎ (has_home set.work.actors c a ≡ false) → (actor == a) ≡ false
    other a how = by (actor == a) refl
      where
        by : (b : Bool) → (actor == a) ≡ b → b ≡ false
        by false is = refl
        by true is =
            let same : actor ≡ a = eqb-true actor a is in
            elim how [
              | inl h ↦ absurd (true≢false (sym h.here ∙ ap (is_at set.work.actors (label_of c h.home)) (sym same) ∙ not_here set c k.on actor gone h.home h.there))
              | inr none ↦ absurd (true≢false (sym (lost_home_born set c k.on actor gone) ∙ ap (has_home set.work.actors c) same ∙ none))
            ]

    none_lost : (command : ℕ) (xs : List Entry) → Each (HasHomeAtEnd set c closings) xs → Each (λ e. replies_to (record { actor = actor; command = command }) e ≡ false) xs
    none_lost command [] h = tt
    none_lost command (entry.Replied a n given number ∷ xs) h =
        (ap (λ b. b && (command == n)) (other a (elim h.0 [ inl l ↦ inl l | inr u ↦ inr u.0 ])), none_lost command xs h.1)
    none_lost command (_ ∷ xs) h = absurd h.0

    lost_counted : (command : ℕ) → count_by (replies_to (record { actor = actor; command = command })) whole ≡ count_by (replies_to (record { actor = actor; command = command })) c
    lost_counted command =
        let by : By = record { actor = actor; command = command } in
        let all = counted_so by in
        let none = count_none (replies_to by) closings (any_none (replies_to by) closings (none_lost command closings k.homes)) in
        omega (arith, all, none)

  unborn_counted : (by : By) → has_home set.work.actors c by.actor ≡ false → count_by (replies_to by) whole ≡ count_by (replies_to by) closings
  unborn_counted by none =
      let all = counted_so by in
      let before = count_none (replies_to by) c ((k.on.quiet by.actor none).replied by.command) in
      omega (arith, all, before)

  answered : (by : By) → IsSome (command_at set.work by) → count_by (replies_to by) whole ≡ 1
  answered by some = elim (whose set c by.actor) [
    | living h ↦ of_own by h ∙ (k.ends h.home h.there).whole.answered by (subst IsSome (sym (command_same set c h.home by h.here)) some)
    | lost gone ↦ lost_counted by.actor gone by.command ∙ (k.lost by.actor gone).once by.command some
    | unborn none ↦ unborn_counted by none ∙ k.once by none some
  ]

  no_other : (by : By) → IsNone (command_at set.work by) → count_by (replies_to by) whole ≡ 0
  no_other by none_at = elim (whose set c by.actor) [
    | living h ↦ of_own by h ∙ (k.ends h.home h.there).whole.no_other by (subst IsNone (sym (command_same set c h.home by h.here)) none_at)
    | lost gone ↦ lost_counted by.actor gone by.command ∙ (k.lost by.actor gone).no_other by.command none_at
    | unborn none ↦ unborn_counted by none ∙ k.no_other by none none_at
  ]

  -- ---- the closing replies have their grounds

  has_home_so : (actor : ℕ) → has_home set.work.actors whole actor ≡ has_home set.work.actors c actor
  has_home_so actor = let l = (last set c closings k).leaves in homed_so c whole l (is_born c) (is_born whole) l.born set actor

  unissued : (by : By) → has_home set.work.actors c by.actor ≡ false → is_issued by whole ≡ false
  unissued by none =
      list_any-append (issues by) (c ++ closings) (entry.Closed ∷ [])
      ∙ ap (λ b. b || false) (list_any-append (issues by) c closings
      ∙ ap₂ (λ a b. a || b) (count_zero (issues_of by.actor) (issues by) (issues_its by) c (k.on.quiet by.actor none).issued) (none_issues by closings k.closing))

  away : (actor : ℕ) → has_home set.work.actors c actor ≡ false → has_living_home set.work.actors whole actor ≡ false
  away actor none = by (has_living_home set.work.actors whole actor) refl
    where
      by : (b : Bool) → has_living_home set.work.actors whole actor ≡ b → b ≡ false
      by false is = refl
      by true is = absurd (true≢false (sym (living_home set.work.actors whole actor is) ∙ has_home_so actor ∙ none))

  closing_so : (xs : List Entry) → Each IsClosingEntry xs → Each (HasHomeAtEnd set c closings) xs → Each (IsRunClosing set whole closings) xs
  closing_so [] h g = tt
  closing_so (entry.Replied actor command given number ∷ xs) h g = (
    (
      h.0.1,
      elim g.0 [
        | inl l ↦ match_true (has_living_home set.work.actors whole actor) _ _
            (home_lives set whole l.home actor ((last set c closings k).leaves.living l.home ∙ l.there) (ap (λ label. is_at set.work.actors label actor) ((last set c closings k).leaves.label l.home) ∙ l.here)) h.0.0
        | inr u ↦ match_false (has_living_home set.work.actors whole actor) _ _ (away actor u.0) (record {
          unborn = has_home_so actor ∙ u.0;
          unissued = unissued (record { actor = actor; command = command }) u.0;
          grounds = u.1;
        })
      ],
    ),
    closing_so xs h.1 g.1,
  )
  closing_so (_ ∷ xs) h g = absurd h.0

  -- ---- the family stays

  -- closing replies and the end are no moments of an instance, and shut none down
  silent : (work : Workload) (base : List Entry) (e : Entry) → IsClosingEntry e → happening_of work base e ≡ None
  silent work base (entry.Replied actor command given number) h = of given h.0
    where
      of : (given : Reply) → is_closing given ≡ true → happening_of work base (entry.Replied actor command given number) ≡ None
      of (reply.UnfinishedFence have want) h = refl
      of (reply.UnfinishedWait had wanted) h = refl
      of (reply.UnfinishedJob where_) h = refl
      of reply.UnfinishedUnborn h = refl
      of reply.NotReached h = refl
      of _ h = absurd (true≢false (sym h))
  silent work base _ h = absurd h

  pushed_none : (work : Workload) (own : List Entry) (e : Entry) → happening_of work own e ≡ None → log_in work (own ++ e ∷ []) ≡ log_in work own
  pushed_none work own e none = happenings_push work own e ∙ ap (λ o. log_in work own ++ cons_option o []) none ∙ append-nil (log_in work own)

  all_silent : (work : Workload) (xs own : List Entry) → Each IsClosingEntry xs → log_in work (own ++ xs) ≡ log_in work own
  all_silent work [] own h = ap (log_in work) (append-nil own)
  all_silent work (e ∷ xs) own h =
      ap (log_in work) (sym (append_assoc own (e ∷ []) xs)) ∙ all_silent work xs (own ++ e ∷ []) h.1 ∙ pushed_none work own e (silent work own e h.0)

  none_shut : (work : Workload) (xs : List Entry) → Each IsClosingEntry xs → list_any (shuts_down work) xs ≡ false
  none_shut work [] h = refl
  none_shut work (entry.Replied actor command given number ∷ xs) h = none_shut work xs h.1
  none_shut work (_ ∷ xs) h = absurd h.0

  or_none : (b : Bool) → (b || false) ≡ b
  or_none true = refl
  or_none false = refl

  living_so : (i : ℕ) → lives c i ≡ true → living_in set whole i ≡ living_in set c i
  living_so i h =
      let left = mine set c closings k i closings in
      let own = own_is set c closings k i h in
      let shuts : list_any (shuts_down set.work) (own_of set whole i) ≡ list_any (shuts_down set.work) (own_of set c i) =
      ap (list_any (shuts_down set.work)) own ∙ list_any-append (shuts_down set.work) (own_of set c i ++ left) (entry.Closed ∷ []) ∙ or_none _
      ∙ list_any-append (shuts_down set.work) (own_of set c i) left ∙ ap (λ b. list_any (shuts_down set.work) (own_of set c i) || b) (none_shut set.work left (k.ends i h).closing) ∙ or_none _ in
      let log : log_in (setup_in set whole i).work (own_of set whole i) ≡ log_in (setup_in set c i).work (own_of set c i) =
      ap₂ (λ (s : Setup) (o : List Entry). log_in s.work o) ((last set c closings k).setup i h) own
      ∙ pushed_none (setup_in set c i).work (own_of set c i ++ left) entry.Closed refl ∙ all_silent (setup_in set c i).work left (own_of set c i) (k.ends i h).closing in
      let of = λ (s : Setup) (l : Log) (o : Option Birth) (b : Bool). (let r : Living = record {
        number = i;
        inst = instance_of s;
        log = l;
        from = option_map (λ b. (b.parent, b.job)) o;
        shuts = option_map_or (λ x. b) o false;
      } in r) in
      ap (λ s. of s (log_in (setup_in set whole i).work (own_of set whole i)) (birth_of whole i) (list_any (shuts_down set.work) (own_of set whole i))) ((last set c closings k).setup i h)
      ∙ ap (λ l. of (setup_in set c i) l (birth_of whole i) (list_any (shuts_down set.work) (own_of set whole i))) log
      ∙ ap (λ o. of (setup_in set c i) (log_in (setup_in set c i).work (own_of set c i)) o (list_any (shuts_down set.work) (own_of set whole i))) ((last set c closings k).leaves.birth i)
      ∙ ap (of (setup_in set c i) (log_in (setup_in set c i).work (own_of set c i)) (birth_of c i)) shuts

  map_so : {A B : Type 0} (f g : A → B) (xs : List A) → ((x : A) → Among x xs → f x ≡ g x) → map f xs ≡ map g xs
  map_so f g [] h = refl
  map_so f g (x ∷ xs) h = ap₂ (λ y ys. y ∷ ys) (h x (inl refl)) (map_so f g xs (λ y there. h y (inr there)))

  family_so : family_of set whole ≡ family_of set c
  family_so =
      let l = (last set c closings k).leaves in
      ap (map (living_in set whole)) (ap (filter (lives whole)) l.all ∙ filter_agree (lives whole) (lives c) l.living (numbers c))
      ∙ map_so (living_in set whole) (living_in set c) (filter (lives c) (numbers c)) (λ i there. living_so i (among_filter (lives c) (numbers c) i there).1)

  -- ---- the run is whole

  told : IsFamilyTold (family_of set whole)
  told = all_told set whole (λ i there. (end_whole set c closings k i there).rests)

  idle : IsFamilyIdle (family_of set whole)
  idle = all_idle set whole (λ i there. (end_whole set c closings k i there).rests.idle)
      (subst (λ f. (l : Living) → Contains f l → IsEndOf f l → ⊥) (sym family_so) k.stays)

  no_target : (target : ℕ) → IsTarget (family_of set whole) (left_in set whole) target → ⊥
  no_target target (inl (l, here, t)) =
      let m = member set whole l here in
      let t2 = subst (λ x. HasTarget x target) m.is t in
      (end_whole set c closings k l.number m.lives_so).advanced target (record { by = t2.by; seconds = t2.seconds; asks = t2.asks; waits = t2.waits; is = t2.is })
  no_target target (inr left) =
      let none : left_in set whole ≡ [] = left_empty set whole (λ by gone issued some. once_any (replies_to by) whole (answered by some)) in
      let never : Contains {X = ℕ} [] target = subst (λ l. Contains l target) none left in
      absurd (omega (arith, never.1))

  pub is_whole : IsWholeRun set (c ++ closings ++ entry.Closed ∷ [])
  is_whole = record {
    earlier = c;
    closings = closings;
    split = refl;
    body = k.on.early;
    closing = closing_so closings k.closing k.homes;
    answered = answered;
    no_other = no_other;
    own = end_whole set c closings k;
    closes = record { idle = idle; told = told; advanced = no_target };
  }

  end_fits : IsLegalRunEntry set (c ++ closings) entry.Closed
  end_fits = record {
    goes_on = unended_so set c closings k closings [] (append-nil closings);
    grounds = is_whole;
    own = λ n. end_legal set c closings k;
  }

  -- the closing replies and the end are legal
  pub all_fit : EachAfter (IsLegalRunEntry set) c (closings ++ entry.Closed ∷ [])
  all_fit = each_joined (IsLegalRunEntry set) c closings (entry.Closed ∷ [])
      (subst (λ b. EachAfter (IsLegalRunEntry set) b closings) (append-nil c) (closings_fit set c closings k closings [] refl k.closing))
      (end_fits, tt)

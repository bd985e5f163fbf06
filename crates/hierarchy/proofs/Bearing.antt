-- How a run begins, and how it grows by a birth.
use Rattle.std.proofs.Common.{◌≡◌, ℕ, ◌+◌, ◌≤◌, ◌==◌, ◌⊎◌, inl, inr, List, [], ◌∷◌, ◌++◌, Bool, true, false, cond, ◌&&◌, ◌||◌, Option, Some, None, is_some, length, option_map, refl, sym, ap, ap₂, ◌∙◌, subst, arith, true≢false, bytes_eq}
use Rattle.std.specs.Prelude.{IfSome, filter_map}
use Rattle.std.specs.Option.{option_map_or}
use Rattle.std.specs.List.{cons_option}
use Rattle.std.proofs.lemmas.Bool.{and_parts, eq-eqb, eqb-true}
use Rattle.std.proofs.lemmas.List.{length-append}
use Rattle.job_rules.proofs.Among.{any_at, any_from}
use Rattle.kvs_rules.specs.Sequence.{EachAfter, until}
use Rattle.kvs_rules.proofs.Sequences.{each_along, each_push}
use Rattle.resource_set.proofs.Booleans.{same_name}
use Rattle.resource_set.specs.declared.node.Resources.{Resources}
use Rattle.workload.specs.Actors.{are_together, home_of}
use Rattle.answers.specs.Chronicle.{Setup, replies_to, top}
use Rattle.answers.specs.Legal.{IsLegal, IsLegalEntry}
use Rattle.answers.specs.Whole.{IsEarlierEntry}
use Rattle.answers.specs.declared.chronicle.Entry.{Entry}
use Rattle.answers.specs.declared.chronicle.Entry.TheVariants as entry
use Rattle.hierarchy.specs.Births.{Birth, birth_in, births, ends, has_home, is_at, is_born, label_of, lives, numbers}
use Rattle.hierarchy.specs.Growing.{ActsAlike, AreLabelled, GoesOn}
use Rattle.hierarchy.specs.Legal.{AreOwnLegal, IsLegalBirth, IsLegalRun, IsLegalRunEntry}
use Rattle.hierarchy.specs.Own.{begins, child_setup, only_if, own_entry, own_of, setup_in, work_for}
use Rattle.hierarchy.proofs.OneEntry.{alike_push, count_none, each_more, legal_more, quiet_push, together_all}
use Rattle.hierarchy.proofs.Nested.{born_is, numbered_born}
use Rattle.hierarchy.proofs.Owning.{alive, births_push, born_kept, born_push, label_kept, lived, own_born, own_push, setup_kept}
use Rattle.hierarchy.proofs.Steps.{unended}

-- ---- the beginning

module _ (set : Setup) where
  pub own_none : (i : ℕ) → own_of set [] i ≡ []
  own_none i = by (i == top)
    where
      by : (b : Bool) → filter_map (own_entry set.work.actors (label_of [] i) i) (until (ends i) (cond b [] [])) ≡ []
      by true = refl
      by false = refl

  pub first_top : (i : ℕ) → is_born [] i ≡ true → i ≡ top
  first_top i h = by (i == top) refl h
    where
      by : (b : Bool) → (i == top) ≡ b → (b || is_some (cond {A = Option Birth} b None None)) ≡ true → i ≡ top
      by true is h = eqb-true i top is
      by false is h = absurd (true≢false (sym h))

  pub begins_so : GoesOn set []
  begins_so = record {
    run = tt;
    own = λ i h. subst (IsLegal (setup_in set [] i)) (sym (own_none i)) tt;
    early = tt;
    labelled = λ i k bi bk together. first_top i bi ∙ sym (first_top k bk);
    acts = λ i actor h here. subst (λ own. ActsAlike own [] actor) (sym (own_none i)) (record { issued = refl; replied = λ k. refl; counted = λ k. refl });
    quiet = λ actor none. record { issued = refl; replied = λ k. refl };
  }

-- ---- numbers

WithinBirths : List Entry → Type 0
WithinBirths c = (i : ℕ) → is_born c i ≡ true → i ≤ length (births c)

within_step : (set : Setup) (xs : List Entry) (e : Entry) → EachAfter (IsLegalRunEntry set) [] xs → IsLegalRunEntry set xs e → WithinBirths xs → WithinBirths (xs ++ e ∷ [])
unfolding WithinBirths
within_step set xs e before l old i h = by (is_born xs i) refl
  where
    more : length (births (xs ++ e ∷ [])) ≡ length (births xs) + length (cons_option (birth_in e) [])
    more = ap length (births_push xs e) ∙ length-append (births xs) (cons_option (birth_in e) [])

    new : (x : Entry) → IsLegalRunEntry set xs x → begins i x ≡ true → i ≤ length (births xs) + length (cons_option (birth_in x) [])
    new (entry.Born child parent job label second grant) l b = let next : child ≡ length (births xs) + 1 = l.grounds.next in let same : child ≡ i = eqb-true child i b in omega arith
    new _ l b = absurd (true≢false (sym b))

    by : (b : Bool) → is_born xs i ≡ b → i ≤ length (births (xs ++ e ∷ []))
    by true was = let low : i ≤ length (births xs) = old i was in omega (arith, more)
    by false was = subst (λ n. i ≤ n) (sym more) (new e l (born_push xs e i h was))

within_births : (set : Setup) (c : List Entry) → IsLegalRun set c → WithinBirths c
unfolding WithinBirths
within_births set c l = each_along (IsLegalRunEntry set) WithinBirths (within_step set) [] c tt l (λ i h. first i h)
  where
    first : (i : ℕ) → is_born [] i ≡ true → i ≤ 0
    first i h = let same : i ≡ 0 = first_top set i h in omega arith

pub fresh : (set : Setup) (c : List Entry) → IsLegalRun set c → is_born c (length (births c) + 1) ≡ false
unfolding WithinBirths
fresh set c l = by (is_born c (length (births c) + 1)) refl
  where
    by : (b : Bool) → is_born c (length (births c) + 1) ≡ b → b ≡ false
    by false is = refl
    by true is = let low : length (births c) + 1 ≤ length (births c) = within_births set c l (length (births c) + 1) is in absurd (omega arith)

-- ---- a birth

together_sym : (a b : Option (List ℕ)) → are_together a b ≡ true → are_together b a ≡ true
together_sym None None h = refl
together_sym None (Some y) h = absurd (true≢false (sym h))
together_sym (Some x) None h = absurd (true≢false (sym h))
together_sym (Some x) (Some y) h = let same : x ≡ y = same_name x y h in subst (λ z. bytes_eq z x ≡ true) same (subst (λ z. bytes_eq x z ≡ true) (sym same) h)

module _ (set : Setup) (c : List Entry) (on : GoesOn set c) (child parent job : ℕ) (label : List ℕ) (second : ℕ) (grant : Resources)
    (l : IsLegalBirth set c child parent job label second grant)
    (follows : IsLegalEntry (setup_in set c parent) (own_of set c parent) (entry.Born child top job label second grant))
    (new : (i : ℕ) → is_born c i ≡ true → are_together (label_of c i) (Some label) ≡ false) where
  unborn : is_born c child ≡ false
  unborn = ap (is_born c) l.next ∙ fresh set c on.run

  label_is : label_of (c ++ entry.Born child parent job label second grant ∷ []) child ≡ Some label
  label_is = ap (option_map (λ b. b.label)) (born_is c (entry.Born child parent job label second grant) child unborn (eq-eqb child child refl))

  -- who is born now was so before, or is the child
  who : (i : ℕ) → is_born (c ++ entry.Born child parent job label second grant ∷ []) i ≡ true → (is_born c i ≡ true) ⊎ (i ≡ child)
  who i h = by (is_born c i) refl
    where
      by : (b : Bool) → is_born c i ≡ b → (is_born c i ≡ true) ⊎ (i ≡ child)
      by true is = inl is
      by false is = inr (sym (eqb-true child i (born_push c (entry.Born child parent job label second grant) i h is)))

  labelled_so : AreLabelled (c ++ entry.Born child parent job label second grant ∷ [])
  labelled_so i k bi bk together =
      let x = entry.Born child parent job label second grant in
      elim (who i bi) [
        | inl was ↦ elim (who k bk) [
          | inl too ↦ on.labelled i k was too (sym (ap₂ are_together (label_kept c (x ∷ []) i was) (label_kept c (x ∷ []) k too)) ∙ together)
          | inr now ↦ absurd (true≢false (sym together ∙ ap₂ are_together (label_kept c (x ∷ []) i was) (ap (label_of (c ++ x ∷ [])) now ∙ label_is) ∙ new i was))
        ]
        | inr one ↦ elim (who k bk) [
          | inl too ↦ absurd (true≢false (sym (together_sym (label_of (c ++ x ∷ []) i) (label_of (c ++ x ∷ []) k) together) ∙ ap₂ are_together (label_kept c (x ∷ []) k too) (ap (label_of (c ++ x ∷ [])) one ∙ label_is) ∙ new k too))
          | inr now ↦ one ∙ sym now
        ]
      ]

  -- its actors have done nothing yet
  new_home : (actor : ℕ) → is_at set.work.actors (Some label) actor ≡ true → has_home set.work.actors c actor ≡ false
  new_home actor here = by (has_home set.work.actors c actor) refl
    where
      by : (b : Bool) → has_home set.work.actors c actor ≡ b → b ≡ false
      by false is = refl
      by true is =
          let f = any_from (λ i. is_born c i && is_at set.work.actors (label_of c i) actor) (numbers c) is in
          let p = and_parts (is_born c f.0) (is_at set.work.actors (label_of c f.0) actor) f.2 in
          sym (together_all (home_of set.work.actors actor) (label_of c f.0) (Some label) p.1 here) ∙ new f.0 p.0

  home_kept : (actor : ℕ) → has_home set.work.actors (c ++ entry.Born child parent job label second grant ∷ []) actor ≡ false → has_home set.work.actors c actor ≡ false
  home_kept actor none = by (has_home set.work.actors c actor) refl
    where
      x : Entry
      x = entry.Born child parent job label second grant

      by : (b : Bool) → has_home set.work.actors c actor ≡ b → b ≡ false
      by false is = refl
      by true is =
          let f = any_from (λ i. is_born c i && is_at set.work.actors (label_of c i) actor) (numbers c) is in
          let p = and_parts (is_born c f.0) (is_at set.work.actors (label_of c f.0) actor) f.2 in
          let d = c ++ entry.Born child parent job label second grant ∷ [] in
          let born = born_kept c (entry.Born child parent job label second grant ∷ []) f.0 p.0 in
          sym (any_at (λ i. is_born d i && is_at set.work.actors (label_of d i) actor) (numbers d) f.0 (numbered_born d f.0 born)
          (ap₂ (λ a b. a && b) born (ap (λ l. is_at set.work.actors l actor) (label_kept c (entry.Born child parent job label second grant ∷ []) f.0 p.0) ∙ p.1))) ∙ none

  own_so : AreOwnLegal set (c ++ entry.Born child parent job label second grant ∷ [])
  own_so i h =
      let x = entry.Born child parent job label second grant in
      let v = lived c x i h in
      elim v.how [
        | inl was ↦
            subst (λ s. IsLegal s (own_of set (c ++ x ∷ []) i)) (sym (setup_kept set c (x ∷ []) i (alive c i was).0))
            (subst (IsLegal (setup_in set c i)) (sym (own_push set c x i was refl))
            (legal_more (setup_in set c i) (own_of set c i) (only_if (parent == i) (entry.Born child top job label second grant)) (on.own i was) (told i (parent == i) refl)))
        | inr begun ↦ subst (IsLegal (setup_in set (c ++ x ∷ []) i)) (sym (own_born set c x i begun.0 begun.1)) tt
      ]
    where
      told : (i : ℕ) (b : Bool) → (parent == i) ≡ b → IfSome (only_if b (entry.Born child top job label second grant)) (IsLegalEntry (setup_in set c i) (own_of set c i))
      told i false is = tt
      told i true is = subst (λ n. IsLegalEntry (setup_in set c n) (own_of set c n) (entry.Born child top job label second grant)) (eqb-true parent i is) follows

  pub birth_fits : IsLegalRunEntry set c (entry.Born child parent job label second grant)
  birth_fits = record { goes_on = unended c on.early; grounds = l; own = λ n. own_so }

  pub birth_goes_on : GoesOn set (c ++ entry.Born child parent job label second grant ∷ [])
  birth_goes_on = record {
    run = each_push (IsLegalRunEntry set) c (entry.Born child parent job label second grant) on.run birth_fits;
    own = own_so;
    early = each_more IsEarlierEntry c (entry.Born child parent job label second grant) on.early tt;
    labelled = labelled_so;
    acts = acts_so;
    quiet = λ actor none. quiet_push c (entry.Born child parent job label second grant) actor (on.quiet actor (home_kept actor none)) (refl, λ k. refl);
  }
    where
      acts_so : (i actor : ℕ) → lives (c ++ entry.Born child parent job label second grant ∷ []) i ≡ true
          → is_at set.work.actors (label_of (c ++ entry.Born child parent job label second grant ∷ []) i) actor ≡ true
          → ActsAlike (own_of set (c ++ entry.Born child parent job label second grant ∷ []) i) (c ++ entry.Born child parent job label second grant ∷ []) actor
      acts_so i actor h here =
          let x = entry.Born child parent job label second grant in
          let v = lived c x i h in
          elim v.how [
            | inl was ↦
                let there : is_at set.work.actors (label_of c i) actor ≡ true = ap (λ l. is_at set.work.actors l actor) (sym (label_kept c (x ∷ []) i (alive c i was).0)) ∙ here in
                subst (λ own. ActsAlike own (c ++ x ∷ []) actor) (sym (own_push set c x i was refl))
                (alike_push set.work.actors (label_of c i) i actor there (own_of set c i) c x (on.acts i actor was there))
            | inr begun ↦
                let one : i ≡ child = sym (eqb-true child i begun.1) in
                let there : is_at set.work.actors (Some label) actor ≡ true = ap (λ l. is_at set.work.actors l actor) (sym (ap (label_of (c ++ x ∷ [])) one ∙ label_is)) ∙ here in
                let none = quiet_push c x actor (on.quiet actor (new_home actor there)) (refl, λ k. refl) in
                subst (λ own. ActsAlike own (c ++ x ∷ []) actor) (sym (own_born set c x i begun.0 begun.1))
                (record { issued = sym none.issued; replied = λ k. sym (none.replied k); counted = λ k. sym (count_none (replies_to (record { actor = actor; command = k })) (c ++ x ∷ []) (none.replied k)) })
          ]

-- ---- the child

module _ (set : Setup) (c : List Entry) (on : GoesOn set c) (child parent job : ℕ) (label : List ℕ) (second : ℕ) (grant : Resources)
    (l : IsLegalBirth set c child parent job label second grant) where
  not_born : is_born c child ≡ false
  not_born = ap (is_born c) l.next ∙ fresh set c on.run

  -- nothing has happened to the child
  pub born_own : own_of set (c ++ entry.Born child parent job label second grant ∷ []) child ≡ []
  born_own = own_born set c (entry.Born child parent job label second grant) child not_born (eq-eqb child child refl)

  -- and this is what it is given
  pub born_setup : setup_in set (c ++ entry.Born child parent job label second grant ∷ []) child
      ≡ child_setup set (record { child = child; parent = parent; job = job; label = label; second = second; grant = grant })
  born_setup = ap (λ o. option_map_or (child_setup set) o (record set { work = work_for set.work None set.size }))
      (born_is c (entry.Born child parent job label second grant) child not_born (eq-eqb child child refl))

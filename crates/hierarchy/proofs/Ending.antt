-- How a run grows by the end of an instance, with all within it.
use Rattle.std.proofs.Common.{◌≡◌, ℕ, ◌==◌, List, [], ◌∷◌, ◌++◌, Bool, true, false, ◌&&◌, ◌||◌, None, is_some, option_map, map, refl, sym, ap, ap₂, ◌∙◌, subst, append-nil, append_assoc, true≢false}
use Rattle.std.specs.Prelude.{IfSome, find, if◌then◌else◌}
use Rattle.std.specs.List.{AllByRecursion as Each, cons_option, list_any}
use Rattle.std.proofs.lemmas.Bool.{eqb-true, or_parts, or_right}
use Rattle.std.proofs.lemmas.List.Folds.{list_any-append}
use Rattle.kvs_rules.specs.Sequence.{EachAfter}
use Rattle.kvs_rules.proofs.Sequences.{each_push}
use Rattle.workload.specs.Actors.{are_together}
use Rattle.answers.specs.Chronicle.{Setup, top}
use Rattle.answers.specs.Legal.{IsLegal, IsLegalEntry}
use Rattle.answers.specs.Whole.{IsEarlierEntry}
use Rattle.answers.specs.declared.chronicle.Entry.{Entry}
use Rattle.answers.specs.declared.chronicle.Entry.TheVariants as entry
use Rattle.hierarchy.specs.Births.{birth_of, births, ends, has_home, is_at, is_birth_of, is_born, is_gone, label_of, lives, numbers}
use Rattle.hierarchy.specs.Growing.{ActsAlike, AreLabelled, GoesOn, HasNotActed, ParentGoes}
use Rattle.hierarchy.specs.Legal.{AreOwnLegal, HasRunGrounds, IsLegalRun, IsLegalRunEntry, is_end}
use Rattle.hierarchy.specs.Own.{only_if, own_of, setup_in}
use Rattle.hierarchy.proofs.OneEntry.{alike_push, each_more, legal_more, quiet_push}
use Rattle.hierarchy.proofs.Owning.{alive, births_push, gone_push, is_alive, own_push, setup_kept}
use Rattle.hierarchy.proofs.Steps.{unended}

-- what holds while instances go, before what is left is judged
record Going (set : Setup) (c : List Entry) : Type 0 where
  run : IsLegalRun set c
  early : Each IsEarlierEntry c
  labelled : AreLabelled c
  acts : (i actor : ℕ) → lives c i ≡ true → is_at set.work.actors (label_of c i) actor ≡ true → ActsAlike (own_of set c i) c actor
  quiet : (actor : ℕ) → has_home set.work.actors c actor ≡ false → HasNotActed c actor

module _ (c : List Entry) (child parent job : ℕ) (shut : Bool) where
  births_same : births (c ++ entry.Gone child parent job shut ∷ []) ≡ births c
  births_same = births_push c (entry.Gone child parent job shut) ∙ append-nil (births c)

  birth_same : (i : ℕ) → birth_of (c ++ entry.Gone child parent job shut ∷ []) i ≡ birth_of c i
  birth_same i = ap (λ bs. if i == top then None else find (is_birth_of i) bs) births_same

  born_same : (i : ℕ) → is_born (c ++ entry.Gone child parent job shut ∷ []) i ≡ is_born c i
  born_same i = ap (λ o. (i == top) || is_some o) (birth_same i)

  label_same : (i : ℕ) → label_of (c ++ entry.Gone child parent job shut ∷ []) i ≡ label_of c i
  label_same i = ap (option_map (λ b. b.label)) (birth_same i)

  home_same : (set : Setup) (actor : ℕ) → has_home set.work.actors (c ++ entry.Gone child parent job shut ∷ []) actor ≡ has_home set.work.actors c actor
  home_same set actor =
      ap (λ bs. list_any (λ i. is_born (c ++ entry.Gone child parent job shut ∷ []) i && is_at set.work.actors (label_of (c ++ entry.Gone child parent job shut ∷ []) i) actor) (top ∷ map (λ b. b.child) bs)) births_same
      ∙ same (numbers c)
    where
      same : (xs : List ℕ) → list_any (λ i. is_born (c ++ entry.Gone child parent job shut ∷ []) i && is_at set.work.actors (label_of (c ++ entry.Gone child parent job shut ∷ []) i) actor) xs
          ≡ list_any (λ i. is_born c i && is_at set.work.actors (label_of c i) actor) xs
      same [] = refl
      same (x ∷ xs) = ap₂ (λ a b. a || b) (ap₂ (λ b l. b && is_at set.work.actors l actor) (born_same x) (label_same x)) (same xs)

  -- whoever lives behind it lived before, and doesn't end in it
  lived_so : (i : ℕ) → lives (c ++ entry.Gone child parent job shut ∷ []) i ≡ true → (lives c i ≡ true) × (ends i (entry.Gone child parent job shut) ≡ false)
  lived_so i h =
      let now = alive (c ++ entry.Gone child parent job shut ∷ []) i h in
      let p = or_parts (is_gone c i) (ends i (entry.Gone child parent job shut)) (sym (gone_push c (entry.Gone child parent job shut) i) ∙ now.1) in
      (is_alive c i (sym (born_same i) ∙ now.0) p.0, p.1)

module _ (set : Setup) (c : List Entry) (child parent job : ℕ) (shut : Bool) (g : Going set c) (grounds : HasRunGrounds set c (entry.Gone child parent job shut)) where
  end_fits : IsLegalRunEntry set c (entry.Gone child parent job shut)
  end_fits = record { goes_on = unended c g.early; grounds = grounds; own = λ n. absurd (true≢false n) }

  end_going : Going set (c ++ entry.Gone child parent job shut ∷ [])
  end_going = record {
    run = each_push (IsLegalRunEntry set) c (entry.Gone child parent job shut) g.run end_fits;
    early = each_more IsEarlierEntry c (entry.Gone child parent job shut) g.early tt;
    labelled = λ i k bi bk together.
        g.labelled i k (sym (born_same c child parent job shut i) ∙ bi) (sym (born_same c child parent job shut k) ∙ bk)
        (sym (ap₂ (λ a b. are_together a b) (label_same c child parent job shut i) (label_same c child parent job shut k)) ∙ together);
    acts = λ i actor h here.
        let e : Entry = entry.Gone child parent job shut in
        let was = lived_so c child parent job shut i h in
        let there : is_at set.work.actors (label_of c i) actor ≡ true = ap (λ l. is_at set.work.actors l actor) (sym (label_same c child parent job shut i)) ∙ here in
        subst (λ own. ActsAlike own (c ++ e ∷ []) actor) (sym (own_push set c e i was.0 was.1))
        (alike_push set.work.actors (label_of c i) i actor there (own_of set c i) c e (g.acts i actor was.0 there));
    quiet = λ actor none. quiet_push c (entry.Gone child parent job shut) actor (g.quiet actor (sym (home_same c child parent job shut set actor) ∙ none)) (refl, λ k. refl);
  }

-- ---- several ends

-- what each of the ends leaves of one that lives behind them all
record Left (set : Setup) (c gone : List Entry) (i : ℕ) (told : List Entry) : Type 0 where
  lived : lives c i ≡ true
  setup : setup_in set (c ++ gone) i ≡ setup_in set c i
  own : own_of set (c ++ gone) i ≡ own_of set c i ++ told

module _ (set : Setup) where
  going_all : (gone c : List Entry) → Going set c → Each (λ e. is_end e ≡ true) gone → EachAfter (HasRunGrounds set) c gone → EachAfter (IsLegalRunEntry set) c gone × Going set (c ++ gone)
  going_all [] c g n l = (tt, subst (Going set) (sym (append-nil c)) g)
  going_all (entry.Gone child parent job shut ∷ gone) c g n l =
      let more = going_all gone (c ++ entry.Gone child parent job shut ∷ []) (end_going set c child parent job shut g l.0) n.1 l.1 in
      ((end_fits set c child parent job shut g l.0, more.0), subst (Going set) (append_assoc c (entry.Gone child parent job shut ∷ []) gone) more.1)
  going_all (_ ∷ gone) c g n l = absurd (true≢false (sym n.0))

  -- ends of others' children leave its own chronicle as it is
  left_alone : (gone c : List Entry) (i : ℕ) → Each (λ e. is_end e ≡ true) gone → Each (λ e. (child parent job : ℕ) (shut : Bool) → e ≡ entry.Gone child parent job shut → (parent == i) ≡ false) gone
      → lives (c ++ gone) i ≡ true → Left set c gone i []
  left_alone [] c i n others h = record {
    lived = ap (λ d. lives d i) (sym (append-nil c)) ∙ h;
    setup = ap (λ d. setup_in set d i) (append-nil c);
    own = ap (λ d. own_of set d i) (append-nil c) ∙ sym (append-nil (own_of set c i));
  }
  left_alone (entry.Gone child parent job shut ∷ gone) c i n others h =
      let e : Entry = entry.Gone child parent job shut in
      let joined : (c ++ e ∷ []) ++ gone ≡ c ++ e ∷ gone = append_assoc c (e ∷ []) gone in
      let more = left_alone gone (c ++ e ∷ []) i n.1 others.1 (ap (λ d. lives d i) joined ∙ h) in
      let was = lived_so c child parent job shut i more.lived in
      record {
        lived = was.0;
        setup = ap (λ d. setup_in set d i) (sym joined) ∙ more.setup ∙ setup_kept set c (e ∷ []) i (alive c i was.0).0;
        own = ap (λ d. own_of set d i) (sym joined) ∙ more.own ∙ append-nil (own_of set (c ++ e ∷ []) i)
            ∙ own_push set c e i was.0 was.1 ∙ ap (λ t. own_of set c i ++ cons_option (only_if t (entry.Gone child top job shut)) []) (others.0 child parent job shut refl);
      }
  left_alone (_ ∷ gone) c i n others h = absurd (true≢false (sym n.0))

  all_end : (gone inner : List Entry) → Each (ParentGoes gone) inner → Each (λ e. is_end e ≡ true) inner
  all_end gone [] h = tt
  all_end gone (entry.Gone child parent job shut ∷ inner) h = (refl, all_end gone inner h.1)
  all_end gone (_ ∷ inner) h = absurd h.0

  module _ (c inner : List Entry) (on : GoesOn set c) (child parent job : ℕ) (shut : Bool)
      (inside : Each (ParentGoes (inner ++ entry.Gone child parent job shut ∷ [])) inner)
      (grounds : EachAfter (HasRunGrounds set) c (inner ++ entry.Gone child parent job shut ∷ []))
      (follows : IsLegalEntry (setup_in set c parent) (own_of set c parent) (entry.Gone child top job shut)) where
    going : EachAfter (IsLegalRunEntry set) c (inner ++ entry.Gone child parent job shut ∷ []) × Going set (c ++ (inner ++ entry.Gone child parent job shut ∷ []))
    going = going_all (inner ++ entry.Gone child parent job shut ∷ []) c (record { run = on.run; early = on.early; labelled = on.labelled; acts = on.acts; quiet = on.quiet })
        (each_more (λ e. is_end e ≡ true) inner (entry.Gone child parent job shut) (all_end (inner ++ entry.Gone child parent job shut ∷ []) inner inside) refl) grounds

    -- whoever lives behind them is no parent of the inner ones
    no_parent : (i : ℕ) → is_gone (c ++ (inner ++ entry.Gone child parent job shut ∷ [])) i ≡ false → (xs : List Entry) → Each (ParentGoes (inner ++ entry.Gone child parent job shut ∷ [])) xs
        → Each (λ e. (ch p j : ℕ) (s : Bool) → e ≡ entry.Gone ch p j s → (p == i) ≡ false) xs
    no_parent i stays [] h = tt
    no_parent i stays (x ∷ xs) h = ((λ ch p j s same. of ch p j s (subst (ParentGoes (inner ++ entry.Gone child parent job shut ∷ [])) same h.0) (p == i) refl), no_parent i stays xs h.1)
      where
        of : (ch p j : ℕ) (s : Bool) → is_gone (inner ++ entry.Gone child parent job shut ∷ []) p ≡ true → (b : Bool) → (p == i) ≡ b → b ≡ false
        of ch p j s goes false is = refl
        of ch p j s goes true is =
            sym (list_any-append (ends p) c (inner ++ entry.Gone child parent job shut ∷ []) ∙ or_right (is_gone c p) (is_gone (inner ++ entry.Gone child parent job shut ∷ []) p) goes)
            ∙ ap (is_gone (c ++ (inner ++ entry.Gone child parent job shut ∷ []))) (eqb-true p i is) ∙ stays

    own_left : AreOwnLegal set (c ++ (inner ++ entry.Gone child parent job shut ∷ []))
    own_left i h =
        let e : Entry = entry.Gone child parent job shut in
        let joined : (c ++ inner) ++ e ∷ [] ≡ c ++ (inner ++ e ∷ []) = append_assoc c inner (e ∷ []) in
        let there : lives ((c ++ inner) ++ e ∷ []) i ≡ true = ap (λ d. lives d i) joined ∙ h in
        let was = lived_so (c ++ inner) child parent job shut i there in
        let left = left_alone inner c i (all_end (inner ++ e ∷ []) inner inside) (no_parent i (alive (c ++ (inner ++ e ∷ [])) i h).1 inner inside) was.0 in
        let own : own_of set (c ++ inner) i ≡ own_of set c i = left.own ∙ append-nil (own_of set c i) in
        let o = only_if (parent == i) (entry.Gone child top job shut) in
        subst (λ d. IsLegal (setup_in set d i) (own_of set d i)) joined
        (subst (λ s. IsLegal s (own_of set ((c ++ inner) ++ e ∷ []) i)) (sym (setup_kept set (c ++ inner) (e ∷ []) i (alive (c ++ inner) i was.0).0 ∙ left.setup))
        (subst (IsLegal (setup_in set c i)) (sym (own_push set (c ++ inner) e i was.0 was.1 ∙ ap (λ d. d ++ cons_option o []) own))
        (legal_more (setup_in set c i) (own_of set c i) o (on.own i left.lived) (told i (parent == i) refl))))
      where
        told : (i : ℕ) (b : Bool) → (parent == i) ≡ b → IfSome (only_if b (entry.Gone child top job shut)) (IsLegalEntry (setup_in set c i) (own_of set c i))
        told i false is = tt
        told i true is = subst (λ n. IsLegalEntry (setup_in set c n) (own_of set c n) (entry.Gone child top job shut)) (eqb-true parent i is) follows

    pub ends_fit : EachAfter (IsLegalRunEntry set) c (inner ++ entry.Gone child parent job shut ∷ [])
    ends_fit = going.0

    pub ends_go_on : GoesOn set (c ++ (inner ++ entry.Gone child parent job shut ∷ []))
    ends_go_on = let g = going.1 in record { run = g.run; own = own_left; early = g.early; labelled = g.labelled; acts = g.acts; quiet = g.quiet }

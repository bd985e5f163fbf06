-- Who is in the family, and what a legal entry says of those that live.
use Rattle.std.proofs.Common.{◌≡◌, ◌≢◌, ℕ, inl, inr, List, [], ◌∷◌, ◌++◌, Bool, true, false, ◌||◌, refl, sym, ap, ◌∙◌, subst, true≢false}
use Rattle.std.specs.Prelude.{Contains, filter}
use Rattle.std.specs.List.{AllByRecursion as Each, list_any}
use Rattle.std.proofs.lemmas.Bool.{eqb-true, or_cases, or_left, or_right}
use Rattle.std.proofs.lemmas.List.Elements.{All-contains, All-map, All-weaker, filter_passes}
use Rattle.std.proofs.lemmas.List.Folds.{list_any-append}
use Rattle.kvs_rules.specs.Sequence.{EachAfter}
use Rattle.kvs_rules.proofs.Sequences.{each_along, each_parts}
use Rattle.instance_rules.specs.Family.{Living}
use Rattle.answers.specs.Chronicle.{Setup}
use Rattle.answers.specs.declared.chronicle.Entry.{Entry}
use Rattle.answers.specs.declared.chronicle.Entry.TheVariants as entry
use Rattle.hierarchy.specs.Births.{ends, is_born, is_gone, lives, numbers}
use Rattle.hierarchy.specs.Families.{family_of, living_in}
use Rattle.hierarchy.specs.Laws.{IsOfOthers}
use Rattle.hierarchy.specs.Legal.{IsLegalRun, IsLegalRunEntry}
use Rattle.hierarchy.specs.Own.{own_of}
use Rattle.hierarchy.proofs.Owning.{alive, born_kept, gone_push, own_ended, since, since_kept}

module _ (set : Setup) (c : List Entry) where
  -- a member of the family is a living instance by its number
  pub record Member (l : Living) : Type 0 where
    pub lives_so : lives c l.number ≡ true
    pub is : l ≡ living_in set c l.number

  pub member : (l : Living) → Contains (family_of set c) l → Member l
  member l here = All-contains Member (family_of set c) l
      (All-map Member (living_in set c) (filter (lives c) (numbers c))
      (All-weaker (λ n. lives c n ≡ true) (λ n. Member (living_in set c n)) (λ n h. record { lives_so = h; is = refl }) (filter (lives c) (numbers c)) (filter_passes (lives c) (numbers c))))
      here

  pub member_lives : (l : Living) (n : ℕ) → Contains (family_of set c) l → l.number ≡ n → lives c n ≡ true
  member_lives l n here is = subst (λ n. lives c n ≡ true) is (member l here).lives_so

-- whoever has gone was born, and went since
record Ended (c : List Entry) (i : ℕ) : Type 0 where
  born : is_born c i ≡ true
  went : list_any (ends i) (since c i) ≡ true

EndedAll : List Entry → Type 0
EndedAll c = (i : ℕ) → is_gone c i ≡ true → Ended c i

any_left : {A : Type 0} (p : A → Bool) (xs ys : List A) → list_any p xs ≡ true → list_any p (xs ++ ys) ≡ true
any_left p xs ys h = list_any-append p xs ys ∙ or_left (list_any p xs) (list_any p ys) h

any_last : {A : Type 0} (p : A → Bool) (xs : List A) (y : A) → p y ≡ true → list_any p (xs ++ y ∷ []) ≡ true
any_last p xs y h = list_any-append p xs (y ∷ []) ∙ or_right (list_any p xs) (p y || false) (or_left (p y) false h)

-- an end is that of one that lives
pub ends_living : (set : Setup) (c : List Entry) (e : Entry) (i : ℕ) → IsLegalRunEntry set c e → ends i e ≡ true → lives c i ≡ true
ends_living set c (entry.Gone child parent job shut) i l h =
    let same : i ≡ child = eqb-true i child h in
    subst (λ n. lives c n ≡ true) (sym same) (member_lives set c l.grounds.living child l.grounds.may.lives l.grounds.named)
ends_living set c _ i l h = absurd (true≢false (sym h))

module _ (set : Setup) where
  ended_step : (xs : List Entry) (e : Entry) → EachAfter (IsLegalRunEntry set) [] xs → IsLegalRunEntry set xs e → EndedAll xs → EndedAll (xs ++ e ∷ [])
  unfolding EndedAll
  ended_step xs e before l old i gone = elim (or_cases (is_gone xs i) (ends i e) (sym (gone_push xs e i) ∙ gone)) [
    | inl was ↦ let o = old i was in record {
      born = born_kept xs (e ∷ []) i o.born;
      went = ap (list_any (ends i)) (since_kept xs (e ∷ []) i o.born) ∙ any_left (ends i) (since xs i) (e ∷ []) o.went;
    }
    | inr now ↦ let born = (alive xs i (ends_living set xs e i l now)).0 in record {
      born = born_kept xs (e ∷ []) i born;
      went = ap (list_any (ends i)) (since_kept xs (e ∷ []) i born) ∙ any_last (ends i) (since xs i) e now;
    }
  ]

  ended_all : (c : List Entry) → IsLegalRun set c → EndedAll c
  unfolding EndedAll
  ended_all c l = each_along (IsLegalRunEntry set) EndedAll ended_step [] c tt l (λ i h. absurd (true≢false (sym h)))

  pub gone_was_born : (c : List Entry) → IsLegalRun set c → (i : ℕ) → is_gone c i ≡ true → is_born c i ≡ true
  unfolding EndedAll
  gone_was_born c l i gone = (ended_all c l i gone).born

  -- the chronicle of an instance ends with it
  pub ends_with_it : (c more : List Entry) (i : ℕ) → IsLegalRun set (c ++ more) → is_gone c i ≡ true → own_of set (c ++ more) i ≡ own_of set c i
  unfolding EndedAll
  ends_with_it c more i l gone =
      let o = ended_all c (each_parts (IsLegalRunEntry set) [] c more l).0 i gone in
      own_ended set c more i o.born o.went

  module _ (i : ℕ) where
    apart : (c : List Entry) (n : ℕ) → is_gone c i ≡ true → lives c n ≡ true → n ≢ i
    apart c n gone h same = true≢false (sym gone ∙ (alive c i (subst (λ m. lives c m ≡ true) same h)).1)

    of_others : (c : List Entry) (e : Entry) → is_gone c i ≡ true → IsLegalRunEntry set c e → IsOfOthers i e
    of_others c (entry.Landed instance space number authors groups) gone l = apart c instance gone l.grounds
    of_others c (entry.Denied instance space authors group refusal) gone l = apart c instance gone l.grounds
    of_others c (entry.Heard instance broker space number) gone l = apart c instance gone l.grounds
    of_others c (entry.Got instance broker reference) gone l = apart c instance gone l.grounds
    of_others c (entry.Dropped instance broker reference) gone l = apart c instance gone l.grounds
    of_others c (entry.Born child parent job label second grant) gone l =
        apart c parent gone (member_lives set c l.grounds.due.living parent l.grounds.due.lives l.grounds.due.named)
    of_others c (entry.Gone child parent job shut) gone l =
        apart c child gone (member_lives set c l.grounds.living child l.grounds.may.lives l.grounds.named)
    of_others c _ gone l = tt

    -- nothing more happens to one that has gone
    pub all_of_others : (c more : List Entry) → is_gone c i ≡ true → EachAfter (IsLegalRunEntry set) c more → Each (IsOfOthers i) more
    all_of_others c [] gone l = tt
    all_of_others c (e ∷ more) gone l =
        (of_others c e gone l.0, all_of_others (c ++ e ∷ []) more (gone_push c e i ∙ or_left (is_gone c i) (ends i e) gone) l.1)

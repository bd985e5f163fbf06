-- The closing replies of the run: what its living instances leave, and what actors are told that
-- were never born.
use Rattle.std.proofs.Common.{◌≡◌, ℕ, zero, suc, ◌+◌, ◌<◌, ◌≤◌, ◌==◌, ◌⊎◌, inl, inr, List, [], ◌∷◌, ◌++◌, Bool, true, false, cond, not, ◌&&◌, ◌||◌, Option, Some, None, is_some, length, map, filter_map, count_by, refl, sym, ap, ap₂, ◌∙◌, subst, arith, true≢false}
use Rattle.std.specs.Prelude.{Contains, filter, find, flat_map, if◌then◌else◌, nat_lt, slice_get}
use Rattle.std.specs.Option.{option_and_then}
use Rattle.std.specs.List.{AllByRecursion as Each, cons_option, range_with_len}
use Rattle.std.proofs.lemmas.Bool.{cases_lt, eq-eqb, eqb-true, lt-ltb, ltb-true}
use Rattle.std.proofs.lemmas.List.Elements.{filter_map-append}
use Rattle.std.proofs.lemmas.List.Sums.{sum_by-append, sum_by-cons}
use Rattle.job_rules.proofs.Among.{Among, Distinct, among_filter, among_flattened, among_kept, among_map, among_mapped, among_right, any_at, contains_from, distinct-append, distinct_filter}
use Rattle.kvs_txn.specs.declared.txn.By.{By}
use Rattle.kvs_rules.specs.Sequence.{EachAfter}
use Rattle.kvs_rules.proofs.Sequences.{each_along}
use Rattle.workload.specs.Actors.{are_together}
use Rattle.workload.specs.declared.work.Actor.{Actor}
use Rattle.workload.specs.declared.work.Command.{Command}
use Rattle.workload.specs.declared.work.Line.{Line}
use Rattle.answers.specs.Chronicle.{Setup, replies_to, top}
use Rattle.answers.specs.Commands.{command_at, commands_of}
use Rattle.answers.specs.Whole.{IsClosingEntry, is_closing}
use Rattle.answers.specs.declared.chronicle.Entry.{Entry}
use Rattle.answers.specs.declared.chronicle.Entry.TheVariants as entry
use Rattle.answers.specs.declared.chronicle.Reply.{Reply}
use Rattle.answers.specs.declared.chronicle.Reply.TheVariants as reply
use Rattle.hierarchy.specs.Births.{birth_in, birth_of, births, has_home, is_at, is_birth_of, is_born, label_of, lives, numbers}
use Rattle.hierarchy.specs.Closing.{EndsAs, IsAnswered, MayEnd, Part, run_closings, told_unborn, unborn_in, unborn_reply}
use Rattle.hierarchy.specs.Growing.{GoesOn}
use Rattle.hierarchy.specs.Legal.{IsLegalRun, IsLegalRunEntry}
use Rattle.hierarchy.specs.Own.{only_if, own_entry, own_of, setup_in}
use Rattle.hierarchy.specs.Whole.{HasUnbornGrounds}
use Rattle.hierarchy.proofs.Bearing.{fresh}
use Rattle.hierarchy.proofs.Finish.{Closings, HasHomeAtEnd, any_none, count_zero}
use Rattle.hierarchy.proofs.Nested.{numbered_born}
use Rattle.hierarchy.proofs.OneEntry.{count_none, one_home}
use Rattle.hierarchy.proofs.Owning.{alive, births_push}
use Rattle.hierarchy.proofs.Steps.{home_born, work_in}

-- ---- on lists

each_joined : {A : Type 0} (P : A → Type 0) (xs ys : List A) → Each P xs → Each P ys → Each P (xs ++ ys)
each_joined P [] ys h g = g
each_joined P (x ∷ xs) ys h g = (h.0, each_joined P xs ys h.1 g)

each_flat : {A B : Type 0} (P : B → Type 0) (f : A → List B) (xs : List A) → ((x : A) → Among x xs → Each P (f x)) → Each P (flat_map f xs)
each_flat P f [] h = tt
each_flat P f (x ∷ xs) h = each_joined P (f x) (flat_map f xs) (h x (inl refl)) (each_flat P f xs (λ y there. h y (inr there)))

each_map : {A B : Type 0} (P : B → Type 0) (f : A → B) (xs : List A) → ((x : A) → Among x xs → P (f x)) → Each P (map f xs)
each_map P f [] h = tt
each_map P f (x ∷ xs) h = (h x (inl refl), each_map P f xs (λ y there. h y (inr there)))

found_some : {A : Type 0} (p : A → Bool) (xs : List A) (x : A) → Among x xs → p x ≡ true → is_some (find p xs) ≡ true
found_some p [] x there h = absurd there
found_some {A} p (y ∷ ys) x there h = by (p y) refl there (λ more. found_some p ys x more h)
  where
    by : (b : Bool) → p y ≡ b → (y ≡ x) ⊎ Among x ys → (Among x ys → is_some (find p ys) ≡ true) → is_some (cond b (Some y) (find p ys)) ≡ true
    by true is there again = refl
    by false is (inl same) again = absurd (true≢false (sym h ∙ ap p (sym same) ∙ is))
    by false is (inr more) again = again more

some_below : {A : Type 0} (xs : List A) (k : ℕ) → is_some (slice_get xs k) ≡ true → k < length xs
some_below [] k h = absurd (true≢false (sym h))
some_below (x ∷ xs) zero h = omega arith
some_below (x ∷ xs) (suc k) h = let low = some_below xs k h in omega (arith, low)

none_above : {A : Type 0} (xs : List A) (k : ℕ) → is_some (slice_get xs k) ≡ false → length xs ≤ k
none_above [] k h = omega arith
none_above (x ∷ xs) zero h = absurd (true≢false h)
none_above (x ∷ xs) (suc k) h = let low = none_above xs k h in omega (arith, low)

among_range : (n from k : ℕ) → from ≤ k → k < from + n → Among k (range_with_len from n)
among_range zero from k low high = absurd (omega (arith, low, high))
among_range (suc n) from k low high = elim (cases_lt from k) [
  | inl above ↦ inr (among_range n (from + 1) k (omega (arith, above)) (omega (arith, high)))
  | inr below ↦ inl (omega (arith, low, below))
]

in_range : (n from k : ℕ) → Among k (range_with_len from n) → (from ≤ k) × (k < from + n)
in_range zero from k there = absurd there
in_range (suc n) from k (inl is) = (omega (arith, is), omega (arith, is))
in_range (suc n) from k (inr more) = let r = in_range n (from + 1) k more in (omega (arith, r.0), omega (arith, r.1))

range_distinct : (n from : ℕ) → Distinct (range_with_len from n)
range_distinct zero from = tt
range_distinct (suc n) from = (λ k there same. let r = in_range n (from + 1) k there in omega (arith, r.0, same), range_distinct n (from + 1))

-- as many commands as lines
pub lines_counted : (actor : ℕ) (lines : List Line)
    → length (filter_map (λ line. if line.actor == actor then Some line.command else None) lines) ≡ count_by (λ line. line.actor == actor) lines
lines_counted actor [] = refl
lines_counted actor (line ∷ lines) =
    by (line.actor == actor) (lines_counted actor lines) ∙ sym (sum_by-cons (λ (x : Line). cond (x.actor == actor) 1 0) line lines)
  where
    by : (b : Bool) → length (filter_map (λ line. if line.actor == actor then Some line.command else None) lines) ≡ count_by (λ line. line.actor == actor) lines
        → length (cons_option (if b then Some line.command else None) (filter_map (λ line. if line.actor == actor then Some line.command else None) lines)) ≡ cond b 1 0 + count_by (λ line. line.actor == actor) lines
    by true h = omega (arith, h)
    by false h = omega (arith, h)

-- where each of so many commands as there are has its one reply, the actor is answered
pub answered_all : (set : Setup) (c : List Entry) (actor : ℕ)
    → ((k : ℕ) → count_by (replies_to (record { actor = actor; command = k })) c ≡ cond (nat_lt k (length (commands_of set.work actor))) 1 0) → IsAnswered set c actor
answered_all set c actor counts = record {
  once = λ k some. counts k ∙ ap (λ b. cond b 1 0) (lt-ltb k (length (commands_of set.work actor)) (some_below (commands_of set.work actor) k some));
  no_other = λ k none. counts k ∙ ap (λ b. cond b 1 0) (at k (none_above (commands_of set.work actor) k none) (nat_lt k (length (commands_of set.work actor))) refl);
}
  where
    at : (k : ℕ) → length (commands_of set.work actor) ≤ k → (b : Bool) → nat_lt k (length (commands_of set.work actor)) ≡ b → b ≡ false
    at k high false is = refl
    at k high true is = absurd (let low = ltb-true k (length (commands_of set.work actor)) is in omega (arith, low, high))

-- ---- numbers of instances

among_born : (c : List Entry) (i : ℕ) → Among i (numbers c) → is_born c i ≡ true
among_born c i there = by (i == top) refl there
  where
    by : (b : Bool) → (i == top) ≡ b → (top ≡ i) ⊎ Among i (map (λ b. b.child) (births c)) → (b || is_some (cond b None (find (is_birth_of i) (births c)))) ≡ true
    by true is there = refl
    by false is (inl same) = absurd (true≢false (sym (eq-eqb i top (sym same)) ∙ is))
    by false is (inr more) = let f = among_map (λ b. b.child) (births c) i more in found_some (is_birth_of i) (births c) f.0 f.1 (eq-eqb f.0.child i f.2)

map_joined : {A B : Type 0} (f : A → B) (xs ys : List A) → map f (xs ++ ys) ≡ map f xs ++ map f ys
map_joined f [] ys = refl
map_joined f (x ∷ xs) ys = ap (λ l. f x ∷ l) (map_joined f xs ys)

AreApart : List Entry → Type 0
AreApart c = Distinct (numbers c)

module _ (set : Setup) where
  apart_step : (xs : List Entry) (e : Entry) → EachAfter (IsLegalRunEntry set) [] xs → IsLegalRunEntry set xs e → AreApart xs → AreApart (xs ++ e ∷ [])
  unfolding AreApart
  apart_step xs e before l old =
      subst Distinct (sym (ap (λ bs. top ∷ map (λ b. b.child) bs) (births_push xs e) ∙ ap (λ l. top ∷ l) (map_joined (λ b. b.child) (births xs) (cons_option (birth_in e) []))))
      (more e l)
    where
      more : (e : Entry) → IsLegalRunEntry set xs e → Distinct (numbers xs ++ map (λ b. b.child) (cons_option (birth_in e) []))
      more (entry.Born child parent job label second grant) l = distinct-append (numbers xs) (child ∷ []) old (λ y there. absurd there, tt) (λ x i j. new x i j)
        where
          new : (x : ℕ) → Among x (numbers xs) → Among x (child ∷ []) → ⊥
          new x i (inl same) = true≢false (sym (among_born xs x i) ∙ ap (is_born xs) (sym same ∙ l.grounds.next) ∙ fresh set xs before)
          new x i (inr none) = none
      more _ l = distinct-append (numbers xs) [] old tt (λ x i j. j)

  pub numbers_apart : (c : List Entry) → IsLegalRun set c → Distinct (numbers c)
  unfolding AreApart
  numbers_apart c l = each_along (IsLegalRunEntry set) AreApart apart_step [] c tt l (λ y there. absurd there, tt)

-- ---- the lines of others

lines_none : (passes : ℕ → Bool) (actor : ℕ) → passes actor ≡ false → (lines : List Line)
    → filter_map (λ line. if line.actor == actor then Some line.command else None) (filter (λ line. passes line.actor) lines) ≡ []
lines_none passes actor h [] = refl
lines_none passes actor h (line ∷ lines) = by (passes line.actor) refl (lines_none passes actor h lines)
  where
    none : passes line.actor ≡ true → (t : Bool) → (line.actor == actor) ≡ t → ◌≡◌ {A = Option Command} (if t then Some line.command else None) None
    none inside false is = refl
    none inside true is = absurd (true≢false (sym inside ∙ ap passes (eqb-true line.actor actor is) ∙ h))

    by : (b : Bool) → passes line.actor ≡ b
        → filter_map (λ line. if line.actor == actor then Some line.command else None) (filter (λ line. passes line.actor) lines) ≡ []
        → filter_map (λ line. if line.actor == actor then Some line.command else None) (cond b (line ∷ filter (λ line. passes line.actor) lines) (filter (λ line. passes line.actor) lines)) ≡ []
    by true is same = ap₂ cons_option (none is (line.actor == actor) refl) same
    by false is same = same

-- an instance has no commands of others' actors
pub none_of_others : (set : Setup) (c : List Entry) (i : ℕ) (by : By) → is_at set.work.actors (label_of c i) by.actor ≡ false → command_at (setup_in set c i).work by ≡ None
none_of_others set c i by away =
    let w = work_in set (birth_of c i) in
    ap (λ work. command_at work by) w.1
    ∙ ap (λ commands. slice_get commands by.command) (lines_none (is_at set.work.actors (label_of c i)) by.actor away set.work.lines)

-- ---- what an instance leaves is told to its own actors

abbrev IsTo : List Actor → Option (List ℕ) → Entry → Type 0
IsTo actors label (entry.Replied actor command given number) = is_at actors label actor ≡ true
IsTo actors label _ = ⊥

module _ (set : Setup) (c : List Entry) (part : Part) (ends : EndsAs set c part) where
  to_actor : (actor command : ℕ) (given : Reply) (number : Option ℕ) → Among (entry.Replied actor command given number) part.left → is_at set.work.actors (label_of c part.number) actor ≡ true
  to_actor actor command given number there = by (is_at set.work.actors (label_of c part.number) actor) refl
    where
      p : Entry → Bool
      p = replies_to (record { actor = actor; command = command })

      by : (b : Bool) → is_at set.work.actors (label_of c part.number) actor ≡ b → b ≡ true
      by true is = refl
      by false is =
          let it : By = record { actor = actor; command = command } in
          let own = own_of set c part.number in
          let none : count_by (replies_to it) (own ++ part.left ++ entry.Closed ∷ []) ≡ 0 = ends.whole.no_other it (ap is_some (none_of_others set c part.number it is)) in
          let a : count_by (replies_to it) (own ++ part.left ++ entry.Closed ∷ []) ≡ count_by (replies_to it) (own ++ part.left) + 0 = sum_by-append (λ e. cond (replies_to it e) 1 0) (own ++ part.left) (entry.Closed ∷ []) in
          let b : count_by (replies_to it) (own ++ part.left) ≡ count_by (replies_to it) own + count_by (replies_to it) part.left = sum_by-append (λ e. cond (replies_to it e) 1 0) own part.left in
          let zero_left : count_by (replies_to it) part.left ≡ 0 = omega (arith, none, a, b) in
          let no_one = count_zero (replies_to it) (replies_to it) (λ e h. h) part.left zero_left in
          let one = any_at (replies_to it) part.left (entry.Replied actor command given number) there (ap₂ (λ a b. a && b) (eq-eqb actor actor refl) (eq-eqb command command refl)) in
          absurd (true≢false (sym one ∙ no_one))

  all_to : (xs : List Entry) → ((e : Entry) → Among e xs → Among e part.left) → Each IsClosingEntry xs → Each (IsTo set.work.actors (label_of c part.number)) xs
  all_to [] part_of h = tt
  all_to (entry.Replied actor command given number ∷ xs) part_of h =
      (to_actor actor command given number (part_of (entry.Replied actor command given number) (inl refl)), all_to xs (λ e there. part_of e (inr there)) h.1)
  all_to (_ ∷ xs) part_of h = absurd h.0

  left_to : Each (IsTo set.work.actors (label_of c part.number)) part.left
  left_to = all_to part.left (λ e there. there) ends.closing

-- ---- the part of one instance

module _ (set : Setup) (c : List Entry) (i : ℕ) where
  abbrev mine : List Entry → List Entry
  mine xs = filter_map (own_entry set.work.actors (label_of c i) i) xs

  mine_all : (xs : List Entry) → Each (IsTo set.work.actors (label_of c i)) xs → mine xs ≡ xs
  mine_all [] h = refl
  mine_all (entry.Replied actor command given number ∷ xs) h = ap₂ (λ b l. cons_option (only_if b (entry.Replied actor command given number)) l) h.0 (mine_all xs h.1)
  mine_all (_ ∷ xs) h = absurd h.0

  -- replies to actors of elsewhere
  abbrev IsAway : Entry → Type 0
  IsAway e = own_entry set.work.actors (label_of c i) i e ≡ None

  mine_none : (xs : List Entry) → Each IsAway xs → mine xs ≡ []
  mine_none [] h = refl
  mine_none (e ∷ xs) h = ap₂ cons_option h.0 (mine_none xs h.1)

  module _ (on : GoesOn set c) (here : lives c i ≡ true) where
    elsewhere : (n : ℕ) → lives c n ≡ true → (n ≡ i → ⊥) → (xs : List Entry) → Each (IsTo set.work.actors (label_of c n)) xs → Each IsAway xs
    elsewhere n there differ [] h = tt
    elsewhere n there differ (entry.Replied actor command given number ∷ xs) h = (by (is_at set.work.actors (label_of c i) actor) refl, elsewhere n there differ xs h.1)
      where
        by : (b : Bool) → is_at set.work.actors (label_of c i) actor ≡ b → only_if b (entry.Replied actor command given number) ≡ None
        by false is = refl
        by true is = absurd (differ (one_home set.work.actors c on.labelled n i actor (alive c n there).0 (alive c i here).0 h.0 is))
    elsewhere n there differ (_ ∷ xs) h = absurd h.0

    unborn_away : (actor command : ℕ) (given : Reply) (number : Option ℕ) → has_home set.work.actors c actor ≡ false → IsAway (entry.Replied actor command given number)
    unborn_away actor command given number none = by (is_at set.work.actors (label_of c i) actor) refl
      where
        by : (b : Bool) → is_at set.work.actors (label_of c i) actor ≡ b → only_if b (entry.Replied actor command given number) ≡ None
        by false is = refl
        by true is = absurd (true≢false (sym (home_born set c i actor here is) ∙ none))

    none_mine : (parts : List Part) → Each (EndsAs set c) parts → ((n : ℕ) → Among n (map (λ part. part.number) parts) → lives c n ≡ true)
        → ((n : ℕ) → Among n (map (λ part. part.number) parts) → n ≡ i → ⊥) → mine (flat_map (λ part. part.left) parts) ≡ []
    none_mine [] ends living differ = refl
    none_mine (part ∷ parts) ends living differ =
        filter_map-append (own_entry set.work.actors (label_of c i) i) part.left (flat_map (λ part. part.left) parts)
        ∙ ap₂ (λ a b. a ++ b)
        (mine_none part.left (elsewhere part.number (living part.number (inl refl)) (differ part.number (inl refl)) part.left (left_to set c part ends.0)))
        (none_mine parts ends.1 (λ n there. living n (inr there)) (λ n there. differ n (inr there)))

    record MinePart (parts : List Part) : Type 0 where
      part : Part
      ends : EndsAs set c part
      named : part.number ≡ i
      left : mine (flat_map (λ part. part.left) parts) ≡ part.left

    append_none : (xs : List Entry) → xs ++ [] ≡ xs
    append_none [] = refl
    append_none (x ∷ xs) = ap (λ l. x ∷ l) (append_none xs)

    find_mine : (parts : List Part) → Each (EndsAs set c) parts → ((n : ℕ) → Among n (map (λ part. part.number) parts) → lives c n ≡ true)
        → Distinct (map (λ part. part.number) parts) → Among i (map (λ part. part.number) parts) → MinePart parts
    find_mine [] ends living apart there = absurd there
    find_mine (part ∷ parts) ends living apart (inl is) = record {
      part = part;
      ends = ends.0;
      named = is;
      left =
          filter_map-append (own_entry set.work.actors (label_of c i) i) part.left (flat_map (λ part. part.left) parts)
          ∙ ap₂ (λ a b. a ++ b)
          (mine_all part.left (subst (λ n. Each (IsTo set.work.actors (label_of c n)) part.left) is (left_to set c part ends.0)))
          (none_mine parts ends.1 (λ n there. living n (inr there)) (λ n there same. apart.0 n there (is ∙ sym same)))
          ∙ append_none part.left;
    }
    find_mine (part ∷ parts) ends living apart (inr more) =
        let rest = find_mine parts ends.1 (λ n there. living n (inr there)) apart.1 more in
        record {
          part = rest.part;
          ends = rest.ends;
          named = rest.named;
          left =
              filter_map-append (own_entry set.work.actors (label_of c i) i) part.left (flat_map (λ part. part.left) parts)
              ∙ ap₂ (λ a b. a ++ b)
              (mine_none part.left (elsewhere part.number (living part.number (inl refl)) (λ same. apart.0 i more same) part.left (left_to set c part ends.0)))
              rest.left;
        }

-- ---- what unborn actors are told

module _ (set : Setup) (actor : ℕ) where
  abbrev reply_at : ℕ → Entry
  reply_at command = entry.Replied actor command (unborn_reply command) None

  -- one reply for each of the numbers
  told_not : (n from k : ℕ) → (Among k (range_with_len from n) → ⊥) → count_by (replies_to (record { actor = actor; command = k })) (map reply_at (range_with_len from n)) ≡ 0
  told_not zero from k none = refl
  told_not (suc n) from k none =
      let p = replies_to (record { actor = actor; command = k }) in
      sum_by-cons (λ e. cond (p e) 1 0) (reply_at from) (map reply_at (range_with_len (from + 1) n))
      ∙ ap₂ (λ b m. cond b 1 0 + m) (away (k == from) refl) (told_not n (from + 1) k (λ there. none (inr there)))
    where
      away : (b : Bool) → (k == from) ≡ b → ((actor == actor) && b) ≡ false
      away false is = and_false (actor == actor)
        where
          and_false : (b : Bool) → (b && false) ≡ false
          and_false true = refl
          and_false false = refl
      away true is = absurd (none (inl (sym (eqb-true k from is))))

  told_once : (n from k : ℕ) → Among k (range_with_len from n) → count_by (replies_to (record { actor = actor; command = k })) (map reply_at (range_with_len from n)) ≡ 1
  told_once zero from k there = absurd there
  told_once (suc n) from k (inl is) =
      let p = replies_to (record { actor = actor; command = k }) in
      sum_by-cons (λ e. cond (p e) 1 0) (reply_at from) (map reply_at (range_with_len (from + 1) n))
      ∙ ap₂ (λ b m. cond b 1 0 + m) (ap₂ (λ a b. a && b) (eq-eqb actor actor refl) (eq-eqb k from (sym is)))
      (told_not n (from + 1) k (λ there. (range_distinct (suc n) from).0 k there is))
  told_once (suc n) from k (inr more) =
      let p = replies_to (record { actor = actor; command = k }) in
      sum_by-cons (λ e. cond (p e) 1 0) (reply_at from) (map reply_at (range_with_len (from + 1) n))
      ∙ ap₂ (λ b m. cond b 1 0 + m) (away (k == from) refl) (told_once n (from + 1) k more)
    where
      away : (b : Bool) → (k == from) ≡ b → ((actor == actor) && b) ≡ false
      away false is = and_false (actor == actor)
        where
          and_false : (b : Bool) → (b && false) ≡ false
          and_false true = refl
          and_false false = refl
      away true is = absurd ((range_distinct (suc n) from).0 k more (sym (eqb-true k from is)))

-- of all actors that were never born, those to this one
module _ (set : Setup) (by : By) where
  others_told : (x : ℕ) → (x ≡ by.actor → ⊥) → count_by (replies_to by) (told_unborn set.work x) ≡ 0
  others_told x differ =
      count_none (replies_to by) (told_unborn set.work x)
      (any_none (replies_to by) (told_unborn set.work x)
      (each_map (λ e. replies_to by e ≡ false) (λ command. entry.Replied x command (unborn_reply command) None) (range_with_len 0 (length (commands_of set.work x)))
      (λ command there. ap (λ b. b && (by.command == command)) (away (by.actor == x) refl))))
    where
      away : (b : Bool) → (by.actor == x) ≡ b → b ≡ false
      away false is = refl
      away true is = absurd (differ (sym (eqb-true by.actor x is)))

  none_told : (xs : List ℕ) → (Among by.actor xs → ⊥) → count_by (replies_to by) (flat_map (told_unborn set.work) xs) ≡ 0
  none_told [] none = refl
  none_told (x ∷ xs) none =
      sum_by-append (λ e. cond (replies_to by e) 1 0) (told_unborn set.work x) (flat_map (told_unborn set.work) xs)
      ∙ ap₂ (λ a b. a + b) (others_told x (λ same. none (inl same))) (none_told xs (λ there. none (inr there)))

  all_told : (xs : List ℕ) → Distinct xs → Among by.actor xs → count_by (replies_to by) (flat_map (told_unborn set.work) xs) ≡ count_by (replies_to by) (told_unborn set.work by.actor)
  all_told [] apart there = absurd there
  all_told (x ∷ xs) apart (inl is) =
      let rest = none_told xs (λ there. apart.0 by.actor there is) in
      let split = sum_by-append (λ e. cond (replies_to by e) 1 0) (told_unborn set.work x) (flat_map (told_unborn set.work) xs) in
      let same = ap (λ n. count_by (replies_to by) (told_unborn set.work n)) is in
      omega (arith, rest, split, same)
  all_told (x ∷ xs) apart (inr more) =
      let none = others_told x (λ same. apart.0 by.actor more same) in
      let split = sum_by-append (λ e. cond (replies_to by e) 1 0) (told_unborn set.work x) (flat_map (told_unborn set.work) xs) in
      let rest = all_told xs apart.1 more in
      omega (arith, none, split, rest)

-- ---- together

module _ (set : Setup) (c : List Entry) (parts : List Part) (m : MayEnd set c parts) where
  abbrev from_parts : List Entry
  from_parts = flat_map (λ part. part.left) parts

  abbrev from_unborn : List Entry
  from_unborn = flat_map (told_unborn set.work) (unborn_in set c)

  not_true : (b : Bool) → not b ≡ true → b ≡ false
  not_true false h = refl
  not_true true h = absurd (true≢false (sym h))

  is_unborn : (actor : ℕ) → Among actor (unborn_in set c) → has_home set.work.actors c actor ≡ false
  is_unborn actor there = not_true _ (among_filter (λ actor. not (has_home set.work.actors c actor)) (range_with_len 0 (length set.work.actors)) actor there).1

  -- whoever has no home is one of the actors
  unborn_here : (actor : ℕ) → has_home set.work.actors c actor ≡ false → Among actor (unborn_in set c)
  unborn_here actor none =
      among_kept (λ actor. not (has_home set.work.actors c actor)) (range_with_len 0 (length set.work.actors)) actor
      (among_range (length set.work.actors) 0 actor (omega arith) (by (slice_get set.work.actors actor) refl)) (ap not none)
    where
      at_top : slice_get set.work.actors actor ≡ None → is_at set.work.actors (label_of c top) actor ≡ true
      at_top is = ap (λ o. are_together (option_and_then (λ a. a.of) o) None) is

      by : (o : Option Actor) → slice_get set.work.actors actor ≡ o → actor < 0 + length set.work.actors
      by (Some a) is = let low = some_below set.work.actors actor (ap is_some is) in omega (arith, low)
      by None is = absurd (true≢false (sym (any_at (λ i. is_born c i && is_at set.work.actors (label_of c i) actor) (numbers c) top (inl refl) (ap (λ b. true && b) (at_top is))) ∙ none))

  living_number : (n : ℕ) → Among n (map (λ part. part.number) parts) → lives c n ≡ true
  living_number n there = (among_filter (lives c) (numbers c) n (subst (Among n) m.living there)).1

  parts_apart : Distinct (map (λ part. part.number) parts)
  parts_apart = subst Distinct (sym m.living) (distinct_filter (lives c) (numbers c) (numbers_apart set c m.on.run))

  unborn_each : (P : Entry → Type 0) → ((actor command : ℕ) → has_home set.work.actors c actor ≡ false → Among command (range_with_len 0 (length (commands_of set.work actor))) → P (entry.Replied actor command (unborn_reply command) None)) → Each P from_unborn
  unborn_each P h = each_flat P (told_unborn set.work) (unborn_in set c) (λ actor there. each_map P (λ command. entry.Replied actor command (unborn_reply command) None) (range_with_len 0 (length (commands_of set.work actor))) (λ command k. h actor command (is_unborn actor there) k))

  unborn_closing : (command : ℕ) → is_closing (unborn_reply command) ≡ true
  unborn_closing command = by (command == 0)
    where
      by : (b : Bool) → is_closing (if b then reply.UnfinishedUnborn else reply.NotReached) ≡ true
      by true = refl
      by false = refl

  -- ---- each is to somebody

  parts_home : (parts : List Part) → Each (EndsAs set c) parts → ((n : ℕ) → Among n (map (λ part. part.number) parts) → lives c n ≡ true) → (closings : List Entry) → Each (HasHomeAtEnd set c closings) (flat_map (λ part. part.left) parts)
  parts_home [] ends living closings = tt
  parts_home (part ∷ parts) ends living closings =
      each_joined (HasHomeAtEnd set c closings) part.left (flat_map (λ part. part.left) parts) (one part.left (left_to set c part ends.0)) (parts_home parts ends.1 (λ n there. living n (inr there)) closings)
    where
      one : (xs : List Entry) → Each (IsTo set.work.actors (label_of c part.number)) xs → Each (HasHomeAtEnd set c closings) xs
      one [] h = tt
      one (entry.Replied actor command given number ∷ xs) h = (inl (record { home = part.number; there = living part.number (inl refl); here = h.0 }), one xs h.1)
      one (_ ∷ xs) h = absurd h.0

  first_left : (actor count : ℕ) → Among actor (unborn_in set c) → count ≡ length (commands_of set.work actor) → 0 < count → Contains (run_closings set c parts) (entry.Replied actor 0 reply.UnfinishedUnborn None)
  first_left actor count a is some =
      let first : Among 0 (range_with_len 0 (length (commands_of set.work actor))) = among_range (length (commands_of set.work actor)) 0 0 (omega arith) (omega (arith, is, some)) in
      contains_from (run_closings set c parts) (entry.Replied actor 0 reply.UnfinishedUnborn None)
      (among_right from_parts from_unborn (entry.Replied actor 0 reply.UnfinishedUnborn None)
      (among_flattened (told_unborn set.work) (unborn_in set c) actor (entry.Replied actor 0 reply.UnfinishedUnborn None) a
      (among_mapped (λ command. entry.Replied actor command (unborn_reply command) None) (range_with_len 0 (length (commands_of set.work actor))) 0 first)))

  unborn_told : (actor command : ℕ) → Among actor (unborn_in set c) → Among command (range_with_len 0 (length (commands_of set.work actor))) → HasUnbornGrounds (run_closings set c parts) (record { actor = actor; command = command }) (unborn_reply command)
  unborn_told actor command a k = by (command == 0) refl
    where
      high : command < 0 + length (commands_of set.work actor)
      high = (in_range (length (commands_of set.work actor)) 0 command k).1

      by : (b : Bool) → (command == 0) ≡ b → HasUnbornGrounds (run_closings set c parts) (record { actor = actor; command = command }) (if b then reply.UnfinishedUnborn else reply.NotReached)
      by true is = eqb-true command 0 is
      by false is = elim (cases_lt 0 command) [
        | inl some ↦ record {
          earlier = 0;
          before = some;
          given = reply.UnfinishedUnborn;
          left = first_left actor (length (commands_of set.work actor)) a refl (omega (arith, some, high));
          unfinished = refl;
        }
        | inr none ↦ absurd (true≢false (sym (eq-eqb command 0 (omega (arith, none))) ∙ is))
      ]

  -- ---- counts

  none_of_parts : (by : By) → has_home set.work.actors c by.actor ≡ false → (parts : List Part) → Each (EndsAs set c) parts → ((n : ℕ) → Among n (map (λ part. part.number) parts) → lives c n ≡ true) → Each (λ e. replies_to by e ≡ false) (flat_map (λ part. part.left) parts)
  none_of_parts by none [] ends living = tt
  none_of_parts by none (part ∷ parts) ends living =
      each_joined (λ e. replies_to by e ≡ false) part.left (flat_map (λ part. part.left) parts) (one part.left (left_to set c part ends.0)) (none_of_parts by none parts ends.1 (λ n there. living n (inr there)))
    where
      one : (xs : List Entry) → Each (IsTo set.work.actors (label_of c part.number)) xs → Each (λ e. replies_to by e ≡ false) xs
      one [] h = tt
      one (entry.Replied actor command given number ∷ xs) h = (ap (λ b. b && (by.command == command)) (away (by.actor == actor) refl), one xs h.1)
        where
          away : (b : Bool) → (by.actor == actor) ≡ b → b ≡ false
          away false is = refl
          away true is = absurd (true≢false (sym (home_born set c part.number actor (living part.number (inl refl)) h.0) ∙ ap (has_home set.work.actors c) (sym (eqb-true by.actor actor is)) ∙ none))
      one (_ ∷ xs) h = absurd h.0

  counted : (by : By) → has_home set.work.actors c by.actor ≡ false → count_by (replies_to by) (run_closings set c parts) ≡ count_by (replies_to by) (told_unborn set.work by.actor)
  counted by none =
      let split = sum_by-append (λ e. cond (replies_to by e) 1 0) from_parts from_unborn in
      let first = count_none (replies_to by) from_parts (any_none (replies_to by) from_parts (none_of_parts by none parts m.ends living_number)) in
      let second = all_told set by (unborn_in set c) (distinct_filter (λ actor. not (has_home set.work.actors c actor)) (range_with_len 0 (length set.work.actors)) (range_distinct (length set.work.actors) 0)) (unborn_here by.actor none) in
      omega (arith, split, first, second)

  -- ---- the whole

  mine_so : (i : ℕ) → lives c i ≡ true → EndsAs set c (let part : Part = record { number = i; left = filter_map (own_entry set.work.actors (label_of c i) i) (run_closings set c parts) } in part)
  mine_so i h =
      let there : Among i (map (λ part. part.number) parts) = subst (Among i) (sym m.living) (among_kept (lives c) (numbers c) i (numbered_born c i (alive c i h).0) h) in
      let f = find_mine set c i m.on h parts m.ends living_number parts_apart there in
      let away : mine set c i from_unborn ≡ [] = mine_none set c i from_unborn (unborn_each (IsAway set c i) (λ actor command none k. unborn_away set c i m.on h actor command (unborn_reply command) None none)) in
      let all : mine set c i (run_closings set c parts) ≡ f.part.left =
      filter_map-append (own_entry set.work.actors (label_of c i) i) from_parts from_unborn ∙ ap₂ (λ a b. a ++ b) f.left away ∙ append_none set c i m.on h f.part.left in
      let same : f.part ≡ (let part : Part = record { number = i; left = mine set c i (run_closings set c parts) } in part) = ap₂ (λ (n : ℕ) (l : List Entry). (let part : Part = record { number = n; left = l } in part)) f.named (sym all) in
      subst (EndsAs set c) same f.ends

  closing_parts : (parts : List Part) → Each (EndsAs set c) parts → Each IsClosingEntry (flat_map (λ part. part.left) parts)
  closing_parts [] ends = tt
  closing_parts (part ∷ parts) ends = each_joined IsClosingEntry part.left (flat_map (λ part. part.left) parts) ends.0.closing (closing_parts parts ends.1)

  pub closings_of : Closings set c (run_closings set c parts)
  closings_of = record {
    on = m.on;
    closing = each_joined IsClosingEntry from_parts from_unborn (closing_parts parts m.ends) (unborn_each IsClosingEntry (λ actor command none k. (unborn_closing command, refl)));
    homes = each_joined (HasHomeAtEnd set c (run_closings set c parts)) from_parts from_unborn (parts_home parts m.ends living_number (run_closings set c parts))
        (unborn_each (HasHomeAtEnd set c (run_closings set c parts)) (λ actor command none k. inr (none, unborn_told actor command (unborn_here actor none) k)));
    ends = mine_so;
    once = λ by none some. counted by none ∙ told_once set by.actor (length (commands_of set.work by.actor)) 0 by.command (among_range (length (commands_of set.work by.actor)) 0 by.command (omega arith) (let low = some_below (commands_of set.work by.actor) by.command some in omega (arith, low)));
    no_other = λ by none bare. counted by none ∙ told_not set by.actor (length (commands_of set.work by.actor)) 0 by.command
        (λ there. let high = none_above (commands_of set.work by.actor) by.command bare in let r = in_range (length (commands_of set.work by.actor)) 0 by.command there in omega (arith, high, r.1));
    lost = m.lost;
    stays = m.stays;
  }

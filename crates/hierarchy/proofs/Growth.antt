-- What each step of a run leaves of every instance.
use Rattle.std.proofs.Common.{◌≡◌, ℕ, ◌==◌, List, [], ◌∷◌, ◌++◌, Bool, true, false, cond, not, ◌&&◌, ◌||◌, Option, Some, None, is_some, option_map, map, refl, sym, ap, ap₂, ◌∙◌, subst, append-nil, append_assoc, arith, true≢false}
use Rattle.std.specs.Prelude.{filter_map, find, if◌then◌else◌}
use Rattle.std.specs.Option.{option_map_or, option_or}
use Rattle.std.specs.List.{AllByRecursion as Each, cons_option, list_any}
use Rattle.std.proofs.lemmas.Bool.{and_parts, eq-eqb, eqb-true, false_from_ne_true, not-true, or_parts}
use Rattle.std.proofs.lemmas.List.Elements.{filter_map-append}
use Rattle.std.proofs.lemmas.List.Folds.{find-append, list_any-append}
use Rattle.kvs_rules.specs.Sequence.{EachAfter}
use Rattle.workload.specs.Actors.{are_together}
use Rattle.instance_rules.specs.Family.{Living, MayTick}
use Rattle.answers.specs.Chronicle.{IsOpenCommand, Setup, top}
use Rattle.answers.specs.Jobs.{instance_of, log_in}
use Rattle.answers.specs.Legal.{IsLegalEntry, IsLegalIssue}
use Rattle.answers.specs.Whole.{IsEarlierEntry}
use Rattle.answers.specs.declared.chronicle.Entry.{Entry}
use Rattle.answers.specs.declared.chronicle.Entry.TheVariants as entry
use Rattle.answers.specs.declared.chronicle.Reply.TheVariants as reply
use Rattle.workload.specs.declared.work.Actor.{Actor}
use Rattle.hierarchy.specs.Births.{Birth, birth_in, birth_of, births, ends, has_lost_home, is_birth_of, is_born, is_gone, label_of, lives, numbers}
use Rattle.hierarchy.specs.Families.{family_of, left_in, living_in, second_in, shuts_down}
use Rattle.hierarchy.specs.Growing.{GoesOn, IsMadeIn, ParentGoes}
use Rattle.hierarchy.specs.Grows.{GrowsByBirth, GrowsByEnds, GrowsByLost, GrowsByOwn, GrowsBySecond, GrowsOwn, LivesSo, StaysAs, born_by, born_to}
use Rattle.hierarchy.specs.Legal.{HasRunGrounds, IsLegalBirth, is_end}
use Rattle.hierarchy.specs.Own.{child_setup, only_if, own_entry, own_of, setup_in, work_for}
use Rattle.hierarchy.specs.Stretches.{entered_in}
use Rattle.hierarchy.proofs.Bearing.{birth_fits, birth_goes_on, born_own, fresh}
use Rattle.hierarchy.proofs.Ending.{ends_fit, ends_go_on}
use Rattle.hierarchy.proofs.Members.{gone_was_born, member_lives}
use Rattle.hierarchy.proofs.Nested.{born_is}
use Rattle.hierarchy.proofs.Numbering.{map_joined, numbers_count}
use Rattle.hierarchy.proofs.OneEntry.{birth_same, is_plain, lives_same, numbers_same, own_more}
use Rattle.hierarchy.proofs.Owning.{alive, births_joined, births_push, gone_push, is_alive, own_push}
use Rattle.hierarchy.proofs.Steps.{lost_issue_fits, lost_issue_goes_on, lost_reply_fits, lost_reply_goes_on, made_so, not_here, tick_fits, tick_goes_on}

-- ---- one instance

-- what an instance of this birth is given
abbrev given_as : Setup → Option Birth → Setup
given_as set o = option_map_or (child_setup set) o (record set { work = work_for set.work None set.size })

abbrev shuts_as : Setup → Option Birth → List Entry → Bool
shuts_as set o own = option_map_or (λ b. list_any (shuts_down set.work) own) o false

-- the job for which it was born, and that of which instance
abbrev pub from_of : Option Birth → Option (ℕ × ℕ)
from_of o = option_map (λ b. (b.parent, b.job)) o

living_is : (set : Setup) (c d : List Entry) (i : ℕ) → birth_of d i ≡ birth_of c i → own_of set d i ≡ own_of set c i → living_in set d i ≡ living_in set c i
living_is set c d i birth own = ap₂ (λ (o : Option Birth) (l : List Entry). (let x : Living = record {
  number = i;
  inst = instance_of (given_as set o);
  log = log_in (given_as set o).work l;
  from = from_of o;
  shuts = shuts_as set o l;
} in x)) birth own

shuts_more : (set : Setup) (o : Option Birth) (own told : List Entry) → shuts_as set o (own ++ told) ≡ (shuts_as set o own || (is_some o && list_any (shuts_down set.work) told))
shuts_more set None own told = refl
shuts_more set (Some b) own told = list_any-append (shuts_down set.work) own told

module _ (set : Setup) (c more : List Entry) (i : ℕ) (birth : birth_of (c ++ more) i ≡ birth_of c i) where
  pub stays : own_of set (c ++ more) i ≡ own_of set c i → StaysAs set c more i
  stays own = record { birth = birth; setup = ap (given_as set) birth; own = own; living = living_is set c (c ++ more) i birth own }

  pub grows : (told : List Entry) → own_of set (c ++ more) i ≡ own_of set c i ++ told → GrowsOwn set c more i told
  grows told own = record {
    birth = birth;
    setup = ap (given_as set) birth;
    own = own;
    shuts = ap₂ (shuts_as set) birth own ∙ shuts_more set (birth_of c i) (own_of set c i) told;
  }

-- ---- an entry that is no birth and no end

or_false : (b : Bool) → (b || false) ≡ b
or_false true = refl
or_false false = refl

or_true : (b : Bool) → (b || true) ≡ true
or_true true = refl
or_true false = refl

module _ (c : List Entry) (e : Entry) (unborn : birth_in e ≡ None) (plain : is_end e ≡ false) where
  so_plain : LivesSo c (e ∷ [])
  so_plain = record { numbered = numbers_same c e unborn plain; births = birth_same c e unborn plain; lives_so = lives_same c e unborn plain }

  stays_plain : (set : Setup) (k : ℕ) → lives c k ≡ true → own_entry set.work.actors (label_of c k) k e ≡ None → StaysAs set c (e ∷ []) k
  stays_plain set k h none = stays set c (e ∷ []) k (birth_same c e unborn plain k)
      (own_more set c e unborn plain k h ∙ ap (λ o. own_of set c k ++ cons_option o []) none ∙ append-nil (own_of set c k))

-- ---- what an instance makes

module _ (set : Setup) (c : List Entry) (i : ℕ) where
  none_born : (own : List Entry) → Each (IsMadeIn set.work.actors (label_of c i)) own → births (map (entered_in i) own) ≡ []
  none_born [] m = refl
  none_born (f ∷ own) m = ap₂ (λ o l. cons_option o l) (is_plain set c i f m.0).0 (none_born own m.1)

  pub own_grown : (own : List Entry) → GoesOn set c → lives c i ≡ true → EachAfter (IsLegalEntry (setup_in set c i)) (own_of set c i) own
      → Each (IsMadeIn set.work.actors (label_of c i)) own → Each IsEarlierEntry own → GrowsByOwn set c i own
  own_grown own on h legal m early =
      let g = made_so set i own c on h legal m early in
      record {
        legal = g.legal;
        on = g.on;
        so = record {
          numbered = ap (λ bs. top ∷ map (λ b. b.child) bs) (births_joined c (map (entered_in i) own) ∙ ap (λ bs. births c ++ bs) (none_born own m) ∙ append-nil (births c));
          births = g.births;
          lives_so = g.lives_so;
        };
        mine = grows set c (map (entered_in i) own) i (g.births i) own g.mine;
        others = λ k there differ. stays set c (map (entered_in i) own) k (g.births k) (g.others k there (λ same. differ (sym same)));
      }

-- ---- a second

pub second_grown : (set : Setup) (c : List Entry) (second : ℕ) → GoesOn set c → MayTick (family_of set c) (second_in set c) (left_in set c) second
    → ((i : ℕ) → lives c i ≡ true → IsLegalEntry (setup_in set c i) (own_of set c i) (entry.Ticked second)) → GrowsBySecond set c second
second_grown set c second on may each = record {
  legal = tick_fits set c on second may each;
  on = tick_goes_on set c on second may each;
  so = so_plain c (entry.Ticked second) refl refl;
  each = λ k h. grows set c (entry.Ticked second ∷ []) k (birth_same c (entry.Ticked second) refl refl k) (entry.Ticked second ∷ []) (own_more set c (entry.Ticked second) refl refl k h);
}

-- ---- actors whose instances have gone

module _ (set : Setup) (c : List Entry) (actor command : ℕ) (on : GoesOn set c) (lost : has_lost_home set.work.actors c actor ≡ true) where
  pub issue_grown : IsLegalIssue set c (record { actor = actor; command = command }) → GrowsByLost set c (entry.Issued actor command)
  issue_grown legal = record {
    legal = lost_issue_fits set c on actor lost command legal;
    on = lost_issue_goes_on set c on actor lost command legal;
    so = so_plain c (entry.Issued actor command) refl refl;
    others = λ k h. stays_plain c (entry.Issued actor command) refl refl set k h (ap (λ b. only_if b (entry.Issued actor command)) (not_here set c on actor lost k h));
  }

  pub reply_grown : IsOpenCommand (record { actor = actor; command = command }) c → GrowsByLost set c (entry.Replied actor command reply.Gone None)
  reply_grown waits = record {
    legal = lost_reply_fits set c on actor lost command waits;
    on = lost_reply_goes_on set c on actor lost command waits;
    so = so_plain c (entry.Replied actor command reply.Gone None) refl refl;
    others = λ k h. stays_plain c (entry.Replied actor command reply.Gone None) refl refl set k h (ap (λ b. only_if b (entry.Replied actor command reply.Gone None)) (not_here set c on actor lost k h));
  }

-- ---- a birth

module _ (set : Setup) (c : List Entry) (b : Birth) (on : GoesOn set c) (l : IsLegalBirth set c b.child b.parent b.job b.label b.second b.grant) where
  unborn : is_born c b.child ≡ false
  unborn = ap (is_born c) l.next ∙ fresh set c on.run

  not_gone : is_gone c b.child ≡ false
  not_gone = false_from_ne_true (is_gone c b.child) (λ gone. true≢false (sym (gone_was_born set c on.run b.child gone) ∙ unborn))

  born_here : birth_of (c ++ born_by b ∷ []) b.child ≡ Some b
  born_here = born_is c (born_by b) b.child unborn (eq-eqb b.child b.child refl)

  births_more : births (c ++ born_by b ∷ []) ≡ births c ++ b ∷ []
  births_more = births_push c (born_by b)

  birth_other : (k : ℕ) → (k ≡ b.child → ⊥) → birth_of (c ++ born_by b ∷ []) k ≡ birth_of c k
  birth_other k differ = ap (λ (o : Option Birth). if k == top then None else o) found
    where
      other : (b.child == k) ≡ false
      other = false_from_ne_true (b.child == k) (λ t. differ (sym (eqb-true b.child k t)))

      kept : (o : Option Birth) → option_or o None ≡ o
      kept None = refl
      kept (Some x) = refl

      found : find (is_birth_of k) (births (c ++ born_by b ∷ [])) ≡ find (is_birth_of k) (births c)
      found =
          ap (find (is_birth_of k)) births_more ∙ find-append (is_birth_of k) (births c) (b ∷ [])
          ∙ ap (λ t. option_or (find (is_birth_of k) (births c)) (cond t (Some b) None)) other ∙ kept (find (is_birth_of k) (births c))

  gone_other : (k : ℕ) → is_gone (c ++ born_by b ∷ []) k ≡ is_gone c k
  gone_other k = gone_push c (born_by b) k ∙ or_false (is_gone c k)

  lives_other : (k : ℕ) → (k ≡ b.child → ⊥) → lives (c ++ born_by b ∷ []) k ≡ lives c k
  lives_other k differ = ap₂ (λ o g. ((k == top) || is_some o) && not g) (birth_other k differ) (gone_other k)

  bearer : lives c b.parent ≡ true
  bearer = member_lives set c l.due.living b.parent l.due.lives l.due.named

  -- whoever was born isn't the child
  differs : (k : ℕ) → is_born c k ≡ true → k ≡ b.child → ⊥
  differs k born same = true≢false (sym born ∙ ap (is_born c) same ∙ unborn)

  own_pushed : (k : ℕ) → lives c k ≡ true → own_of set (c ++ born_by b ∷ []) k ≡ own_of set c k ++ cons_option (only_if (b.parent == k) (born_to b)) []
  own_pushed k h = own_push set c (born_by b) k h refl

  pub birth_grown : IsLegalEntry (setup_in set c b.parent) (own_of set c b.parent) (born_to b) → ((i : ℕ) → is_born c i ≡ true → are_together (label_of c i) (Some b.label) ≡ false) → GrowsByBirth set c b
  birth_grown follows new = record {
    legal = birth_fits set c on b.child b.parent b.job b.label b.second b.grant l follows new;
    on = birth_goes_on set c on b.child b.parent b.job b.label b.second b.grant l follows new;
    next = (let n = numbers_count c in let next = l.next in omega arith);
    numbered = ap (λ bs. top ∷ map (λ b. b.child) bs) births_more ∙ ap (λ ns. top ∷ ns) (map_joined (λ b. b.child) (births c) (b ∷ []));
    births = birth_other;
    lives_so = lives_other;
    birth = born_here;
    begins = is_alive (c ++ born_by b ∷ []) b.child (ap (λ o. (b.child == top) || is_some o) born_here ∙ or_true (b.child == top)) (gone_other b.child ∙ not_gone);
    given = ap (given_as set) born_here;
    own = none;
    shuts = ap₂ (shuts_as set) born_here none;
    parent = grows set c (born_by b ∷ []) b.parent (birth_other b.parent (differs b.parent (alive c b.parent bearer).0)) (born_to b ∷ [])
        (own_pushed b.parent bearer ∙ ap (λ t. own_of set c b.parent ++ cons_option (only_if t (born_to b)) []) (eq-eqb b.parent b.parent refl));
    others = λ k h differ. stays set c (born_by b ∷ []) k (birth_other k (differs k (alive c k h).0))
        (own_pushed k h ∙ ap (λ t. own_of set c k ++ cons_option (only_if t (born_to b)) []) (false_from_ne_true (b.parent == k) (λ t. differ (sym (eqb-true b.parent k t)))) ∙ append-nil (own_of set c k));
  }
    where
      none : own_of set (c ++ born_by b ∷ []) b.child ≡ []
      none = born_own set c on b.child b.parent b.job b.label b.second b.grant l

-- ---- ends

module _ (c : List Entry) where
  end_unborn : (e : Entry) → is_end e ≡ true → birth_in e ≡ None
  end_unborn (entry.Gone child parent job shut) h = refl
  end_unborn _ h = absurd (true≢false (sym h))

  ends_unborn : (gone : List Entry) → Each (λ e. is_end e ≡ true) gone → births gone ≡ []
  ends_unborn [] h = refl
  ends_unborn (e ∷ gone) h = ap₂ (λ o l. cons_option o l) (end_unborn e h.0) (ends_unborn gone h.1)

  module _ (gone : List Entry) (n : Each (λ e. is_end e ≡ true) gone) where
    pub births_left : births (c ++ gone) ≡ births c
    births_left = births_joined c gone ∙ ap (λ bs. births c ++ bs) (ends_unborn gone n) ∙ append-nil (births c)

    pub birth_left : (k : ℕ) → birth_of (c ++ gone) k ≡ birth_of c k
    birth_left k = ap (λ bs. if k == top then None else find (is_birth_of k) bs) births_left

    pub numbers_left : numbers (c ++ gone) ≡ numbers c
    numbers_left = ap (λ bs. top ∷ map (λ b. b.child) bs) births_left

    pub lives_left : (k : ℕ) → lives (c ++ gone) k ≡ (lives c k && not (is_gone gone k))
    lives_left k =
        ap₂ (λ o g. ((k == top) || is_some o) && not g) (birth_left k) (list_any-append (ends k) c gone)
        ∙ regroup (is_born c k) (is_gone c k) (is_gone gone k)
      where
        regroup : (a g h : Bool) → (a && not (g || h)) ≡ ((a && not g) && not h)
        regroup true true h = refl
        regroup true false h = refl
        regroup false g h = refl

    -- whoever lives behind them lived before, and doesn't end in them
    pub lived_left : (k : ℕ) → lives (c ++ gone) k ≡ true → (lives c k ≡ true) × (is_gone gone k ≡ false)
    lived_left k h = let p = and_parts (lives c k) (not (is_gone gone k)) (sym (lives_left k) ∙ h) in (p.0, not-true (is_gone gone k) p.1)

-- the own chronicle of one that lives behind ends
pub own_left : (set : Setup) (k : ℕ) (gone c : List Entry) → Each (λ e. is_end e ≡ true) gone → lives (c ++ gone) k ≡ true
    → own_of set (c ++ gone) k ≡ own_of set c k ++ filter_map (own_entry set.work.actors (label_of c k) k) gone
own_left set k [] c n h = ap (λ d. own_of set d k) (append-nil c) ∙ sym (append-nil (own_of set c k))
own_left set k (e ∷ gone) c n h =
    let joined : (c ++ e ∷ []) ++ gone ≡ c ++ e ∷ gone = append_assoc c (e ∷ []) gone in
    let f = own_entry set.work.actors (label_of c k) k in
    let now = lived_left c (e ∷ gone) n k h in
    let stays : ends k e ≡ false = (or_parts (ends k e) (is_gone gone k) now.1).0 in
    let more = own_left set k gone (c ++ e ∷ []) n.1 (ap (λ d. lives d k) joined ∙ h) in
    ap (λ d. own_of set d k) (sym joined) ∙ more
    ∙ ap₂ (λ own label. own ++ filter_map (own_entry set.work.actors label k) gone) (own_push set c e k now.0 stays) (ap (option_map (λ b. b.label)) (birth_left c (e ∷ []) (n.0, tt) k))
    ∙ append_assoc (own_of set c k) (cons_option (f e) []) (filter_map f gone)
    ∙ ap (λ l. own_of set c k ++ l) (sym (filter_map-append f (e ∷ []) gone))

-- none of these is the end of a child of this one
abbrev pub AreOfOthers : ℕ → List Entry → Type 0
AreOfOthers k gone = Each (λ e. (child parent job : ℕ) (shut : Bool) → e ≡ entry.Gone child parent job shut → (parent == k) ≡ false) gone

pub none_told : (actors : List Actor) (label : Option (List ℕ)) (k : ℕ) (gone : List Entry) → Each (λ e. is_end e ≡ true) gone → AreOfOthers k gone → filter_map (own_entry actors label k) gone ≡ []
none_told actors label k [] n h = refl
none_told actors label k (entry.Gone child parent job shut ∷ gone) n h =
    ap₂ (λ t l. cons_option (only_if t (entry.Gone child top job shut)) l) (h.0 child parent job shut refl) (none_told actors label k gone n.1 h.1)
none_told actors label k (_ ∷ gone) n h = absurd (true≢false (sym n.0))

-- the inner ends are of parents that go
all_end : (gone inner : List Entry) → Each (ParentGoes gone) inner → Each (λ e. is_end e ≡ true) inner
all_end gone [] h = tt
all_end gone (entry.Gone child parent job shut ∷ inner) h = (refl, all_end gone inner h.1)
all_end gone (_ ∷ inner) h = absurd h.0

of_others : (gone : List Entry) (k : ℕ) → is_gone gone k ≡ false → (inner : List Entry) → Each (ParentGoes gone) inner → AreOfOthers k inner
of_others gone k stays [] h = tt
of_others gone k stays (x ∷ inner) h = ((λ child parent job shut same. of parent (subst (ParentGoes gone) same h.0)), of_others gone k stays inner h.1)
  where
    of : (parent : ℕ) → is_gone gone parent ≡ true → (parent == k) ≡ false
    of parent goes = false_from_ne_true (parent == k) (λ t. true≢false (sym goes ∙ ap (is_gone gone) (eqb-true parent k t) ∙ stays))

each_last : {A : Type 0} (P : A → Type 0) (xs : List A) (y : A) → Each P xs → P y → Each P (xs ++ y ∷ [])
each_last P [] y h g = (g, tt)
each_last P (x ∷ xs) y h g = (h.0, each_last P xs y h.1 g)

module _ (set : Setup) (c inner : List Entry) (child parent job : ℕ) (shut : Bool) (on : GoesOn set c)
    (inside : Each (ParentGoes (inner ++ entry.Gone child parent job shut ∷ [])) inner)
    (grounds : EachAfter (HasRunGrounds set) c (inner ++ entry.Gone child parent job shut ∷ []))
    (follows : IsLegalEntry (setup_in set c parent) (own_of set c parent) (entry.Gone child top job shut)) where
  abbrev gone : List Entry
  gone = inner ++ entry.Gone child parent job shut ∷ []

  are_ends : Each (λ e. is_end e ≡ true) gone
  are_ends = each_last (λ e. is_end e ≡ true) inner (entry.Gone child parent job shut) (all_end gone inner inside) refl

  -- what one that lives behind them is told
  told_left : (k : ℕ) → lives (c ++ gone) k ≡ true → own_of set (c ++ gone) k ≡ own_of set c k ++ cons_option (only_if (parent == k) (entry.Gone child top job shut)) []
  told_left k h =
      let f = own_entry set.work.actors (label_of c k) k in
      let now = lived_left c gone are_ends k h in
      own_left set k gone c are_ends h
      ∙ ap (λ l. own_of set c k ++ l) (filter_map-append f inner (entry.Gone child parent job shut ∷ [])
      ∙ ap (λ l. l ++ cons_option (only_if (parent == k) (entry.Gone child top job shut)) [])
      (none_told set.work.actors (label_of c k) k inner (all_end gone inner inside) (of_others gone k now.1 inner inside)))

  pub ends_grown : GrowsByEnds set c (inner ++ entry.Gone child parent job shut ∷ []) child parent job shut
  ends_grown = record {
    legal = ends_fit set c inner on child parent job shut inside grounds follows;
    on = ends_go_on set c inner on child parent job shut inside grounds follows;
    numbered = numbers_left c gone are_ends;
    births = birth_left c gone are_ends;
    lives_so = lives_left c gone are_ends;
    told = λ h. grows set c gone parent (birth_left c gone are_ends parent) (entry.Gone child top job shut ∷ [])
        (told_left parent h ∙ ap (λ t. own_of set c parent ++ cons_option (only_if t (entry.Gone child top job shut)) []) (eq-eqb parent parent refl));
    others = λ k h differ. stays set c gone k (birth_left c gone are_ends k)
        (told_left k h ∙ ap (λ t. own_of set c k ++ cons_option (only_if t (entry.Gone child top job shut)) []) (false_from_ne_true (parent == k) (λ t. differ (sym (eqb-true parent k t)))) ∙ append-nil (own_of set c k));
  }

-- How an instance is followed along the chronicle of its run.
use Rattle.std.proofs.Common.{◌≡◌, ◌≢◌, ℕ, ◌+◌, ◌<◌, ◌^◌, ◌==◌, ◌⊎◌, inl, inr, List, [], ◌∷◌, ◌++◌, Bool, true, false, cond, ◌&&◌, length, map, Option, Some, None, is_some, unwrap_or, refl, sym, ap, ap₂, ◌∙◌, subst, arith, append-nil, append_assoc, true≢false, bytes_eq}
use Rattle.std.specs.Global.{Vec}
use Rattle.std.proofs.Common as common
use Rattle.std.specs.Prelude.{filter, find, ◌||◌}
use Rattle.std.specs.List.{cons_option}
use Rattle.std.proofs.lemmas.Bool.{eq-eqb, false_from_ne_true, ne_eqb}
use Rattle.kvs_rules.specs.Sequence.{EachAfter}
use Rattle.kvs_rules.proofs.Sequences.{each_parts, latest_push}
use Rattle.kvs_rules.specs.Namespaces.{is_primary, primary}
use Rattle.kvs_txn.specs.declared.txn.By.{By}
use Rattle.kvs_txn.specs.declared.txn.Group.{Group}
use Rattle.instance_rules.specs.Legal.{IsSound}
use Rattle.instance_rules.specs.Log.{IsInstance}
use Rattle.resource_set.specs.Writing.{r_text}
use Rattle.resource_set.proofs.Ranks.{bytes_eq_back}
use Rattle.std.proofs.lemmas.Slice.Eq.{bytes_eq-Decides}
use Rattle.answers.specs.Chronicle.{Setup, top}
use Rattle.answers.specs.Jobs.{instance_of, log_in, second_of, start_of}
use Rattle.answers.specs.Legal.{IsLegal, IsLegalEntry}
use Rattle.answers.specs.declared.chronicle.Entry.{Entry}
use Rattle.answers.specs.declared.chronicle.Entry.TheVariants as entry
use Rattle.run_laws.specs.Times.{KeepsTime}
use Rattle.workload.specs.declared.work.Actor.{Actor}
use Rattle.std.proofs.lemmas.List.Folds.{find-append}
use Rattle.std.specs.Option.{option_map_or, option_or}
use Rattle.resource_set.specs.declared.node.Resources.{Resources}
use Rattle.hierarchy.specs.Births.{Birth, birth_in, birth_of, births, ends, is_birth_of, is_born, is_gone, label_of, lives, numbers}
use Rattle.hierarchy.specs.Legal.{IsLegalRun, IsLegalRunEntry, is_end}
use Rattle.hierarchy.specs.Own.{begins, child_setup, only_if, own_entry, own_of, setup_in, work_for}
use Rattle.hierarchy.proofs.Members.{gone_was_born}
use Rattle.hierarchy.proofs.Numbering.{born_exactly, numbers_count}
use Rattle.hierarchy.proofs.Advances.{timely}
use Rattle.hierarchy.proofs.Owning.{alive, births_push, born_kept, gone_push, is_alive, lived, lives_on, own_born, own_push, setup_kept}
use Rattle.hierarchy.proofs.Sound.{sound_in}
use Rattle.run_picture.specs.Columns.{AreColumns, End, IsColumnAt, end_at, ends_in, sees, ticked, time_at}
use Rattle.run_laws.proofs.Moves.{stands}
use Rattle.run_picture.specs.Follows.{Enters, IsDrawn, IsFollowed, IsRun, KeepGroups, KeepsUp, column_of, first_heard, with_column}
use Rattle.run_picture.proofs.Shown.{cells_same}
use Rattle.run_picture.specs.declared.following.Following.{Following}
use Rattle.run_picture.specs.declared.jobs.JobRow.{JobRow}
use Rattle.run_picture.specs.Rows.{cell_of}
use Rattle.run_picture.specs.declared.picture.Column.{Column}
use Rattle.run_picture.specs.declared.picture.Place.{Place}
use Rattle.run_picture.proofs.Own.{IsQuietEntry, first_keeps, hearing_keeps, landing_keeps, quiet_keeps, quiet_moment}

-- ---- lists

pub filter_push : {A : Type 0} (p : A → Bool) (xs : List A) (y : A) → filter p (xs ++ y ∷ []) ≡ filter p xs ++ cond (p y) (y ∷ []) []
filter_push p [] y = refl
filter_push p (x ∷ xs) y = by (p x) (filter_push p xs y)
  where
    by : (b : Bool) → filter p (xs ++ y ∷ []) ≡ filter p xs ++ cond (p y) (y ∷ []) []
        → cond b (x ∷ filter p (xs ++ y ∷ [])) (filter p (xs ++ y ∷ [])) ≡ cond b (x ∷ filter p xs) (filter p xs) ++ cond (p y) (y ∷ []) []
    by true again = ap (λ l. x ∷ l) again
    by false again = again

only_is : (b : Bool) (x f : Entry) → only_if b x ≡ Some f → (b ≡ true) × (x ≡ f)
only_is true x f e = (refl, (let same : x ≡ f = cc in same))
only_is false x f e = cc

-- ---- what is about the instance

-- an entry of which nothing is kept of the instance of this number
abbrev pub IsPassed : ℕ → Entry → Type 0
IsPassed i (entry.Landed instance space number authors groups) = ((instance == i) && is_primary space) ≡ false
IsPassed i (entry.Heard instance broker space number) = ((instance == i) && is_primary space) ≡ false
IsPassed i _ = Unit {0}

quiet_space : (i instance : ℕ) (space : List ℕ) → ((instance == i) && is_primary space) ≡ false → (instance == i) ≡ true → bytes_eq primary space ≡ false
quiet_space i instance space passed here = bytes_eq_back primary space ∙ ap (λ b. b && is_primary space) (sym here) ∙ passed

quiet_own : (actors : List Actor) (label : Option (List ℕ)) (i : ℕ) (e : Entry) → IsPassed i e → (f : Entry) → own_entry actors label i e ≡ Some f → IsQuietEntry f
quiet_own actors label i (entry.Issued actor command) p f is = subst IsQuietEntry (only_is _ _ f is).1 tt
quiet_own actors label i (entry.Landed instance space number authors groups) p f is =
    let o = only_is (instance == i) (entry.Landed top space number authors groups) f is in
    subst IsQuietEntry o.1 (quiet_space i instance space p o.0)
quiet_own actors label i (entry.Denied instance space authors group refusal) p f is = subst IsQuietEntry (only_is _ _ f is).1 tt
quiet_own actors label i (entry.Heard instance broker space number) p f is =
    let o = only_is (instance == i) (entry.Heard top broker space number) f is in
    subst IsQuietEntry o.1 (quiet_space i instance space p o.0)
quiet_own actors label i (entry.Got instance broker reference) p f is = subst IsQuietEntry (only_is _ _ f is).1 tt
quiet_own actors label i (entry.Dropped instance broker reference) p f is = subst IsQuietEntry (only_is _ _ f is).1 tt
quiet_own actors label i (entry.Replied actor command given number) p f is = subst IsQuietEntry (only_is _ _ f is).1 tt
quiet_own actors label i (entry.Told from to) p f is = subst IsQuietEntry (only_is _ _ f is).1 tt
quiet_own actors label i (entry.Ticked second) p f is = let same : entry.Ticked second ≡ f = cc in subst IsQuietEntry same tt
quiet_own actors label i (entry.Born child parent job name second grant) p f is = subst IsQuietEntry (only_is _ _ f is).1 tt
quiet_own actors label i (entry.Gone child parent job shut) p f is = subst IsQuietEntry (only_is _ _ f is).1 tt
quiet_own actors label i (entry.Watched actor command number first count) p f is = subst IsQuietEntry (only_is _ _ f is).1 tt
quiet_own actors label i entry.Closed p f is = let same : entry.Closed ≡ f = cc in subst IsQuietEntry same tt

-- ---- one entry

module _ (set : Setup) (i brokers : ℕ) (places : List Place) where
  ends_push : (past more : List Entry) (e : Entry) → ends_in set past (more ++ e ∷ []) ≡ ends_in set past more ++ cond (is_some (ticked e)) (end_at set (past ++ more) ∷ []) []
  ends_push past [] e = append-nil _ ∙ ap (λ p. cond (is_some (ticked e)) (end_at set p ∷ []) []) (sym (append-nil past))
  ends_push past (x ∷ xs) e =
      ap (λ l. cond (is_some (ticked x)) (end_at set past ∷ []) [] ++ l)
      (ends_push (past ++ x ∷ []) xs e ∙ ap (λ p. ends_in set (past ++ x ∷ []) xs ++ cond (is_some (ticked e)) (end_at set p ∷ []) []) (append_assoc past (x ∷ []) xs))
      ∙ sym (append_assoc (cond (is_some (ticked x)) (end_at set past ∷ []) []) (ends_in set (past ++ x ∷ []) xs) _)

  pub columns_push : (es : List End) (cs : List Column) (end : End) (column : Column) → AreColumns set i places es cs → IsColumnAt set i places end column → AreColumns set i places (es ++ end ∷ []) (cs ++ column ∷ [])
  columns_push [] [] end column h c = (c, tt)
  columns_push (x ∷ xs) (y ∷ ys) end column h c = (h.0, columns_push xs ys end column h.1 c)
  columns_push [] (y ∷ ys) end column h c = absurd h
  columns_push (x ∷ xs) [] end column h c = absurd h

  time_push : (past : List Entry) (e : Entry) → time_at set (past ++ e ∷ []) ≡ unwrap_or (ticked e) (time_at set past)
  time_push past e = latest_push ticked (start_of set) past e

  -- the instance neither begins nor ends in the entry
  module _ (past : List Entry) (e : Entry) (begun : begins i e ≡ false) (stays : ends i e ≡ false) where
    pub lives_same : lives (past ++ e ∷ []) i ≡ lives past i
    lives_same = by (lives past i) refl
      where
        by : (b : Bool) → lives past i ≡ b → lives (past ++ e ∷ []) i ≡ lives past i
        by true h = lives_on past e i h stays ∙ sym h
        by false h =
            false_from_ne_true (lives (past ++ e ∷ []) i) (λ now. elim (lived past e i now).how [
              | inl was ↦ true≢false (sym was ∙ h)
              | inr new ↦ true≢false (sym new.1 ∙ begun)
            ])
            ∙ sym h

    unborn_before : is_born (past ++ e ∷ []) i ≡ false → is_born past i ≡ false
    unborn_before h = false_from_ne_true (is_born past i) (λ b. true≢false (sym (born_kept past (e ∷ []) i b) ∙ h))

    keeps_on : (rows : List JobRow) (known : List (Option ℕ))
        → ((was : lives past i ≡ true) → KeepsUp (setup_in set past i) (own_of set past i ++ cons_option (own_entry set.work.actors (label_of past i) i e) []) rows known)
        → lives (past ++ e ∷ []) i ≡ true → KeepsUp (setup_in set (past ++ e ∷ []) i) (own_of set (past ++ e ∷ []) i) rows known
    keeps_on rows known step now =
        let was : lives past i ≡ true = sym lives_same ∙ now in
        subst (λ s. KeepsUp s (own_of set (past ++ e ∷ []) i) rows known) (sym (setup_kept set past (e ∷ []) i (alive past i was).0))
        (subst (λ own. KeepsUp (setup_in set past i) own rows known) (sym (own_push set past e i was stays)) (step was))

    same_columns : ticked e ≡ None → (cs : List Column) → AreColumns set i places (filter (sees i) (ends_in set [] past)) cs → AreColumns set i places (filter (sees i) (ends_in set [] (past ++ e ∷ []))) cs
    same_columns none cs h =
        subst (λ es. AreColumns set i places (filter (sees i) es) cs)
        (sym (ends_push [] past e ∙ ap (λ o. ends_in set [] past ++ cond (is_some o) (end_at set past ∷ []) []) none ∙ append-nil (ends_in set [] past))) h

    same_time : ticked e ≡ None → time_at set (past ++ e ∷ []) ≡ time_at set past
    same_time none = time_push past e ∙ ap (λ o. unwrap_or o (time_at set past)) none

    quiet_step : IsPassed i e → (f : Following) → IsFollowed set past i brokers places f → (was : lives past i ≡ true)
        → KeepsUp (setup_in set past i) (own_of set past i ++ cons_option (own_entry set.work.actors (label_of past i) i e) []) f.rows.items f.heard.items
    quiet_step passed f h was = by (own_entry set.work.actors (label_of past i) i e) (quiet_own set.work.actors (label_of past i) i e passed)
      where
        by : (o : Option Entry) → ((g : Entry) → o ≡ Some g → IsQuietEntry g) → KeepsUp (setup_in set past i) (own_of set past i ++ cons_option o []) f.rows.items f.heard.items
        by None quiet = subst (λ own. KeepsUp (setup_in set past i) own f.rows.items f.heard.items) (sym (append-nil (own_of set past i))) (h.keeps was)
        by (Some g) quiet = quiet_keeps (setup_in set past i) (own_of set past i) g f.rows.items f.heard.items (quiet_moment (setup_in set past i).work (own_of set past i) g (quiet g refl)) (h.keeps was)

    -- an entry of which nothing is kept
    pub passes : ticked e ≡ None → IsPassed i e → (f : Following) → IsFollowed set past i brokers places f → IsFollowed set (past ++ e ∷ []) i brokers places f
    passes none passed f h = record {
      second = h.second ∙ sym (same_time none);
      living = h.living ∙ sym lives_same;
      fresh = λ b. h.fresh (unborn_before b);
      keeps = keeps_on f.rows.items f.heard.items (quiet_step passed f h);
      drawn = h.drawn;
      columns = same_columns none f.columns h.columns;
    }

  -- ---- a landing and a hearing in `primary`

  -- what an entry is to a living instance is legal there
  module _ (past : List Entry) (e : Entry) (run : IsRun set (past ++ e ∷ [])) where
    before : IsLegalRun set past
    before = (each_parts (IsLegalRunEntry set) [] past (e ∷ []) run.legal).0

    follows : IsLegalRunEntry set past e
    follows = (each_parts (IsLegalRunEntry set) [] past (e ∷ []) run.legal).1.0

    module _ (begun : begins i e ≡ false) (stays : ends i e ≡ false) (plain : is_end e ≡ false) (was : lives past i ≡ true) (f : Entry) (is : own_entry set.work.actors (label_of past i) i e ≡ Some f) where
      abbrev s : Setup
      s = setup_in set past i

      abbrev own : List Entry
      own = own_of set past i

      pushed : own_of set (past ++ e ∷ []) i ≡ own ++ f ∷ []
      pushed = own_push set past e i was stays ∙ ap (λ o. own_of set past i ++ cons_option o []) is

      now : lives (past ++ e ∷ []) i ≡ true
      now = lives_same past e begun stays ∙ was

      kept : setup_in set (past ++ e ∷ []) i ≡ s
      kept = setup_kept set past (e ∷ []) i (alive past i was).0

      parts : EachAfter (IsLegalEntry s) [] own × EachAfter (IsLegalEntry s) own (f ∷ [])
      parts = each_parts (IsLegalEntry s) [] own (f ∷ [])
          (subst (IsLegal s) pushed (subst (λ x. IsLegal x (own_of set (past ++ e ∷ []) i)) kept (follows.own plain i now)))

      in_time : second_of s own < 2 ^ 64
      in_time =
          let all : KeepsTime s (own ++ f ∷ []) = subst (KeepsTime s) pushed (subst (λ x. KeepsTime x (own_of set (past ++ e ∷ []) i)) kept (timely set run.timely (past ++ e ∷ []) run.legal i now)) in
          (each_parts (λ before _. second_of s before < 2 ^ 64) [] own (f ∷ []) all).1.0

      valid : IsInstance (instance_of s)
      valid = subst (λ x. IsInstance (instance_of x)) kept (run.valid i (alive (past ++ e ∷ []) i now).0)

      sound : IsSound (instance_of s) (log_in s.work own)
      sound = sound_in set past before i was (record { valid = valid; timely = timely set run.timely past before i was })

  same_space : (space : List ℕ) → is_primary space ≡ true → space ≡ primary
  same_space space h = (bytes_eq-Decides space primary).0 h

  pub lands : (past : List Entry) (space : List ℕ) (number : ℕ) (authors : List (Option By)) (groups : List Group) → is_primary space ≡ true → let e : Entry = entry.Landed i space number authors groups in
      IsRun set (past ++ e ∷ []) → (f : Following) (rows : Vec JobRow) → KeepGroups f.rows.items groups rows.items
      → IsFollowed set past i brokers places f → IsFollowed set (past ++ e ∷ []) i brokers places (record f { rows = rows; cells = None })
  lands past space number authors groups here run f rows made h =
      let e : Entry = entry.Landed i space number authors groups in
      let was : lives past i ≡ true = (follows past e run).grounds in
      let g : Entry = entry.Landed top primary number authors groups in
      let is : own_entry set.work.actors (label_of past i) i e ≡ Some g = ap (λ b. only_if b (entry.Landed top space number authors groups)) (eq-eqb i i refl) ∙ ap (λ n. Some (entry.Landed top n number authors groups)) (same_space space here) in
      let p = parts past e run refl refl refl was g is in
      record {
        second = h.second ∙ sym (same_time past e refl refl refl);
        living = h.living ∙ sym (lives_same past e refl refl);
        fresh = λ b. absurd (true≢false (sym (alive past i was).0 ∙ unborn_before past e refl refl b));
        keeps = keeps_on past e refl refl rows.items f.heard.items (λ w. subst (λ o. KeepsUp (setup_in set past i) (own_of set past i ++ cons_option o []) rows.items f.heard.items) (sym is)
            (landing_keeps (setup_in set past i) (valid past e run refl refl refl was g is) (own_of set past i) p.0 number authors groups p.1.0 (in_time past e run refl refl refl was g is) (sound past e run refl refl refl was g is)
            f.rows.items rows.items f.heard.items made (h.keeps was)));
        drawn = tt;
        columns = same_columns past e refl refl refl f.columns h.columns;
      }

  pub hears : (past : List Entry) (space : List ℕ) (broker number : ℕ) → is_primary space ≡ true → let e : Entry = entry.Heard i broker space number in
      IsRun set (past ++ e ∷ []) → (f : Following) (heard : Vec (Option ℕ)) → heard.items ≡ common.set f.heard.items broker (Some number)
      → IsFollowed set past i brokers places f → IsFollowed set (past ++ e ∷ []) i brokers places (record f { heard = heard })
  hears past space broker number here run f heard made h =
      let e : Entry = entry.Heard i broker space number in
      let was : lives past i ≡ true = (follows past e run).grounds in
      let g : Entry = entry.Heard top broker primary number in
      let is : own_entry set.work.actors (label_of past i) i e ≡ Some g = ap (λ b. only_if b (entry.Heard top broker space number)) (eq-eqb i i refl) ∙ ap (λ n. Some (entry.Heard top broker n number)) (same_space space here) in
      record {
        second = h.second ∙ sym (same_time past e refl refl refl);
        living = h.living ∙ sym (lives_same past e refl refl);
        fresh = λ b. absurd (true≢false (sym (alive past i was).0 ∙ unborn_before past e refl refl b));
        keeps = keeps_on past e refl refl f.rows.items heard.items (λ w. subst (λ o. KeepsUp (setup_in set past i) (own_of set past i ++ cons_option o []) f.rows.items heard.items) (sym is)
            (subst (λ known. KeepsUp (setup_in set past i) (own_of set past i ++ g ∷ []) f.rows.items known) (sym made)
            (hearing_keeps (setup_in set past i) (own_of set past i) broker number f.rows.items f.heard.items (h.keeps was))));
        drawn = h.drawn;
        columns = same_columns past e refl refl refl f.columns h.columns;
      }

  -- ---- time goes on

  pub ticks : (past : List Entry) (second : ℕ) (f : Following) (columns : List Column) (cells : Option (List (List ℕ))) → IsFollowed set past i brokers places f
      → AreColumns set i places (filter (sees i) (ends_in set [] past ++ end_at set past ∷ [])) columns → IsDrawn (record f { cells = cells }) places
      → IsFollowed set (past ++ entry.Ticked second ∷ []) i brokers places (record f { second = second; columns = columns; cells = cells })
  ticks past second f columns cells h shown drawn =
      let e : Entry = entry.Ticked second in
      record {
        second = sym (time_push past e);
        living = h.living ∙ sym (lives_same past e refl refl);
        fresh = λ b. h.fresh (unborn_before past e refl refl b);
        keeps = keeps_on past e refl refl f.rows.items f.heard.items (quiet_step past e refl refl tt f h);
        drawn = drawn;
        columns = subst (λ es. AreColumns set i places (filter (sees i) es) columns) (sym (ends_push [] past e)) shown;
      }

  -- ---- its birth and its end

  pub begins_here : (past : List Entry) (e : Entry) → IsRun set (past ++ e ∷ []) → ticked e ≡ None → begins i e ≡ true → is_born past i ≡ false → ends i e ≡ false → is_gone past i ≡ false
      → (setup_in set (past ++ e ∷ []) i).size ≡ brokers → is_born (past ++ e ∷ []) i ≡ true
      → (f : Following) → IsFollowed set past i brokers places f → IsFollowed set (past ++ e ∷ []) i brokers places (record f { lives = true })
  begins_here past e run none begun unborn stays there size born f h =
      let fresh = h.fresh unborn in
      let s = setup_in set (past ++ e ∷ []) i in
      record {
        second = h.second ∙ sym (time_push past e ∙ ap (λ o. unwrap_or o (time_at set past)) none);
        living = sym (is_alive (past ++ e ∷ []) i born (gone_push past e i ∙ ap₂ (λ a b. a || b) there stays));
        fresh = λ b. absurd (true≢false (sym born ∙ b));
        keeps = λ now. subst (λ own. KeepsUp s own f.rows.items f.heard.items) (sym (own_born set past e i unborn begun))
            (subst (λ rows. KeepsUp s [] rows f.heard.items) (sym fresh.0)
            (subst (λ known. KeepsUp s [] [] known) (sym (fresh.1 ∙ ap first_heard (sym size))) (first_keeps s (run.valid i born))));
        drawn = h.drawn;
        columns = subst (λ es. AreColumns set i places (filter (sees i) es) f.columns)
            (sym (ends_push [] past e ∙ ap (λ o. ends_in set [] past ++ cond (is_some o) (end_at set past ∷ []) []) none ∙ append-nil (ends_in set [] past))) h.columns;
      }

  pub ends_here : (past : List Entry) (e : Entry) → ticked e ≡ None → ends i e ≡ true
      → (f : Following) → IsFollowed set past i brokers places f → IsFollowed set (past ++ e ∷ []) i brokers places (record f { lives = false })
  ends_here past e none over f h =
      let dead : lives (past ++ e ∷ []) i ≡ false = false_from_ne_true (lives (past ++ e ∷ []) i) (λ now. true≢false (sym over ∙ (lived past e i now).stays)) in
      record {
        second = h.second ∙ sym (time_push past e ∙ ap (λ o. unwrap_or o (time_at set past)) none);
        living = sym dead;
        fresh = λ b. h.fresh (false_from_ne_true (is_born past i) (λ w. true≢false (sym (born_kept past (e ∷ []) i w) ∙ b)));
        keeps = λ now. absurd (true≢false (sym now ∙ dead));
        drawn = h.drawn;
        columns = subst (λ es. AreColumns set i places (filter (sees i) es) f.columns)
            (sym (ends_push [] past e ∙ ap (λ o. ends_in set [] past ++ cond (is_some o) (end_at set past ∷ []) []) none ∙ append-nil (ends_in set [] past))) h.columns;
      }

  -- ---- the column of a moment

  -- what is kept of a living instance shows it, where its own chronicle is legal and its store sound
  pub shows : (past : List Entry) → IsInstance (instance_of (setup_in set past i)) → IsLegal (setup_in set past i) (own_of set past i) → IsSound (instance_of (setup_in set past i)) (log_in (setup_in set past i).work (own_of set past i))
      → (f : Following) → lives past i ≡ true → IsFollowed set past i brokers places f → IsColumnAt set i places (end_at set past) (column_of f (map (cell_of f.rows.items) places))
  shows past valid legal sound f was h =
      let s = setup_in set past i in
      let own = own_of set past i in
      let stood = stands s (r_text s.resources) valid.text own legal in
      let jobs = sound stood.store stood.standing in
      let k = h.keeps was in
      record {
        second = h.second;
        shows = record {
          store = stood.store;
          standing = stood.standing;
          jobs = jobs.jobs;
          are = jobs.are;
          cells = cells_same stood.store f.rows.items jobs.jobs jobs.are (k.jobs stood.store stood.standing jobs.jobs jobs.are) places;
          brokers = k.brokers;
        };
      }

  -- the columns with that of a moment, if the instance lives
  pub with_shown : (past : List Entry) (f : Following) → IsFollowed set past i brokers places f
      → (lives past i ≡ true → IsColumnAt set i places (end_at set past) (column_of f (map (cell_of f.rows.items) places)))
      → AreColumns set i places (filter (sees i) (ends_in set [] past ++ end_at set past ∷ [])) (with_column f places).columns
  with_shown past f h shown = subst (λ es. AreColumns set i places es (with_column f places).columns) (sym (filter_push (sees i) (ends_in set [] past) (end_at set past)))
      (by f.lives (lives past i) h.living refl)
    where
      by : (a b : Bool) → a ≡ b → lives past i ≡ b
          → AreColumns set i places (filter (sees i) (ends_in set [] past) ++ cond b (end_at set past ∷ []) []) (cond a (record f { columns = f.columns ++ column_of f (map (cell_of f.rows.items) places) ∷ []; cells = Some (map (cell_of f.rows.items) places) }) f).columns
      by true true e was = columns_push (filter (sees i) (ends_in set [] past)) f.columns (end_at set past) (column_of f (map (cell_of f.rows.items) places)) h.columns (shown was)
      by false false e was = subst (λ es. AreColumns set i places es f.columns) (sym (append-nil (filter (sees i) (ends_in set [] past)))) h.columns
      by true false e was = absurd (true≢false e)
      by false true e was = absurd (true≢false (sym e))

-- ---- what each kind of entry makes of what is followed

-- the first birth of a number
pub birth_new : (past : List Entry) (i : ℕ) (e : Entry) (b : Birth) → is_born past i ≡ false → birth_in e ≡ Some b → is_birth_of i b ≡ true → birth_of (past ++ e ∷ []) i ≡ Some b
birth_new past i e b unborn is named = by (i == top) unborn
  where
    or_none : {A : Type 0} (o p : Option A) → is_some o ≡ false → option_or o p ≡ p
    or_none None p h = refl
    or_none (Some x) p h = absurd (true≢false h)

    by : (t : Bool) → (t || is_some (cond t None (find (is_birth_of i) (births past)))) ≡ false → cond t None (find (is_birth_of i) (births (past ++ e ∷ []))) ≡ Some b
    by true h = absurd (true≢false h)
    by false h =
        ap (find (is_birth_of i)) (births_push past e ∙ ap (λ o. births past ++ cons_option o []) is)
        ∙ find-append (is_birth_of i) (births past) (b ∷ [])
        ∙ or_none (find (is_birth_of i) (births past)) (find (is_birth_of i) (b ∷ [])) h
        ∙ ap (λ t. cond t (Some b) None) named

pub born_so : (past : List Entry) (i : ℕ) (b : Birth) → birth_of past i ≡ Some b → is_born past i ≡ true
born_so past i b is = ap (λ o. (i == top) || is_some o) is ∙ or-true (i == top)
  where
    or-true : (t : Bool) → (t || true) ≡ true
    or-true true = refl
    or-true false = refl

pub enter_landed : (i : ℕ) (places : List Place) (instance : ℕ) (space : List ℕ) (number : ℕ) (authors : List (Option By)) (groups : List Group) (f new : Following) → instance ≡ i → is_primary space ≡ true
    → KeepGroups f.rows.items groups new.rows.items → new ≡ record f { rows = new.rows; cells = None } → Enters i places (entry.Landed instance space number authors groups) f new
enter_landed i places instance space number authors groups f new here primary made rest = subst (λ n. Enters i places (entry.Landed n space number authors groups) f new) (sym here)
    (λ set past brokers run given h. subst (IsFollowed set (past ++ entry.Landed i space number authors groups ∷ []) i brokers places) (sym rest) (lands set i brokers places past space number authors groups primary run f new.rows made h))

pub enter_heard : (i : ℕ) (places : List Place) (instance broker : ℕ) (space : List ℕ) (number : ℕ) (f new : Following) → instance ≡ i → is_primary space ≡ true
    → new.heard.items ≡ common.set f.heard.items broker (Some number) → new ≡ record f { heard = new.heard } → Enters i places (entry.Heard instance broker space number) f new
enter_heard i places instance broker space number f new here primary made rest = subst (λ n. Enters i places (entry.Heard n broker space number) f new) (sym here)
    (λ set past brokers run given h. subst (IsFollowed set (past ++ entry.Heard i broker space number ∷ []) i brokers places) (sym rest) (hears set i brokers places past space broker number primary run f new.heard made h))

-- entries of which nothing is kept
pub enter_passed : (i : ℕ) (places : List Place) (e : Entry) (f : Following) → ticked e ≡ None → begins i e ≡ false → ends i e ≡ false → IsPassed i e → Enters i places e f f
enter_passed i places e f none begun stays passed = λ set past brokers run given h. passes set i brokers places past e begun stays none passed f h

pub enter_ticked : (i : ℕ) (places : List Place) (second : ℕ) (f : Following) → Enters i places (entry.Ticked second) f (record (with_column f places) { second = second })
enter_ticked i places second f set past brokers run given h =
    let e : Entry = entry.Ticked second in
    let shown : lives past i ≡ true → IsColumnAt set i places (end_at set past) (column_of f (map (cell_of f.rows.items) places)) =
    λ was. shows set i brokers places past (valid set i brokers places past e run refl refl refl was e refl) (parts set i brokers places past e run refl refl refl was e refl).0 (sound set i brokers places past e run refl refl refl was e refl) f was h in
    subst (IsFollowed set (past ++ e ∷ []) i brokers places) (by f.lives)
    (ticks set i brokers places past second f (with_column f places).columns (with_column f places).cells h (with_shown set i brokers places past f h shown) (drawn f.lives))
  where
    cells : List (List ℕ)
    cells = map (cell_of f.rows.items) places

    drawn : (b : Bool) → IsDrawn (record f { cells = (cond b (record f { columns = f.columns ++ column_of f cells ∷ []; cells = Some cells }) f).cells }) places
    drawn true = refl
    drawn false = h.drawn

    by : (b : Bool) → ◌≡◌ {A = Following} (record f { second = second; columns = (cond b (record f { columns = f.columns ++ column_of f cells ∷ []; cells = Some cells }) f).columns; cells = (cond b (record f { columns = f.columns ++ column_of f cells ∷ []; cells = Some cells }) f).cells }) (record (cond b (record f { columns = f.columns ++ column_of f cells ∷ []; cells = Some cells }) f) { second = second })
    by true = refl
    by false = refl

pub enter_born : (i : ℕ) (places : List Place) (child parent job : ℕ) (label : List ℕ) (second : ℕ) (grant : Resources) (f : Following) → child ≡ i → Enters i places (entry.Born child parent job label second grant) f (record f { lives = true })
enter_born i places child parent job label second grant f here = subst (λ n. Enters i places (entry.Born n parent job label second grant) f (record f { lives = true })) (sym here) (λ set past brokers run given h.
    let e : Entry = entry.Born i parent job label second grant in
    let b : Birth = record { child = i; parent = parent; job = job; label = label; second = second; grant = grant } in
    let before = (each_parts (IsLegalRunEntry set) [] past (e ∷ []) run.legal).0 in
    let birth = (each_parts (IsLegalRunEntry set) [] past (e ∷ []) run.legal).1.0 in
    let next : i ≡ length (births past) + 1 = birth.grounds.next in
    let unborn : is_born past i ≡ false = false_from_ne_true (is_born past i) (λ w.
    let low : i < length (numbers past) = (born_exactly set past i before).0 w in
    omega (arith, low, next, numbers_count past)) in
    let there : is_gone past i ≡ false = false_from_ne_true (is_gone past i) (λ g. true≢false (sym (gone_was_born set past before i g) ∙ unborn)) in
    let named : is_birth_of i b ≡ true = eq-eqb i i refl in
    let is : birth_of (past ++ e ∷ []) i ≡ Some b = birth_new past i e b unborn refl named in
    let size : (setup_in set (past ++ e ∷ []) i).size ≡ brokers = ap (λ o. (option_map_or (child_setup set) o (record set { work = work_for set.work None set.size })).size) is ∙ sym (given b refl refl) in
    begins_here set i brokers places past e run refl named unborn refl there size (born_so (past ++ e ∷ []) i b is) f h)

pub enter_gone : (i : ℕ) (places : List Place) (child parent job : ℕ) (shut : Bool) (f : Following) → child ≡ i → Enters i places (entry.Gone child parent job shut) f (record f { lives = false })
enter_gone i places child parent job shut f here = λ set past brokers run given h. ends_here set i brokers places past (entry.Gone child parent job shut) refl (eq-eqb i child (sym here)) f h

-- the entries of the other kinds
pub enter_other : (i : ℕ) (places : List Place) (e : Entry) (f : Following)
    → ((instance : ℕ) (space : List ℕ) (number : ℕ) (authors : List (Option By)) (groups : List Group) → e ≡ entry.Landed instance space number authors groups → ⊥)
    → ((instance broker : ℕ) (space : List ℕ) (number : ℕ) → e ≡ entry.Heard instance broker space number → ⊥)
    → ((second : ℕ) → e ≡ entry.Ticked second → ⊥)
    → ((child parent job : ℕ) (label : List ℕ) (second : ℕ) (grant : Resources) → e ≡ entry.Born child parent job label second grant → ⊥)
    → ((child parent job : ℕ) (shut : Bool) → e ≡ entry.Gone child parent job shut → ⊥)
    → Enters i places e f f
enter_other i places (entry.Issued actor command) f l h t b g = enter_passed i places (entry.Issued actor command) f refl refl refl tt
enter_other i places (entry.Landed instance space number authors groups) f l h t b g = absurd (l instance space number authors groups refl)
enter_other i places (entry.Denied instance space authors group refusal) f l h t b g = enter_passed i places (entry.Denied instance space authors group refusal) f refl refl refl tt
enter_other i places (entry.Heard instance broker space number) f l h t b g = absurd (h instance broker space number refl)
enter_other i places (entry.Got instance broker reference) f l h t b g = enter_passed i places (entry.Got instance broker reference) f refl refl refl tt
enter_other i places (entry.Dropped instance broker reference) f l h t b g = enter_passed i places (entry.Dropped instance broker reference) f refl refl refl tt
enter_other i places (entry.Replied actor command given number) f l h t b g = enter_passed i places (entry.Replied actor command given number) f refl refl refl tt
enter_other i places (entry.Told from to) f l h t b g = enter_passed i places (entry.Told from to) f refl refl refl tt
enter_other i places (entry.Ticked second) f l h t b g = absurd (t second refl)
enter_other i places (entry.Born child parent job label second grant) f l h t b g = absurd (b child parent job label second grant refl)
enter_other i places (entry.Gone child parent job shut) f l h t b g = absurd (g child parent job shut refl)
enter_other i places (entry.Watched actor command number first count) f l h t b g = enter_passed i places (entry.Watched actor command number first count) f refl refl refl tt
enter_other i places entry.Closed f l h t b g = enter_passed i places entry.Closed f refl refl refl tt

-- a landing or a hearing in another instance or another namespace
pub enter_elsewhere : (i instance : ℕ) (space : List ℕ) → (instance ≢ i) ⊎ (is_primary space ≡ false) → ((instance == i) && is_primary space) ≡ false
enter_elsewhere i instance space (inl other) = ap (λ b. b && is_primary space) (ne_eqb instance i other)
enter_elsewhere i instance space (inr other) = ap (λ b. (instance == i) && b) other ∙ and-false (instance == i)
  where
    and-false : (b : Bool) → (b && false) ≡ false
    and-false true = refl
    and-false false = refl

pub enter_unborn : (i : ℕ) (places : List Place) (child parent job : ℕ) (label : List ℕ) (second : ℕ) (grant : Resources) (f : Following) → child ≢ i → Enters i places (entry.Born child parent job label second grant) f f
enter_unborn i places child parent job label second grant f other = enter_passed i places (entry.Born child parent job label second grant) f refl (ne_eqb child i other) refl tt

pub enter_ungone : (i : ℕ) (places : List Place) (child parent job : ℕ) (shut : Bool) (f : Following) → child ≢ i → Enters i places (entry.Gone child parent job shut) f f
enter_ungone i places child parent job shut f other = enter_passed i places (entry.Gone child parent job shut) f refl refl (ne_eqb i child (λ e. other (sym e))) tt

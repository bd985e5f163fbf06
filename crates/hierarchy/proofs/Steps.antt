-- How a run grows by what one instance makes, by a second, and by actors whose instances have gone.
use Rattle.std.proofs.Common.{◌≡◌, ℕ, ◌==◌, inl, List, [], ◌∷◌, ◌++◌, Bool, true, false, cond, ◌&&◌, Option, Some, None, option_map, map, refl, sym, ap, ap₂, ◌∙◌, subst, append-nil, append_assoc, true≢false}
use Rattle.std.specs.Prelude.{IfSome, IsSome, filter, filter_map, if◌then◌else◌, slice_get}
use Rattle.std.specs.Option.{option_map_or}
use Rattle.std.specs.List.{AllByRecursion as Each, cons_option}
use Rattle.std.proofs.lemmas.Bool.{and_parts, eq-eqb, eqb-true}
use Rattle.job_rules.proofs.Among.{Among, any_at, any_from}
use Rattle.kvs_txn.specs.declared.txn.By.{By}
use Rattle.kvs_rules.specs.Sequence.{EachAfter}
use Rattle.workload.specs.declared.work.Command.{Command}
use Rattle.workload.specs.declared.work.Line.{Line}
use Rattle.instance_rules.specs.Family.{MayTick}
use Rattle.answers.specs.Chronicle.{IsOpenCommand, Setup}
use Rattle.answers.specs.Commands.{command_at}
use Rattle.answers.specs.Legal.{HasReplyGrounds, IsLegalEntry, IsLegalIssue}
use Rattle.answers.specs.Whole.{IsEarlierEntry, has_ended}
use Rattle.answers.specs.declared.chronicle.Entry.{Entry}
use Rattle.answers.specs.declared.chronicle.Entry.TheVariants as entry
use Rattle.answers.specs.declared.chronicle.Reply.{Reply}
use Rattle.answers.specs.declared.chronicle.Reply.TheVariants as reply
use Rattle.hierarchy.specs.Births.{Birth, birth_of, has_home, has_living_home, has_lost_home, is_at, is_born, is_gone, label_of, lives, numbers}
use Rattle.hierarchy.specs.Families.{family_of, left_in, second_in}
use Rattle.hierarchy.specs.Growing.{GoesOn, GrowsBy, IsMadeIn}
use Rattle.hierarchy.specs.Legal.{HasHomeFor, HasRunGrounds, IsLegalRunEntry}
use Rattle.hierarchy.specs.Own.{child_setup, only_if, own_entry, own_of, setup_in, work_for}
use Rattle.hierarchy.specs.Stretches.{entered_in}
use Rattle.hierarchy.proofs.OneEntry.{FollowsOwn, birth_same, fits, goes_on, is_plain, label_same, lives_same, lost_home, not_made, one_home, own_made, own_more}
use Rattle.hierarchy.proofs.Members.{gone_was_born}
use Rattle.hierarchy.proofs.Nested.{numbered_born}
use Rattle.hierarchy.proofs.Owning.{alive, setup_kept}

-- ---- the commands of an instance's actors

-- the lines of one actor among those of its instance
pub lines_of : (passes : ℕ → Bool) (actor : ℕ) → passes actor ≡ true → (lines : List Line)
    → filter_map (λ line. if line.actor == actor then Some line.command else None) (filter (λ line. passes line.actor) lines)
    ≡ filter_map (λ line. if line.actor == actor then Some line.command else None) lines
lines_of passes actor h [] = refl
lines_of passes actor h (line ∷ lines) = by (passes line.actor) refl (lines_of passes actor h lines)
  where
    of : Line → Option Command
    of line = if line.actor == actor then Some line.command else None

    none : passes line.actor ≡ false → (t : Bool) → (line.actor == actor) ≡ t → (if t then Some line.command else None) ≡ None
    none outside false is = refl
    none outside true is = absurd (true≢false (sym h ∙ ap passes (sym (eqb-true line.actor actor is)) ∙ outside))

    by : (b : Bool) → passes line.actor ≡ b
        → filter_map (λ line. if line.actor == actor then Some line.command else None) (filter (λ line. passes line.actor) lines) ≡ filter_map (λ line. if line.actor == actor then Some line.command else None) lines
        → filter_map (λ line. if line.actor == actor then Some line.command else None) (cond b (line ∷ filter (λ line. passes line.actor) lines) (filter (λ line. passes line.actor) lines))
        ≡ filter_map (λ line. if line.actor == actor then Some line.command else None) (line ∷ lines)
    by true is same = ap (cons_option (if line.actor == actor then Some line.command else None)) same
    by false is same = same ∙ sym (ap (λ o. cons_option o (filter_map (λ line. if line.actor == actor then Some line.command else None) lines)) (none is (line.actor == actor) refl))

pub work_in : (set : Setup) (o : Option Birth) → (n : ℕ) × ((option_map_or (child_setup set) o (record set { work = work_for set.work None set.size })).work ≡ work_for set.work (option_map (λ b. b.label) o) n)
work_in set None = (set.size, refl)
work_in set (Some b) = ((child_setup set b).size, refl)

-- an actor's command is the same one in its instance
pub command_same : (set : Setup) (c : List Entry) (i : ℕ) (by : By) → is_at set.work.actors (label_of c i) by.actor ≡ true → command_at (setup_in set c i).work by ≡ command_at set.work by
command_same set c i by here =
    let w = work_in set (birth_of c i) in
    ap (λ work. command_at work by) w.1
    ∙ ap (λ commands. slice_get commands by.command) (lines_of (is_at set.work.actors (label_of c i)) by.actor here set.work.lines)

-- ---- homes

module _ (set : Setup) (c : List Entry) (i actor : ℕ) (h : lives c i ≡ true) (here : is_at set.work.actors (label_of c i) actor ≡ true) where
  pub home_born : has_home set.work.actors c actor ≡ true
  home_born =
      any_at (λ k. is_born c k && is_at set.work.actors (label_of c k) actor) (numbers c) i (numbered_born c i (alive c i h).0)
      (ap₂ (λ a b. a && b) (alive c i h).0 here)

  pub home_lives : has_living_home set.work.actors c actor ≡ true
  home_lives =
      any_at (λ k. lives c k && is_at set.work.actors (label_of c k) actor) (numbers c) i (numbered_born c i (alive c i h).0)
      (ap₂ (λ a b. a && b) h here)

pub unended : (c : List Entry) → Each IsEarlierEntry c → has_ended c ≡ false
unended [] h = refl
unended (entry.Closed ∷ c) h = absurd h.0
unended (_ ∷ c) h = unended c h.1

-- ---- an entry of one instance

early_in : (i : ℕ) (f : Entry) → IsEarlierEntry f → IsEarlierEntry (entered_in i f)
early_in i (entry.Landed instance space number authors groups) h = h
early_in i (entry.Denied instance space authors group refusal) h = h
early_in i (entry.Heard instance broker space number) h = h
early_in i (entry.Got instance broker reference) h = h
early_in i (entry.Dropped instance broker reference) h = h
early_in i _ h = h

pub replies_so : (set : Setup) (c : List Entry) (s : Setup) (own : List Entry) (by : By) (number : Option ℕ) (given : Reply) → has_living_home set.work.actors c by.actor ≡ true
    → HasReplyGrounds s own by number given → HasHomeFor set c by number given
replies_so set c s own by number reply.Gone home g = absurd g
replies_so set c s own by number reply.UnfinishedUnborn home g = absurd g
replies_so set c s own by number reply.NotReached home g = (g.0, inl home)
replies_so set c s own by number given home g = home

module _ (set : Setup) (c : List Entry) (on : GoesOn set c) (i : ℕ) (h : lives c i ≡ true) where
  issue_so : (by : By) → is_at set.work.actors (label_of c i) by.actor ≡ true → IsLegalIssue (setup_in set c i) (own_of set c i) by → IsLegalIssue set c by
  issue_so by here l =
      let alike = on.acts i by.actor h here in
      record {
        exists = subst IsSome (command_same set c i by here) l.exists;
        next = l.next ∙ alike.issued;
        replied = λ earlier low. sym (alike.replied earlier) ∙ l.replied earlier low;
      }

  made_grounds : (f : Entry) → IsMadeIn set.work.actors (label_of c i) f → IsLegalEntry (setup_in set c i) (own_of set c i) f → HasRunGrounds set c (entered_in i f)
  made_grounds (entry.Issued actor command) m l = (issue_so (record { actor = actor; command = command }) m l.grounds, home_born set c i actor h m)
  made_grounds (entry.Landed instance space number authors groups) m l = h
  made_grounds (entry.Denied instance space authors group refusal) m l = h
  made_grounds (entry.Heard instance broker space number) m l = h
  made_grounds (entry.Got instance broker reference) m l = h
  made_grounds (entry.Dropped instance broker reference) m l = h
  made_grounds (entry.Replied actor command given number) m l = replies_so set c (setup_in set c i) (own_of set c i) (record { actor = actor; command = command }) number given (home_lives set c i actor h m) l.grounds
  made_grounds (entry.Told from to) m l = home_lives set c i from h m
  made_grounds (entry.Watched actor command number first count) m l = home_lives set c i actor h m
  made_grounds _ m l = absurd m

  made_follows : (f : Entry) → IsMadeIn set.work.actors (label_of c i) f → IsLegalEntry (setup_in set c i) (own_of set c i) f → FollowsOwn set c (entered_in i f)
  made_follows f m l k there = by (i == k) refl
    where
      by : (b : Bool) → (i == k) ≡ b → IfSome (own_entry set.work.actors (label_of c k) k (entered_in i f)) (IsLegalEntry (setup_in set c k) (own_of set c k))
      by true is = subst (λ n. IfSome (own_entry set.work.actors (label_of c n) n (entered_in i f)) (IsLegalEntry (setup_in set c n) (own_of set c n))) (eqb-true i k is)
          (subst (λ o. IfSome o (IsLegalEntry (setup_in set c i) (own_of set c i))) (sym (own_made set c i f m)) l)
      by false is = subst (λ o. IfSome o (IsLegalEntry (setup_in set c k) (own_of set c k)))
          (sym (not_made set c i f m on.labelled (alive c i h).0 k (alive c k there).0 (λ same. true≢false (sym (eq-eqb i k same) ∙ is)))) tt

module _ (set : Setup) (i : ℕ) where
  pub made_so : (own c : List Entry) → GoesOn set c → lives c i ≡ true → EachAfter (IsLegalEntry (setup_in set c i)) (own_of set c i) own
      → Each (IsMadeIn set.work.actors (label_of c i)) own → Each IsEarlierEntry own → GrowsBy set c i own
  made_so [] c on h l m early = record {
    legal = tt;
    on = subst (GoesOn set) (sym (append-nil c)) on;
    births = λ k. ap (λ d. birth_of d k) (append-nil c);
    lives_so = λ k. ap (λ d. lives d k) (append-nil c);
    mine = ap (λ d. own_of set d i) (append-nil c) ∙ sym (append-nil (own_of set c i));
    others = λ k there differ. ap (λ d. own_of set d k) (append-nil c);
  }
  made_so (f ∷ own) c on h l m early =
      let e = entered_in i f in
      let p = is_plain set c i f m.0 in
      let grounds = made_grounds set c on i h f m.0 l.0 in
      let follows = made_follows set c on i h f m.0 l.0 in
      let ended = unended c on.early in
      let next = goes_on set c e p.0 p.1 (early_in i f early.0) on ended grounds follows in
      let here : lives (c ++ e ∷ []) i ≡ true = lives_same c e p.0 p.1 i ∙ h in
      let same : setup_in set (c ++ e ∷ []) i ≡ setup_in set c i = setup_kept set c (e ∷ []) i (alive c i h).0 in
      let pushed : own_of set (c ++ e ∷ []) i ≡ own_of set c i ++ f ∷ [] = own_more set c e p.0 p.1 i h ∙ ap (λ o. own_of set c i ++ cons_option o []) (own_made set c i f m.0) in
      let l2 : EachAfter (IsLegalEntry (setup_in set (c ++ e ∷ []) i)) (own_of set (c ++ e ∷ []) i) own =
      subst (λ s. EachAfter (IsLegalEntry s) (own_of set (c ++ e ∷ []) i) own) (sym same) (subst (λ base. EachAfter (IsLegalEntry (setup_in set c i)) base own) (sym pushed) l.1) in
      let m2 : Each (IsMadeIn set.work.actors (label_of (c ++ e ∷ []) i)) own = subst (λ label. Each (IsMadeIn set.work.actors label) own) (sym (label_same c e p.0 p.1 i)) m.1 in
      let more = made_so own (c ++ e ∷ []) next here l2 m2 early.1 in
      let joined : (c ++ e ∷ []) ++ map (entered_in i) own ≡ c ++ e ∷ map (entered_in i) own = append_assoc c (e ∷ []) (map (entered_in i) own) in
      record {
        legal = (fits set c e p.0 p.1 (early_in i f early.0) on ended grounds follows, more.legal);
        on = subst (GoesOn set) joined more.on;
        births = λ k. ap (λ d. birth_of d k) (sym joined) ∙ more.births k ∙ birth_same c e p.0 p.1 k;
        lives_so = λ k. ap (λ d. lives d k) (sym joined) ∙ more.lives_so k ∙ lives_same c e p.0 p.1 k;
        mine = ap (λ d. own_of set d i) (sym joined) ∙ more.mine ∙ ap (λ l. l ++ own) pushed ∙ append_assoc (own_of set c i) (f ∷ []) own;
        others = λ k there differ.
            let none = not_made set c i f m.0 on.labelled (alive c i h).0 k (alive c k there).0 differ in
            ap (λ d. own_of set d k) (sym joined) ∙ more.others k (lives_same c e p.0 p.1 k ∙ there) differ
            ∙ own_more set c e p.0 p.1 k there ∙ ap (λ o. own_of set c k ++ cons_option o []) none ∙ append-nil (own_of set c k);
      }

-- ---- a second

module _ (set : Setup) (c : List Entry) (on : GoesOn set c) (second : ℕ) (may : MayTick (family_of set c) (second_in set c) (left_in set c) second)
    (each : (i : ℕ) → lives c i ≡ true → IsLegalEntry (setup_in set c i) (own_of set c i) (entry.Ticked second)) where
  pub tick_fits : IsLegalRunEntry set c (entry.Ticked second)
  tick_fits = fits set c (entry.Ticked second) refl refl tt on (unended c on.early) may each

  pub tick_goes_on : GoesOn set (c ++ entry.Ticked second ∷ [])
  tick_goes_on = goes_on set c (entry.Ticked second) refl refl tt on (unended c on.early) may each

-- ---- actors whose instances have gone

module _ (set : Setup) (c : List Entry) (on : GoesOn set c) (actor : ℕ) (lost : has_lost_home set.work.actors c actor ≡ true) where
  -- no living instance is theirs
  pub not_here : (k : ℕ) → lives c k ≡ true → is_at set.work.actors (label_of c k) actor ≡ false
  not_here k there = by (is_at set.work.actors (label_of c k) actor) refl
    where
      home : (i : ℕ) × Among i (numbers c) × ((is_gone c i && is_at set.work.actors (label_of c i) actor) ≡ true)
      home = any_from (λ i. is_gone c i && is_at set.work.actors (label_of c i) actor) (numbers c) lost

      by : (b : Bool) → is_at set.work.actors (label_of c k) actor ≡ b → b ≡ false
      by false is = refl
      by true is =
          let p = and_parts (is_gone c home.0) (is_at set.work.actors (label_of c home.0) actor) home.2 in
          let same : home.0 ≡ k = one_home set.work.actors c on.labelled home.0 k actor (gone_was_born set c on.run home.0 p.0) (alive c k there).0 p.1 is in
          sym p.0 ∙ ap (is_gone c) same ∙ (alive c k there).1

  pub lost_home_born : has_home set.work.actors c actor ≡ true
  lost_home_born = lost_home set c on.run actor lost

  module _ (command : ℕ) (legal : IsLegalIssue set c (record { actor = actor; command = command })) where
    issue_follows : FollowsOwn set c (entry.Issued actor command)
    issue_follows k there = subst (λ b. IfSome (only_if b (entry.Issued actor command)) (IsLegalEntry (setup_in set c k) (own_of set c k))) (sym (not_here k there)) tt

    pub lost_issue_fits : IsLegalRunEntry set c (entry.Issued actor command)
    lost_issue_fits = fits set c (entry.Issued actor command) refl refl tt on (unended c on.early) (legal, lost_home_born) issue_follows

    pub lost_issue_goes_on : GoesOn set (c ++ entry.Issued actor command ∷ [])
    lost_issue_goes_on = goes_on set c (entry.Issued actor command) refl refl tt on (unended c on.early) (legal, lost_home_born) issue_follows

  module _ (command : ℕ) (waits : IsOpenCommand (record { actor = actor; command = command }) c) where
    reply_follows : FollowsOwn set c (entry.Replied actor command reply.Gone None)
    reply_follows k there = subst (λ b. IfSome (only_if b (entry.Replied actor command reply.Gone None)) (IsLegalEntry (setup_in set c k) (own_of set c k))) (sym (not_here k there)) tt

    pub lost_reply_fits : IsLegalRunEntry set c (entry.Replied actor command reply.Gone None)
    lost_reply_fits = fits set c (entry.Replied actor command reply.Gone None) refl refl refl on (unended c on.early) (refl, waits, lost) reply_follows

    pub lost_reply_goes_on : GoesOn set (c ++ entry.Replied actor command reply.Gone None ∷ [])
    lost_reply_goes_on = goes_on set c (entry.Replied actor command reply.Gone None) refl refl refl on (unended c on.early) (refl, waits, lost) reply_follows

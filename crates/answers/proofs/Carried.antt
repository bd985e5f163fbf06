-- A landing that carries out a command on jobs comes after the command's issue.
use Rattle.std.proofs.Common.{◌≡◌, ◌⊎◌, inl, inr, ℕ, zero, suc, ◌≤◌, List, [], ◌∷◌, ◌++◌, Bool, true, false, ◌||◌, ◌&&◌, ◌==◌, cond, Option, Some, None, is_some, option_map, refl, sym, ap, ◌∙◌, subst, arith, true≢false}
use Rattle.std.specs.Prelude.{Contains}
use Rattle.std.specs.List.{cons_option, list_any}
use Rattle.std.proofs.lemmas.List.Elements.{Contains-append_cases}
use Rattle.std.proofs.lemmas.List.Folds.{list_any-append}
use Rattle.kvs_txn.specs.declared.txn.By.{By}
use Rattle.kvs_txn.specs.declared.txn.Group.{Group}
use Rattle.kvs_model.specs.Store.{Name}
use Rattle.kvs_rules.specs.declared.events.KvsAnswer.{KvsAnswer}
use Rattle.kvs_rules.specs.declared.events.KvsEvent.{KvsEvent}
use Rattle.kvs_rules.specs.declared.events.KvsEvent.TheVariants as event
use Rattle.kvs_rules.specs.Landings.{IsLegalLanding, names_of, names_of_group}
use Rattle.kvs_rules.specs.Log.{Moment, Asked, Happened, Log, denies_now, is_asked, is_author, is_denied, is_landed, lands_now, asks_now}
use Rattle.kvs_rules.specs.Namespaces.{landed, primary}
use Rattle.kvs_rules.specs.Sequence.{EachAfter, until}
use Rattle.kvs_rules.proofs.Logs.{number_rises}
use Rattle.kvs_rules.proofs.Sequences.{each_along, each_parts, until-append}
use Rattle.instance_rules.specs.Log as rules
use Rattle.answers.specs.declared.chronicle.Entry.{Entry}
use Rattle.answers.specs.declared.chronicle.Entry.TheVariants as entry
use Rattle.answers.specs.Chronicle.{Setup, top, answer_of, before_issue, is_issued, issues}
use Rattle.answers.specs.Commands.{ask_at}
use Rattle.answers.specs.Jobs.{instance_of, job_ask_at, log_in}
use Rattle.answers.specs.Legal.{IsLegal, IsLegalEntry}
use Rattle.answers.specs.Services.{log_of, moment_of, setting_of}
use Rattle.answers.proofs.JobLogs.{asks_no_service, issued_alike, service_kept}
use Rattle.answers.proofs.Naming.{DoesAsk, IsOfLanding, IsWaiting, denial_asked, fresh_asked, landing_names}
use Rattle.answers.proofs.Services.{chronicle_landed_rises, log_push, never, or_cases, service_legal}

-- the elements before the first one that passes begin the list
pub record Begins {A : Type 0} (xs part : List A) : Type 0 where
  pub rest : List A
  pub split : xs ≡ part ++ rest

pub until_begins : {A : Type 0} (test : A → Bool) (xs : List A) → Begins xs (until test xs)
until_begins test [] = record { rest = []; split = refl }
until_begins {A} test (x ∷ xs) = on (test x) (until_begins test xs)
  where
    on : (b : Bool) → Begins xs (until test xs) → Begins (x ∷ xs) (cond b [] (x ∷ until test xs))
    on true more = record { rest = x ∷ xs; split = refl }
    on false more = record { rest = more.rest; split = ap (λ l. x ∷ l) more.split }

-- the chronicle before an issue is legal, and no more has landed there
pub legal_before : (set : Setup) (c : List Entry) → IsLegal set c → (by : By) → IsLegal set (before_issue by c)
legal_before set c legal by =
    let b = until_begins (issues by) c in
    (each_parts (IsLegalEntry set) [] (before_issue by c) b.rest (subst (IsLegal set) b.split legal)).0

pub landed_before : (set : Setup) (c : List Entry) → IsLegal set c → (by : By) → landed (log_of set.work top (before_issue by c)) primary ≤ landed (log_of set.work top c) primary
landed_before set c legal by =
    let b = until_begins (issues by) c in
    let rises = chronicle_landed_rises set (before_issue by c) b.rest primary (subst (IsLegal set) b.split legal) in
    subst (λ d. landed (log_of set.work top (before_issue by c)) primary ≤ landed (log_of set.work top d) primary) (sym b.split) rises

-- ---- one landing

module _ (set : Setup) (c : List Entry) where
  -- a landing is legal for the log of the top instance
  pub legal_in : (i : ℕ) (space : List ℕ) (number : ℕ) (authors : List (Option By)) (groups : List Group) → IsLegalEntry set c (entry.Landed i space number authors groups)
      → IsLegalLanding (setting_of set) (rules.service_of (log_in set.work c)) space number authors groups
  legal_in i space number authors groups legal =
      subst (λ l. IsLegalLanding (setting_of set) l space number authors groups) (sym (service_kept set.work c))
      (subst (λ n. IsLegalLanding (setting_of set) (log_of set.work n c) space number authors groups) legal.grounds.0.0 legal.grounds.0.1)

module _ (set : Setup) (c : List Entry) (by : By) where
  -- a command that it names, or one of its transactions, asks the service or waits as one on jobs
  entry_names : (i : ℕ) (space : List ℕ) (number : ℕ) (authors : List (Option By)) (groups : List Group) → IsLegalEntry set c (entry.Landed i space number authors groups)
      → IsOfLanding (instance_of set) (log_in set.work c) by space authors groups → DoesAsk (setting_of set) by ⊎ IsWaiting (instance_of set) (log_in set.work c) by
  entry_names i space number authors groups legal h = landing_names (instance_of set) (log_in set.work c) by space number authors groups (legal_in set c i space number authors groups legal) legal.grounds.2 h

  -- one on jobs was issued before it
  waited : is_some (job_ask_at set.work by) ≡ true → DoesAsk (setting_of set) by ⊎ IsWaiting (instance_of set) (log_in set.work c) by → is_issued by c ≡ true
  waited asks (inl does) = let none : None ≡ Some does.0 = sym (asks_no_service set.work by asks) ∙ does.1 in cc
  waited asks (inr waits) = sym (issued_alike set.work by asks c) ∙ waits.pending.waits.issued

-- ---- all landings

module _ (set : Setup) where
  -- the moment of an entry is a landing in `primary` only where the entry is one
  pub record LandsSo (e : Entry) (number : ℕ) (authors : List (Option By)) (groups : List Group) : Type 0 where
    pub instance : ℕ
    pub is : e ≡ entry.Landed instance primary number authors groups

  one_there : {A : Type 0} (o : Option A) (x : A) → Contains (cons_option o []) x → o ≡ Some x
  one_there None x h = absurd (omega (arith, h.1))
  one_there (Some y) x (zero, low, e) = ap Some e
  one_there (Some y) x (suc k, low, e) = absurd (omega arith)

  some_event : (b : Bool) (x y : KvsEvent) → cond b (Some (Happened x)) None ≡ Some (Happened y) → x ≡ y
  some_event true x y e = cc
  some_event false x y e = cc

  asked_event : {A : Type 0} (b : Bool) (other : By) (floors : Name → ℕ) (y : KvsEvent) → cond b (Some (Asked other floors)) None ≡ Some (Happened y) → A
  asked_event true other floor y e = cc
  asked_event false other floor y e = cc

  pub lands_so : (c : List Entry) (e : Entry) (number : ℕ) (authors : List (Option By)) (groups : List Group) → moment_of set.work top c e ≡ Some (Happened (event.Landed primary number authors groups)) → LandsSo e number authors groups
  lands_so c (entry.Issued a k) number authors groups h = asked_event (is_some (ask_at set.work (record { actor = a; command = k })) && true) _ _ _ h
  lands_so c (entry.Landed i space n names gs) number authors groups h = on (some_event (top == i) (event.Landed space n names gs) (event.Landed primary number authors groups) h)
    where
      on : event.Landed space n names gs ≡ event.Landed primary number authors groups → LandsSo (entry.Landed i space n names gs) number authors groups
      on same = let is : entry.Landed i space n names gs ≡ entry.Landed i primary number authors groups = cc in record { instance = i; is = is }
  lands_so c (entry.Denied i space names group refusal) number authors groups h = let e = some_event (top == i) (event.Denied space names group refusal) (event.Landed primary number authors groups) h in cc
  lands_so c (entry.Heard i b space n) number authors groups h = let e = some_event (top == i) (event.Heard b space n) (event.Landed primary number authors groups) h in cc
  lands_so c (entry.Got i b r) number authors groups h = let e = some_event (top == i) (event.Got b r) (event.Landed primary number authors groups) h in cc
  lands_so c (entry.Dropped i b r) number authors groups h = let e = some_event (top == i) (event.Dropped b r) (event.Landed primary number authors groups) h in cc
  lands_so c (entry.Replied a k given at_) number authors groups h = on (answer_of given) h
    where
      on : (o : Option KvsAnswer) → option_map (λ x. Happened (event.Answered (record { actor = a; command = k }) at_ x)) o ≡ Some (Happened (event.Landed primary number authors groups)) → LandsSo (entry.Replied a k given at_) number authors groups
      on None e = cc
      on (Some x) e = cc
  lands_so c (entry.Told from to) number authors groups h = cc
  lands_so c (entry.Ticked second) number authors groups h = cc
  lands_so c (entry.Born child parent job label second grant) number authors groups h = cc
  lands_so c (entry.Gone child parent job shut) number authors groups h = cc
  lands_so c (entry.Watched a k n first count) number authors groups h = cc
  lands_so c entry.Closed number authors groups h = cc

module _ (set : Setup) (by : By) (asks : is_some (job_ask_at set.work by) ≡ true) where
  -- it was issued before, and no later number had landed then
  abbrev pub IsBehindIssue : List Entry → ℕ → Type 0
  IsBehindIssue c number = (is_issued by c ≡ true) × (landed (log_of set.work top (before_issue by c)) primary ≤ number)

  abbrev pub CarriesIt : List (Option By) → List Group → Type 0
  CarriesIt authors groups = (list_any (is_author by) authors ≡ true) ⊎ (list_any (is_author by) (names_of groups) ≡ true)

  AllBehind : List Entry → Type 0
  AllBehind c = (number : ℕ) (authors : List (Option By)) (groups : List Group) → Contains (log_of set.work top c) (Happened (event.Landed primary number authors groups)) → CarriesIt authors groups → IsBehindIssue c number

  stays_behind : (c : List Entry) (e : Entry) (number : ℕ) → IsBehindIssue c number → IsBehindIssue (c ++ e ∷ []) number
  stays_behind c e number h = (
    list_any-append (issues by) c (e ∷ []) ∙ ap (λ b. b || (issues by e || false)) h.0,
    subst (λ d. landed (log_of set.work top d) primary ≤ number) (sym (until-append (issues by) c (e ∷ []) h.0)) h.1,
  )

  step : (c : List Entry) (e : Entry) → EachAfter (IsLegalEntry set) [] c → IsLegalEntry set c e → AllBehind c → AllBehind (c ++ e ∷ [])
  unfolding AllBehind
  step c e before legal again number authors groups there names =
      let m : Moment = Happened (event.Landed primary number authors groups) in
      let log = log_of set.work top c in
      elim (Contains-append_cases log (cons_option (moment_of set.work top c e) []) m (subst (λ l. Contains l m) (log_push set.work top c e) there)) [
        | inl old ↦ stays_behind c e number (again number authors groups old names)
        | inr new ↦
            let l = lands_so set c e number authors groups (one_there set (moment_of set.work top c e) m new) in
            let it : IsLegalEntry set c (entry.Landed l.instance primary number authors groups) = subst (IsLegalEntry set c) l.is legal in
            let issued : is_issued by c ≡ true = waited set c by asks (entry_names set c by l.instance primary number authors groups it names) in
            let landing : IsLegalLanding (setting_of set) log primary number authors groups = subst (λ x. IsLegalLanding (setting_of set) x primary number authors groups) (service_kept set.work c) (legal_in set c l.instance primary number authors groups it) in
            let above : landed log primary ≤ number = number_rises (setting_of set) primary log number authors groups (service_legal set c before) landing in
            let behind : landed (log_of set.work top (before_issue by c)) primary ≤ landed log primary = landed_before set c before by in
            stays_behind c e number (issued, omega (arith, above, behind))
      ]

  pub carried_behind : (c : List Entry) → IsLegal set c → (number : ℕ) (authors : List (Option By)) (groups : List Group) → Contains (log_of set.work top c) (Happened (event.Landed primary number authors groups)) → CarriesIt authors groups
      → landed (log_of set.work top (before_issue by c)) primary ≤ number
  unfolding AllBehind
  carried_behind c legal number authors groups there names =
      (each_along (IsLegalEntry set) AllBehind step [] c tt legal (λ n names_ gs none. absurd (omega (arith, none.1))) number authors groups there names).1

-- ---- what a command that has not asked can't have

-- whether the moment carries the command out or denies it
abbrev carries_now : By → Moment → Bool
carries_now by m = lands_now by m || denies_now by m

abbrev carried_of : By → Option Moment → Bool
carried_of by None = false
carried_of by (Some m) = carries_now by m

or_none : (a : Bool) → (a || false) ≡ a
or_none true = refl
or_none false = refl

no_author : {A : Type 0} (by : By) → false ≡ true → A
no_author by h = absurd (true≢false (sym h))

happened : (by : By) (b : Bool) (x : KvsEvent) → carried_of by (cond b (Some (Happened x)) None) ≡ true → carries_now by (Happened x) ≡ true
happened by true x h = h
happened by false x h = no_author by h

asked_none : (by : By) (b : Bool) (other : By) (floors : Name → ℕ) → carried_of by (cond b (Some (Asked other floors)) None) ≡ false
asked_none by true other floor = refl
asked_none by false other floor = refl

answered_none : (by other : By) (number : Option ℕ) (o : Option KvsAnswer) (b : Bool) → carried_of by (cond b (option_map (λ x. Happened (event.Answered other number x)) o) None) ≡ false
answered_none by other number None true = refl
answered_none by other number None false = refl
answered_none by other number (Some x) true = refl
answered_none by other number (Some x) false = refl

module _ (set : Setup) (by : By) (none : job_ask_at set.work by ≡ None) where
  does_ask : (c : List Entry) → DoesAsk (setting_of set) by ⊎ IsWaiting (instance_of set) (log_in set.work c) by → DoesAsk (setting_of set) by
  does_ask c (inl does) = does
  does_ask c (inr waits) = let never : None ≡ Some waits.ask = sym none ∙ waits.made in cc

  landing_asked : (c : List Entry) (i : ℕ) (space : List ℕ) (number : ℕ) (authors : List (Option By)) (groups : List Group) → IsLegalEntry set c (entry.Landed i space number authors groups)
      → list_any (is_author by) authors ≡ true → is_asked by (log_of set.work top c) ≡ true
  landing_asked c i space number authors groups legal h =
      let landing = legal_in set c i space number authors groups legal in
      ap (is_asked by) (sym (service_kept set.work c)) ∙
      fresh_asked (setting_of set) (rules.service_of (log_in set.work c)) authors landing.fresh.fresh by h
      (does_ask c (entry_names set c by i space number authors groups legal (inl h)))

  entry_asked : (c : List Entry) (e : Entry) → IsLegalEntry set c e → carried_of by (moment_of set.work top c e) ≡ true → is_asked by (log_of set.work top c) ≡ true
  entry_asked c (entry.Issued a k) legal h = never _ (asked_none by (is_some (ask_at set.work (record { actor = a; command = k })) && (top == top)) (record { actor = a; command = k }) _) h
  entry_asked c (entry.Landed i space number authors groups) legal h =
      landing_asked c i space number authors groups legal (sym (or_none _) ∙ happened by (top == i) (event.Landed space number authors groups) h)
  entry_asked c (entry.Denied i space authors group refusal) legal h =
      denial_asked (setting_of set) (log_of set.work top c) space authors group refusal
      (subst (λ n. Rattle.kvs_rules.specs.Landings.IsLegalDenial (setting_of set) (log_of set.work n c) space authors group refusal) legal.grounds.0.0 legal.grounds.0.1) by
      (happened by (top == i) (event.Denied space authors group refusal) h)
  entry_asked c (entry.Heard i b space number) legal h = no_author by (happened by (top == i) (event.Heard b space number) h)
  entry_asked c (entry.Got i b r) legal h = no_author by (happened by (top == i) (event.Got b r) h)
  entry_asked c (entry.Dropped i b r) legal h = no_author by (happened by (top == i) (event.Dropped b r) h)
  entry_asked c (entry.Replied a k given number) legal h = never _ (answered_none by (record { actor = a; command = k }) number (answer_of given) true) h
  entry_asked c (entry.Told from to) legal h = no_author by h
  entry_asked c (entry.Ticked second) legal h = no_author by h
  entry_asked c (entry.Born child parent job label second grant) legal h = no_author by h
  entry_asked c (entry.Gone child parent job shut) legal h = no_author by h
  entry_asked c (entry.Watched a k n first count) legal h = no_author by h
  entry_asked c entry.Closed legal h = no_author by h

  IsAskedThere : Log → Type 0
  IsAskedThere log = list_any (carries_now by) log ≡ true → is_asked by log ≡ true

  any_carried : (o : Option Moment) → list_any (carries_now by) (cons_option o []) ≡ carried_of by o
  any_carried None = refl
  any_carried (Some m) = or_none (carries_now by m)

  asked_step : (c : List Entry) (e : Entry) → IsLegal set c → IsLegalEntry set c e → IsAskedThere (log_of set.work top c) → IsAskedThere (log_of set.work top (c ++ e ∷ []))
  unfolding IsAskedThere
  asked_step c e before h again carried =
      let log = log_of set.work top c in
      let o = moment_of set.work top c e in
      let grown = log_push set.work top c e in
      let was : is_asked by log ≡ true = elim (or_cases _ _ (sym (list_any-append (carries_now by) log (cons_option o [])) ∙ ap (list_any (carries_now by)) (sym grown) ∙ carried)) [
        | inl old ↦ again old
        | inr new ↦ entry_asked c e h (sym (any_carried o) ∙ new)
      ] in
      ap (is_asked by) grown ∙ list_any-append (asks_now by) log (cons_option o []) ∙ ap (λ b. b || list_any (asks_now by) (cons_option o [])) was

  any_first : {A : Type 0} (p q : A → Bool) (xs : List A) → list_any (λ x. p x || q x) xs ≡ false → (list_any p xs ≡ false) × (list_any q xs ≡ false)
  any_first p q [] h = (refl, refl)
  any_first p q (x ∷ xs) h = on (p x) (q x) (list_any p xs) (list_any q xs) h (any_first p q xs)
    where
      on : (a b c d : Bool) → ((a || b) || list_any (λ x. p x || q x) xs) ≡ false → (list_any (λ x. p x || q x) xs ≡ false → (c ≡ false) × (d ≡ false)) → ((a || c) ≡ false) × ((b || d) ≡ false)
      on true b c d h again = absurd (true≢false h)
      on false true c d h again = absurd (true≢false h)
      on false false c d h again = again h

  -- a command that asks nothing of jobs, and nothing of the service so far, was neither carried out nor denied
  pub unasked_uncarried : (c : List Entry) → IsLegal set c → is_asked by (log_of set.work top c) ≡ false → (is_landed by (log_of set.work top c) ≡ false) × (is_denied by (log_of set.work top c) ≡ false)
  unfolding IsAskedThere
  unasked_uncarried c legal unasked = any_first (lands_now by) (denies_now by) (log_of set.work top c) (on (list_any (carries_now by) (log_of set.work top c)) refl)
    where
      on : (b : Bool) → list_any (carries_now by) (log_of set.work top c) ≡ b → b ≡ false
      on false h = refl
      on true h = absurd (true≢false (sym (each_along (IsLegalEntry set) (λ d. IsAskedThere (log_of set.work top d)) asked_step [] c tt legal (λ h. no_author by h) h) ∙ unasked))

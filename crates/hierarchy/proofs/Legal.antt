-- What is legal, whole and settled of a run without children.
use Rattle.std.proofs.Common.{◌≡◌, ℕ, inl, List, [], ◌∷◌, ◌++◌, Bool, true, false, Option, refl, sym, subst}
use Rattle.std.specs.Prelude.{MatchBool}
use Rattle.std.specs.List.{AllByRecursion as Each}
use Rattle.kvs_txn.specs.declared.txn.By.{By}
use Rattle.kvs_rules.specs.Sequence.{EachAfter}
use Rattle.kvs_rules.proofs.Sequences.{each_along, each_push}
use Rattle.instance_rules.specs.Family.{HasToWaitIn, IsFamilyIdle, IsFamilyTold, MayClose, MayTick}
use Rattle.answers.specs.Chronicle.{Setup, top}
use Rattle.answers.specs.Jobs.{second_of}
use Rattle.answers.specs.Legal.{HasReplyGrounds, IsLegal, IsLegalEntry, IsSettled}
use Rattle.answers.specs.Runs.{ComesInTime, FamilyRestsFirst, HasFamilyRest, IsFamilySettled, IsInTime, family_of as alone_in}
use Rattle.answers.specs.Whole.{HasClosingGrounds, IsGrounded, IsWhole, is_closing}
use Rattle.answers.specs.declared.chronicle.Entry.{Entry}
use Rattle.answers.specs.declared.chronicle.Entry.TheVariants as entry
use Rattle.answers.specs.declared.chronicle.Reply.{Reply}
use Rattle.answers.specs.declared.chronicle.Reply.TheVariants as reply
use Rattle.answers.proofs.Alone.{family_closes, settled_alone}
use Rattle.hierarchy.specs.Births.{lives}
use Rattle.hierarchy.specs.Families.{family_of, left_in, second_in}
use Rattle.hierarchy.specs.Laws.{IsChildless, IsOfNoChild, IsOfTop}
use Rattle.hierarchy.specs.Legal.{HasHomeFor, HasRunGrounds, HasRunRest, IsLegalRun, IsLegalRunEntry, IsSettledRun, RunRestsFirst, is_end}
use Rattle.hierarchy.specs.Own.{own_of, setup_in}
use Rattle.hierarchy.specs.Whole.{IsRunClosing, IsWholeRun}
use Rattle.hierarchy.proofs.Alone.{IsAtTop, chronicle_same, family_same, has_living_top, has_top, no_left, only_top, second_same, setup_same, top_lives}

each_joined : {A : Type 0} (P : A → Type 0) (xs ys : List A) → Each P xs → Each P ys → Each P (xs ++ ys)
each_joined P [] ys h g = g
each_joined P (x ∷ xs) ys h g = (h.0, each_joined P xs ys h.1 g)

each_last : {A : Type 0} (P : A → Type 0) (xs : List A) (y : A) → Each P (xs ++ y ∷ []) → P y
each_last P [] y h = h.0
each_last P (x ∷ xs) y h = each_last P xs y h.1

-- ---- entries are about the top

legal_at_top : (set : Setup) (c : List Entry) (e : Entry) → IsLegalEntry set c e → IsAtTop e
legal_at_top set c (entry.Landed instance space number authors groups) l = l.grounds.0.0
legal_at_top set c (entry.Denied instance space authors group refusal) l = l.grounds.0.0
legal_at_top set c (entry.Heard instance broker space number) l = l.grounds.0
legal_at_top set c (entry.Got instance broker reference) l = l.grounds.0
legal_at_top set c (entry.Dropped instance broker reference) l = l.grounds.0
legal_at_top set c _ l = tt

pub all_at_top : (set : Setup) (base c : List Entry) → EachAfter (IsLegalEntry set) base c → Each IsAtTop c
all_at_top set base [] l = tt
all_at_top set base (e ∷ c) l = (legal_at_top set base e l.0, all_at_top set (base ++ e ∷ []) c l.1)

run_at_top : (set : Setup) (c : List Entry) (e : Entry) → IsChildless c → IsLegalRunEntry set c e → IsAtTop e
run_at_top set c (entry.Landed instance space number authors groups) h l = only_top c h instance l.grounds
run_at_top set c (entry.Denied instance space authors group refusal) h l = only_top c h instance l.grounds
run_at_top set c (entry.Heard instance broker space number) h l = only_top c h instance l.grounds
run_at_top set c (entry.Got instance broker reference) h l = only_top c h instance l.grounds
run_at_top set c (entry.Dropped instance broker reference) h l = only_top c h instance l.grounds
run_at_top set c _ h l = tt

push_each : (P : Entry → Type 0) (base : List Entry) (e : Entry) → Each P base → P e → Each P (base ++ e ∷ [])
push_each P base e h g = each_joined P base (e ∷ []) h (g, tt)

pub all_run_at_top : (set : Setup) (base c : List Entry) → IsChildless base → IsChildless c → EachAfter (IsLegalRunEntry set) base c → Each IsAtTop c
all_run_at_top set base [] hb h l = tt
all_run_at_top set base (e ∷ c) hb h l =
    (run_at_top set base e hb l.0, all_run_at_top set (base ++ e ∷ []) c (push_each IsOfNoChild base e hb h.0) h.1 l.1)

no_end : (e : Entry) → IsOfNoChild e → is_end e ≡ false
no_end (entry.Born child parent job label second grant) h = absurd h
no_end (entry.Gone child parent job shut) h = absurd h
no_end _ h = refl

module _ (set : Setup) (tops : IsOfTop set) where
  -- ---- the end

  closing_is : (c closings : List Entry) (by : By) (given : Reply) → HasClosingGrounds set c closings by given → is_closing given ≡ true
  closing_is c closings by (reply.UnfinishedFence have want) h = refl
  closing_is c closings by (reply.UnfinishedWait had number) h = refl
  closing_is c closings by (reply.UnfinishedJob where_) h = refl
  closing_is c closings by reply.NotReached h = refl
  closing_is c closings by _ h = absurd h

  module _ (c : List Entry) (h : IsChildless c) (at : Each IsAtTop c) where
    at_true : (b : Bool) (P Q : Type 0) → b ≡ true → P → MatchBool b P Q
    at_true true P Q e p = p
    at_true false P Q e p = absurd (let no : false ≡ true = e in cc)

    closing_so : (closings : List Entry) (e : Entry) → IsGrounded set c closings e → IsRunClosing set c closings e
    closing_so closings (entry.Replied actor command given number) g =
        (g.0, at_true _ _ _ (has_living_top set tops c h at actor) (closing_is c closings (record { actor = actor; command = command }) given g.1))
    closing_so closings _ g = absurd g

    closings_so : (closings xs : List Entry) → Each (IsGrounded set c closings) xs → Each (IsRunClosing set c closings) xs
    closings_so closings [] g = tt
    closings_so closings (e ∷ xs) g = (closing_so closings e g.0, closings_so closings xs g.1)

    to_own : (P : Setup → List Entry → Type 0) → P set c → P (setup_in set c top) (own_of set c top)
    to_own P p = subst (λ s. P s (own_of set c top)) (sym (setup_same set tops c)) (subst (P set) (sym (chronicle_same set tops c h at)) p)

    from_own : (P : Setup → List Entry → Type 0) → P (setup_in set c top) (own_of set c top) → P set c
    from_own P p = subst (P set) (chronicle_same set tops c h at) (subst (λ s. P s (own_of set c top)) (setup_same set tops c) p)

    own_lives : (P : Setup → List Entry → Type 0) → P set c → (i : ℕ) → lives c i ≡ true → P (setup_in set c i) (own_of set c i)
    own_lives P p i l = subst (λ n. P (setup_in set c n) (own_of set c n)) (sym (only_top c h i l)) (to_own P p)

    pub whole_run : IsWhole set c → IsWholeRun set c
    whole_run w = record {
      earlier = w.earlier;
      closings = w.closings;
      split = w.split;
      body = w.body;
      closing = closings_so w.closings w.closings w.closing;
      answered = w.answered;
      no_other = w.no_other;
      own = own_lives IsWhole w;
      closes = subst (λ l. MayClose l (left_in set c)) (sym (family_same set tops c h at)) (subst (MayClose (alone_in set c)) (sym (no_left set tops c h at)) (family_closes set c w.rests w.advanced));
    }

    pub whole_alone : IsWholeRun set c → IsWhole set c × MayClose (alone_in set c) []
    whole_alone w = (
      from_own IsWhole (w.own top (top_lives set tops c h at)),
      subst (MayClose (alone_in set c)) (no_left set tops c h at) (subst (λ l. MayClose l (left_in set c)) (family_same set tops c h at) w.closes),
    )

    -- ---- ticks

    tick_run : (second : ℕ) → MayTick (alone_in set c) (second_of set c) [] second → MayTick (family_of set c) (second_in set c) (left_in set c) second
    tick_run second m =
        subst (λ l. MayTick l (second_in set c) (left_in set c) second) (sym (family_same set tops c h at))
        (subst (λ n. MayTick (alone_in set c) n (left_in set c) second) (sym (second_same set tops c h at))
        (subst (λ l. MayTick (alone_in set c) (second_of set c) l second) (sym (no_left set tops c h at)) m))

    tick_alone : (second : ℕ) → MayTick (family_of set c) (second_in set c) (left_in set c) second → MayTick (alone_in set c) (second_of set c) [] second
    tick_alone second m =
        subst (λ l. MayTick (alone_in set c) (second_of set c) l second) (no_left set tops c h at)
        (subst (λ n. MayTick (alone_in set c) n (left_in set c) second) (second_same set tops c h at)
        (subst (λ l. MayTick l (second_in set c) (left_in set c) second) (family_same set tops c h at) m))

    -- ---- before an issue or a tick

    rest_run : HasFamilyRest set c → HasRunRest set c
    rest_run r = record {
      told = subst IsFamilyTold (sym (family_same set tops c h at)) r.told;
      idle = subst IsFamilyIdle (sym (family_same set tops c h at)) r.idle;
      waits = λ by waiting. subst (λ l. HasToWaitIn l by) (sym (family_same set tops c h at)) (r.waits by waiting);
    }

    rest_alone : HasRunRest set c → HasFamilyRest set c
    rest_alone r = record {
      told = subst IsFamilyTold (family_same set tops c h at) r.told;
      idle = subst IsFamilyIdle (family_same set tops c h at) r.idle;
      waits = λ by waiting. subst (λ l. HasToWaitIn l by) (family_same set tops c h at) (r.waits by waiting);
    }

    first_run : (e : Entry) → FamilyRestsFirst set c e → RunRestsFirst set c e
    first_run (entry.Issued actor command) r = rest_run r
    first_run (entry.Ticked second) r = rest_run r
    first_run _ r = tt

    first_alone : (e : Entry) → RunRestsFirst set c e → FamilyRestsFirst set c e
    first_alone (entry.Issued actor command) r = rest_alone r
    first_alone (entry.Ticked second) r = rest_alone r
    first_alone _ r = tt

  -- ---- one entry

  module _ (c : List Entry) (h : IsChildless c) (at : Each IsAtTop c) where
    reply_so : (by : By) (number : Option ℕ) (given : Reply) → HasReplyGrounds set c by number given → HasHomeFor set c by number given
    reply_so by number reply.Gone g = absurd g
    reply_so by number reply.UnfinishedUnborn g = absurd g
    reply_so by number reply.NotReached g = (g.0, inl (has_living_top set tops c h at by.actor))
    reply_so by number given g = has_living_top set tops c h at by.actor

    lives_at : (i : ℕ) → i ≡ top → lives c i ≡ true
    lives_at i e = subst (λ n. lives c n ≡ true) (sym e) (top_lives set tops c h at)

    grounds_so : (e : Entry) → IsOfNoChild e → IsLegalEntry set c e → ComesInTime set c e → HasRunGrounds set c e
    grounds_so (entry.Issued actor command) n l t = (l.grounds, has_top set tops c h at actor)
    grounds_so (entry.Landed instance space number authors groups) n l t = lives_at instance l.grounds.0.0
    grounds_so (entry.Denied instance space authors group refusal) n l t = lives_at instance l.grounds.0.0
    grounds_so (entry.Heard instance broker space number) n l t = lives_at instance l.grounds.0
    grounds_so (entry.Got instance broker reference) n l t = lives_at instance l.grounds.0
    grounds_so (entry.Dropped instance broker reference) n l t = lives_at instance l.grounds.0
    grounds_so (entry.Replied actor command given number) n l t = reply_so (record { actor = actor; command = command }) number given l.grounds
    grounds_so (entry.Told from to) n l t = has_living_top set tops c h at from
    grounds_so (entry.Ticked second) n l t = tick_run c h at second t
    grounds_so (entry.Born child parent job label second grant) n l t = absurd n
    grounds_so (entry.Gone child parent job shut) n l t = absurd n
    grounds_so (entry.Watched actor command number first count) n l t = has_living_top set tops c h at actor
    grounds_so entry.Closed n l t = whole_run (c ++ entry.Closed ∷ []) (push_each IsOfNoChild c entry.Closed h tt) (push_each IsAtTop c entry.Closed at tt) l.grounds

    time_so : (e : Entry) → IsOfNoChild e → IsLegalRunEntry set c e → ComesInTime set c e
    time_so (entry.Ticked second) n l = tick_alone c h at second l.grounds
    time_so (entry.Born child parent job label second grant) n l = absurd n
    time_so (entry.Gone child parent job shut) n l = absurd n
    time_so _ n l = tt

    entry_so : (e : Entry) → IsOfNoChild e → IsLegal set c → IsLegalEntry set c e → ComesInTime set c e → IsLegalRunEntry set c e
    entry_so e n legal l t = record {
      goes_on = l.goes_on;
      grounds = grounds_so e n l t;
      own = λ none. own_lives (c ++ e ∷ []) (push_each IsOfNoChild c e h n) (push_each IsAtTop c e at (legal_at_top set c e l)) IsLegal (each_push (IsLegalEntry set) c e legal l);
    }

  -- ---- all entries

  run_so : (base c : List Entry) → IsChildless base → Each IsAtTop base → IsLegal set base → IsChildless c
      → EachAfter (IsLegalEntry set) base c → EachAfter (ComesInTime set) base c → EachAfter (IsLegalRunEntry set) base c
  run_so base [] hb at legal h l t = tt
  run_so base (e ∷ c) hb at legal h l t = (
    entry_so base hb at e h.0 legal l.0 t.0,
    run_so (base ++ e ∷ []) c (push_each IsOfNoChild base e hb h.0) (push_each IsAtTop base e at (legal_at_top set base e l.0))
        (each_push (IsLegalEntry set) base e legal l.0) h.1 l.1 t.1,
  )

  pub legal_run : (c : List Entry) → IsChildless c → IsLegal set c → IsInTime set c → IsLegalRun set c
  legal_run c h l t = run_so [] c tt tt tt h l t

  times_so : (base c : List Entry) → IsChildless base → Each IsAtTop base → IsChildless c → EachAfter (IsLegalRunEntry set) base c → EachAfter (ComesInTime set) base c
  times_so base [] hb at h l = tt
  times_so base (e ∷ c) hb at h l = (
    time_so base hb at e h.0 l.0,
    times_so (base ++ e ∷ []) c (push_each IsOfNoChild base e hb h.0) (push_each IsAtTop base e at (run_at_top set base e hb l.0)) h.1 l.1,
  )

  LegalWhere : List Entry → Type 0
  LegalWhere c = IsChildless c → Each IsAtTop c → IsLegal set c

  legal_step : (xs : List Entry) (e : Entry) → EachAfter (IsLegalRunEntry set) [] xs → IsLegalRunEntry set xs e → LegalWhere xs → LegalWhere (xs ++ e ∷ [])
  unfolding LegalWhere
  legal_step xs e before l old h at =
      from_own (xs ++ e ∷ []) h at IsLegal (l.own (no_end e (each_last IsOfNoChild xs e h)) top (top_lives set tops (xs ++ e ∷ []) h at))

  pub legal_alone : (c : List Entry) → IsChildless c → IsLegalRun set c → IsLegal set c × IsInTime set c
  unfolding LegalWhere
  legal_alone c h l = (
    each_along (IsLegalRunEntry set) LegalWhere legal_step [] c tt l (λ hc atc. tt) h (all_run_at_top set [] c tt h l),
    times_so [] c tt tt h l,
  )

  rests_run : (base c : List Entry) → IsChildless base → Each IsAtTop base → IsChildless c → Each IsAtTop c → EachAfter (FamilyRestsFirst set) base c → EachAfter (RunRestsFirst set) base c
  rests_run base [] hb ab h at r = tt
  rests_run base (e ∷ c) hb ab h at r = (
    first_run base hb ab e r.0,
    rests_run (base ++ e ∷ []) c (push_each IsOfNoChild base e hb h.0) (push_each IsAtTop base e ab at.0) h.1 at.1 r.1,
  )

  rests_alone : (base c : List Entry) → IsChildless base → Each IsAtTop base → IsChildless c → Each IsAtTop c → EachAfter (RunRestsFirst set) base c → EachAfter (FamilyRestsFirst set) base c
  rests_alone base [] hb ab h at r = tt
  rests_alone base (e ∷ c) hb ab h at r = (
    first_alone base hb ab e r.0,
    rests_alone (base ++ e ∷ []) c (push_each IsOfNoChild base e hb h.0) (push_each IsAtTop base e ab at.0) h.1 at.1 r.1,
  )

  pub settled_run : (c : List Entry) → IsChildless c → Each IsAtTop c → IsFamilySettled set c → IsSettledRun set c
  settled_run c h at r = rests_run [] c tt tt h at r

  pub settled_as_alone : (c : List Entry) → IsChildless c → Each IsAtTop c → IsSettledRun set c → IsSettled set c × IsFamilySettled set c
  settled_as_alone c h at r = let f = rests_alone [] c tt tt h at r in (settled_alone set c f, f)

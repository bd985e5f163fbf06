-- What an instance says of a run in which it is alone.
use Rattle.std.proofs.Common.{◌≡◌, ℕ, zero, inl, inr, List, [], ◌∷◌, ◌++◌, Option, Some, None, refl, sym, ap, ◌∙◌, subst, arith, map}
use Rattle.std.specs.Prelude.{Contains}
use Rattle.std.specs.List.{AllByRecursion as Each}
use Rattle.kvs_rules.specs.declared.events.KvsEvent.{KvsEvent}
use Rattle.kvs_rules.specs.declared.events.KvsEvent.TheVariants as event
use Rattle.kvs_rules.specs.Quiet.{AreAllTold}
use Rattle.kvs_rules.specs.Sequence.{EachAfter}
use Rattle.manager_rules.specs.Times.{IsIdle}
use Rattle.instance_rules.specs.Family.{HasTarget, HasToWait, IsEndOf, IsFamilyIdle, IsFamilyTold, Living, MayClose, OfLiving}
use Rattle.instance_rules.specs.Legal.{OfDesk}
use Rattle.instance_rules.specs.Log.{service_of}
use Rattle.workload.specs.declared.work.Workload.{Workload}
use Rattle.answers.specs.declared.chronicle.Entry.{Entry}
use Rattle.answers.specs.declared.chronicle.Entry.TheVariants as entry
use Rattle.answers.specs.declared.steps.Step.{Step}
use Rattle.answers.specs.declared.steps.Step.TheVariants as step
use Rattle.answers.specs.Chronicle.{Setup, top}
use Rattle.answers.specs.Commands.{broker_of}
use Rattle.answers.specs.Entering.{entered}
use Rattle.answers.specs.Jobs.{HasNoAdvance, instance_of, living_of, log_in}
use Rattle.answers.specs.Legal.{HasSettled, SettlesFirst}
use Rattle.answers.specs.Runs.{ComesInTime, FamilyRestsFirst, HasFamilyRest, family_of}
use Rattle.answers.specs.Services.{setting_of}
use Rattle.answers.specs.Stretches.{ComesBeforeReply, IsContentAt, IsReplyOf, IsStretch, IsTimeless}
use Rattle.answers.specs.Whole.{HasComeToRest, HasToldAll, IsClosingEntry}
use Rattle.answers.proofs.JobLogs.{only, service_kept}

module _ (set : Setup) (c : List Entry) where
  -- what holds of the one holds of all
  of_all : (P : Living → Type 0) → P (living_of set c) → (l : Living) → Contains (family_of set c) l → P l
  of_all P p l here = subst P (sym (only (living_of set c) l here)) p

  lives : Contains (family_of set c) (living_of set c)
  lives = (zero, omega arith, refl)

  no_end : (l : Living) → Contains (family_of set c) l → IsEndOf (family_of set c) l → ⊥
  no_end l here end = let never : ◌≡◌ {A = Option (ℕ × ℕ)} None (Some (end.parent.number, end.job)) = ap (λ x. x.from) (sym (only (living_of set c) l here)) ∙ end.from in cc

  family_told : HasToldAll set c → IsFamilyTold (family_of set c)
  family_told told = of_all (λ l. AreAllTold l.inst.service (service_of l.log)) (subst (AreAllTold (setting_of set)) (sym (service_kept set.work c)) told)

  family_idle : OfDesk (instance_of set) (log_in set.work c) IsIdle → IsFamilyIdle (family_of set c)
  family_idle idle = record { idle = of_all (λ l. OfLiving l IsIdle) idle; stays = no_end }

  one_rests : IsFamilyTold (family_of set c) → IsFamilyIdle (family_of set c) → HasComeToRest set c
  one_rests told idle = record {
    told = subst (AreAllTold (setting_of set)) (service_kept set.work c) (told (living_of set c) lives);
    idle = idle.idle (living_of set c) lives;
  }

  pub family_rests : HasSettled set c → HasFamilyRest set c
  family_rests h = record {
    told = family_told h.rests.told;
    idle = family_idle h.rests.idle;
    waits = λ by waiting. (living_of set c, lives, h.waits by waiting);
  }

  pub rests_alone : HasFamilyRest set c → HasSettled set c
  rests_alone h = record {
    rests = one_rests h.told h.idle;
    waits = λ by waiting. let w = h.waits by waiting in subst (λ l. HasToWait l by) (only (living_of set c) w.0 w.1) w.2;
  }

  pub family_closes : HasComeToRest set c → HasNoAdvance set c → MayClose (family_of set c) []
  family_closes h none = record {
    idle = family_idle h.idle;
    told = family_told h.told;
    advanced = λ target waits. elim waits [
      | inl t ↦ none target (subst (λ l. HasTarget l target) (only (living_of set c) t.0 t.1) t.2)
      | inr left ↦ absurd (omega (arith, left.1))
    ];
  }

  pub closes_alone : MayClose (family_of set c) [] → HasComeToRest set c × HasNoAdvance set c
  closes_alone may = (one_rests may.told may.idle, λ target waits. may.advanced target (inl (living_of set c, lives, waits)))

-- ---- before each issue and each tick

each_as : {A : Type 0} {P Q : List A → A → Type 0} → ((xs : List A) (x : A) → P xs x → Q xs x) → (base more : List A) → EachAfter P base more → EachAfter Q base more
each_as to base [] h = tt
each_as to base (x ∷ more) h = (to base x h.0, each_as to (base ++ x ∷ []) more h.1)

module _ (set : Setup) where
  family_first : (c : List Entry) (e : Entry) → SettlesFirst set c e → FamilyRestsFirst set c e
  family_first c (entry.Issued actor command) h = family_rests set c h
  family_first c (entry.Ticked second) h = family_rests set c h
  family_first c _ h = tt

  alone_first : (c : List Entry) (e : Entry) → FamilyRestsFirst set c e → SettlesFirst set c e
  alone_first c (entry.Issued actor command) h = rests_alone set c h
  alone_first c (entry.Ticked second) h = rests_alone set c h
  alone_first c _ h = tt

  pub family_settled : (c : List Entry) → EachAfter (SettlesFirst set) [] c → EachAfter (FamilyRestsFirst set) [] c
  family_settled c = each_as family_first [] c

  pub settled_alone : (c : List Entry) → EachAfter (FamilyRestsFirst set) [] c → EachAfter (SettlesFirst set) [] c
  settled_alone c = each_as alone_first [] c

-- ---- what is always in time

-- neither a tick nor about a child
abbrev IsPlain : Entry → Type 0
IsPlain (entry.Ticked second) = ⊥
IsPlain (entry.Born child parent job label second grant) = ⊥
IsPlain (entry.Gone child parent job shut) = ⊥
IsPlain _ = Unit {0}

each_joined : {A : Type 0} (P : A → Type 0) (xs ys : List A) → Each P xs → Each P ys → Each P (xs ++ ys)
each_joined P [] ys h g = g
each_joined P (x ∷ xs) ys h g = (h.0, each_joined P xs ys h.1 g)

each_parts : {A : Type 0} (P : A → Type 0) (xs ys : List A) → Each P (xs ++ ys) → Each P xs × Each P ys
each_parts P [] ys h = (tt, h)
each_parts P (x ∷ xs) ys h = let p = each_parts P xs ys h.1 in ((h.0, p.0), p.1)

each_to : {A : Type 0} {P Q : A → Type 0} → ((x : A) → P x → Q x) → (xs : List A) → Each P xs → Each Q xs
each_to to [] h = tt
each_to to (x ∷ xs) h = (to x h.0, each_to to xs h.1)

plain_content : (i b : ℕ) (e : Entry) → IsContentAt i b e → IsPlain e
plain_content i b (entry.Got j r x) h = tt
plain_content i b (entry.Dropped j r x) h = tt
plain_content i b _ h = absurd h

plain_before : (work : Workload) (actor : ℕ) (e : Entry) → ComesBeforeReply work actor e → IsPlain e
plain_before work actor (entry.Told from to) h = tt
plain_before work actor (entry.Got j r x) h = tt
plain_before work actor (entry.Dropped j r x) h = tt
plain_before work actor _ h = absurd h

plain_reply : (actor : ℕ) (e : Entry) → IsReplyOf actor e → IsPlain e
plain_reply actor (entry.Replied other command given number) h = tt
plain_reply actor _ h = absurd h

plain_closing : (e : Entry) → IsClosingEntry e → IsPlain e
plain_closing (entry.Replied actor command given number) h = tt
plain_closing _ h = absurd h

plain_event : (i : ℕ) (x : KvsEvent) → IsPlain (entered i x)
plain_event i (event.Landed space number authors groups) = tt
plain_event i (event.Denied space authors group refusal) = tt
plain_event i (event.Heard broker space number) = tt
plain_event i (event.Got broker reference) = tt
plain_event i (event.Dropped broker reference) = tt
plain_event i (event.Answered by number given) = tt

plain_events : (i : ℕ) (events : List KvsEvent) → Each IsPlain (map (entered i) events)
plain_events i [] = tt
plain_events i (x ∷ events) = (plain_event i x, plain_events i events)

plain_stretch : (work : Workload) (c made : List Entry) (s : Step) → IsTimeless s → IsStretch work c s made → Each IsPlain made
plain_stretch work c made (step.Issue actor) free h =
    subst (Each IsPlain) (sym h.split) (tt, each_to (plain_content top (broker_of work actor)) h.behind h.others)
plain_stretch work c made (step.Kvs instance s) free h = subst (Each IsPlain) (sym h.split) (plain_events instance h.events)
plain_stretch work c made (step.Answer actor) free h =
    subst (Each IsPlain) (sym h.split) (each_joined IsPlain h.before (h.reply ∷ []) (each_to (plain_before work actor) h.before h.others) (plain_reply actor h.reply h.replies, tt))
plain_stretch work c made (step.Record actor) free h = subst (Each IsPlain) (sym h.split) (tt, tt)
plain_stretch work c made (step.Feed actor) free h = subst (Each IsPlain) (sym h.split) (tt, tt)
plain_stretch work c made (step.Post instance) free h = subst (Each IsPlain) (sym h) tt
plain_stretch work c made step.Close free h =
    subst (Each IsPlain) (sym h.split) (each_joined IsPlain h.closings (entry.Closed ∷ []) (each_to plain_closing h.closings h.closing) (tt, tt))
plain_stretch work c made _ free h = absurd free

plain_in_time : (set : Setup) (c : List Entry) (e : Entry) → IsPlain e → ComesInTime set c e
plain_in_time set c (entry.Ticked second) h = absurd h
plain_in_time set c (entry.Born child parent job label second grant) h = absurd h
plain_in_time set c (entry.Gone child parent job shut) h = absurd h
plain_in_time set c _ h = tt

each_in_time : (set : Setup) (c made : List Entry) → Each IsPlain made → EachAfter (ComesInTime set) c made
each_in_time set c [] h = tt
each_in_time set c (e ∷ made) h = (plain_in_time set c e h.0, each_in_time set (c ++ e ∷ []) made h.1)

pub in_time : (set : Setup) (c made : List Entry) (s : Step) → IsTimeless s → IsStretch set.work c s made → EachAfter (ComesInTime set) c made
in_time set c made s free h = each_in_time set c made (plain_stretch set.work c made s free h)

-- A run of one instance has no children: so at its ticks no job that is ending has a living one.
use Rattle.std.proofs.Common.{◌≡◌, ℕ, List, [], ◌∷◌, ◌++◌, Bool, true, false, cond, Option, Some, None, is_some, option_map, unwrap_or, refl, sym, ap, ◌∙◌, subst, append-nil, true≢false}
use Rattle.std.specs.Prelude.{◌&&◌, Contains}
use Rattle.std.specs.Option.{option_map_or}
use Rattle.std.specs.List.{cons_option}
use Rattle.std.proofs.lemmas.Bool.{and_parts, eqb-true}
use Rattle.job_rules.proofs.Among.{any_from, contains_from}
use Rattle.kvs_rules.specs.Log as service
use Rattle.kvs_rules.specs.Sequence.{EachAfter}
use Rattle.kvs_rules.proofs.Sequences.{each_along, each_push, latest_push}
use Rattle.kvs_txn.specs.declared.txn.By.{By}
use Rattle.manager_rules.specs.declared.asked.Asked.{Asked}
use Rattle.manager_rules.specs.declared.asked.Asked.TheVariants as asked
use Rattle.manager_rules.specs.Scene.{has_living_child, is_child_of, is_living}
use Rattle.instance_rules.specs.Log.{Issued, JobReply, Log, Moment, Replied, Served, child_of, child_told}
use Rattle.answers.specs.Chronicle.{Setup, top}
use Rattle.answers.specs.Jobs.{happening_of, job_ask_at, job_reply_of, log_in}
use Rattle.answers.specs.Runs.{ComesInTime, IsInTime}
use Rattle.answers.specs.Services.{moment_of}
use Rattle.answers.specs.declared.chronicle.Entry.{Entry}
use Rattle.answers.specs.declared.chronicle.Entry.TheVariants as entry
use Rattle.run_laws.specs.Reserved.{EndsComeFirst, EndsFirst}
use Rattle.run_laws.proofs.Times.{happenings_append}

-- a living child on a desk is asked of as one
pub child_there : (a : List Asked) (id : ℕ) → has_living_child a id ≡ true → (shut : Bool) × Contains a (asked.Child id true shut)
child_there all id h =
    let hit = any_from (λ a. is_child_of id a && is_living a) all h in
    by hit.0 (contains_from all hit.0 hit.1) (and_parts (is_child_of id hit.0) (is_living hit.0) hit.2).0 (and_parts (is_child_of id hit.0) (is_living hit.0) hit.2).1
  where
    by : (a : Asked) → Contains all a → is_child_of id a ≡ true → is_living a ≡ true → (shut : Bool) × Contains all (asked.Child id true shut)
    by (asked.Child job living shut) here mine lives = (shut, subst (λ n. Contains all (asked.Child n true shut)) (sym (eqb-true id job mine)) (subst (λ b. Contains all (asked.Child job b shut)) lives here))
    by (asked.Cancel by_ job) here mine lives = absurd (true≢false (sym mine))
    by (asked.Raise by_ job kind severity note) here mine lives = absurd (true≢false (sym mine))
    by (asked.Urgency by_ job urgency) here mine lives = absurd (true≢false (sym mine))

-- what a moment says of a child, if there is one
abbrev pub told_by : ℕ → Option Moment → Option (Option (Bool × Bool))
told_by id None = None
told_by id (Some m) = child_told id m

pub child_push : (id : ℕ) (log : Log) (o : Option Moment) → child_of (log ++ cons_option o []) id ≡ unwrap_or (told_by id o) (child_of log id)
child_push id log None = ap (λ l. child_of l id) (append-nil log)
child_push id log (Some m) = latest_push (child_told id) None log m

pub served_untold : (id : ℕ) (o : Option service.Moment) → told_by id (option_map Served o) ≡ None
served_untold id None = refl
served_untold id (Some m) = refl

pub issued_untold : (id : ℕ) (b : Bool) (by : By) (o : Option service.Moment) → told_by id (cond b (Some (Issued by)) (option_map Served o)) ≡ None
issued_untold id true by o = refl
issued_untold id false by o = served_untold id o

pub replied_untold : (id : ℕ) (by : By) (number : Option ℕ) (told : Option JobReply) (o : Option service.Moment) → told_by id (option_map_or (λ r. Some (Replied by r number)) told (option_map Served o)) ≡ None
replied_untold id by number None o = served_untold id o
replied_untold id by number (Some r) o = refl

module _ (set : Setup) where
  untold : (c : List Entry) (e : Entry) (id : ℕ) → ComesInTime set c e → told_by id (happening_of set.work c e) ≡ None
  untold c (entry.Issued actor number) id h = issued_untold id (is_some (job_ask_at set.work (record { actor = actor; command = number }))) (record { actor = actor; command = number }) (moment_of set.work top c (entry.Issued actor number))
  untold c (entry.Replied actor command given number) id h = replied_untold id (record { actor = actor; command = command }) number (job_reply_of given) (moment_of set.work top c (entry.Replied actor command given number))
  untold c (entry.Ticked second) id h = refl
  untold c (entry.Born child parent job label second grant) id h = absurd h
  untold c (entry.Gone child parent job shut) id h = absurd h
  untold c (entry.Watched actor command number first count) id h = refl
  untold c e id h = served_untold id (moment_of set.work top c e)

  NoChild : List Entry → Type 0
  NoChild c = (id : ℕ) → child_of (log_in set.work c) id ≡ None

  none_step : (c : List Entry) (e : Entry) → EachAfter (ComesInTime set) [] c → ComesInTime set c e → NoChild c → NoChild (c ++ e ∷ [])
  unfolding NoChild
  none_step c e before h none id =
      ap (λ l. child_of l id) (happenings_append set.work [] c (e ∷ [])) ∙ child_push id (log_in set.work c) (happening_of set.work c e)
      ∙ ap (λ o. unwrap_or o (child_of (log_in set.work c) id)) (untold c e id h) ∙ none id

  none_yet : (c : List Entry) → IsInTime set c → NoChild c
  unfolding NoChild
  none_yet c timely = each_along (ComesInTime set) NoChild none_step [] c tt timely (λ id. refl)

  at_tick : (c : List Entry) (e : Entry) → EachAfter (ComesInTime set) [] c → EndsFirst set c e
  unfolding NoChild
  at_tick c (entry.Ticked second) before = λ st d standing is id due.
      let there = child_there d.scene.asked id due.lives in
      let lives : child_of (log_in set.work c) id ≡ Some (true, there.0) = (is.asked (asked.Child id true there.0)).0 there.1 in
      clash there.0 (sym (none_yet c before id) ∙ lives)
    where
      clash : {A : Type 0} (shut : Bool) → ◌≡◌ {A = Option (Bool × Bool)} None (Some (true, shut)) → A
      clash shut e = cc
  at_tick c _ before = tt

  ends_on : (past more : List Entry) → EachAfter (ComesInTime set) [] past → EachAfter (ComesInTime set) past more → EachAfter (EndsFirst set) past more
  ends_on past [] before h = tt
  ends_on past (e ∷ more) before h = (at_tick past e before, ends_on (past ++ e ∷ []) more (each_push (ComesInTime set) past e before h.0) h.1)

  pub alone_ends_first : (c : List Entry) → IsInTime set c → EndsComeFirst set c
  alone_ends_first c timely = ends_on [] c tt timely

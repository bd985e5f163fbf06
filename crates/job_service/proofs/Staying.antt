-- What is due by the log of an instance stays due while its command is open.
use Rattle.std.proofs.Common.{◌≡◌, ℕ, inl, inr, List, [], ◌∷◌, ◌++◌, Bool, true, false, cond, ◌&&◌, ◌==◌, Some, None, Contains, refl, sym, ap, ◌∙◌, subst, count_by, arith}
use Rattle.std.specs.Prelude.{filter_map, not, unwrap_or}
use Rattle.std.specs.Option.{option_map_or}
use Rattle.kvs_rules.proofs.Sequences.{latest_push}
use Rattle.std.proofs.lemmas.Bool.{cond-true, eq-eqb}
use Rattle.std.proofs.lemmas.List.Elements.{filter_map-append}
use Rattle.job_deeds.proofs.job_rules_proofs.Among.{Among, among_from, among_left, contains_from}
use Rattle.job_deeds.specs.job_spec.declared.spec.Depend.{Depend}
use Rattle.kvs_rules.specs.Log.{same_command}
use Rattle.job_deeds.specs.kvs_txn.declared.txn.By.{By}
use Rattle.instance_rules.specs.Desks.{AreNamed, StandsAsked, StandsSubmitted, submits_at}
use Rattle.instance_rules.specs.Log as rules
use Rattle.instance_rules.specs.Log.{Instance, IsPending, Log, Moment, Served, Issued, Replied, Ticked, Born, Gone, Fed, child_of, child_told, is_decided, now_of, replies_now, seconds_from, seconds_open, ticked}
use Rattle.job_commands.proofs.Children.{living_told, shut_told}
use Rattle.job_commands.proofs.Desks.{asked_there, children_stand, asked_true, submits_there, submits_true}
use Rattle.job_commands.proofs.Logs.{count_push, open_kept, undecided_kept}
use Rattle.job_commands.proofs.Steps.{names_kept}
use Rattle.job_commands.specs.Agrees.{AgreesCommands}
use Rattle.job_commands.specs.Desks.{asked_of, desk_of}
use Rattle.job_commands.specs.Rows.{CommandsValue}
use Rattle.job_deeds.specs.manager_rules.Deeds.{command_asked}
use Rattle.job_deeds.specs.manager_rules.Due.{IsDue, IsEnding, IsLike, StillWaits}
use Rattle.job_deeds.specs.manager_rules.Jobs.{StoredJob, ids_of}
use Rattle.job_deeds.specs.manager_rules.Posts as posts
use Rattle.job_deeds.specs.manager_rules.Posts.{Desk, Does, IsDuePost, IsOpenStill, IsSubmission, Post, StillSubmits, Submission, Submits}
use Rattle.job_deeds.specs.manager_rules.Scene.{Scene, has_living_child, has_shut_child}
use Rattle.job_deeds.specs.manager_rules.declared.asked.Asked.{Asked}
use Rattle.job_deeds.specs.manager_rules.declared.asked.Asked.TheVariants as asked
use Rattle.job_deeds.specs.manager_rules.declared.due.Due.{Due}
use Rattle.job_service.specs.Due.{IsOpenFor, LeavesChild, LeavesChildOf, LeavesOpen}

-- ---- seconds stay

opened_same : (by : By) (now : ℕ) (log : Log) (m : Moment) (s : ℕ) → Among s (seconds_from by now log) → Among s (seconds_from by now (log ++ m ∷ []))
opened_same by now [] m s i = absurd i
opened_same by now (Issued other ∷ log) m s i = at (same_command by other) (opened_same by now log m s) i
  where
    ticks : Among s (now ∷ filter_map ticked log) → Among s (now ∷ filter_map ticked (log ++ m ∷ []))
    ticks (inl e) = inl e
    ticks (inr j) = inr (subst (Among s) (sym (filter_map-append ticked log (m ∷ []))) (among_left (filter_map ticked log) (filter_map ticked (m ∷ [])) s j))

    at : (b : Bool) → (Among s (seconds_from by now log) → Among s (seconds_from by now (log ++ m ∷ []))) → Among s (cond b (now ∷ filter_map ticked log) (seconds_from by now log))
        → Among s (cond b (now ∷ filter_map ticked (log ++ m ∷ [])) (seconds_from by now (log ++ m ∷ [])))
    at true more i = ticks i
    at false more i = more i
opened_same by now (Ticked second ∷ log) m s i = opened_same by second log m s i
opened_same by now (Served x ∷ log) m s i = opened_same by now log m s i
opened_same by now (Replied other reply number ∷ log) m s i = opened_same by now log m s i
opened_same by now (Born job ∷ log) m s i = opened_same by now log m s i
opened_same by now (Gone job shut ∷ log) m s i = opened_same by now log m s i
opened_same by now (Fed other number first count ∷ log) m s i = opened_same by now log m s i

seconds_kept : (inst : Instance) (log : Log) (m : Moment) (by : By) (s : ℕ) → Contains (seconds_open inst log by) s → Contains (seconds_open inst (log ++ m ∷ []) by) s
seconds_kept inst log m by s c = contains_from _ s (opened_same by inst.start log m s (among_from _ s c))

module _ (inst : Instance) (log : Log) (m : Moment) where
  abbrev later : Log
  later = log ++ m ∷ []

  pending_kept : (by : By) → IsOpenFor by m → IsPending by log → IsPending by later
  pending_kept by o p = record { waits = open_kept by log m o.unanswered p.waits; undecided = undecided_kept by log m o.undecided p.undecided }

  same_by : (a b : By) → Some a ≡ Some b → b ≡ a
  same_by a b e = cc

  stands_kept : (by : By) → IsOpenFor by m → (a : Asked) → command_asked a ≡ Some by → StandsAsked inst log a → StandsAsked inst later a
  stands_kept by o (asked.Cancel b job) e h = record {
    label = h.label;
    asks = h.asks;
    pending = pending_kept b (subst (λ x. IsOpenFor x m) (same_by b by e) o) h.pending;
    names = names_kept inst log m h.label job h.names;
  }
  stands_kept by o (asked.Raise b job kind severity note) e h = record {
    label = h.label;
    asks = h.asks;
    pending = pending_kept b (subst (λ x. IsOpenFor x m) (same_by b by e) o) h.pending;
    names = names_kept inst log m h.label job h.names;
  }
  stands_kept by o (asked.Urgency b job urgency) e h = record {
    label = h.label;
    asks = h.asks;
    pending = pending_kept b (subst (λ x. IsOpenFor x m) (same_by b by e) o) h.pending;
    names = names_kept inst log m h.label job h.names;
  }
  stands_kept by o (asked.Child job living shut) e h = cc

  named_kept : (named : List rules.Named) (needs : List Depend) → AreNamed inst log named needs → AreNamed inst later named needs
  named_kept [] [] h = tt
  named_kept [] (need ∷ needs) h = absurd h
  named_kept (n ∷ named) [] h = absurd h
  named_kept (n ∷ named) (need ∷ needs) h = (h.0, names_kept inst log m n.label need.on h.1, named_kept named needs h.2)

  -- the same submission, as it stands later
  abbrev still : posts.Submit → posts.Submit
  still from = record {
    by = from.by;
    rank = from.rank;
    urgency = from.urgency;
    needs = from.needs;
    text = from.text;
    seconds = seconds_open inst later from.by;
    issued = count_by (submits_at inst from.rank) later;
  }

  submitted_still : (from : posts.Submit) → IsOpenFor from.by m → StandsSubmitted inst log from → StandsSubmitted inst later (still from)
  submitted_still from o h = record {
    label = h.label;
    named = h.named;
    asks = h.asks;
    pending = pending_kept from.by o h.pending;
    needs = named_kept h.named from.needs h.needs;
    rank = h.rank;
    seconds = refl;
    issued = refl;
  }

  is_still : (from : posts.Submit) → StandsSubmitted inst log from → IsOpenStill from (still from)
  is_still from h = record {
    by = refl;
    rank = refl;
    urgency = refl;
    needs = refl;
    text = refl;
    seconds = λ s c. seconds_kept inst log m from.by s (subst (λ l. Contains l s) h.seconds c);
    issued = let more = count_push inst from.rank log m in let before = h.issued in omega (arith, more, before);
  }

  module _ (v new : CommandsValue) (jobs : List StoredJob) (old : AgreesCommands v inst log) (now : AgreesCommands new inst later)
      (same : now_of inst later ≡ now_of inst log)
      (events : (s t : Scene) (due : Due) → IsLike s t due.job → StillWaits s t due → IsDue s due → IsDue t due)
      (submissions : (s t : Scene) (birth : ℕ) (submits more : List posts.Submit) (x : Submission) → StillSubmits s t submits more x → IsSubmission s birth submits x → IsSubmission t birth more x) where
    abbrev before : Desk
    before = desk_of v inst log jobs

    abbrev after : Desk
    after = desk_of new inst later jobs

    told_now : (id : ℕ) → child_of later id ≡ unwrap_or (child_told id m) (child_of log id)
    told_now id = latest_push (child_told id) None log m

    kept_told : (id : ℕ) → child_told id m ≡ None → child_of later id ≡ child_of log id
    kept_told id none = told_now id ∙ ap (λ o. unwrap_or o (child_of log id)) none

    living_before : (id : ℕ) → has_living_child before.scene.asked id ≡ option_map_or (λ c. c.0) (child_of log id) false
    living_before id = living_told (asked_of v) log (children_stand v inst log old) id

    living_after : (id : ℕ) → has_living_child after.scene.asked id ≡ option_map_or (λ c. c.0) (child_of later id) false
    living_after id = living_told (asked_of new) later (children_stand new inst later now) id

    shut_before : (id : ℕ) → has_shut_child before.scene.asked id ≡ option_map_or (λ c. not c.0 && c.1) (child_of log id) false
    shut_before id = shut_told (asked_of v) log (children_stand v inst log old) id

    shut_after : (id : ℕ) → has_shut_child after.scene.asked id ≡ option_map_or (λ c. not c.0 && c.1) (child_of later id) false
    shut_after id = shut_told (asked_of new) later (children_stand new inst later now) id

    like_kept : (id : ℕ) → child_told id m ≡ None → IsLike before.scene after.scene id
    like_kept id none =
        let e = kept_told id none in
        record {
          now = same;
          grant = refl;
          jobs = refl;
          answer = refl;
          policy = refl;
          limits = refl;
          old = refl;
          shut = shut_after id ∙ ap (λ o. option_map_or (λ c. not c.0 && c.1) o false) e ∙ sym (shut_before id);
          living = λ ending gone. living_after id ∙ ap (λ o. option_map_or (λ c. c.0) o false) e ∙ sym (living_before id) ∙ gone;
        }

    born_told : (id : ℕ) → m ≡ Born id → child_of later id ≡ Some (true, false)
    born_told id is =
        let born_now : child_told id (Born id) ≡ Some (Some (true, false)) = cond-true (id == id) _ _ (eq-eqb id id refl) in
        told_now id ∙ ap (λ x. unwrap_or (child_told id x) (child_of log id)) is ∙ ap (λ o. unwrap_or o (child_of log id)) born_now

    like_born : (id : ℕ) → m ≡ Born id → (IsEnding jobs id → ⊥) → has_shut_child before.scene.asked id ≡ false → IsLike before.scene after.scene id
    like_born id is alive open_ = record {
      now = same;
      grant = refl;
      jobs = refl;
      answer = refl;
      policy = refl;
      limits = refl;
      old = refl;
      shut = shut_after id ∙ ap (λ o. option_map_or (λ c. not c.0 && c.1) o false) (born_told id is) ∙ sym open_;
      living = λ ending gone. absurd (alive ending);
    }

    like : (id : ℕ) → LeavesChild before.scene.asked jobs m id → IsLike before.scene after.scene id
    like id (inl none) = like_kept id none
    like id (inr b) = like_born id b.0 b.1 b.2

    waits : (due : Due) → LeavesOpen m (Does due) → StillWaits before.scene after.scene due
    waits due o by a command asks c =
        asked_there new inst later now a (stands_kept by (o by command) a asks (asked_true v inst log old a c))

    submits : (x : Submission) → LeavesOpen m (Submits x) → (Contains (ids_of jobs) x.id → ⊥) → StillSubmits before.scene after.scene before.submits after.submits x
    submits x o new_id = record {
      now = same;
      limits = refl;
      jobs = λ id c. c;
      new = new_id;
      waits = λ from c by.
          let h = submits_true v inst log old from c in
          (still from, submits_there new inst later now (still from) (submitted_still from (o from.by (ap Some (sym by))) h), is_still from h);
    }

    pub stays_due : (post : Post) → LeavesOpen m post → LeavesChildOf (asked_of v) jobs m post → IsDuePost before post → IsDuePost after post
    stays_due (Submits x) o k h = submissions before.scene after.scene before.birth before.submits after.submits x (submits x o h.new) h
    stays_due (Does due) o k h = events before.scene after.scene due (like due.job k) (waits due o) h

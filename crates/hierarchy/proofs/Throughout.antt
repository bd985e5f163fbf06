-- What holds all the way through a legal run.
use Rattle.std.proofs.Common.{◌≡◌, ◌∙◌, ℕ, ◌==◌, inl, inr, List, [], ◌∷◌, ◌++◌, Option, Some, None, Bool, true, false, refl, sym, ap, subst, append-nil, true≢false}
use Rattle.std.specs.List.{cons_option}
use Rattle.std.specs.Option.{option_map_or}
use Rattle.std.proofs.lemmas.Bool.{and_parts}
use Rattle.std.proofs.lemmas.List.{append_assoc}
use Rattle.kvs_rules.proofs.Sequences.{each_along, each_parts}
use Rattle.kvs_rules.specs.Log as service
use Rattle.workload.specs.Laws.{HasOwnLabels}
use Rattle.workload.specs.declared.work.Actor.{Actor}
use Rattle.workload.specs.declared.work.Workload.{Workload}
use Rattle.instance_rules.specs.Log.{IsInstance}
use Rattle.run_laws.proofs.Feeds.{see_behind, sees_logs}
use Rattle.run_laws.proofs.Views.{jobs_follow, logs_grow}
use Rattle.run_laws.specs.Feeds.{WatchesSeeTheirLogs}
use Rattle.run_laws.specs.Views.{JobsFollowWithRoots, LogsGrowWithRoots}
use Rattle.run_laws.specs.Times.{HasTime, KeepsTime}
use Rattle.answers.specs.Chronicle.{Setup, top}
use Rattle.answers.specs.Jobs.{instance_of}
use Rattle.answers.specs.Legal.{IsLegal}
use Rattle.answers.specs.Services.{log_of, setting_of}
use Rattle.answers.proofs.Services.{log_push}
use Rattle.answers.specs.declared.chronicle.Entry.{Entry}
use Rattle.answers.specs.declared.chronicle.Entry.TheVariants as entry
use Rattle.hierarchy.specs.Births.{Birth, birth_of, is_born, lives, label_of}
use Rattle.hierarchy.specs.Laws.{AreValid, IsKept}
use Rattle.hierarchy.specs.Legal.{IsLegalRun, IsLegalRunEntry, is_end}
use Rattle.hierarchy.specs.Own.{begins, brokers_for, child_setup, only_if, own_entry, own_of, setup_in, work_for}
use Rattle.hierarchy.specs.Promises.{ChildrenStayNested, JobsFollowInAll, JobsStaySoundInAll, LogsGrowInAll, WatchesSeeTheirLogsInAll}
use Rattle.hierarchy.proofs.Advances.{timely}
use Rattle.hierarchy.proofs.Bearing.{first_top}
use Rattle.hierarchy.proofs.Nested.{are_nested}
use Rattle.hierarchy.proofs.Owning.{alive, birth_kept, born_kept, lived, own_push, setup_kept}
use Rattle.hierarchy.proofs.Sound.{sound_in}
use Rattle.hierarchy.proofs.Within.{own_labels}

pub end_begins_none : (e : Entry) → is_end e ≡ true → (i : ℕ) → begins i e ≡ true → ⊥
end_begins_none (entry.Gone child parent job shut) ends i h = true≢false (sym h)
end_begins_none _ ends i h = true≢false (sym ends)

end_is_silent : (work : Workload) (own : List Entry) (actors : List Actor) (label : Option (List ℕ)) (i : ℕ) (e : Entry) → is_end e ≡ true
    → log_of work top (own ++ cons_option (own_entry actors label i e) []) ≡ log_of work top own
end_is_silent work own actors label i (entry.Gone child parent job shut) ends = by (parent == i)
  where
    by : (b : Bool) → log_of work top (own ++ cons_option (only_if b (entry.Gone child top job shut)) []) ≡ log_of work top own
    by true = log_push work top own (entry.Gone child top job shut) ∙ append-nil _
    by false = ap (log_of work top) (append-nil own)
end_is_silent work own actors label i _ ends = absurd (true≢false (sym ends))

end_feeds_none : (s : Setup) (own : List Entry) (actors : List Actor) (label : Option (List ℕ)) (i : ℕ) (e : Entry) → is_end e ≡ true
    → WatchesSeeTheirLogs s own → WatchesSeeTheirLogs s (own ++ cons_option (own_entry actors label i e) [])
end_feeds_none s own actors label i (entry.Gone child parent job shut) ends h = by (parent == i)
  where
    by : (b : Bool) → WatchesSeeTheirLogs s (own ++ cons_option (only_if b (entry.Gone child top job shut)) [])
    by true = see_behind s own (entry.Gone child top job shut) (λ by. record { last = refl; counted = refl; feed = refl }) h
    by false = subst (WatchesSeeTheirLogs s) (sym (append-nil own)) h
end_feeds_none s own actors label i _ ends h = absurd (true≢false (sym ends))

module _ (set : Setup) (c : List Entry) (fits : HasTime set) (valid : AreValid set c) (legal : IsLegalRun set c) where
  -- a first part is a legal run
  module _ (past more : List Entry) (split : c ≡ past ++ more) where
    pub past_legal : IsLegalRun set past
    past_legal = (each_parts (IsLegalRunEntry set) [] past more (subst (IsLegalRun set) split legal)).0

    -- and what it rests on holds there
    pub past_kept : (i : ℕ) → lives past i ≡ true → IsKept set past i
    past_kept i h =
        let born = (and_parts (is_born past i) _ h).0 in
        let there : is_born c i ≡ true = subst (λ d. is_born d i ≡ true) (sym split) (born_kept past more i born) in
        let given : setup_in set c i ≡ setup_in set past i =
        ap (λ d. setup_in set d i) split
        ∙ ap (λ b. option_map_or (child_setup set) b (record set { work = work_for set.work None set.size })) (birth_kept past more i born) in
        record {
          valid = subst (λ s. IsInstance (instance_of s)) given (valid i there);
          timely = timely set fits past past_legal i h;
        }

  pub all_sound : JobsStaySoundInAll set c
  all_sound past more split i h = sound_in set past (past_legal past more split) i h (past_kept past more split i h)

  pub all_nested : ChildrenStayNested set c
  all_nested past more split = are_nested set past (past_legal past more split) (past_kept past more split)

  -- ---- what roots tell

  -- the roots of an instance's own chronicle tell of its jobs as they must
  abbrev Tell : Setup → service.Log → Type 0
  Tell s log = LogsGrowWithRoots (setting_of s) log × JobsFollowWithRoots (setting_of s) log

  abbrev TellIn : Setup → List Entry → Type 0
  TellIn s own = Tell s (log_of s.work top own) × (HasOwnLabels s.work.lines → WatchesSeeTheirLogs s own)

  Tells : List Entry → Type 0
  Tells past = (more : List Entry) → c ≡ past ++ more → (i : ℕ) → lives past i ≡ true → TellIn (setup_in set past i) (own_of set past i)

  legal_tells : (s : Setup) (own : List Entry) → IsInstance (instance_of s) → KeepsTime s own → IsLegal s own → TellIn s own
  legal_tells s own sound time l = ((logs_grow s sound own time l, jobs_follow s sound own time l), λ labels. sees_logs s sound labels own l time)

  tells_first : Tells []
  unfolding Tells
  tells_first more split i h = subst (λ n. lives [] n ≡ true → TellIn (setup_in set [] n) (own_of set [] n)) (sym (first_top set i (alive [] i h).0)) (at_top more split) h
    where
      at_top : (more : List Entry) → c ≡ more → lives [] top ≡ true → TellIn (setup_in set [] top) (own_of set [] top)
      at_top more split living = let kept = past_kept [] more split top living in legal_tells (setup_in set [] top) (own_of set [] top) kept.valid kept.timely tt

  -- an end is no moment of a service, and feeds nobody
  tells_with_end : (s : Setup) (own : List Entry) (actors : List Actor) (label : Option (List ℕ)) (i : ℕ) (e : Entry) → is_end e ≡ true → TellIn s own → TellIn s (own ++ cons_option (own_entry actors label i e) [])
  tells_with_end s own actors label i e ends h = (
    subst (Tell s) (sym (end_is_silent s.work own actors label i e ends)) h.0,
    λ labels. end_feeds_none s own actors label i e ends (h.1 labels),
  )

  tells_behind_end : (xs : List Entry) (e : Entry) → is_end e ≡ true → (i : ℕ) → lives (xs ++ e ∷ []) i ≡ true
      → (lives xs i ≡ true → TellIn (setup_in set xs i) (own_of set xs i)) → TellIn (setup_in set (xs ++ e ∷ []) i) (own_of set (xs ++ e ∷ []) i)
  tells_behind_end xs e ends i h before =
      let v = lived xs e i h in
      let was : lives xs i ≡ true = elim v.how [ inl w ↦ w | inr new ↦ absurd (end_begins_none e ends i new.1) ] in
      let s = setup_in set xs i in
      subst (λ x. TellIn x (own_of set (xs ++ e ∷ []) i)) (sym (setup_kept set xs (e ∷ []) i (alive xs i was).0))
      (subst (TellIn s) (sym (own_push set xs e i was v.stays)) (tells_with_end s (own_of set xs i) set.work.actors (label_of xs i) i e ends (before was)))

  tells_step : (xs : List Entry) (e : Entry) → IsLegalRun set xs → IsLegalRunEntry set xs e → Tells xs → Tells (xs ++ e ∷ [])
  unfolding Tells
  tells_step xs e before l again more split i h = by (is_end e) refl (again (e ∷ more) (split ∙ append_assoc xs (e ∷ []) more) i)
    where
      by : (b : Bool) → is_end e ≡ b → (lives xs i ≡ true → TellIn (setup_in set xs i) (own_of set xs i)) → TellIn (setup_in set (xs ++ e ∷ []) i) (own_of set (xs ++ e ∷ []) i)
      by true ends before_it = tells_behind_end xs e ends i h before_it
      by false other before_it =
          let kept = past_kept (xs ++ e ∷ []) more split i h in
          legal_tells (setup_in set (xs ++ e ∷ []) i) (own_of set (xs ++ e ∷ []) i) kept.valid kept.timely (l.own other i h)

  all_tell : (past : List Entry) → IsLegalRun set past → Tells past
  all_tell past l = each_along (IsLegalRunEntry set) Tells (λ xs e before fit again. tells_step xs e before fit again) [] past tt l tells_first

  pub all_grow : LogsGrowInAll set c
  unfolding Tells
  all_grow past more split i h = (all_tell past (past_legal past more split) more split i h).0.0

  pub all_follow : JobsFollowInAll set c
  unfolding Tells
  all_follow past more split i h = (all_tell past (past_legal past more split) more split i h).0.1

  -- the lines of each instance have their labels alone, where those of all do
  pub labels_in : (past : List Entry) (i : ℕ) → HasOwnLabels set.work.lines → HasOwnLabels (setup_in set past i).work.lines
  labels_in past i labels = by (birth_of past i)
    where
      by : (o : Option Birth) → HasOwnLabels (option_map_or (child_setup set) o (record set { work = work_for set.work None set.size })).work.lines
      by None = own_labels set.work None set.size labels
      by (Some b) = own_labels set.work (Some b.label) (brokers_for b) labels

  pub all_fed : HasOwnLabels set.work.lines → WatchesSeeTheirLogsInAll set c
  unfolding Tells
  all_fed labels past more split i h = (all_tell past (past_legal past more split) more split i h).1 (labels_in past i labels)

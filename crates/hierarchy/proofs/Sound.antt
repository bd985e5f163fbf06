-- In each living instance of a legal run the jobs are sound, and logs only grow.
use Rattle.std.proofs.Common.{◌≡◌, ℕ, ◌<◌, ◌^◌, ◌==◌, inl, inr, List, [], ◌∷◌, ◌++◌, Bool, true, false, cond, None, filter_map, refl, sym, ap, ◌∙◌, subst, append-nil, true≢false}
use Rattle.std.specs.List.{cons_option}
use Rattle.kvs_rules.specs.Sequence.{EachAfter, until}
use Rattle.kvs_rules.proofs.Sequences.{each_along, each_parts}
use Rattle.kvs_rules.specs.Namespaces.{newest_store, primary}
use Rattle.instance_rules.specs.Legal.{IsSound}
use Rattle.instance_rules.specs.Log.{Instance, IsInstance, Log, service_of}
use Rattle.workload.specs.declared.work.Workload.{Workload}
use Rattle.run_laws.specs.Times.{KeepsTime}
use Rattle.run_laws.proofs.Sounds.{stay_sound}
use Rattle.answers.specs.Chronicle.{Setup, top}
use Rattle.answers.specs.Jobs.{instance_of, log_in, second_of}
use Rattle.answers.specs.Legal.{IsLegal}
use Rattle.answers.specs.Services.{log_of, moment_of}
use Rattle.answers.specs.declared.chronicle.Entry.{Entry}
use Rattle.answers.specs.declared.chronicle.Entry.TheVariants as entry
use Rattle.answers.proofs.JobLogs.{service_kept}
use Rattle.answers.proofs.Services.{log_push}
use Rattle.hierarchy.specs.Births.{ends, label_of, lives}
use Rattle.hierarchy.specs.Legal.{IsLegalRun, IsLegalRunEntry}
use Rattle.hierarchy.specs.Laws.{IsKept}
use Rattle.hierarchy.specs.Own.{only_if, own_entry, own_of, setup_in}
use Rattle.hierarchy.proofs.Owning.{alive, lived, own_push, setup_kept}

-- what is no moment of the service leaves its log as it is
pub unserved : (work : Workload) (own : List Entry) (e : Entry) → moment_of work top own e ≡ None → service_of (log_in work (own ++ e ∷ [])) ≡ service_of (log_in work own)
unserved work own e none =
    service_kept work (own ++ e ∷ [])
    ∙ log_push work top own e ∙ ap (λ o. log_of work top own ++ cons_option o []) none ∙ append-nil (log_of work top own)
    ∙ sym (service_kept work own)

-- and so does an end of a child, whether it is told of it or not
pub ends_unserved : (work : Workload) (own : List Entry) (child job : ℕ) (shut told : Bool)
    → service_of (log_in work (own ++ cons_option (only_if told (entry.Gone child top job shut)) [])) ≡ service_of (log_in work own)
ends_unserved work own child job shut false = ap (λ l. service_of (log_in work l)) (append-nil own)
ends_unserved work own child job shut true = unserved work own (entry.Gone child top job shut) refl

sound_same : (inst : Instance) (log more : Log) → service_of more ≡ service_of log → IsSound inst log → IsSound inst more
sound_same inst log more same h st is = h st (ap (λ l. newest_store inst.service l primary) (sym same) ∙ is)

module _ (set : Setup) where
  IsSoundAt : List Entry → ℕ → Type 0
  IsSoundAt c i = IsSound (instance_of (setup_in set c i)) (log_in (setup_in set c i).work (own_of set c i))

  AreSoundAt : List Entry → Type 0
  AreSoundAt c = (i : ℕ) → lives c i ≡ true → IsKept set c i → IsSoundAt c i

  by_own : (c : List Entry) (i : ℕ) → IsLegal (setup_in set c i) (own_of set c i) → IsKept set c i → IsSoundAt c i
  unfolding IsSoundAt
  by_own c i legal k = stay_sound (setup_in set c i) k.valid (own_of set c i) legal k.timely (own_of set c i) [] (sym (append-nil (own_of set c i)))

  none_yet : (i : ℕ) → own_of set [] i ≡ []
  none_yet i = by (i == top)
    where
      by : (b : Bool) → filter_map (own_entry set.work.actors (label_of [] i) i) (until (ends i) (cond b [] [])) ≡ []
      by true = refl
      by false = refl

  begins_sound : AreSoundAt []
  unfolding AreSoundAt
  begins_sound i l k = by_own [] i (subst (IsLegal (setup_in set [] i)) (sym (none_yet i)) tt) k

  -- what is known of an instance was known before
  pub kept_before : (xs : List Entry) (e : Entry) (i : ℕ) → lives xs i ≡ true → ends i e ≡ false → IsKept set (xs ++ e ∷ []) i → IsKept set xs i
  kept_before xs e i was stays k =
      let same = setup_kept set xs (e ∷ []) i (alive xs i was).0 in
      let o = own_entry set.work.actors (label_of xs i) i e in
      let timely : KeepsTime (setup_in set xs i) (own_of set xs i ++ cons_option o []) =
      subst (λ s. KeepsTime s (own_of set xs i ++ cons_option o [])) same (subst (KeepsTime (setup_in set (xs ++ e ∷ []) i)) (own_push set xs e i was stays) k.timely) in
      record {
        valid = subst (λ s. IsInstance (instance_of s)) same k.valid;
        timely = (each_parts (λ past _. second_of (setup_in set xs i) past < 2 ^ 64) [] (own_of set xs i) (cons_option o []) timely).0;
      }

  module _ (xs : List Entry) (child parent job : ℕ) (shut : Bool) where
    -- an end leaves those sound that live on
    after_end : AreSoundAt xs → AreSoundAt (xs ++ entry.Gone child parent job shut ∷ [])
    unfolding AreSoundAt IsSoundAt
    after_end old i h k =
        let e : Entry = entry.Gone child parent job shut in
        let l = lived xs e i h in
        elim l.how [
          | inr new ↦ absurd (true≢false (sym new.1))
          | inl was ↦
              let same = setup_kept set xs (e ∷ []) i (alive xs i was).0 in
              let pushed = own_push set xs e i was l.stays in
              let before = kept_before xs e i was l.stays k in
              let s = setup_in set xs i in
              subst (λ s. IsSound (instance_of s) (log_in s.work (own_of set (xs ++ e ∷ []) i))) (sym same)
              (sound_same (instance_of s) (log_in s.work (own_of set xs i)) (log_in s.work (own_of set (xs ++ e ∷ []) i))
              (ap (λ o. service_of (log_in s.work o)) pushed ∙ ends_unserved s.work (own_of set xs i) child job shut (parent == i))
              (old i was before))
        ]

  sound_step : (xs : List Entry) (e : Entry) → EachAfter (IsLegalRunEntry set) [] xs → IsLegalRunEntry set xs e → AreSoundAt xs → AreSoundAt (xs ++ e ∷ [])
  unfolding AreSoundAt
  sound_step xs (entry.Gone child parent job shut) before l old = after_end xs child parent job shut old
  sound_step xs e before l old = λ i h k. by_own (xs ++ e ∷ []) i (l.own refl i h) k

  sound_all : (c : List Entry) → IsLegalRun set c → AreSoundAt c
  sound_all c l = each_along (IsLegalRunEntry set) AreSoundAt sound_step [] c tt l begins_sound

  pub sound_in : (c : List Entry) → IsLegalRun set c → (i : ℕ) → lives c i ≡ true → IsKept set c i → IsSound (instance_of (setup_in set c i)) (log_in (setup_in set c i).work (own_of set c i))
  unfolding AreSoundAt IsSoundAt
  sound_in c l i h k = sound_all c l i h k

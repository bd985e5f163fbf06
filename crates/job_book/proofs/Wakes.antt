-- Jobs for which nothing is due for a while.
use Rattle.std.proofs.Common.{◌≡◌, ℕ, ◌<◌, ◌≤◌, Bool, true, false, List, [], ◌∷◌, Option, Some, None, refl, sym, ap, ◌∙◌, inl, inr, arith}
use Rattle.std.specs.Prelude.{◌&&◌, ◌||◌, Contains, IfSome, IsSomeAnd, if◌then◌else◌, option_and_then, option_map}
use Rattle.std.specs.List.{list_any}
use Rattle.std.proofs.lemmas.Bool.{eq-eqb, lt-leb}
use Rattle.job_deeds.proofs.job_rules_proofs.Among.{Among, among_from}
use Rattle.job_deeds.specs.job_states.declared.job.State.TheVariants as state
use Rattle.job_deeds.specs.resource_set.declared.node.Resources.{Resources}
use Rattle.job_deeds.specs.shells.Endings.{ending_of}
use Rattle.job_deeds.specs.shells.declared.ends.Ending.{Ending}
use Rattle.job_deeds.specs.shells.declared.ends.Ending.TheVariants as ending
use Rattle.job_deeds.specs.manager_rules.declared.asked.Asked.{Asked}
use Rattle.job_deeds.specs.manager_rules.declared.asked.Asked.TheVariants.{Cancel, Raise, Urgency, Child}
use Rattle.job_deeds.specs.manager_rules.Due.{IsOver, MayCarry, is_in_time, status_at, status_now}
use Rattle.job_deeds.specs.manager_rules.Jobs.{StoredJob}
use Rattle.job_deeds.specs.manager_rules.Scene.{Scene, has_shut_child, is_child_of, is_shut}
use Rattle.job_book.specs.Waking.{Sleeps, is_about}
use Rattle.job_deeds.proofs.Chosen.{chosen}
use Rattle.job_deeds.proofs.Rest.{none_running}

-- ---- nothing is asked of the job

or_false : (a b : Bool) → (a || b) ≡ false → (a ≡ false) × (b ≡ false)
or_false true b e = cc
or_false false b e = (refl, e)

unasked : (p : Asked → Bool) (asked : List Asked) (one : Asked) → Among one asked → list_any p asked ≡ false → p one ≡ false
unasked p [] one i e = absurd i
unasked p (x ∷ xs) one i e = elim i [
  | inl same ↦ ap p (sym same) ∙ (or_false (p x) (list_any p xs) e).0
  | inr more ↦ unasked p xs one more (or_false (p x) (list_any p xs) e).1
]

module _ (j : StoredJob) where
  about : (asked : Asked) → MayCarry j asked → is_about j.id asked ≡ true
  about (Cancel by job) may = eq-eqb j.id job (sym may.0)
  about (Raise by job kind severity note) may = eq-eqb j.id job (sym may.0)
  about (Urgency by job urgency) may = eq-eqb j.id job (sym may.0)
  about (Child job living shut) may = absurd may

  one_unshut : (asked : Asked) → is_about j.id asked ≡ false → (is_child_of j.id asked && is_shut asked) ≡ false
  one_unshut (Cancel by job) e = refl
  one_unshut (Raise by job kind severity note) e = refl
  one_unshut (Urgency by job urgency) e = refl
  one_unshut (Child job living shut) e = ap (λ b. b && is_shut (Child job living shut)) e

  unshut : (asked : List Asked) → list_any (is_about j.id) asked ≡ false → has_shut_child asked j.id ≡ false
  unshut [] e = refl
  unshut (x ∷ xs) e =
      let parts = or_false (is_about j.id x) (list_any (is_about j.id) xs) e in
      rw (one_unshut x parts.0) (unshut xs parts.1)

  module _ (s : Scene) (quiet : list_any (is_about j.id) s.asked ≡ false) where
    uncarried : (asked : Asked) → Contains s.asked asked → MayCarry j asked → ⊥
    uncarried asked known may =
        let no : true ≡ false = sym (about asked may) ∙ unasked (is_about j.id) s.asked asked (among_from s.asked asked known) quiet in
        absurd (none no)
      where
        none : true ≡ false → ⊥
        none e = cc

    -- its command ends later, or with a child
    goes_on : ((second status : ℕ) → option_map (ending_of j.spec) j.start ≡ Some (ending.At second status) → s.now < second) → status_now s j ≡ None
    goes_on later = by j.start later
      where
        at : (e : Ending) → ((second status : ℕ) → e ≡ ending.At second status → s.now < second) → status_at s j.id j.r e ≡ None
        at (ending.At second status) f =
            ap (λ b. if b && is_in_time j.r second then Some status else None) (lt-leb second s.now (f second status refl))
        at ending.Child f = ap (λ b. if b then Some 0 else None) (unshut s.asked quiet)

        by : (o : Option ℕ) → ((second status : ℕ) → option_map (ending_of j.spec) o ≡ Some (ending.At second status) → s.now < second) → option_and_then (λ start. status_at s j.id j.r (ending_of j.spec start)) o ≡ None
        by None f = refl
        by (Some start) f = at (ending_of j.spec start) (λ second status e. f second status (ap Some e))

-- ---- from when on

pub running_sleeps : (j : StoredJob) (command units : ℕ) → j.job.state ≡ state.Run → j.job.started ≡ true
    → ((second status : ℕ) → option_map (ending_of j.spec) j.start ≡ Some (ending.At second status) → command ≤ second)
    → IfSome j.r (λ r. 0 < r.expiration → units ≤ r.expiration)
    → (wake : ℕ) → wake ≤ command → wake ≤ units → Sleeps j wake
running_sleeps j command units runs started ends lasts wake below within = λ s early quiet.
    chosen s j None
    (none_running s j runs started (goes_on j s quiet (λ second status e. omega (arith, early, below, ends second status e))) (not_over s.now early j.r lasts))
    (uncarried j s quiet)
  where
    not_over : (now : ℕ) → now < wake → (o : Option Resources) → IfSome o (λ r. 0 < r.expiration → units ≤ r.expiration) → IsSomeAnd o (IsOver now) → ⊥
    not_over now early None h over = absurd over
    not_over now early (Some r) h over = omega (arith, early, within, h over.0, over.1)

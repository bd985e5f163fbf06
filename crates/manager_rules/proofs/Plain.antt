-- What the rules say where nobody passes the first in the queue, nothing is limited, and no job is old.
use Rattle.std.proofs.Common.{◌≡◌, ℕ, ◌≤◌, inl, inr, Bool, true, false, ◌&&◌, Option, Some, None, refl, sym, ap, ◌∙◌, true≢false, arith}
use Rattle.std.specs.Prelude.{◌≢◌, ◌↔◌, ◌==◌, ◌||◌, nat_le, nat_lt, if◌then◌else◌}
use Rattle.std.proofs.lemmas.Bool.{eq-eqb, eqb-true, le-leb, leb-true}
use Rattle.job_spec.specs.declared.spec.JobSpec.{JobSpec}
use Rattle.job_states.specs.declared.job.State.TheVariants as state
use Rattle.resource_set.specs.declared.node.Resources.{Resources}
use Rattle.shells.specs.declared.ends.Ending.TheVariants as ending
use Rattle.manager_rules.specs.declared.policy.Policy.TheVariants.{FirstFit, Easy}
use Rattle.manager_rules.specs.declared.terms.Limit.{Limit}
use Rattle.manager_rules.specs.declared.why.Why.TheVariants.{Behind, Ready}
use Rattle.manager_rules.specs.Deeds.{Restarts}
use Rattle.manager_rules.specs.Dependencies.{IsHead}
use Rattle.manager_rules.specs.Due.{FindsNone, MayDo, MayTake, Passes, is_in_time, status_at}
use Rattle.manager_rules.specs.Jobs.{StoredJob}
use Rattle.manager_rules.specs.Limits.{exceeds, no_limits, outlasts, verdict_of}
use Rattle.manager_rules.specs.Scene.{Scene}
use Rattle.manager_rules.specs.Whys.{IsFirst, IsSaidOf}

module _ (s : Scene) (j : StoredJob) (first : s.policy ≡ FirstFit) where
  pub passes_none : (r : Resources) → Passes s j r → ⊥
  passes_none r p = let both : FirstFit ≡ Easy = sym first ∙ p.easy in cc

  pub takes_first : (r : Resources) → MayTake s j r ↔ IsHead s.jobs j.id
  takes_first r = (to, λ h. inl h)
    where
      to : MayTake s j r → IsHead s.jobs j.id
      to (inl h) = h
      to (inr p) = absurd (passes_none r p)

  pub ready_first : IsSaidOf s j Ready ↔ (IsFirst s.jobs j × (FindsNone s j → ⊥))
  ready_first = (to, λ h. inl h)
    where
      to : IsSaidOf s j Ready → IsFirst s.jobs j × (FindsNone s j → ⊥)
      to (inl h) = h
      to (inr p) = absurd (passes_none p.0 p.1)

  pub behind_first : (head : ℕ) → IsSaidOf s j (Behind head) ↔ ((j.job.state ≡ state.Sched) × (j.job.priority ≢ Some 0) × IsHead s.jobs head × (head ≢ j.id))
  behind_first head = (λ h. (h.0, h.1, h.2, h.3), λ h. (h.0, h.1, h.2, h.3, passes_none))

pub none_away : (spec : JobSpec) → verdict_of no_limits spec ≡ 0
none_away spec = refl

pub none_exceeds : (limit : Limit) (n : ℕ) → limit.reason ≡ 0 → (exceeds limit n ≡ false) × (outlasts limit n ≡ false)
none_exceeds limit n none = (
  ap (λ reason. nat_lt 0 reason && nat_lt limit.most n) none,
  ap (λ reason. nat_lt 0 reason && ((n == 0) || nat_lt limit.most n)) none,
)

pub none_restarts : (s : Scene) (j : StoredJob) → s.old j.id ≡ false → MayDo s j Restarts → ⊥
none_restarts s j young m = true≢false (sym m.1 ∙ young)

pub ends_then : (s : Scene) (id second status : ℕ) (r : Option Resources) → s.now ≤ second → is_in_time r second ≡ true
    → status_at s id r (ending.At second status) ≡ (if second == s.now then Some status else None)
ends_then s id second status r ahead in_time =
    ap (λ b. if nat_le second s.now && b then Some status else None) in_time ∙ by (nat_le second s.now) (second == s.now) refl refl
  where
    by : (b c : Bool) → nat_le second s.now ≡ b → (second == s.now) ≡ c
        → (if b && true then Some status else None) ≡ (if c then Some status else None)
    by true true past now = refl
    by false false past now = refl
    by true false past now =
        let reached = leb-true second s.now past in
        let same : second ≡ s.now = omega (arith, reached, ahead) in
        absurd (true≢false (sym (eq-eqb second s.now same) ∙ now))
    by false true past now =
        let same = eqb-true second s.now now in
        let reached : second ≤ s.now = omega (arith, same) in
        absurd (true≢false (sym (le-leb second s.now reached) ∙ past))

-- Where nothing of the manager's own is due for a job, by its state.
use Rattle.std.proofs.Common.{◌≡◌, ℕ, true, false, inl, inr, [], Option, Some, None, refl, sym, ap, ap₂, ◌∙◌, true≢false}
use Rattle.std.specs.Prelude.{Contains, IsSomeAnd, IsTrue, find}
use Rattle.job_rules.specs.Fits as fits
use Rattle.job_states.specs.Table.{is_state}
use Rattle.job_states.specs.declared.job.State.{State}
use Rattle.job_states.specs.declared.job.State.TheVariants as state
use Rattle.job_spec.specs.declared.spec.Depend.{Depend}
use Rattle.manager_rules.specs.Deeds.{Deed, Validates, Adds, Removes, Loses, Depends, Restarts, Prioritizes, NeverFits, Takes, Starts, Finishes, Expires, Stops, Releases, Frees, Cleans, Carries}
use Rattle.manager_rules.proofs.Plain.{none_restarts}
use Rattle.manager_rules.specs.Dependencies.{first_unadded, is_lost, is_met, open_needs}
use Rattle.manager_rules.specs.Due.{IsFirstFit, IsOver, MayDo, MayTake, status_now}
use Rattle.manager_rules.specs.Jobs.{StoredJob}
use Rattle.manager_rules.specs.Scene.{Scene, has_living_child, priority_of}
use Rattle.resource_set.specs.declared.node.Resources.{Resources}
use Rattle.job_deeds.specs.Actions.{IsOwn}

same_state : (a : State) → is_state a a ≡ true
same_state state.New = refl
same_state state.Depend = refl
same_state state.Priority = refl
same_state state.Sched = refl
same_state state.Run = refl
same_state state.Cleanup = refl
same_state state.Inactive = refl

-- two states that differ
pub apart : (st a b : State) → is_state a b ≡ false → st ≡ a → st ≡ b → ⊥
apart st a b differ at other = true≢false (sym (same_state st) ∙ ap₂ is_state at other ∙ differ)

-- a priority is due in two states alone
ranks : (s : Scene) (j : StoredJob) (a : State) (priority : ℕ) → is_state a state.Priority ≡ false → is_state a state.Sched ≡ false → j.job.state ≡ a → MayDo s j (Prioritizes priority) → ⊥
ranks s j a priority p q at m = elim m.1 [
  | inl e ↦ apart j.job.state a state.Priority p at e
  | inr e ↦ apart j.job.state a state.Sched q at e.0
]

no_some : {A : Type 0} (o : Option A) (x : A) → o ≡ None → o ≡ Some x → ⊥
no_some None x e f = cc
no_some (Some y) x e f = cc

pub none_inactive : (s : Scene) (j : StoredJob) → j.job.state ≡ state.Inactive → (deed : Deed) → IsOwn deed → MayDo s j deed → ⊥
none_inactive s j at Validates own m = apart j.job.state state.Inactive state.New refl at m
none_inactive s j at (Adds need) own m = apart j.job.state state.Inactive state.Depend refl at m.0
none_inactive s j at (Removes need) own m = apart j.job.state state.Inactive state.Depend refl at m.0
none_inactive s j at (Loses need) own m = apart j.job.state state.Inactive state.Depend refl at m.0
none_inactive s j at Depends own m = apart j.job.state state.Inactive state.Depend refl at m.0
none_inactive s j at (Prioritizes priority) own m = ranks s j state.Inactive priority refl refl at m
none_inactive s j at Restarts own m = apart j.job.state state.Inactive state.Sched refl at m.0
none_inactive s j at NeverFits own m = apart j.job.state state.Inactive state.Sched refl at m.0
none_inactive s j at (Takes r) own m = apart j.job.state state.Inactive state.Sched refl at m.0
none_inactive s j at Starts own m = apart j.job.state state.Inactive state.Run refl at m.0
none_inactive s j at (Finishes status) own m = apart j.job.state state.Inactive state.Run refl at m.0
none_inactive s j at Expires own m = apart j.job.state state.Inactive state.Run refl at m.0
none_inactive s j at Stops own m = apart j.job.state state.Inactive state.Cleanup refl at m.0
none_inactive s j at Releases own m = apart j.job.state state.Inactive state.Cleanup refl at m.0
none_inactive s j at Frees own m = apart j.job.state state.Inactive state.Cleanup refl at m.0
none_inactive s j at Cleans own m = apart j.job.state state.Inactive state.Cleanup refl at m.0
none_inactive s j at (Carries asked) own m = own

pub none_running : (s : Scene) (j : StoredJob) → j.job.state ≡ state.Run → j.job.started ≡ true → status_now s j ≡ None → (IsSomeAnd j.r (IsOver s.now) → ⊥) → (deed : Deed) → IsOwn deed → MayDo s j deed → ⊥
none_running s j at started none over Validates own m = apart j.job.state state.Run state.New refl at m
none_running s j at started none over (Adds need) own m = apart j.job.state state.Run state.Depend refl at m.0
none_running s j at started none over (Removes need) own m = apart j.job.state state.Run state.Depend refl at m.0
none_running s j at started none over (Loses need) own m = apart j.job.state state.Run state.Depend refl at m.0
none_running s j at started none over Depends own m = apart j.job.state state.Run state.Depend refl at m.0
none_running s j at started none over (Prioritizes priority) own m = ranks s j state.Run priority refl refl at m
none_running s j at started none over Restarts own m = apart j.job.state state.Run state.Sched refl at m.0
none_running s j at started none over NeverFits own m = apart j.job.state state.Run state.Sched refl at m.0
none_running s j at started none over (Takes r) own m = apart j.job.state state.Run state.Sched refl at m.0
none_running s j at started none over Starts own m = true≢false (sym started ∙ m.1)
none_running s j at started none over (Finishes status) own m = no_some (status_now s j) status none m.2
none_running s j at started none over Expires own m = over m.3
none_running s j at started none over Stops own m = apart j.job.state state.Run state.Cleanup refl at m.0
none_running s j at started none over Releases own m = apart j.job.state state.Run state.Cleanup refl at m.0
none_running s j at started none over Frees own m = apart j.job.state state.Run state.Cleanup refl at m.0
none_running s j at started none over Cleans own m = apart j.job.state state.Run state.Cleanup refl at m.0
none_running s j at started none over (Carries asked) own m = own

pub none_ending : (s : Scene) (j : StoredJob) → j.job.state ≡ state.Cleanup → j.job.allocated ≡ true → j.job.freed ≡ false → j.job.released ≡ false → has_living_child s.asked j.id ≡ true → (deed : Deed) → IsOwn deed → MayDo s j deed → ⊥
none_ending s j at given freed released living Validates own m = apart j.job.state state.Cleanup state.New refl at m
none_ending s j at given freed released living (Adds need) own m = apart j.job.state state.Cleanup state.Depend refl at m.0
none_ending s j at given freed released living (Removes need) own m = apart j.job.state state.Cleanup state.Depend refl at m.0
none_ending s j at given freed released living (Loses need) own m = apart j.job.state state.Cleanup state.Depend refl at m.0
none_ending s j at given freed released living Depends own m = apart j.job.state state.Cleanup state.Depend refl at m.0
none_ending s j at given freed released living (Prioritizes priority) own m = ranks s j state.Cleanup priority refl refl at m
none_ending s j at given freed released living Restarts own m = apart j.job.state state.Cleanup state.Sched refl at m.0
none_ending s j at given freed released living NeverFits own m = apart j.job.state state.Cleanup state.Sched refl at m.0
none_ending s j at given freed released living (Takes r) own m = apart j.job.state state.Cleanup state.Sched refl at m.0
none_ending s j at given freed released living Starts own m = apart j.job.state state.Cleanup state.Run refl at m.0
none_ending s j at given freed released living (Finishes status) own m = apart j.job.state state.Cleanup state.Run refl at m.0
none_ending s j at given freed released living Expires own m = apart j.job.state state.Cleanup state.Run refl at m.0
none_ending s j at given freed released living Stops own m = true≢false (sym living ∙ m.3)
none_ending s j at given freed released living Releases own m = true≢false (sym living ∙ m.3)
none_ending s j at given freed released living Frees own m = true≢false (sym m.1 ∙ released)
none_ending s j at given freed released living Cleans own m = elim m.1 [
  | inl e ↦ true≢false (sym given ∙ e)
  | inr e ↦ true≢false (sym e ∙ freed)
]
none_ending s j at given freed released living (Carries asked) own m = own

pub none_held_back : (s : Scene) (j : StoredJob) → j.job.state ≡ state.Depend → first_unadded j ≡ None → find (is_met s.jobs) (open_needs j) ≡ None → ((need : Depend) → Contains (open_needs j) need → IsTrue (is_lost s.jobs need) → ⊥) → (open_needs j ≡ [] → ⊥) → (deed : Deed) → IsOwn deed → MayDo s j deed → ⊥
none_held_back s j at added met lost some Validates own m = apart j.job.state state.Depend state.New refl at m
none_held_back s j at added met lost some (Adds need) own m = no_some (first_unadded j) need added m.1
none_held_back s j at added met lost some (Removes need) own m = no_some (find (is_met s.jobs) (open_needs j)) need met m.2
none_held_back s j at added met lost some (Loses need) own m = lost need m.2 m.3
none_held_back s j at added met lost some Depends own m = some m.2
none_held_back s j at added met lost some (Prioritizes priority) own m = ranks s j state.Depend priority refl refl at m
none_held_back s j at added met lost some Restarts own m = apart j.job.state state.Depend state.Sched refl at m.0
none_held_back s j at added met lost some NeverFits own m = apart j.job.state state.Depend state.Sched refl at m.0
none_held_back s j at added met lost some (Takes r) own m = apart j.job.state state.Depend state.Sched refl at m.0
none_held_back s j at added met lost some Starts own m = apart j.job.state state.Depend state.Run refl at m.0
none_held_back s j at added met lost some (Finishes status) own m = apart j.job.state state.Depend state.Run refl at m.0
none_held_back s j at added met lost some Expires own m = apart j.job.state state.Depend state.Run refl at m.0
none_held_back s j at added met lost some Stops own m = apart j.job.state state.Depend state.Cleanup refl at m.0
none_held_back s j at added met lost some Releases own m = apart j.job.state state.Depend state.Cleanup refl at m.0
none_held_back s j at added met lost some Frees own m = apart j.job.state state.Depend state.Cleanup refl at m.0
none_held_back s j at added met lost some Cleans own m = apart j.job.state state.Depend state.Cleanup refl at m.0
none_held_back s j at added met lost some (Carries asked) own m = own

pub none_waiting : (s : Scene) (j : StoredJob) → j.job.state ≡ state.Sched → j.job.priority ≡ Some (priority_of s j) → (fits.NeverFits j.spec s.grant.nodes → ⊥) → ((r : Resources) → MayTake s j r → IsFirstFit s j r → ⊥) → s.old j.id ≡ false → (deed : Deed) → IsOwn deed → MayDo s j deed → ⊥
none_waiting s j at ranked fit free young Validates own m = apart j.job.state state.Sched state.New refl at m
none_waiting s j at ranked fit free young (Adds need) own m = apart j.job.state state.Sched state.Depend refl at m.0
none_waiting s j at ranked fit free young (Removes need) own m = apart j.job.state state.Sched state.Depend refl at m.0
none_waiting s j at ranked fit free young (Loses need) own m = apart j.job.state state.Sched state.Depend refl at m.0
none_waiting s j at ranked fit free young Depends own m = apart j.job.state state.Sched state.Depend refl at m.0
none_waiting s j at ranked fit free young (Prioritizes priority) own m = elim m.1 [
  | inl e ↦ apart j.job.state state.Sched state.Priority refl at e
  | inr e ↦ e.1 (ranked ∙ ap Some (sym m.0))
]
none_waiting s j at ranked fit free young Restarts own m = none_restarts s j young m
none_waiting s j at ranked fit free young NeverFits own m = fit m.1
none_waiting s j at ranked fit free young (Takes r) own m = free r m.1 m.2
none_waiting s j at ranked fit free young Starts own m = apart j.job.state state.Sched state.Run refl at m.0
none_waiting s j at ranked fit free young (Finishes status) own m = apart j.job.state state.Sched state.Run refl at m.0
none_waiting s j at ranked fit free young Expires own m = apart j.job.state state.Sched state.Run refl at m.0
none_waiting s j at ranked fit free young Stops own m = apart j.job.state state.Sched state.Cleanup refl at m.0
none_waiting s j at ranked fit free young Releases own m = apart j.job.state state.Sched state.Cleanup refl at m.0
none_waiting s j at ranked fit free young Frees own m = apart j.job.state state.Sched state.Cleanup refl at m.0
none_waiting s j at ranked fit free young Cleans own m = apart j.job.state state.Sched state.Cleanup refl at m.0
none_waiting s j at ranked fit free young (Carries asked) own m = own

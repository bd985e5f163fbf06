-- What an instance may do where nothing is due in it.
use Rattle.std.proofs.Common.{◌≡◌, ℕ, ◌≤◌, ◌⊎◌, inl, inr, List, [], ◌∷◌, ◌++◌, Some, None, Contains, refl, sym, ap, ap₂, ◌∙◌, subst, arith}
use Rattle.std.specs.Prelude.{filter, flat_map, nat_lt}
use Rattle.std.proofs.lemmas.Bool.{ltb-true}
use Rattle.job_rules.proofs.Among.{all_from, among_append, among_filter, among_from, among_left, among_right, contains_from}
use Rattle.kvs_model.specs.Store.{Store}
use Rattle.kvs_rules.specs.Namespaces.{newest_store, primary}
use Rattle.kvs_rules.specs.Quiet.{AreAllTold}
use Rattle.manager_rules.proofs.Unique.{jobs_are_one}
use Rattle.manager_rules.specs.Jobs.{AreJobsOf, StoredJob}
use Rattle.manager_rules.specs.Posts.{Desk}
use Rattle.manager_rules.specs.Times.{IsIdle, seconds_ahead, seconds_of}
use Rattle.instance_rules.specs.Desks.{IsDeskOf}
use Rattle.instance_rules.specs.Family.{EndsIn, HasTarget, IsAhead, IsEndOf, IsFamilyIdle, IsTarget, Living, MayClose, MayTick, OfLiving}
use Rattle.instance_rules.specs.Legal.{IsLegalMoment, OfDesk}
use Rattle.instance_rules.specs.Log.{Instance, Log, Ticked, now_of, service_of}
use Rattle.job_commands.proofs.Desks.{desk_is}
use Rattle.job_commands.specs.Agrees.{AgreesCommands}
use Rattle.job_commands.specs.Desks.{desk_of}
use Rattle.job_commands.specs.Rows.{CommandsValue}
use Rattle.job_clock.proofs.Targets.{target_known, target_open}
use Rattle.job_clock.specs.Standing.{IsLiving, IsTop, PassesNone, StandsWith}
use Rattle.job_clock.specs.Targets.{IsNextTick, targets_of}

-- ---- what the manager looks at

same_some : {A : Type 0} (a b : A) → Some a ≡ Some b → a ≡ b
same_some a b e = cc

module _ (v : CommandsValue) (jobs : List StoredJob) (inst : Instance) (log : Log) (h : StandsWith v jobs inst log) where
  abbrev desk : Desk
  desk = desk_of v inst log jobs

  abbrev ends : List ℕ
  ends = seconds_ahead desk.scene

  desk_there : IsDeskOf inst log h.store desk
  desk_there = desk_is v inst log h.commands h.valid h.store jobs h.are

  pub of_desk : (P : Desk → Type 0) → P desk → OfDesk inst log P
  of_desk P p = (h.store, h.standing, (desk, desk_there, p))

  -- the jobs of any such desk are these
  pub jobs_same : (st : Store) (other : Desk) → newest_store inst.service (service_of log) primary ≡ Some st → IsDeskOf inst log st other → other.scene.jobs ≡ jobs
  jobs_same st other standing is =
      let one : st ≡ h.store = same_some st h.store (sym standing ∙ h.standing) in
      jobs_are_one h.store other.scene.jobs jobs (subst (λ s. AreJobsOf s other.scene.jobs) one is.jobs) h.are

  ends_same : (st : Store) (other : Desk) → newest_store inst.service (service_of log) primary ≡ Some st → IsDeskOf inst log st other → seconds_ahead other.scene ≡ ends
  ends_same st other standing is =
      ap₂ (λ n js. filter (λ second. nat_lt n second) (flat_map seconds_of js)) is.now (jobs_same st other standing is)

  pub end_known : (second : ℕ) → OfDesk inst log (λ d. Contains (seconds_ahead d.scene) second) → Contains ends second
  end_known second o = subst (λ l. Contains l second) (ends_same o.0 o.2.0 o.1 o.2.1) o.2.2

  pub end_there : (second : ℕ) → Contains ends second → OfDesk inst log (λ d. Contains (seconds_ahead d.scene) second)
  end_there second c = of_desk (λ d. Contains (seconds_ahead d.scene) second) c

  pub pass_legal : (second : ℕ) → IsIdle desk → PassesNone ends (now_of inst log) second → IsLegalMoment inst log (Ticked second)
  pass_legal second idle passes = (passes.above, of_desk _ (idle, passes.before))

  pub passes_next : (second : ℕ) → IsNextTick (targets_of v) ends (now_of inst log) second → PassesNone ends (now_of inst log) second
  passes_next second next = record {
    above = next.above;
    before = all_from (λ other. second ≤ other) ends (λ other i.
        let both = among_filter (λ t. nat_lt (now_of inst log) t) (flat_map seconds_of jobs) other i in
        next.least other (contains_from (targets_of v ++ ends) other (among_right (targets_of v) ends other i)) (ltb-true (now_of inst log) other both.1));
  }

  pub tick_legal : (second : ℕ) → IsIdle desk → IsNextTick (targets_of v) ends (now_of inst log) second → IsLegalMoment inst log (Ticked second)
  tick_legal second idle next = pass_legal second idle (passes_next second next)

-- ---- the family that it is alone

alone : (l other : Living) → Contains (l ∷ []) other → l ≡ other
alone l other c = elim (among_from (l ∷ []) other c) [ inl e ↦ e | inr none ↦ absurd none ]

itself : (l : Living) → Contains (l ∷ []) l
itself l = contains_from (l ∷ []) l (inl refl)

nothing : (p : ℕ × ℕ) → None ≡ Some p → ⊥
nothing p e = cc

no_end : (l other : Living) → l.from ≡ None → Contains (l ∷ []) other → IsEndOf (l ∷ []) other → ⊥
no_end l other top c e = nothing (e.parent.number, e.job) (sym top ∙ ap (λ x. x.from) (alone l other c) ∙ e.from)

module _ (v : CommandsValue) (l : Living) (h : AgreesCommands v l.inst l.log) where
  pub has_there : (target : ℕ) → Contains (targets_of v) target → HasTarget l target
  has_there target c =
      let o = target_open v l.inst l.log h target c in
      record { by = o.by; seconds = o.seconds; asks = o.asks; waits = o.waits; is = o.is }

  pub target_there : (target : ℕ) → Contains (targets_of v) target → IsTarget (l ∷ []) [] target
  target_there target c = inl (l, itself l, has_there target c)

  pub has_known : (target : ℕ) → HasTarget l target → Contains (targets_of v) target
  has_known target t = target_known v l.inst l.log h target (record { by = t.by; seconds = t.seconds; asks = t.asks; waits = t.waits; is = t.is })

  pub target_here : (target : ℕ) → IsTarget (l ∷ []) [] target → Contains (targets_of v) target
  target_here target (inl t) = has_known target (subst (λ x. HasTarget x target) (sym (alone l t.0 t.1)) t.2)
  target_here target (inr c) = absurd (among_from [] target c)

  pub none_open : targets_of v ≡ [] → (target : ℕ) → IsTarget (l ∷ []) [] target → ⊥
  none_open none target t = among_from [] target (subst (λ ts. Contains ts target) none (target_here target t))

module _ (v : CommandsValue) (jobs : List StoredJob) (l : Living) (top : l.from ≡ None) (h : StandsWith v jobs l.inst l.log) where
  family_idle : IsIdle (desk_of v l.inst l.log jobs) → IsFamilyIdle (l ∷ [])
  family_idle idle = record {
    idle = λ other c. subst (λ x. OfLiving x IsIdle) (alone l other c) (of_desk v jobs l.inst l.log h IsIdle idle);
    stays = λ other c e. no_end l other top c e;
  }

  end_here : (second : ℕ) → EndsIn (l ∷ []) second → Contains (seconds_ahead (desk_of v l.inst l.log jobs).scene) second
  end_here second e = end_known v jobs l.inst l.log h second (subst (λ x. OfLiving x (λ d. Contains (seconds_ahead d.scene) second)) (sym (alone l e.0 e.1)) e.2)

  abbrev seconds : List ℕ
  seconds = seconds_ahead (desk_of v l.inst l.log jobs).scene

  ahead_here : (now other : ℕ) → IsAhead (l ∷ []) now [] other → Contains (targets_of v ++ seconds) other
  ahead_here now other a = elim a.by [
    | inl t ↦ contains_from (targets_of v ++ seconds) other (among_left (targets_of v) seconds other (among_from (targets_of v) other (target_here v l h.commands other t)))
    | inr e ↦ contains_from (targets_of v ++ seconds) other (among_right (targets_of v) seconds other (among_from seconds other (end_here other e)))
  ]

  ahead_there : (second : ℕ) → Contains (targets_of v ++ seconds) second → IsTarget (l ∷ []) [] second ⊎ EndsIn (l ∷ []) second
  ahead_there second c = elim (among_append (targets_of v) seconds second (among_from (targets_of v ++ seconds) second c)) [
    | inl i ↦ inl (target_there v l h.commands second (contains_from (targets_of v) second i))
    | inr i ↦ inr (l, itself l, of_desk v jobs l.inst l.log h (λ d. Contains (seconds_ahead d.scene) second) (contains_from seconds second i))
  ]

  pub may_tick : (second : ℕ) → IsIdle (desk_of v l.inst l.log jobs) → IsNextTick (targets_of v) seconds (now_of l.inst l.log) second → MayTick (l ∷ []) (now_of l.inst l.log) [] second
  may_tick second idle next = record {
    idle = family_idle idle;
    target = next.target;
    wanted = target_there v l h.commands next.target next.wanted;
    unreached = next.unreached;
    ahead = record { above = next.above; by = ahead_there second next.one };
    least = λ other a below. (let low : second ≤ other = next.least other (ahead_here (now_of l.inst l.log) other a) a.above in omega (arith, low, below));
  }

  pub may_close : IsIdle (desk_of v l.inst l.log jobs) → targets_of v ≡ [] → AreAllTold l.inst.service (service_of l.log) → MayClose (l ∷ []) []
  may_close idle none told = record {
    idle = family_idle idle;
    told = λ other c. subst (λ x. AreAllTold x.inst.service (service_of x.log)) (alone l other c) told;
    advanced = none_open v l h.commands none;
  }

-- ---- at the log of an instance that lives

module _ (l : Living) (inst : Instance) (log : Log) (living : IsLiving inst log l) where
  -- what holds of its own instance and log holds of these
  pub at_living : (P : Instance → Log → Type 0) → P l.inst l.log → P inst log
  at_living P p = subst (P inst) living.logged (subst (λ i. P i l.log) living.is p)

  -- and the other way round
  pub from_living : (P : Instance → Log → Type 0) → P inst log → P l.inst l.log
  from_living P p = subst (λ i. P i l.log) (sym living.is) (subst (P inst) (sym living.logged) p)

pub top_lives : (l : Living) (inst : Instance) (log : Log) → IsTop inst log l → IsLiving inst log l
top_lives l inst log top = record { is = top.is; logged = top.logged }

pub at_top : (l : Living) (inst : Instance) (log : Log) → IsTop inst log l → (P : Instance → Log → Type 0) → P l.inst l.log → P inst log
at_top l inst log top P p = at_living l inst log (top_lives l inst log top) P p

-- Who passes the first in the queue leaves its reserved second, and no due event lets it rise.
use Rattle.std.proofs.Common.{◌≡◌, ◌≢◌, ℕ, suc, zero, ◌+◌, ◌<◌, ◌≤◌, ◌⊎◌, inl, inr, Bool, true, false, List, [], ◌∷◌, Option, Some, None, refl, sym, ap, ap₂, ◌∙◌, subst, arith}
use Rattle.std.specs.Prelude.{◌==◌, Contains, option_and_then, if◌then◌else◌}
use Rattle.std.specs.List.{cons_option, AllByRecursion as Each}
use Rattle.std.proofs.lemmas.Bool.{cases_lt, eqb-true}
use Rattle.job_rules.specs.declared.hold.Hold.{Hold}
use Rattle.job_rules.specs.Fits.{CanFit, IsGrant, IsSpec, first_fit, free_of, nodes_of}
use Rattle.job_rules.proofs.Among.{Among, among_flat, among_flattened, among_from, distinct_rising, each_at, same_image}
use Rattle.job_rules.proofs.Sets.{free_is, none_exactly, sound as fit_is_sound}
use Rattle.job_rules.proofs.Unique.{more_free}
use Rattle.job_spec.specs.declared.spec.JobSpec.{JobSpec}
use Rattle.job_states.specs.Changes.{change_of}
use Rattle.resource_set.specs.declared.node.Node.{Node}
use Rattle.resource_set.specs.declared.node.Resources.{Resources}
use Rattle.manager_rules.specs.declared.due.Due.{Due}
use Rattle.manager_rules.specs.Deeds.{Deed, Validates, Adds, Removes, Loses, Depends, Restarts, Prioritizes, NeverFits, Takes, Starts, Finishes, Expires, Stops, Releases, Frees, Cleans, Carries, due_of, r_given}
use Rattle.manager_rules.specs.Dependencies.{IsHead}
use Rattle.manager_rules.specs.Due.{MayDo, MayTake, with_r}
use Rattle.manager_rules.specs.Jobs.{StoredJob, ids_of, is_live}
use Rattle.manager_rules.specs.Posts.{event_done, job_after, r_after, with_event}
use Rattle.manager_rules.specs.Reserved.{FitsAt, IsReserved, hold_at, held_by, holds_at}
use Rattle.manager_rules.specs.Scene.{IsScene, Scene}
use Rattle.manager_rules.specs.Sound.{AreInTime, HoldsInTime}
use Rattle.manager_rules.proofs.Rules.{first_is_one, same_job}
use Rattle.manager_rules.proofs.Soundness.{given_r}

-- ---- what is held

-- the same is held at each second
pub same_reserved : (grant : List Node) (jobs later : List StoredJob) (spec : JobSpec) (now second : ℕ) → ((t : ℕ) → holds_at t later ≡ holds_at t jobs) → IsReserved grant jobs spec now second → IsReserved grant later spec now second
same_reserved grant jobs later spec now second e h = record {
  from = h.from;
  fits = subst (λ hs. CanFit spec grant (free_of grant hs)) (sym (e second)) h.fits;
  least = λ sooner a b f. h.least sooner a b (subst (λ hs. CanFit spec grant (free_of grant hs)) (e sooner) f);
}

-- two least seconds are the same
pub same_second : (grant : List Node) (jobs : List StoredJob) (spec : JobSpec) (now s t : ℕ) → IsReserved grant jobs spec now s → IsReserved grant jobs spec now t → s ≡ t
same_second grant jobs spec now s t a b = elim (cases_lt s t) [
  | inl below ↦ absurd (b.least s a.from below a.fits)
  | inr up ↦ elim (cases_lt t s) [
    | inl below ↦ absurd (a.least t b.from below b.fits)
    | inr down ↦ omega (arith, up, down)
  ]
]

-- what the job of an event holds afterwards, and the others hold what they held
module _ (due : Due) (o : Option Resources) (t : ℕ) where
  one_held : (k : StoredJob) → (k.id ≡ due.job → (event_done due k).r ≡ o) → hold_at t (if k.id == due.job then event_done due k else k) ≡ (if k.id == due.job then option_and_then (held_by t k.id) o else hold_at t k)
  one_held k is = elim (k.id == due.job) as (λ b. (k.id == due.job) ≡ b → hold_at t (if b then event_done due k else k) ≡ (if b then option_and_then (held_by t k.id) o else hold_at t k)) [
    | true ↦ λ e. ap (λ x. option_and_then (held_by t k.id) x) (is (eqb-true k.id due.job e))
    | false ↦ λ e. refl
  ] refl

-- a job that takes resources: the jobs are those of the offer
taken_holds : (due : Due) (r : Resources) (t : ℕ) (jobs : List StoredJob) → Each (λ k. k.id ≡ due.job → (event_done due k).r ≡ Some r) jobs → holds_at t (with_event due jobs) ≡ holds_at t (with_r due.job r jobs)
taken_holds due r t [] all = refl
taken_holds due r t (k ∷ jobs) all = ap₂ cons_option (one_held due (Some r) t k all.0 ∙ sym (offered k)) (taken_holds due r t jobs all.1)
  where
    offered : (k : StoredJob) → hold_at t (if k.id == due.job then record k { r = Some r } else k) ≡ (if k.id == due.job then option_and_then (held_by t k.id) (Some r) else hold_at t k)
    offered k = elim (k.id == due.job) as (λ b. hold_at t (if b then record k { r = Some r } else k) ≡ (if b then option_and_then (held_by t k.id) (Some r) else hold_at t k)) [
      | true ↦ refl
      | false ↦ refl
    ]

-- what is so of the job of an event, under its id
pub of_its_job : (s : Scene) → AreInTime s.jobs → (j : StoredJob) → Contains s.jobs j → (P : StoredJob → Type 0) → P j → Each (λ k. k.id ≡ j.id → P k) s.jobs
of_its_job s are j known P p = all s.jobs (λ k i. i)
  where
    here : Among j s.jobs
    here = among_from s.jobs j known

    all : (ks : List StoredJob) → ((k : StoredJob) → Among k ks → Among k s.jobs) → Each (λ k. k.id ≡ j.id → P k) ks
    all [] sub = tt
    all (k ∷ ks) sub = (
      λ e. subst P (same_image (λ x. x.id) s.jobs j k (distinct_rising (ids_of s.jobs) are.rising) here (sub k (inl refl)) (sym e)) p,
      all ks (λ x i. sub x (inr i)),
    )

-- ---- the law of the one that passes

pub leaves_second : (s : Scene) → IsScene s → AreInTime s.jobs → (j : StoredJob) (r : Resources) → Contains s.jobs j → MayDo s j (Takes r) → (head : StoredJob) → Contains s.jobs head → IsHead s.jobs head.id → j.id ≢ head.id
    → (second : ℕ) × IsReserved s.grant.nodes s.jobs head.spec s.now second × IsReserved s.grant.nodes (with_event (due_of s.now j (Takes r)) s.jobs) head.spec s.now second
leaves_second s scene are j r known m head there first other = by m.1
  where
    own : HoldsInTime j
    own = each_at HoldsInTime s.jobs j are.each (among_from s.jobs j known)

    landed : (t : ℕ) → holds_at t (with_event (due_of s.now j (Takes r)) s.jobs) ≡ holds_at t (with_r j.id r s.jobs)
    landed t = taken_holds (due_of s.now j (Takes r)) r t s.jobs (of_its_job s are j known (λ k. (event_done (due_of s.now j (Takes r)) k).r ≡ Some r) (given_r s scene j own r m).0)

    by : MayTake s j r → (second : ℕ) × IsReserved s.grant.nodes s.jobs head.spec s.now second × IsReserved s.grant.nodes (with_event (due_of s.now j (Takes r)) s.jobs) head.spec s.now second
    by (inl mine) = absurd (other (first_is_one s.jobs j.id head.id mine first))
    by (inr p) =
        let same : p.head ≡ head = same_job s are.rising p.head head p.known there (first_is_one s.jobs p.head.id head.id p.first first) in
        let before = subst (λ h. IsReserved s.grant.nodes s.jobs h.spec s.now p.leaves.second) same p.leaves.reserved in
        let beside = subst (λ h. IsReserved s.grant.nodes (with_r j.id r s.jobs) h.spec s.now p.leaves.second) same p.leaves.kept in
        (p.leaves.second, before, same_reserved s.grant.nodes (with_r j.id r s.jobs) (with_event (due_of s.now j (Takes r)) s.jobs) head.spec s.now p.leaves.second landed beside)

-- ---- no due event lets it rise

-- the least of the numbers from one on, where it is known of each whether it is one
pub record IsLeastFrom (P : ℕ → Type 0) (from n : ℕ) : Type 0 where
  pub above : from ≤ n
  pub is : P n
  pub least : (sooner : ℕ) → from ≤ sooner → sooner < n → P sooner → ⊥

least_from : (P : ℕ → Type 0) → ((n : ℕ) → P n ⊎ (P n → ⊥)) → (gap from last : ℕ) → last ≡ gap + from → P last → (n : ℕ) × (n ≤ last) × IsLeastFrom P from n
least_from P decide zero from last e p =
    let same : last ≡ from = omega (arith, e) in
    (from, omega (arith, e), record { above = omega arith; is = subst P same p; least = λ sooner a b q. absurd (omega (arith, a, b)) })
least_from P decide (suc gap) from last e p = by (decide from) (least_from P decide gap (from + 1) last (omega (arith, e)) p)
  where
    by : P from ⊎ (P from → ⊥) → (n : ℕ) × (n ≤ last) × IsLeastFrom P (from + 1) n → (n : ℕ) × (n ≤ last) × IsLeastFrom P from n
    by (inl here) found = (from, omega (arith, e), record { above = omega arith; is = here; least = λ sooner a b q. absurd (omega (arith, a, b)) })
    by (inr never) found =
        let up = found.2.above in (
          found.0,
          found.1,
          record {
            above = omega (arith, up);
            is = found.2.is;
            least = λ sooner a b q. elim (cases_lt from sooner) [
              | inl past ↦ found.2.least sooner (omega (arith, past)) b q
              | inr at ↦ let same : sooner ≡ from = omega (arith, a, at) in never (subst P same q)
            ];
          },
        )

module _ (spec : JobSpec) (grant : List Node) (is : IsSpec spec) (whole : IsGrant grant) where
  decided : (jobs : List StoredJob) (t : ℕ) → FitsAt grant jobs spec t ⊎ (FitsAt grant jobs spec t → ⊥)
  decided jobs t = by (first_fit spec grant (free_of grant (holds_at t jobs))) refl
    where
      by : (o : Option (List Node)) → first_fit spec grant (free_of grant (holds_at t jobs)) ≡ o → FitsAt grant jobs spec t ⊎ (FitsAt grant jobs spec t → ⊥)
      by None e = inr ((none_exactly spec grant (free_of grant (holds_at t jobs)) is (free_is grant (nodes_of (holds_at t jobs)) whole)).0 e)
      by (Some given) e =
          let good = fit_is_sound spec grant (free_of grant (holds_at t jobs)) (free_is grant (nodes_of (holds_at t jobs)) whole) is given e in
          inl (record { nodes = given; set = good.0; inside = good.1; satisfied = good.2 })

  -- where no more is held at each second, the reserved second doesn't rise
  pub no_later : (jobs later : List StoredJob) (now second : ℕ) → ((t : ℕ) (h : Hold) → Among h (holds_at t later) → Among h (holds_at t jobs)) → IsReserved grant jobs spec now second
      → (earlier : ℕ) × (earlier ≤ second) × IsReserved grant later spec now earlier
  no_later jobs later now second sub h =
      let from = h.from in
      let gap : (n : ℕ) × (second ≡ n + now) = gap_of now second from in
      let found = least_from (FitsAt grant later spec) (decided later) gap.0 now second gap.1 (fits_still second h.fits) in
      (found.0, found.1, record { from = found.2.above; fits = found.2.is; least = found.2.least })
    where
      gap_of : (a b : ℕ) → a ≤ b → (n : ℕ) × (b ≡ n + a)
      gap_of zero b le = (b, omega arith)
      gap_of (suc a) zero le = absurd (omega (arith, le))
      gap_of (suc a) (suc b) le = let more = gap_of a b (omega (arith, le)) in let e = more.1 in (more.0, omega (arith, e))

      fits_still : (t : ℕ) → FitsAt grant jobs spec t → FitsAt grant later spec t
      fits_still t can = record {
        nodes = can.nodes;
        set = can.set;
        inside = λ unit u. more_free grant (nodes_of (holds_at t later)) (nodes_of (holds_at t jobs)) here unit (can.inside unit u);
        satisfied = can.satisfied;
      }
        where
          here : (n : Node) → Among n (nodes_of (holds_at t later)) → Among n (nodes_of (holds_at t jobs))
          here n i = let part = among_flat (λ h. h.nodes) (holds_at t later) n i in among_flattened (λ h. h.nodes) (holds_at t jobs) part.0 n (sub t part.0 part.1) part.2

-- what the job of an event that gives no resources holds afterwards: what it held, or nothing
plain_r : (due : Due) (j : StoredJob) → due.r ≡ None → ((event_done due j).r ≡ j.r) ⊎ ((event_done due j).r ≡ None)
plain_r due j none = by (is_live (job_after (change_of due.event) j.job)) refl
  where
    kept : (given : Option (List ℕ)) → given ≡ None → r_after given j.r ≡ j.r
    kept None e = refl
    kept (Some text) e = cc

    by : (b : Bool) → is_live (job_after (change_of due.event) j.job) ≡ b → ((event_done due j).r ≡ j.r) ⊎ ((event_done due j).r ≡ None)
    by true e = inl (ap (λ b. if b then r_after due.r j.r else None) e ∙ kept due.r none)
    by false e = inr (ap (λ b. if b then r_after due.r j.r else None) e)

-- so no more is held at any second
pub held_before : (due : Due) (t : ℕ) (jobs : List StoredJob) → due.r ≡ None → (h : Hold) → Among h (holds_at t (with_event due jobs)) → Among h (holds_at t jobs)
held_before due t [] none h i = absurd i
held_before due t (k ∷ jobs) none h i = by (hold_at t (if k.id == due.job then event_done due k else k)) (hold_at t k) (one k) (held_before due t jobs none h) i
  where
    one : (k : StoredJob) → (hold_at t (if k.id == due.job then event_done due k else k) ≡ hold_at t k) ⊎ (hold_at t (if k.id == due.job then event_done due k else k) ≡ None)
    one k = elim (k.id == due.job) as (λ b. (hold_at t (if b then event_done due k else k) ≡ hold_at t k) ⊎ (hold_at t (if b then event_done due k else k) ≡ None)) [
      | true ↦ elim (plain_r due k none) [
        | inl same ↦ inl (ap (λ o. option_and_then (held_by t k.id) o) same)
        | inr gone ↦ inr (ap (λ o. option_and_then (held_by t k.id) o) gone)
      ]
      | false ↦ inl refl
    ]

    by : (now before : Option Hold) → (now ≡ before) ⊎ (now ≡ None) → (Among h (holds_at t (with_event due jobs)) → Among h (holds_at t jobs)) → Among h (cons_option now (holds_at t (with_event due jobs))) → Among h (cons_option before (holds_at t jobs))
    by None None e more i = more i
    by None (Some b) e more i = inr (more i)
    by (Some a) None (inl e) more i = cc
    by (Some a) None (inr e) more i = cc
    by (Some a) (Some b) (inr e) more i = cc
    by (Some a) (Some b) (inl e) more i = elim i [
      | inl is ↦ inl (sym (some_same a b e) ∙ is)
      | inr there ↦ inr (more there)
    ]
      where
        some_same : (a b : Hold) → Some a ≡ Some b → a ≡ b
        some_same a b e = cc

-- an event gives no resources, or is that of a job that takes them
pub gives : (deed : Deed) → (r_given deed ≡ None) ⊎ ((r : Resources) × (deed ≡ Takes r))
gives (Takes r) = inr (r, refl)
gives Validates = inl refl
gives (Adds need) = inl refl
gives (Removes need) = inl refl
gives (Loses need) = inl refl
gives Depends = inl refl
gives (Prioritizes priority) = inl refl
gives Restarts = inl refl
gives NeverFits = inl refl
gives Starts = inl refl
gives (Finishes status) = inl refl
gives Expires = inl refl
gives Stops = inl refl
gives Releases = inl refl
gives Frees = inl refl
gives Cleans = inl refl
gives (Carries asked) = inl refl

pub never_rises : (s : Scene) (j : StoredJob) (deed : Deed) → IsScene s → AreInTime s.jobs → IsGrant s.grant.nodes → Contains s.jobs j → MayDo s j deed → (head : StoredJob) → Contains s.jobs head → IsHead s.jobs head.id → j.id ≢ head.id → IsSpec head.spec
    → (second : ℕ) → IsReserved s.grant.nodes s.jobs head.spec s.now second → (later : ℕ) × (later ≤ second) × IsReserved s.grant.nodes (with_event (due_of s.now j deed) s.jobs) head.spec s.now later
never_rises s j deed scene are grant known m head there first other spec second is = by (gives deed)
  where
    by : (r_given deed ≡ None) ⊎ ((r : Resources) × (deed ≡ Takes r)) → (later : ℕ) × (later ≤ second) × IsReserved s.grant.nodes (with_event (due_of s.now j deed) s.jobs) head.spec s.now later
    by (inl none) = no_later head.spec s.grant.nodes spec grant s.jobs (with_event (due_of s.now j deed) s.jobs) s.now second (λ t h i. held_before (due_of s.now j deed) t s.jobs none h i) is
    by (inr takes) =
        let stays = leaves_second s scene are j takes.0 known (subst (MayDo s j) takes.1 m) head there first other in
        let same : stays.0 ≡ second = same_second s.grant.nodes s.jobs head.spec s.now stays.0 second stays.1 is in
        (stays.0, omega (arith, same), subst (λ d. IsReserved s.grant.nodes (with_event (due_of s.now j d) s.jobs) head.spec s.now stays.0) (sym takes.1) stays.2)

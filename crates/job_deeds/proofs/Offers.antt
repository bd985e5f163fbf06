-- What a job would hold that passes the first in the queue.
use Rattle.std.proofs.Common.{◌≡◌, ◌≢◌, ℕ, ◌<◌, ◌≤◌, Bool, true, false, not, ◌&&◌, List, [], ◌∷◌, ◌++◌, map, Option, Some, None, Ok, refl, sym, ap, ◌∙◌, subst, true≢false}
use Rattle.std.specs.Prelude.{Contains, IsSomeAnd}
use Rattle.std.specs.List.{AllByRecursion as Each}
use Rattle.std.proofs.lemmas.Bool.{false_from_ne_true, or_from, or_parts}
use Rattle.std.proofs.lemmas.List.{map-append}
use Rattle.std.proofs.lemmas.List.Concat.{flat_map-append}
use Rattle.backfill.specs.declared.hold.Hold.{Hold}
use Rattle.backfill.specs.Held.{AreHeld, held}
use Rattle.backfill.specs.Reserved.{FitsAt, KeepsReservation}
use Rattle.graph_match.specs.Allotment.{Allotment}
use Rattle.graph_match.specs.Answers.{AreFirstFit}
use Rattle.graph_match.proofs.Fitting.{are_within_grant, free_of_others}
use Rattle.graph_match.proofs.Holds.{has_both}
use Rattle.job_rules.specs.Fits as fits
use Rattle.job_rules.specs.Fits.{AllApart, AreApart, AreLive, AreWithin, CanFit, free_of, has_unit, nodes_of}
use Rattle.job_rules.proofs.Among.{among_from, each_at, each_from}
use Rattle.job_spec.specs.declared.spec.JobSpec.{JobSpec}
use Rattle.job_states.specs.Table.{is_state}
use Rattle.job_states.specs.declared.job.State.{State}
use Rattle.job_states.specs.declared.job.State.TheVariants as state
use Rattle.resource_set.specs.declared.node.Node.{Node}
use Rattle.resource_set.specs.declared.node.Resources.{Resources}
use Rattle.resource_set.specs.Reading.{told}
use Rattle.resource_set.specs.Writing.{r_text}
use Rattle.manager_rules.specs.Due.{IsFirstFit, with_r}
use Rattle.manager_rules.specs.Jobs.{StoredJob}
use Rattle.manager_rules.specs.Reserved as rules
use Rattle.manager_rules.specs.Scene.{Scene}
use Rattle.manager_rules.specs.Sound.{AreInTime, HoldsInTime, holds_of, is_early}
use Rattle.job_deeds.specs.Choices.{IsLook, IsSeen}
use Rattle.job_deeds.specs.Passing.{Leaves, leases_of}
use Rattle.job_deeds.specs.Waiting.{waits_with}
use Rattle.job_deeds.specs.declared.decisions.Desk.{Desk}
use Rattle.job_deeds.proofs.Fitting.{seen_fit}
use Rattle.job_deeds.proofs.Heads.{so_waits}
use Rattle.job_deeds.proofs.Passers.{held_all, held_leases, keeps_back, keeps_there}

-- ---- it is apart from what live jobs hold

-- a job that is apart from all others stands last
apart_last : (hold : Hold) (live : List Hold) → AllApart (map held live) → AreApart hold.units.nodes (nodes_of (map held live)) → AllApart (map held (live ++ hold ∷ []))
apart_last hold [] a h = ((λ host id. (λ t. refl, λ t. refl)), tt)
apart_last hold (x ∷ xs) a h = (here, apart_last hold xs a.1 (λ host id. (rest (λ n. n.cores) host id (h host id).0, rest (λ n. n.gpus) host id (h host id).1)))
  where
    taken : List Node
    taken = nodes_of (map held xs)

    rest : (kind : Node → List ℕ) (host : List ℕ) (id : ℕ) → (has_unit kind hold.units.nodes host id ≡ true → has_unit kind (x.units.nodes ++ taken) host id ≡ false) → has_unit kind hold.units.nodes host id ≡ true → has_unit kind taken host id ≡ false
    rest kind host id f t = (or_parts (has_unit kind x.units.nodes host id) (has_unit kind taken host id) (sym (has_both kind x.units.nodes taken host id) ∙ f t)).1

    one : (kind : Node → List ℕ) (host : List ℕ) (id : ℕ) → (has_unit kind hold.units.nodes host id ≡ true → has_unit kind (x.units.nodes ++ taken) host id ≡ false) → (has_unit kind x.units.nodes host id ≡ true → has_unit kind taken host id ≡ false) → has_unit kind x.units.nodes host id ≡ true → has_unit kind (taken ++ nodes_of (held hold ∷ [])) host id ≡ false
    one kind host id f g t =
        has_both kind taken (nodes_of (held hold ∷ [])) host id
        ∙ or_from (has_unit kind taken host id) (has_unit kind (nodes_of (held hold ∷ [])) host id) (g t)
        (has_both kind hold.units.nodes [] host id ∙ or_from (has_unit kind hold.units.nodes host id) (has_unit kind [] host id)
        (false_from_ne_true (has_unit kind hold.units.nodes host id) (λ u. true≢false (sym t ∙ (or_parts (has_unit kind x.units.nodes host id) (has_unit kind taken host id) (sym (has_both kind x.units.nodes taken host id) ∙ f u)).0))) refl)

    here : AreApart x.units.nodes (nodes_of (map held (xs ++ hold ∷ [])))
    here = subst (AreApart x.units.nodes) (sym (ap nodes_of (map-append held xs (hold ∷ [])) ∙ flat_map-append (λ h. h.nodes) (map held xs) (held hold ∷ [])))
        (λ host id. (one (λ n. n.cores) host id (h host id).0 (a.0 host id).0, one (λ n. n.gpus) host id (h host id).1 (a.0 host id).1))

each_held : (grant : List Node) (xs : List Hold) → Each (λ h. AreWithin h.nodes grant) (map held xs) → Each (λ h. AreWithin h.units.nodes grant) xs
each_held grant [] e = tt
each_held grant (x ∷ xs) e = (e.0, each_held grant xs e.1)

pub are_leases : (g : Allotment) (jobs : List StoredJob) → AreLive g.grant g.live → g.live ≡ holds_of jobs → AreHeld g.grant (leases_of jobs)
are_leases g jobs live same =
    let here = subst (AreLive g.grant) (same ∙ sym (held_all jobs)) live in
    record { within = each_held g.grant (leases_of jobs) here.within; apart = here.apart }

pub are_held : (g : Allotment) (jobs : List StoredJob) (hold : Hold) → AreLive g.grant g.live → g.live ≡ holds_of jobs → AreWithin hold.units.nodes (free_of g.grant g.live) → AreHeld g.grant (leases_of jobs ++ hold ∷ [])
are_held g jobs hold live same w = record {
  within = each_more (leases_of jobs) (each_held g.grant (leases_of jobs) here.within);
  apart = apart_last hold (leases_of jobs) here.apart (subst (λ hs. AreApart hold.units.nodes (nodes_of hs)) alike (free_of_others (nodes_of g.live) g.grant hold.units.nodes w));
}
  where
    alike : g.live ≡ map held (leases_of jobs)
    alike = same ∙ sym (held_all jobs)

    here : AreLive g.grant (map held (leases_of jobs))
    here = subst (AreLive g.grant) alike live

    each_more : (xs : List Hold) → Each (λ h. AreWithin h.units.nodes g.grant) xs → Each (λ h. AreWithin h.units.nodes g.grant) (xs ++ hold ∷ [])
    each_more [] e = (are_within_grant (nodes_of g.live) g.grant hold.units.nodes w, tt)
    each_more (x ∷ xs) e = (e.0, each_more xs e.1)

-- ---- it decides whether the job leaves the second that is reserved

pub waits_in : (st : State) → is_state st state.Sched ≡ true → st ≡ state.Sched
waits_in state.New e = cc
waits_in state.Depend e = cc
waits_in state.Priority e = cc
waits_in state.Sched e = refl
waits_in state.Run e = cc
waits_in state.Cleanup e = cc
waits_in state.Inactive e = cc

-- a job that waits holds nothing
pub holds_none : (jobs : List StoredJob) → AreInTime jobs → (j : StoredJob) → Contains jobs j → j.job.state ≡ state.Sched → j.r ≡ None
holds_none jobs are j known waits =
    let own : HoldsInTime j = each_at HoldsInTime jobs j are.each (among_from jobs j known) in
    own.none (ap (λ b. b && not j.job.freed) (own.early (ap is_early waits)).allocated)

-- first fit gives a job the same each time
r_with : List Node → ℕ → ℕ → Resources
r_with nodes start end = record { nodes = nodes; starttime = start; expiration = end }

same_r : (a b : Resources) → Some a.nodes ≡ Some b.nodes → a.starttime ≡ b.starttime → a.expiration ≡ b.expiration → a ≡ b
unfolding r_with
same_r a b n s e =
    let nodes : a.nodes ≡ b.nodes = cc in
    ap (λ x. r_with x a.starttime a.expiration) nodes ∙ ap (λ x. r_with b.nodes x a.expiration) s ∙ ap (λ x. r_with b.nodes b.starttime x) e

pub one_fit : (s : Scene) (j : StoredJob) (r q : Resources) → IsFirstFit s j r → IsFirstFit s j q → r ≡ q
one_fit s j r q a b = same_r r q (sym a.nodes ∙ b.nodes) (a.start ∙ sym b.start) (a.end ∙ sym b.end)

moved : (grant other : List Node) (jobs more : List StoredJob) (spec : JobSpec) (now later second : ℕ) → grant ≡ other → jobs ≡ more → now ≡ later → rules.IsReserved grant jobs spec now second → rules.IsReserved other more spec later second
moved grant other jobs more spec now later second g j n h =
    subst (λ x. rules.IsReserved x more spec later second) g (subst (λ x. rules.IsReserved grant x spec later second) j (subst (λ x. rules.IsReserved grant jobs spec x second) n h))

-- without a reserved second no job leaves it
pub unreserved : (desk : Desk) (grant : Resources) → IsLook desk grant → (head : StoredJob) → ((second : ℕ) → desk.second ≤ second → FitsAt head.spec grant.nodes (leases_of desk.rows.now) second → ⊥) → (s : Scene) → IsSeen desk s → Each (λ k. Leaves s head k → ⊥) desk.rows.now
unreserved desk grant look head never s seen = each_from (λ k. Leaves s head k → ⊥) desk.rows.now (λ k i l.
    let whole : s.grant.nodes ≡ grant.nodes = ap (λ g. g.grant) (sym seen.graph ∙ look.graph) in
    let here = moved s.grant.nodes grant.nodes s.jobs desk.rows.now head.spec s.now desk.second l.1.second whole seen.jobs seen.second l.1.reserved in
    never l.1.second here.from (subst (λ hs. CanFit head.spec grant.nodes (free_of grant.nodes hs)) (sym (held_leases l.1.second desk.rows.now)) here.fits))

module _ (desk : Desk) (grant : Resources) (look : IsLook desk grant) (head j : StoredJob) (known : Contains desk.rows.now j) (above : 0 < waits_with j) (hold : Hold) (ends : hold.until ≡ hold.units.expiration) (fit : AreFirstFit desk.graph.now j.spec desk.second hold.units) (s : Scene) (seen : IsSeen desk s) where
  waits : j.job.state ≡ state.Sched
  waits = waits_in j.job.state (so_waits j above).state

  bare : j.r ≡ None
  bare = holds_none desk.rows.now look.in_time j known waits

  grants : grant.nodes ≡ s.grant.nodes
  grants = ap (λ g. g.grant) (sym look.graph ∙ seen.graph)

  pub leaving : j.id ≢ head.id → told (r_text hold.units) ≡ Ok hold.units → KeepsReservation head.spec grant.nodes (leases_of desk.rows.now) hold desk.second → Leaves s head j
  leaving behind written k =
      let there = keeps_there head.spec grant.nodes desk.second desk.rows.now look.in_time.rising j (among_from desk.rows.now j known) bare hold ends k in (
        hold.units,
        record {
          waits = waits;
          behind = behind;
          ranked = subst (λ o. IsSomeAnd o (λ p. 0 < p)) (sym (so_waits j above).priority) above;
          fit = seen_fit desk s seen j hold.units fit written;
          second = there.0;
          reserved = moved grant.nodes s.grant.nodes desk.rows.now s.jobs head.spec desk.second s.now there.0 grants (sym seen.jobs) (sym seen.second) there.1;
          kept = moved grant.nodes s.grant.nodes (with_r j.id hold.units desk.rows.now) (with_r j.id hold.units s.jobs) head.spec desk.second s.now there.0 grants (ap (with_r j.id hold.units) (sym seen.jobs)) (sym seen.second) there.2;
        },
      )

  pub left : Leaves s head j → KeepsReservation head.spec grant.nodes (leases_of desk.rows.now) hold desk.second
  left l =
      let here = subst (λ g. AreFirstFit g j.spec desk.second hold.units) seen.graph fit in
      let same : l.0 ≡ hold.units = same_r l.0 hold.units (sym l.1.fit.nodes ∙ here.nodes) (l.1.fit.start ∙ seen.second ∙ sym here.start) (l.1.fit.end ∙ ends_as ∙ sym here.end) in
      keeps_back head.spec grant.nodes desk.second desk.rows.now look.in_time.rising j (among_from desk.rows.now j known) bare hold ends l.1.second
      (moved s.grant.nodes grant.nodes s.jobs desk.rows.now head.spec s.now desk.second l.1.second (sym grants) seen.jobs seen.second l.1.reserved)
      (moved s.grant.nodes grant.nodes (with_r j.id l.0 s.jobs) (with_r j.id hold.units desk.rows.now) head.spec s.now desk.second l.1.second (sym grants) (ap (λ r. with_r j.id r s.jobs) same ∙ ap (with_r j.id hold.units) seen.jobs) seen.second l.1.kept)
    where
      ends_as : fits.sooner (fits.end_of j.spec s.now) s.grant.expiration ≡ fits.sooner (fits.end_of j.spec desk.second) s.grant.expiration
      ends_as = ap (λ n. fits.sooner (fits.end_of j.spec n) s.grant.expiration) seen.second

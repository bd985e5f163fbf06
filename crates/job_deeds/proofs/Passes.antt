-- From the walk to the one that passes.
use Rattle.std.proofs.Common.{◌≡◌, ℕ, false, ◌⊎◌, inl, inr, List, Option, Some, None, refl, sym, ap, ◌∙◌, subst}
use Rattle.std.specs.Prelude.{Contains}
use Rattle.std.specs.List.{AllByRecursion as Each}
use Rattle.std.specs.List.Sorted.{IsStrictlyIncreasing}
use Rattle.graph_match.specs.Allotment.{Allotment}
use Rattle.job_rules.specs.Fits.{CanFit, IsGrant, first_fit, free_of, nodes_of}
use Rattle.job_rules.proofs.Among.{Among, among_from, among_mapped, contains_from, each_at, each_from}
use Rattle.job_rules.proofs.Lying.{read_is}
use Rattle.job_rules.proofs.Sets.{free_is, none_exactly}
use Rattle.job_spec.specs.Sound.{IsSpec}
use Rattle.resource_set.specs.declared.node.Node.{Node}
use Rattle.resource_set.specs.declared.node.Resources.{Resources}
use Rattle.manager_rules.specs.declared.policy.Policy.{Policy}
use Rattle.manager_rules.specs.declared.policy.Policy.TheVariants.{FirstFit, Easy}
use Rattle.manager_rules.specs.Deeds.{Takes}
use Rattle.manager_rules.specs.Dependencies.{IsHead}
use Rattle.manager_rules.specs.Due.{FindsNone, IsBefore, IsFirstFit, LeavesReserved, Passes}
use Rattle.manager_rules.specs.Jobs.{StoredJob, ids_of}
use Rattle.manager_rules.specs.Scene.{Scene}
use Rattle.manager_rules.proofs.Rules.{one_takes, same_job}
use Rattle.job_deeds.specs.Choices.{IsLook, IsSeen}
use Rattle.job_deeds.specs.Passing.{FindsRoom, IsFirstLeaving, IsPasserOf, Leaves}
use Rattle.job_deeds.specs.Waiting.{waits_with}
use Rattle.job_deeds.specs.declared.decisions.Desk.{Desk}
use Rattle.job_deeds.proofs.Fitting.{one_head}
use Rattle.job_deeds.proofs.Heads.{head_none, in_queue}
use Rattle.job_deeds.proofs.Offers.{one_fit}
use Rattle.job_deeds.proofs.Walking.{ranked}

-- the id of the first is that of a job
pub head_known : (jobs : List StoredJob) (id : ℕ) → IsHead jobs id → Contains (ids_of jobs) id
head_known jobs id h =
    let k = in_queue jobs id h.0 h.1 in
    contains_from (ids_of jobs) id (subst (λ n. Among n (ids_of jobs)) k.named (among_mapped (λ j. j.id) jobs k.j k.known))

-- without a first nobody passes it
pub none_first : (s : Scene) → ((k : StoredJob) → Contains s.jobs k → waits_with k ≡ 0) → IsPasserOf s None
none_first s none j r known p = head_none s.jobs none p.head.id p.first

module _ (s : Scene) (rising : IsStrictlyIncreasing (ids_of s.jobs)) where
  -- who passes is one
  pub one_passer : (j k : StoredJob) (r q : Resources) → Contains s.jobs j → Contains s.jobs k → s.old j.id ≡ false → s.old k.id ≡ false → Passes s j r → Passes s k q → j.id ≡ k.id
  one_passer j k r q here there young new p o =
      one_takes s rising j k r q here there (p.leaves.waits, inr p, p.leaves.fit, young) (o.leaves.waits, inr o, o.leaves.fit, new)

  module _ (head : StoredJob) (known : Contains s.jobs head) (first : IsHead s.jobs head.id) where
    same_head : (j : StoredJob) (r : Resources) (p : Passes s j r) → p.head ≡ head
    same_head j r p = same_job s rising p.head head p.known known (one_head s.jobs p.head.id head.id p.first first)

    -- where the first finds units nobody passes it
    pub none_full : (FindsNone s head → ⊥) → IsPasserOf s None
    none_full room j r known p = room (subst (FindsNone s) (same_head j r p) p.full)

    pub passer_is : s.policy ≡ Easy → FindsNone s head → (rank : ℕ) (o : Option ℕ) → IsFirstLeaving s head s.jobs rank o → IsPasserOf s o
    passer_is easy full rank None h = λ j r there p.
        each_at (λ k. Leaves s head k → ⊥) s.jobs j h.1 (among_from s.jobs j there) (r, subst (λ x. LeavesReserved s x j r) (same_head j r p) p.leaves)
    passer_is easy full rank (Some id) h = (
      h.0,
      h.4.0,
      h.1,
      h.2,
      record {
        easy = easy;
        head = head;
        known = known;
        first = first;
        full = full;
        leaves = h.4.1;
        next = λ k q there before leaves. each_at (λ y. IsBefore y h.0 → Leaves s head y → ⊥) s.jobs k h.5 (among_from s.jobs k there) before (q, leaves);
      },
    )

-- ---- by the one that passes

module _ (s : Scene) (rising : IsStrictlyIncreasing (ids_of s.jobs)) (o : Option ℕ) (is : IsPasserOf s o) (j : StoredJob) (known : Contains s.jobs j) where
  -- the job of its id passes with some units, and with those that it finds
  pub passer_ready : o ≡ Some j.id → (r : Resources) × Passes s j r
  passer_ready e =
      let p = subst (IsPasserOf s) e is in
      (p.1, subst (λ k. Passes s k p.1) (same_job s rising p.0 j p.2 known p.3) p.4)

  pub passer_takes : o ≡ Some j.id → (r : Resources) → IsFirstFit s j r → Passes s j r
  passer_takes e r fit = let p = passer_ready e in subst (Passes s j) (one_fit s j p.0 r p.1.leaves.fit fit) p.1

  -- a job that passes is the one
  pub passer_of : ((id : ℕ) → s.old id ≡ false) → (r : Resources) → Passes s j r → o ≡ Some j.id
  passer_of young r p = by o is
    where
      by : (o : Option ℕ) → IsPasserOf s o → o ≡ Some j.id
      by None is = absurd (is j r known p)
      by (Some id) is = ap Some (sym is.3 ∙ one_passer s rising is.0 j is.1 r is.2 known (young is.0.id) (young j.id) is.4 p)

-- ---- at a desk

-- the first finds none where it has no room, and some where it has
module _ (desk : Desk) (s : Scene) (seen : IsSeen desk s) (grant : IsGrant desk.graph.now.grant) (j : StoredJob) (spec : IsSpec j.spec) where
  pub none_seen : (CanFit j.spec desk.graph.now.grant (free_of desk.graph.now.grant desk.graph.now.live) → ⊥) → FindsNone s j
  none_seen full = subst (λ g. first_fit j.spec g.grant (free_of g.grant g.live) ≡ None) seen.graph
      ((none_exactly j.spec desk.graph.now.grant (free_of desk.graph.now.grant desk.graph.now.live) (read_is j.spec spec) (free_is desk.graph.now.grant (nodes_of desk.graph.now.live) grant)).1 full)

  pub some_seen : CanFit j.spec desk.graph.now.grant (free_of desk.graph.now.grant desk.graph.now.live) → FindsNone s j → ⊥
  some_seen room none =
      (none_exactly j.spec desk.graph.now.grant (free_of desk.graph.now.grant desk.graph.now.live) (read_is j.spec spec) (free_is desk.graph.now.grant (nodes_of desk.graph.now.live) grant)).0
      (subst (λ g. first_fit j.spec g.grant (free_of g.grant g.live) ≡ None) (sym seen.graph) none) room

-- where none of them finds room none leaves the reserved second
pub none_leaving : (desk : Desk) (grant : Resources) → IsLook desk grant → IsGrant desk.graph.now.grant → (head : StoredJob) → Each (λ j. FindsRoom desk.graph.now head.id j → ⊥) desk.rows.now → (s : Scene) → IsSeen desk s → Each (λ k. Leaves s head k → ⊥) desk.rows.now
none_leaving desk grant look sets head none s seen = each_from (λ k. Leaves s head k → ⊥) desk.rows.now (λ k i l.
    let spec = each_at (λ j. IsSpec j.spec) desk.rows.now k look.specs i in
    let full = none_seen desk s seen sets k spec (λ can. each_at (λ j. FindsRoom desk.graph.now head.id j → ⊥) desk.rows.now k none i ((ranked s head k l, l.1.behind), can)) in
    let both : Some l.0.nodes ≡ None = sym l.1.fit.nodes ∙ full in cc)

pub is_easy : (p : Policy) → (p ≡ FirstFit → ⊥) → p ≡ Easy
is_easy FirstFit h = absurd (h refl)
is_easy Easy h = refl

-- The units that a job takes, and where it takes none.
use Rattle.std.proofs.Common.{◌≡◌, ◌<◌, ◌≤◌, ◌⊎◌, inl, inr, ℕ, List, Option, Some, None, Ok, sym, ap, ◌∙◌, subst, arith}
use Rattle.hostlist.specs.Names.{AreHostNames}
use Rattle.job_rules.specs.Fits as fits
use Rattle.job_spec.specs.declared.spec.JobSpec.{JobSpec}
use Rattle.resource_set.specs.Reading.{told}
use Rattle.resource_set.specs.Units.{host_names}
use Rattle.resource_set.specs.Valid.{IsR}
use Rattle.resource_set.specs.Writing.{r_text}
use Rattle.resource_set.specs.declared.node.Node.{Node}
use Rattle.resource_set.specs.declared.node.Resources.{Resources}
use Rattle.graph_match.proofs.Named.{names_within}
use Rattle.graph_match.specs.Allotment.{Allotment}
use Rattle.graph_match.specs.Answers.{AreFirstFit}
use Rattle.manager_rules.specs.Dependencies.{IsHead}
use Rattle.manager_rules.specs.Due.{IsFirstFit}
use Rattle.manager_rules.specs.Jobs.{StoredJob}
use Rattle.manager_rules.specs.Scene.{Scene}
use Rattle.job_deeds.specs.Choices.{IsSeen}
use Rattle.job_deeds.specs.Waiting.{IsFirstOf}
use Rattle.job_deeds.specs.declared.decisions.Desk.{Desk}
use Rattle.job_deeds.proofs.Heads.{head_none}

-- ---- units that are taken

pub taken_are_r : (g : Allotment) (spec : JobSpec) (now : ℕ) (r : Resources) → AreHostNames (host_names g.grant) → AreFirstFit g spec now r → IsR r
taken_are_r g spec now r h fit = record { hosts = fit.free.hosts; named = names_within g.grant g.live r.nodes h fit.free.inside }

-- ---- the head

pub one_head : (jobs : List StoredJob) (a b : ℕ) → IsHead jobs a → IsHead jobs b → a ≡ b
one_head jobs a b mine other = by mine.0 other.0 (mine.3 b other.0 other.1) (other.3 a mine.0 mine.1)
  where
    by : (p q : ℕ) → (q < p) ⊎ ((q ≡ p) × (a ≤ b)) → (p < q) ⊎ ((p ≡ q) × (b ≤ a)) → a ≡ b
    by p q (inl x) (inl y) = let none : ⊥ = omega (arith, x, y) in absurd none
    by p q (inl x) (inr y) = let none : ⊥ = omega (arith, x, y.0) in absurd none
    by p q (inr x) (inl y) = let none : ⊥ = omega (arith, x.0, y) in absurd none
    by p q (inr x) (inr y) = omega (arith, x.1, y.1)

pub other_head : (jobs : List StoredJob) (head : Option ℕ) (id : ℕ) → IsFirstOf jobs head → (head ≡ Some id → ⊥) → IsHead jobs id → ⊥
other_head jobs None id f differ h = head_none jobs f id h
other_head jobs (Some first) id f differ h = differ (ap Some (one_head jobs first id f h))

pub is_head : (jobs : List StoredJob) (head : Option ℕ) (id : ℕ) → IsFirstOf jobs head → head ≡ Some id → IsHead jobs id
is_head jobs head id f e = subst (IsFirstOf jobs) e f

-- ---- in a scene

pub seen_fit : (desk : Desk) (s : Scene) → IsSeen desk s → (j : StoredJob) (r : Resources) → AreFirstFit desk.graph.now j.spec desk.second r → told (r_text r) ≡ Ok r → IsFirstFit s j r
seen_fit desk s seen j r fit again =
    let here = subst (λ g. AreFirstFit g j.spec desk.second r) seen.graph fit in
    record {
      nodes = here.nodes;
      start = here.start ∙ sym seen.second;
      end = here.end ∙ ap (λ n. fits.sooner (fits.end_of j.spec n) s.grant.expiration) (sym seen.second);
      free = here.free;
      written = again;
    }

pub unseen_fit : (desk : Desk) (s : Scene) → IsSeen desk s → (j : StoredJob) (r : Resources) → fits.first_fit j.spec desk.graph.now.grant (fits.free_of desk.graph.now.grant desk.graph.now.live) ≡ None → IsFirstFit s j r → ⊥
unseen_fit desk s seen j r none fit =
    let here = subst (λ g. fits.first_fit j.spec g.grant (fits.free_of g.grant g.live) ≡ None) seen.graph none in
    no_some _ r.nodes here fit.nodes
  where
    no_some : (o : Option (List Node)) (x : List Node) → o ≡ None → o ≡ Some x → ⊥
    no_some None x e f = cc
    no_some (Some y) x e f = cc

pub seen_fits : (desk : Desk) (s : Scene) → IsSeen desk s → (j : StoredJob) → (fits.NeverFits j.spec desk.graph.now.grant → ⊥) → fits.NeverFits j.spec s.grant.nodes → ⊥
seen_fits desk s seen j none n = none (subst (λ g. fits.NeverFits j.spec g.grant) (sym seen.graph) n)

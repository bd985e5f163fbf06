-- Hosts that are named by letters, in order of their ranks.
use Rattle.std.proofs.Common.{◌≡◌, ℕ, ◌+◌, ◌≤◌, inl, inr, List, [], ◌∷◌, ◌++◌, length, map, sym, ap, ◌∙◌, subst, arith}
use Rattle.resource_set.specs.declared.node.Node.{Node}
use Rattle.resource_set.specs.Units.{AreHosts}
use Rattle.job_rules.proofs.Among.{Among, Distinct, among_map, are_distinct}
use Rattle.job_rules.proofs.Few.{hosts_of}
use Rattle.graph_match.proofs.Spots.{Rising}
use Rattle.graph_match.proofs.Fitting.{are_hosts}

abbrev pub AreLettered : ℕ → List Node → Type 0
AreLettered n [] = Unit {0}
AreLettered n (x ∷ xs) = (x.rank ≡ n) × (x.host ≡ (97 + n) ∷ []) × AreLettered (n + 1) xs

pub lettered_push : (n : ℕ) (nodes : List Node) (node : Node) → AreLettered n nodes → node.rank ≡ n + length nodes → node.host ≡ (97 + (n + length nodes)) ∷ [] → AreLettered n (nodes ++ node ∷ [])
lettered_push n [] node a r h = let none : n + 0 ≡ n = omega arith in (r ∙ none, h ∙ ap (λ k. (97 + k) ∷ []) none, tt)
lettered_push n (x ∷ xs) node a r h =
    let next : n + length (x ∷ xs) ≡ (n + 1) + length xs = omega arith in
    (a.0, a.1, lettered_push (n + 1) xs node a.2 (r ∙ next) (h ∙ ap (λ k. (97 + k) ∷ []) next))

later : (n : ℕ) (nodes : List Node) (node : Node) → AreLettered n nodes → Among node nodes → (k : ℕ) × (n ≤ k) × (node.host ≡ (97 + k) ∷ [])
later n [] node a i = absurd i
later n (x ∷ xs) node a i = elim i [
  | inl same ↦ (n, omega arith, ap (λ y. y.host) (sym same) ∙ a.1)
  | inr j ↦ let more = later (n + 1) xs node a.2 j in (more.0, omega (arith, more.1), more.2)
]

apart : (n : ℕ) (nodes : List Node) → AreLettered n nodes → Distinct (hosts_of nodes)
apart n [] a = tt
apart n (x ∷ xs) a = (
  λ y i e.
      let hit = among_map (λ m. m.host) xs y i in
      let at = later (n + 1) xs hit.0 a.2 hit.1 in
      let same : (97 + n) ∷ [] ≡ (97 + at.0) ∷ [] = sym a.1 ∙ e ∙ sym hit.2 ∙ at.2 in
      let heads : 97 + n ≡ 97 + at.0 = cc in
      let no : ⊥ = omega (arith, heads, at.1) in no,
  apart (n + 1) xs a.2,
)

ranks : (n : ℕ) (nodes : List Node) → n + length nodes ≤ 65536 → AreLettered n nodes → Rising n (map (λ node. node.rank) nodes)
ranks n [] h a = tt
ranks n (x ∷ xs) h a = (omega (arith, a.0), omega (arith, a.0, h), subst (λ k. Rising (k + 1) (map (λ node. node.rank) xs)) (sym a.0) (ranks (n + 1) xs (omega (arith, h)) a.2))

pub lettered_hosts : (nodes : List Node) → length nodes ≤ 65536 → AreLettered 0 nodes → AreHosts nodes
lettered_hosts nodes h a = are_hosts nodes (ranks 0 nodes (omega (arith, h)) a) (are_distinct (hosts_of nodes) (apart 0 nodes a))

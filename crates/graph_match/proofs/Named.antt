-- Units within a grant are on hosts that have names.
use Rattle.std.proofs.Common.{◌≡◌, true, List, [], ◌∷◌, refl, sym, ap, ◌∙◌, inl, inr}
use Rattle.std.specs.List.{list_all, AllByRecursion as Each}
use Rattle.std.proofs.lemmas.Bool.{and_parts}
use Rattle.hostlist.specs.Names.{AreHostNames, is_host_name}
use Rattle.job_rules.specs.declared.hold.Hold.{Hold}
use Rattle.job_rules.specs.Fits as fits
use Rattle.job_rules.proofs.Among.{Among, among_from, among_map}
use Rattle.resource_set.specs.Units.{host_names}
use Rattle.resource_set.specs.declared.node.Node.{Node}

name_at : (grant : List Node) → AreHostNames (host_names grant) → (n : Node) → Among n grant → is_host_name n.host ≡ true
name_at [] h n i = absurd i
name_at (x ∷ xs) h n i =
    let parts = and_parts (is_host_name x.host) (list_all is_host_name (host_names xs)) h in
    elim i [
      | inl e ↦ ap (λ m. is_host_name m.host) (sym e) ∙ parts.0
      | inr k ↦ name_at xs parts.1 n k
    ]

free_names : (grant : List Node) (live : List Hold) → AreHostNames (host_names grant) → (n : Node) → Among n (fits.free_of grant live) → is_host_name n.host ≡ true
free_names grant live h n i =
    let hit = among_map (fits.without_nodes (fits.nodes_of live)) grant n i in
    ap (λ m. is_host_name m.host) (sym hit.2) ∙ name_at grant h hit.0 hit.1

pub names_within : (grant : List Node) (live : List Hold) (nodes : List Node) → AreHostNames (host_names grant) → Each (fits.IsWithin (fits.free_of grant live)) nodes → AreHostNames (host_names nodes)
names_within grant live [] h w = refl
names_within grant live (x ∷ xs) h w =
    let here : is_host_name x.host ≡ true = ap is_host_name w.0.2.host ∙ free_names grant live h w.0.0 (among_from (fits.free_of grant live) w.0.0 w.0.1) in
    rw here (names_within grant live xs h w.1)

-- What is left beside what live jobs hold, taken from the last of them to the first.
use Rattle.std.proofs.Common.{◌≡◌, ℕ, suc, zero, ◌+◌, ◌<◌, Bool, true, false, cond, List, [], ◌∷◌, ◌++◌, map, drop, length, get_or, sym, ap, ◌∙◌, subst}
use Rattle.std.specs.Prelude.{filter}
use Rattle.std.proofs.lemmas.Bool.{or_from, or_parts}
use Rattle.std.proofs.lemmas.List.{drop_more}
use Rattle.resource_set.specs.declared.node.Node.{Node}
use Rattle.job_rules.specs.Fits.{AllApart, AreApart, has_unit, nodes_of}
use Rattle.graph_match.proofs.Holds.{has_both}
use Rattle.backfill.proofs.Holding.{nodes_both}
use Rattle.backfill.specs.declared.hold.Hold.{Hold}
use Rattle.backfill.specs.Held.{held, held_at, is_held_at}

-- who has no unit of live jobs has none of what they hold at a second
none_then : (kind : Node → List ℕ) (second : ℕ) (live : List Hold) (host : List ℕ) (id : ℕ) → has_unit kind (nodes_of (map held live)) host id ≡ false → has_unit kind (nodes_of (held_at second live)) host id ≡ false
none_then kind second [] host id e = e
none_then kind second (x ∷ xs) host id e =
    let parts = or_parts (has_unit kind x.units.nodes host id) (has_unit kind (nodes_of (map held xs)) host id) (sym (has_both kind x.units.nodes (nodes_of (map held xs)) host id) ∙ e) in
    at (is_held_at second x) parts.0 (none_then kind second xs host id parts.1)
  where
    rest : List Hold
    rest = filter (is_held_at second) xs

    at : (b : Bool) → has_unit kind x.units.nodes host id ≡ false → has_unit kind (nodes_of (map held rest)) host id ≡ false → has_unit kind (nodes_of (map held (cond b (x ∷ rest) rest))) host id ≡ false
    at true none more = has_both kind x.units.nodes (nodes_of (map held rest)) host id ∙ or_from (has_unit kind x.units.nodes host id) (has_unit kind (nodes_of (map held rest)) host id) none more
    at false none more = more

apart_then : (second : ℕ) (nodes : List Node) (live : List Hold) → AreApart nodes (nodes_of (map held live)) → AreApart nodes (nodes_of (held_at second live))
apart_then second nodes live a host id = (
  λ t. none_then (λ n. n.cores) second live host id ((a host id).0 t),
  λ t. none_then (λ n. n.gpus) second live host id ((a host id).1 t),
)

apart_drop : (i : ℕ) (live : List Hold) → AllApart (map held live) → AllApart (map held (drop i live))
apart_drop zero live a = a
apart_drop (suc i) [] a = a
apart_drop (suc i) (x ∷ xs) a = apart_drop i xs a.1

module _ (second : ℕ) (live : List Hold) (i next : ℕ) (x : Hold) (within : i < length live) (is : x ≡ get_or live i x) (follows : i + 1 ≡ next) where
  from : drop i live ≡ x ∷ drop next live
  from = drop_more live i x within ∙ ap (λ h. h ∷ drop (i + 1) live) (sym is) ∙ ap (λ n. x ∷ drop n live) follows

  -- a job is apart from what those behind it hold at a second
  pub apart_behind : AllApart (map held live) → AreApart x.units.nodes (nodes_of (held_at second (drop next live)))
  apart_behind a = apart_then second x.units.nodes (drop next live) (subst (λ xs. AllApart (map held xs)) from (apart_drop i live a)).0

  -- what it holds, and what those behind it do
  pub nodes_from : nodes_of (held_at second (drop i live)) ≡ nodes_of (held_at second (x ∷ [])) ++ nodes_of (held_at second (drop next live))
  nodes_from = ap (λ xs. nodes_of (held_at second xs)) from ∙ nodes_both second (x ∷ []) (drop next live)

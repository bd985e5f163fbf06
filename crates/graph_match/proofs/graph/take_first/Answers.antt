use Rattle.std.proofs.Common.{◌≡◌, ◌+◌, ◌-◌, ◌<◌, ◌≤◌, length, get_or, min, [], ◌∷◌, ◌++◌, ap, sym, subst, ◌∙◌, map, Some}
use Rattle.job_rules.specs.Worths.{give_as, worth}
use Rattle.job_rules.proofs.Counts.{found}
use Rattle.graph_match.specs.Places.{free_node, node_of}
use Rattle.graph_match.proofs.Skips.{fit_end, fit_skip}
use Rattle.graph_match.proofs.Turns.{IsFitting, brings_at, fit_done, fit_none, fit_some, sets_at}
use Rattle.graph_match.proofs.graph.take_first.Goals.{After-index-hosts-at, then-here-gt0+in_ok-pick+in_ok-push, else-here-gt0, then-loop-at-test+else-left-gt0, else-loop-at-test}
use Rattle.graph_match.proofs.graph.take_first.Goals as goal

-- the host that a turn reads
within : (c : After-index-hosts-at) → c.loop-at.at < length c.args.places.now
within c = subst (λ ps. c.loop-at.at < length ps) c.hosts-hosts.ensures c.loop-at-test.true

is : (c : After-index-hosts-at) → c.index-hosts-at.result ≡ get_or c.args.places.now c.loop-at.at c.index-hosts-at.result
is c = c.index-hosts-at.is ∙ ap (λ ps. get_or ps c.loop-at.at c.index-hosts-at.result) c.hosts-hosts.ensures

pub brings-requires-clause-sets : goal.brings-requires-clause-sets
brings-requires-clause-sets c =
    let s = (goal.at.brings-requires-clause-sets c).After-index-hosts-at in
    sets_at c.args.places.now c.loop-at.at c.index-hosts-at.result c.requires.grant (within s) (is s)

pub pick-requires-clause-sets : goal.pick-requires-clause-sets
pick-requires-clause-sets c =
    let s = (goal.at.pick-requires-clause-sets c).After-index-hosts-at in
    sets_at c.args.places.now c.loop-at.at c.index-hosts-at.result c.requires.grant (within s) (is s)

pub loop-at-preserved : goal.loop-at-preserved
loop-at-preserved c =
    let s = (goal.at.loop-at-preserved c).After-index-hosts-at in
    let spec = c.args.spec.now in
    let places = c.args.places.now in
    let at = c.loop-at.at in
    let here = c.min-here.result in
    let b : here ≡ min c.loop-at.left (worth spec (map node_of places) (free_node c.index-hosts-at.result)) = c.min-here.ensures ∙ ap (λ n. min c.loop-at.left n) (c.brings.ensures ∙ brings_at spec places at c.index-hosts-at.result c.requires.grant (within s) (is s)) in
    let one : IsFitting spec places (at + 1) c.if-here-gt0.left c.if-here-gt0.nodes = elim c.if-here-gt0.branch [
      | then-here-gt0+in_ok-pick+in_ok-push w ↦
          let ns : c.if-here-gt0.nodes ≡ c.loop-at.nodes ++ give_as spec.nodes spec here (free_node c.index-hosts-at.result) ∷ [] = w.nodes-is ∙ w.in_ok-push.ensures.added ∙ ap (λ n. c.loop-at.nodes ++ n ∷ []) w.in_ok-pick.ensures in
          subst (λ k. IsFitting spec places (at + 1) k c.if-here-gt0.nodes) (sym w.left-is)
          (subst (λ ms. IsFitting spec places (at + 1) (c.loop-at.left - here) ms) (sym ns)
          (fit_some spec places at c.loop-at.left c.loop-at.nodes c.index-hosts-at.result (within s) (is s) here b c.loop-at.invariant w.if-here-gt0.true))
      | else-here-gt0 w ↦
          subst (λ k. IsFitting spec places (at + 1) k c.if-here-gt0.nodes) (sym w.left-is)
          (subst (λ ms. IsFitting spec places (at + 1) c.loop-at.left ms) (sym w.nodes-is)
          (fit_none spec places at c.loop-at.left c.loop-at.nodes c.index-hosts-at.result (within s) (is s) here b c.loop-at.invariant w.if-here-gt0.false))
    ] in
    subst (λ n. IsFitting spec places (at + n) c.if-here-gt0.left c.if-here-gt0.nodes) (sym c.max.ensures)
    (fit_skip spec places at c.skip.result c.if-here-gt0.left c.if-here-gt0.nodes c.requires.spec (within s) c.skip.ensures.lack one)

pub returns : goal.returns
returns c = found c.args.spec.now (map node_of c.args.places.now) (map free_node c.args.places.now) c.requires.enough ∙ ap (λ ns. Some ns) (elim c.loop-at-test.branch [
  | then-loop-at-test+else-left-gt0 b ↦ sym (fit_end c.args.spec.now c.args.places.now c.loop-at.at c.loop-at.left c.loop-at.nodes b.if-left-gt0.false c.loop-at.invariant)
  | else-loop-at-test b ↦ sym (fit_done c.args.spec.now c.args.places.now c.loop-at.at c.loop-at.left c.loop-at.nodes (subst (λ ps. length ps ≤ c.loop-at.at) c.hosts-hosts.ensures b.loop-at-test.false) c.loop-at.invariant)
])

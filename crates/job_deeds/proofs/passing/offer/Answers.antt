use Rattle.std.proofs.Common.{◌≡◌, None, sym, ◌∙◌, subst, true≢false}
use Rattle.graph_match.specs.Answers.{Answers}
use Rattle.job_rules.proofs.Lying.{never_first, read_is}
use Rattle.job_rules.proofs.Sets.{free_is, none_exactly}
use Rattle.job_rules.specs.Fits.{CanFit, NeverFits, free_of, nodes_of}
use Rattle.job_deeds.proofs.passing.offer.Goals as goal

pub returns-then-not-has_room : goal.returns-then-not-has_room
returns-then-not-has_room c =
    let graph = c.args.desk.now.graph.now in
    let spec = c.args.row.now.spec in
    (none_exactly spec graph.grant (free_of graph.grant graph.live) (read_is spec c.requires.spec) (free_is graph.grant (nodes_of graph.live) c.requires.grant)).1
    (λ can. true≢false (sym (c.has_room.ensures.1 (subst (λ j. CanFit j.spec graph.grant (free_of graph.grant graph.live)) (sym c.row.view_is) can)) ∙ c.if-not-has_room.true))

pub returns : goal.returns
returns c =
    let graph = c.args.desk.now.graph.now in
    let never = subst (λ j. NeverFits j.spec graph.grant) c.row.view_is (subst (Answers graph c.row.inside.spec c.args.desk.now.second) c.in-Never.is c.in_ok-units.ensures) in
    never_first c.args.row.now.spec graph.grant graph.live (read_is c.args.row.now.spec c.requires.spec) c.requires.grant never

use Rattle.std.proofs.Common.{◌≡◌, ap, map, subst, ◌∙◌, ltb, true}
use Rattle.std.specs.Prelude.{◌↔◌}
use Rattle.job_rules.specs.Fits.{NeverFits}
use Rattle.job_rules.specs.Worths.{total, wanted, worth}
use Rattle.graph_match.specs.Places.{node_of}
use Rattle.graph_match.proofs.Fitting.{never_is}
use Rattle.graph_match.proofs.graph.Graph.never.Goals as goal

pub returns : goal.returns
returns c = subst (λ g. (c.is_small.result ≡ true) ↔ NeverFits c.args.spec.now g) (ap (λ v. v.grant) c.self.view_is)
    (never_is c.args.spec.now (map node_of c.self.inside.places) c.is_small.result c.requires c.self.invariant.grant
    (c.is_small.ensures ∙ ap (λ ps. ltb (total (worth c.args.spec.now (map node_of ps)) (map node_of ps)) (wanted c.args.spec.now)) c.hosts.ensures))

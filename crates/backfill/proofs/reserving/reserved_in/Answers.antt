use Rattle.std.proofs.Common.{sym, ◌∙◌}
use Rattle.std.proofs.lemmas.Bool.{true≢false}
use Rattle.backfill.proofs.Fitting.{fits_last}
use Rattle.backfill.proofs.reserving.reserved_in.Goals as goal

pub returns-then-not-branch : goal.returns-then-not-branch
returns-then-not-branch c = λ second from fits. true≢false (sym (c.in_ok-fits_at.ensures.1
    (fits_last c.args.spec.now c.args.graph.now.grant c.args.live.now c.last_end-last.result second c.last_end-last.ensures.ended fits)) ∙ c.if-not-branch.true)

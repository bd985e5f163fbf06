use Rattle.std.proofs.Common.{sym, ◌∙◌}
use Rattle.tree_look.proofs.Stored.{known_text}
use Rattle.tree_look.proofs.texts.directory_at.Goals as goal

pub returns-clause-told : goal.returns-clause-told
returns-clause-told g c = λ h st top p reads there named.
    c.in_ok-directory.ensures h st p reads.holds.store reads.holds.storable
    (c.as_slice.ensures ∙ known_text h st top (g.T.Texts.seen c.args.texts.now) p c.args.reference.now c.in-Some.text.now reads (record { there = there; named = named }) (sym c.in-Some.ensures.found))

use Rattle.std.proofs.Common.{sym, ◌∙◌}
use Rattle.plain_store.proofs.Counted.{same-forgotten}
use Rattle.plain_store.proofs.counts.forget_count.Goals as goal

pub returns-then-count_in-eq0 : goal.returns-then-count_in-eq0
returns-then-count_in-eq0 c = same-forgotten c.args.counts.now.entries c.remove-zero.new.self.entries c.in-Some.place.now c.remove-zero.ensures.entries c.len-count.ensures.ordered (sym c.count_in.ensures ∙ c.if-count_in-eq0.true)

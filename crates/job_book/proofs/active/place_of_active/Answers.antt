use Rattle.std.proofs.Common.{false}
use Rattle.job_book.specs.declared.active.Active.{Active}
use Rattle.job_book.proofs.Actives.{active_at, active_known}
use Rattle.job_book.proofs.active.place_of_active.Goals as goal

abbrev none : Active
none = record { id = 0; wake = 0; parent = false }

pub place_near-requires-clause-known : goal.place_near-requires-clause-known
place_near-requires-clause-known c = active_known c.args.rows.now c.args.active.now c.args.index none c.requires.active c.requires.within

pub returns-clause-job : goal.returns-clause-job
returns-clause-job c = λ d. active_at c.args.rows.now c.args.active.now c.args.index c.place_near.result none d c.requires.rising c.requires.active c.requires.within c.place_near.ensures.within (c.place_near.ensures.named d)

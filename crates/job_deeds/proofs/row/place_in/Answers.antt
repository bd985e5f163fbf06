use Rattle.job_deeds.proofs.Places.{there}
use Rattle.job_deeds.proofs.row.place_in.Goals as goal

pub returns-clause-within : goal.returns-clause-within
returns-clause-within c = (there c.args.rows.now c.args.id c.place_of.result c.requires.rising c.requires.known c.place_of.ensures.before c.place_of.ensures.after).0

pub returns-clause-named : goal.returns-clause-named
returns-clause-named c = (there c.args.rows.now c.args.id c.place_of.result c.requires.rising c.requires.known c.place_of.ensures.before c.place_of.ensures.after).1

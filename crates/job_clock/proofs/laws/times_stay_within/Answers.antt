use Rattle.job_clock.proofs.Times.{advance_in_time, carried_in_time, fewer_in_time, in_time_at, in_time_below, in_time_later, other_in_time}
use Rattle.job_clock.proofs.laws.times_stay_within.Goals as goal

pub returns-clause-advances : goal.returns-clause-advances
returns-clause-advances c = λ v new row birth now span seconds rows asks issued h. advance_in_time v new row birth now span seconds rows asks issued h

pub returns-clause-others : goal.returns-clause-others
returns-clause-others c = λ v new row birth now span rows none h. other_in_time v new row birth now span rows none h

pub returns-clause-replies : goal.returns-clause-replies
returns-clause-replies c = λ v new kept birth now span rows h. fewer_in_time v new kept birth now span rows h

pub returns-clause-landings : goal.returns-clause-landings
returns-clause-landings c = λ v new by number birth now span are h. carried_in_time v new by number birth now span are h

pub returns-clause-ticks : goal.returns-clause-ticks
returns-clause-ticks c = λ v ends birth now second span next h. in_time_at v ends birth now second span next h

pub returns-clause-bounds : goal.returns-clause-bounds
returns-clause-bounds c = λ v birth now span bound h below. in_time_below v birth now span bound h below

pub returns-clause-later : goal.returns-clause-later
returns-clause-later c = λ v birth now second span on h. in_time_later v birth now second span on h

use Rattle.std.proofs.Common.{take}
use Rattle.answers.specs.Chronicle.{Setup}
use Rattle.run_picture.specs.Follows.{IsFollowed}
use Rattle.run_picture.specs.Shown.{IsShownRun, IsSubject}
use Rattle.run_picture.proofs.drawing.followed.Given as goal

abbrev pub invariant-loop-entry : goal.invariant-loop-entry
invariant-loop-entry l = (set : Setup) → IsShownRun set l.chronicle → IsSubject set l.chronicle l.number l.fn.subject.brokers
    → IsFollowed set (take l.entry-index l.chronicle) l.number l.fn.subject.brokers l.places l.following

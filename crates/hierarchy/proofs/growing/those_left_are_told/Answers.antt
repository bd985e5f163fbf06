use Rattle.hierarchy.proofs.Steps.{lost_issue_fits, lost_issue_goes_on, lost_reply_fits, lost_reply_goes_on}
use Rattle.hierarchy.proofs.growing.those_left_are_told.Goals as goal

pub returns : goal.returns
returns c = record {
  issued = λ set d actor command on lost legal. record {
    legal = lost_issue_fits set d on actor lost command legal;
    on = lost_issue_goes_on set d on actor lost command legal;
  };
  told = λ set d actor command on lost waits. record {
    legal = lost_reply_fits set d on actor lost command waits;
    on = lost_reply_goes_on set d on actor lost command waits;
  };
}

use Rattle.hierarchy.proofs.Heads.{all_reserved}
use Rattle.hierarchy.proofs.Keeping.{all_due, all_fresh, all_heard, all_plain, all_rise}
use Rattle.hierarchy.proofs.Throughout.{all_fed, all_follow, all_grow, all_nested, all_sound, past_kept}
use Rattle.hierarchy.proofs.Watching.{all_told}
use Rattle.hierarchy.proofs.promises.a_true_run_keeps_its_promises.Goals as goal

pub returns : goal.returns
returns c set settled journal d written fits valid t = record {
  published = all_plain set d t.legal (λ past more split i h. (past_kept set d fits valid t.legal past more split i h).valid);
  reads = all_fresh set d t.legal;
  answered = all_heard set d t.legal;
  numbers = all_rise set d t.legal c.numbers_never_fall.ensures;
  due = all_due set d t.legal (λ past more split i h. (past_kept set d fits valid t.legal past more split i h).valid);
  grows = all_grow set d fits valid t.legal;
  follows = all_follow set d fits valid t.legal;
  fed = all_fed set d fits valid t.legal;
  told = all_told set d fits valid t.legal;
  reserved = all_reserved set d fits valid t.legal;
  live = all_sound set d fits valid t.legal;
  nested = all_nested set d fits valid t.legal;
  replied = record { once = t.whole.answered; no_other = t.whole.no_other };
}

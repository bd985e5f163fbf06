use Rattle.std.proofs.Common.{⊎_elim, arith}
use Rattle.job_queue.proofs.laws.a_queue_has_one_head.Goals as goal

pub returns : goal.returns
returns c = λ jobs id other a b.
    ⊎_elim
    (λ above. ⊎_elim (λ below. omega arith) (λ same. omega arith) (b.3 id a.0 a.1))
    (λ tied. ⊎_elim (λ below. omega arith) (λ same. omega arith) (b.3 id a.0 a.1))
    (a.3 other b.0 b.1)

use Rattle.std.proofs.Common.{sym, ap}
use Rattle.job_book.proofs.book.Book.desk.Goals as goal

pub returns-clause-seen : goal.returns-clause-seen
returns-clause-seen c = λ answer limits.
    let seen = c.plain_desk.ensures.seen answer limits in
    record {
      second = seen.second;
      jobs = seen.jobs;
      asked = seen.asked;
      policy = ap (λ v. v.policy) (sym c.self.view_is);
      old = seen.old;
      graph = seen.graph;
    }

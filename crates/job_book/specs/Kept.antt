-- What a book keeps besides: what makes each event of the table one that its job allows.
use Rattle.std.specs.Prelude.{◌≡◌}
use Rattle.std.specs.List.{AllByRecursion as Each}
use Rattle.job_deeds.specs.graph_match.Allotment.{Allotment}
use Rattle.job_deeds.specs.manager_rules.Sound.{AreInTime, holds_of}
use Rattle.job_deeds.specs.Waiting.{IsRanked}
use Rattle.job_book.specs.Contract.{IsKept}
use Rattle.job_book.specs.Value.{BookValue}

-- the grant with what live jobs hold of it
abbrev pub allotted : BookValue → Allotment
allotted book = record {
  grant = book.grant.nodes;
  expiration = book.grant.expiration;
  live = holds_of book.jobs;
}

pub record IsBook (book : BookValue) (holding : Allotment) : Type 0 where
  pub kept : IsKept book
  pub in_time : AreInTime book.jobs
  pub ranked : Each IsRanked book.jobs
  pub graph : holding ≡ allotted book

use Rattle.hostlist.proofs.PieceLemmas.{first_fault_here, many_hosts, few_hosts}
use Rattle.hostlist.proofs.ReadingLemmas.{err_reads}
use Rattle.hostlist.proofs.list.HostList.read.Goals as goal

pub returns-in_err-count_hosts-clause-read : goal.returns-in_err-count_hosts-clause-read
returns-in_err-count_hosts-clause-read c =
    err_reads c.from_residual.result c.in_err-count_hosts.field-0.0 _ _ c.from_residual.ensures.1 (first_fault_here c.args.text.now _ c.in_err-count_hosts.ensures)

pub returns-then-branch-gt-MOST_HOSTS-clause-read : goal.returns-then-branch-gt-MOST_HOSTS-clause-read
returns-then-branch-gt-MOST_HOSTS-clause-read c =
    many_hosts c.args.text.now _ c.in_ok-count_hosts.ensures.0 c.in_ok-count_hosts.ensures.1 c.if-branch-gt-MOST_HOSTS.true

pub returns-clause-read : goal.returns-clause-read
returns-clause-read c =
    ((few_hosts c.args.text.now _ c.in_ok-count_hosts.ensures.0 c.in_ok-count_hosts.ensures.1 c.if-branch-gt-MOST_HOSTS.false).0, c.in_ok-names.ensures.read.1)

use Rattle.std.proofs.Common.{sym}
use Rattle.workload_reader.proofs.References.{read_so, unread_so}
use Rattle.workload_reader.proofs.contents.reference.Goals as goal

pub returns-clause-some : goal.returns-clause-some
returns-clause-some c = rw (c.ok.ensures.value, sym c.as_bytes.ensures.value)
    (read_so c.as_bytes.result.now c.read.result c.read.ensures.well_formed c.read.ensures.only)

pub returns-clause-none : goal.returns-clause-none
returns-clause-none c = rw (c.ok.ensures.value, sym c.as_bytes.ensures.value)
    (unread_so c.as_bytes.result.now c.read.result c.read.ensures.only)

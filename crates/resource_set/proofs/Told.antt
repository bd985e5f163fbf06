-- The entries that values tell, one after another.
use Rattle.std.proofs.Common.{List, ◌++◌}
use Rattle.std.specs.Prelude.{Result, Ok, Err}
use Rattle.resource_set.specs.declared.entries.Entry.{Entry}
use Rattle.resource_set.specs.declared.faults.RFault.{RFault}

-- the entries so far, and those of the rest
abbrev pub with_front : List Entry → Result (List Entry) RFault → Result (List Entry) RFault
with_front front (Ok es) = Ok (front ++ es)
with_front front (Err e) = Err e

-- The texts of faults.
use Rattle.std.specs.Prelude.{ℕ, List, ◌++◌, codes, decimal}
use Rattle.outside.specs.declared.reading.ReadFault.{ReadFault}
use Rattle.outside.specs.declared.reading.ReadFault.TheVariants.{NoMemory, Failed, TooLong}
use Rattle.outside.specs.declared.writing.WriteFault.{WriteFault}

abbrev pub read_text : ReadFault → List ℕ
read_text NoMemory = codes "no memory"
read_text Failed = codes "read fault"
read_text TooLong = codes "input too long"

abbrev pub write_text : WriteFault → List ℕ
write_text fault = codes "write fault after " ++ decimal fault.written ++ codes " bytes"

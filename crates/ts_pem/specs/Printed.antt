-- What is printed of a fault.
use Rattle.std.specs.Prelude.{ℕ, List, ◌++◌, codes}
use Rattle.std.specs.Fmt.{decimal}
use Rattle.ts_pem.specs.declared.fault.PemFault.{PemFault}
use Rattle.ts_pem.specs.declared.fault.PemFault.TheVariants as faults

-- the number of a line, and what is wrong with it
abbrev pub line_text : ℕ → List ℕ → List ℕ
line_text line words = codes "line " ++ (decimal line ++ (codes ": " ++ words))

abbrev pub fault_text : PemFault → List ℕ
fault_text (faults.NoEnd line) = line_text line (codes "the block has no end")
fault_text (faults.NoBegin line) = line_text line (codes "the end of a block that has no begin")
fault_text (faults.OtherEnd line) = line_text line (codes "the end of another label")
fault_text (faults.NotBase64 line) = line_text line (codes "no base64")
fault_text faults.OutOfMemory = codes "out of memory"

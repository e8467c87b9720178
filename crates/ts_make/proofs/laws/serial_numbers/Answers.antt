use Rattle.ts_make.proofs.SerialNumbers.{serial-integer}
use Rattle.ts_make.proofs.laws.serial_numbers.Goals as goal

pub returns : goal.returns
returns c = serial-integer

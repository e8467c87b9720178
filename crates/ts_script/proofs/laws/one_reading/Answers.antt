-- Each word says one list of parts.
use Rattle.ts_script.proofs.OneParts.{one_parts}
use Rattle.ts_script.proofs.laws.one_reading.Goals as goal

pub returns : goal.returns
returns c = λ words parts others are also. one_parts words parts others are also

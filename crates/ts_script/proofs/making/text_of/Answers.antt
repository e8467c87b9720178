-- A name is text.
use Rattle.ts_script.proofs.Encoding.{IsName-IsUtf8}
use Rattle.ts_script.proofs.making.text_of.Goals as goal

pub returns-in-Err-clause-fault : goal.returns-in-Err-clause-fault
returns-in-Err-clause-fault c = λ is. absurd (c.in-Err.ensures.cases.0 (IsName-IsUtf8 c.args.name.now is))

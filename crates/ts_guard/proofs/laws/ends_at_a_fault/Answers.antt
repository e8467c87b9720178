use Rattle.ts_guard.proofs.Runs.{none_after}
use Rattle.ts_guard.proofs.laws.ends_at_a_fault.Goals as goal

pub returns : goal.returns
returns c key context fault events a b lasting is steps =
    none_after key context fault events a b lasting is steps

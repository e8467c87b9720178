-- What answers a `check` line, or refuses it.
use Rattle.std.proofs.Common.{◌≡◌, refl, List, ℕ, Result, Ok, Err, IfOk, IfErr, string_bytes}
use Rattle.std.specs.declared.string.String.{String}
use Rattle.std.specs.declared.alloc.Global.{Global}
use Rattle.ts_script.specs.declared.script.LineFault.{LineFault}
use Rattle.ts_script.specs.Known.{Entry}
use Rattle.ts_script.specs.CheckLine.{IsVerdictText, RefusesCheck}
use Rattle.ts_lab.specs.Says.{Answers, check_kind, kind_of}

-- what a `check` line is answered
pub check_answered : (known : List Entry) (line : List ℕ) (r : Result (String Global) LineFault) → kind_of line ≡ check_kind
    → IfOk r (λ text. IsVerdictText (string_bytes text)) → IfErr r RefusesCheck → Answers known line r known
check_answered known line (Ok text) kind said refused = rw kind (said, refl)
check_answered known line (Err fault) kind said refused = rw kind (refused, refl)

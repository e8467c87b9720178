-- A lab while it answers its script.
use Rattle.std.specs.Prelude.{ℕ, List, [], Option, None, Some, IfSome, Result, Ok, Err}
use Rattle.std.specs.Io.KnownBytes.{Appends}
use Rattle.ts_script.specs.declared.script.WrongLine.{WrongLine}
use Rattle.ts_lab.specs.declared.stream.StreamFault.{StreamFault}
use Rattle.ts_lab.specs.declared.stream.StreamFault.TheVariants as stream
use Rattle.ts_lab.specs.declared.scanner.Stop.{Stop}
use Rattle.ts_lab.specs.declared.scanner.Stop.TheVariants.{Wrong, Write}
use Rattle.ts_lab.specs.declared.scanner.Scanner.{Scanner}
use Rattle.ts_lab.specs.declared.scanner.ScanStep.{ScanStep}
use Rattle.ts_lab.specs.declared.scanner.ScanStep.TheVariants.{More, Done}
use Rattle.ts_lab.specs.inside.Scanner.{IsScanOf}
use Rattle.ts_lab.specs.Script.{lines_of, Run}

-- a script was answered up to its first wrong line, after what a writer held, with the answers of
-- the lines before it
abbrev pub IsRead : List ℕ → Option (List ℕ) → Option (List ℕ) → Option WrongLine → Type 0
IsRead script before after wrong =
    (text : List ℕ) × Run 1 [] (lines_of script) text wrong × Appends before after text

-- what the end of a script comes to, and what a piece of it does
abbrev pub done_in : {T : Type 0} → Result T Stop → Result ScanStep StreamFault
done_in (Ok _) = Ok (Done None)
done_in (Err (Wrong w)) = Ok (Done (Some w))
done_in (Err Write) = Err stream.Write

abbrev pub fed_in : {T : Type 0} → Result T Stop → Result ScanStep StreamFault
fed_in (Ok _) = Ok More
fed_in (Err (Wrong w)) = Ok (Done (Some w))
fed_in (Err Write) = Err stream.Write

-- a step of reading: from a reader that had the first left to one that has the second, and from a
-- writer to a writer
abbrev pub IsStep : Option (List ℕ) → Option (List ℕ) → Option (List ℕ) → Option (List ℕ) → Scanner
    → Scanner → Result ScanStep StreamFault → Type 0
IsStep left now before after old new (Ok More) =
    (script start : Option (List ℕ)) → IsScanOf script left start before old
    → IsScanOf script now start after new
IsStep left now before after old new (Ok (Done wrong)) =
    (script start : Option (List ℕ)) → IsScanOf script left start before old
    → IfSome script (λ xs. IsRead xs start after wrong)
IsStep left now before after old new (Err e) = Unit {0}

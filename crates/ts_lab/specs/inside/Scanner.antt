-- A script of which some octets have been taken, and others are to come.
use Rattle.std.specs.Prelude.{◌≡◌, ℕ, List, [], ◌++◌, Option, None, Some, Result, Ok, Err}
use Rattle.std.specs.Io.KnownBytes.{Appends}
use Rattle.ts_script.specs.declared.script.WrongLine.{WrongLine}
use Rattle.ts_lab.specs.declared.scanner.Scanner.{Scanner}
use Rattle.ts_lab.specs.declared.scanner.Stop.{Stop}
use Rattle.ts_lab.specs.declared.scanner.Stop.TheVariants.{Wrong, Write}
use Rattle.ts_script.specs.Pieces.{all_onto_first}
use Rattle.ts_script.specs.Known.{Entry, known_in}
use Rattle.ts_lab.specs.Says.{Says, Refuses}
use Rattle.ts_lab.specs.Script.{lines_of, Run}

-- lines of which the first has begun with these octets are answered as a run may answer them, after
-- what a writer held
unfoldable pub Ends : ℕ → List Entry → List ℕ → Option (List ℕ) → List ℕ → Option (List ℕ)
    → Option WrongLine → Type 0
Ends n known line before rest whole wrong =
    (text : List ℕ) × Run n known (all_onto_first line (lines_of rest)) text wrong
    × Appends before whole text

-- the same for a scanner, if these octets are the rest of the script
abbrev pub Owes : Scanner → Option (List ℕ) → List ℕ → Option (List ℕ) → Option WrongLine → Type 0
Owes s before rest whole wrong = Ends s.number
    (known_in s.known) s.line.items before rest whole wrong

-- an `Ok` took the piece, and an `Err` is the first wrong line, whatever is to come
abbrev pub Scans : {T : Type 0} → Scanner → Scanner → Option (List ℕ) → Option (List ℕ) → List ℕ
    → Result T Stop → Type 0
Scans old new before after piece (Ok _) =
    (rest : List ℕ) (whole : Option (List ℕ)) (wrong : Option WrongLine)
    → Owes new after rest whole wrong → Owes old before (piece ++ rest) whole wrong
Scans old new before after piece (Err (Wrong w)) =
    (rest : List ℕ) → Owes old before (piece ++ rest) after (Some w)
Scans old new before after piece (Err Write) = Unit {0}

-- the line that was read is answered
pub record HasSaid (old new : Scanner) (before after : Option (List ℕ)) : Type 0 where
  pub number : new.number ≡ old.number
  pub line : new.line.items ≡ old.line.items
  pub text : List ℕ
  pub says : Says (known_in old.known) old.line.items text (known_in new.known)
  pub written : Appends before after text

-- it is refused, and nothing is written
pub record HasRefused (old : Scanner) (before after : Option (List ℕ))
    (w : WrongLine) : Type 0 where
  pub number : w.number ≡ old.number
  pub refuses : Refuses (known_in old.known) old.line.items w.fault
  pub silent : after ≡ before

abbrev pub Finishes : {T : Type 0} → Scanner → Scanner → Option (List ℕ) → Option (List ℕ)
    → Result T Stop → Type 0
Finishes old new before after (Ok _) = HasSaid old new before after
Finishes old new before after (Err (Wrong w)) = HasRefused old before after w
Finishes old new before after (Err Write) = Unit {0}

-- the script ended where it was read up to
abbrev pub Closes : {T : Type 0} → Scanner → Option (List ℕ) → Option (List ℕ) → Result T Stop
    → Type 0
Closes old before after (Ok _) = Owes old before [] after None
Closes old before after (Err (Wrong w)) = Owes old before [] after (Some w)
Closes old before after (Err Write) = Unit {0}

-- the scanner has answered what a reader that had this script and has this left has given, where it
-- tells its octets, on a writer that held the third and holds the fourth
abbrev pub IsScanOf : Option (List ℕ) → Option (List ℕ) → Option (List ℕ) → Option (List ℕ)
    → Scanner → Type 0
IsScanOf None left start before s = Unit {0}
IsScanOf (Some script) None start before s = ⊥
IsScanOf (Some script) (Some left) start before s =
    (whole : Option (List ℕ)) (wrong : Option WrongLine) → Owes s before left whole wrong
    → Ends 1 [] [] start script whole wrong

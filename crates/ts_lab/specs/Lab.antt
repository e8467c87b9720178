-- The lab as a relation of octets: what it may write for a script, and the status that it ends
-- with.
use Rattle.std.specs.Prelude.{◌≡◌, ℕ, List, [], ◌++◌, Option}
use Rattle.std.specs.Io.KnownBytes.{Appends}
use Rattle.ts_script.specs.declared.script.WrongLine.{WrongLine}
use Rattle.ts_script.specs.Wrong.{text_of, status_of}
use Rattle.ts_lab.specs.Script.{lines_of, Run}

-- a script was answered: the answers of its lines, one line of output for the first wrong one, and
-- the status
pub record IsAnswered (script : List ℕ) (before after : Option (List ℕ)) (status : ℕ) : Type 0 where
  pub text : List ℕ
  pub wrong : Option WrongLine
  pub run : Run 1 [] (lines_of script) text wrong
  pub written : Appends before after (text ++ text_of wrong)
  pub ends : status ≡ status_of wrong

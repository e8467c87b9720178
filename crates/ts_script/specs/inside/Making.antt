-- What private clauses see of what is made of the words of a line.
use Rattle.std.specs.Prelude.{◌≡◌, ℕ, Bool, true, false, ◌≤◌, List, length, None, Result, Ok, Err}
use Rattle.std.specs.Global.{Vec}
use Rattle.ts_make.specs.declared.fault.MakeFault.{MakeFault}
use Rattle.ts_make.specs.declared.fault.MakeFault.TheVariants as make
use Rattle.ts_script.specs.declared.script.LineFault.{LineFault}
use Rattle.ts_script.specs.declared.script.LineFault.TheVariants.{Form, Name, Limit, Memory}
use Rattle.ts_script.specs.Known.{Entry, thing_named}
use Rattle.ts_script.specs.Objects.{Object, WordsOf, name_in, IsMade, most, Reads, RefusesWords}

-- what was made, unless the name is taken
abbrev pub unless_taken : Result (Vec ℕ) MakeFault → Bool → Result (Vec ℕ) LineFault
unless_taken (Err make.Memory) is_taken = Err Memory
unless_taken (Err (make.Unreadable fault)) is_taken = Err Form
unless_taken (Err make.TooLong) true = Err Name
unless_taken (Err make.TooLong) false = Err Limit
unless_taken (Ok octets) true = Err Name
unless_taken (Ok octets) false = Ok octets

-- the octets that words describe, by a name that is free; or why the words are refused
abbrev pub AnswersWords : (o : Object) → List Entry → WordsOf o → Result (Vec ℕ) LineFault → Type 0
AnswersWords o known c (Ok v) = IsMade o c v.items × (length v.items ≤ most o) × Reads o v.items
    × (thing_named known (name_in o c) ≡ None)
AnswersWords o known c (Err fault) = RefusesWords o known c fault

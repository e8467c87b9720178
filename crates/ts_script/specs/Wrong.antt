-- What is printed of a wrong line.
use Rattle.std.specs.Prelude.{ℕ, List, [], ◌∷◌, ◌++◌, Option, None, Some, codes}
use Rattle.std.specs.Fmt.{decimal}
use Rattle.hex.specs.declared.error.FromHexError.{FromHexError}
use Rattle.hex.specs.declared.error.FromHexError.TheVariants.{InvalidHexCharacter, OddLength}
use Rattle.hex.specs.declared.error.FromHexError.TheVariants.{InvalidStringLength, OutOfMemory}
use Rattle.ts_der.specs.declared.oid_text.OidTextError.{OidTextError}
use Rattle.ts_der.specs.declared.oid_text.OidTextError.TheVariants as text
use Rattle.ts_script.specs.declared.script.LineFault.{LineFault}
use Rattle.ts_script.specs.declared.script.LineFault.TheVariants.{Unknown, Form, Name, Limit}
use Rattle.ts_script.specs.declared.script.LineFault.TheVariants.{Message, Memory}
use Rattle.ts_script.specs.declared.script.WrongLine.{WrongLine}
use Rattle.ts_script.specs.declared.script.TheConstants.{LINE_FEED}

-- the word for a fault
abbrev pub fault_word : LineFault → List ℕ
fault_word Unknown = codes "unknown"
fault_word Form = codes "form"
fault_word Name = codes "name"
fault_word Limit = codes "limit"
fault_word Message = codes "message"
fault_word Memory = codes "memory"

-- a word whose octets can't be read is of no form, unless memory ran out
abbrev pub hex_fault : FromHexError → LineFault
hex_fault OutOfMemory = Memory
hex_fault OddLength = Form
hex_fault InvalidStringLength = Form
hex_fault (InvalidHexCharacter c index) = Form

-- so is a text that is no object identifier
abbrev pub oid_fault : OidTextError → LineFault
oid_fault text.Memory = Memory
oid_fault text.Form = Form

-- what is printed of a wrong line, before the line feed
abbrev pub wrong_line_text : WrongLine → List ℕ
wrong_line_text wrong = codes "line "
    ++ (decimal wrong.number ++ (codes ": " ++ fault_word wrong.fault))

-- one line of output for a wrong line, and none without one
abbrev pub text_of : Option WrongLine → List ℕ
text_of None = []
text_of (Some wrong) = wrong_line_text wrong ++ LINE_FEED ∷ []

-- success, or 2 for a wrong line
abbrev pub status_of : Option WrongLine → ℕ
status_of None = 0
status_of (Some wrong) = 2

-- What a `check` line says: the text of a verdict, or why it is refused. Which verdict it is, its
-- definitions say (`ts_path`); that the line asks for it is shown by examples.
use Rattle.std.specs.Prelude.{◌≡◌, ℕ, List, ◌++◌, codes}
use Rattle.ts_script.specs.declared.script.LineFault.{LineFault}
use Rattle.ts_script.specs.declared.script.LineFault.TheVariants.{Unknown, Form, Name, Limit}
use Rattle.ts_script.specs.declared.script.LineFault.TheVariants.{Message, Memory}

-- one line that begins as that of a verdict does
abbrev pub IsVerdictText : List ℕ → Type 0
IsVerdictText text = (words : List ℕ) × (text ≡ codes "check " ++ (words ++ codes "\n"))

-- the words are not those of such a line; a name has no certificate; there are more names than a
-- chain has certificates; or memory ran out
abbrev pub RefusesCheck : LineFault → Type 0
RefusesCheck Unknown = ⊥
RefusesCheck Form = Unit {0}
RefusesCheck Name = Unit {0}
RefusesCheck Limit = Unit {0}
RefusesCheck Message = ⊥
RefusesCheck Memory = Unit {0}

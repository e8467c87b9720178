-- A script as octets: its lines, and what they say one after the other, up to the first that is
-- refused.
use Rattle.std.specs.Prelude.{◌≡◌, ℕ, ◌+◌, List, [], ◌∷◌, ◌++◌, Option, None, Some, ◌==◌}
use Rattle.std.specs.Prelude.{if◌then◌else◌, ◌⊎◌}
use Rattle.ts_script.specs.declared.script.WrongLine.{WrongLine}
use Rattle.ts_script.specs.declared.script.TheConstants.{LINE_FEED}
use Rattle.ts_script.specs.Pieces.{onto_first}
use Rattle.ts_script.specs.Known.{Entry}
use Rattle.ts_lab.specs.Says.{Says, Refuses}

-- the lines, without what ends them: each line feed ends one, and the last may lack it
abbrev pub lines_of : List ℕ → List (List ℕ)
lines_of [] = []
lines_of (x ∷ xs) = if x == LINE_FEED then [] ∷ lines_of xs else onto_first x (lines_of xs)

-- these lines, the first of which has number n, are answered with the text, up to a wrong one or to
-- the end
abbrev pub Run : ℕ → List Entry → List (List ℕ) → List ℕ → Option WrongLine → Type 0
Run n known [] text wrong = (text ≡ []) × (wrong ≡ None)
Run n known (line ∷ lines) text wrong =
    ((w : WrongLine) × (wrong ≡ Some w) × (w.number ≡ n) × Refuses known line w.fault × (text ≡ []))
    ⊎ ((after : List Entry) × (said : List ℕ) × (rest : List ℕ) × Says known line said after
    × Run (n + 1) after lines rest wrong × (text ≡ said ++ rest))

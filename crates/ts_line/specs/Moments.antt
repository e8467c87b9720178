-- A moment, as a line shows it.
use Rattle.std.specs.Prelude.{◌≡◌, ℕ, ℤ, List}
use Rattle.ts_time.specs.Text.{IsGeneral}
use Rattle.ts_line.specs.Lines.{printable}

-- one of the years 0 to 9999 is a GeneralizedTime (RFC 5280 4.1.2.5.2)
abbrev pub IsMomentText : ℤ → List ℕ → Type 0
IsMomentText moment text =
    (general : List ℕ) → IsGeneral general moment → text ≡ printable general

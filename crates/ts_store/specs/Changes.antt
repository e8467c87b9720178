-- What a call that may refuse did to a table.
use Rattle.std.specs.Prelude.{◌≡◌, Option, Some, None, Result, Ok, Err}
use Rattle.ts_command.specs.declared.outcome.Refusal.{Refusal}

-- the table is what the rule makes of it; or the rule's refusal is answered, and the table is as
-- before
abbrev pub Becomes : {X : Type 0} → Option Refusal → X → X → Result X Refusal → Type 0
Becomes refusal old new (Ok x) = (refusal ≡ None) × (new ≡ x)
Becomes refusal old new (Err r) = (refusal ≡ Some r) × (new ≡ old)

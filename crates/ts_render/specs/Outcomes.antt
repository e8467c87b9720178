-- What a row says that its command came to, and the words for kinds of commands.
use Rattle.std.specs.Prelude.{ℕ, List, ◌==◌, Option, Some, None, option_map, codes}
use Rattle.std.specs.Prelude.{if◌then◌else◌}
use Rattle.ts_command.specs.declared.outcome.Outcome.{Outcome}
use Rattle.ts_command.specs.declared.outcome.Outcome.TheVariants.{Applied, Repeated, Refused}
use Rattle.ts_command.specs.Outcomes.{refusal_of_code}

-- an outcome and its detail: 0 applied, 1 repeated, 2 refused
abbrev pub outcome_of : ℕ → ℕ → Option Outcome
outcome_of outcome detail =
    if outcome == 0 then Some Applied
    else (if outcome == 1 then Some (Repeated detail)
    else (if outcome == 2 then option_map Refused (refusal_of_code detail) else None))

abbrev pub kind_word : ℕ → Option (List ℕ)
kind_word kind =
    if kind == 1 then Some (codes "add")
    else (if kind == 2 then Some (codes "withdraw")
    else (if kind == 3 then Some (codes "load")
    else (if kind == 4 then Some (codes "drop")
    else (if kind == 5 then Some (codes "purposes")
    else (if kind == 6 then Some (codes "noop") else None)))))

-- What is due behind a head, or a piece of a body, that was read.
use Rattle.std.specs.Prelude.{◌≡◌, true, false}
use Rattle.ts_http.specs.Reading.{is_due}
use Rattle.ts_http.specs.declared.connection.Stage.{Stage}
use Rattle.ts_http.specs.declared.reading.Progress.{Progress}
use Rattle.ts_http.specs.declared.reading.Progress.TheVariants.{Goes, Waits, Stops}

-- more, or nothing: what came is not taken
abbrev pub IsBehind : Stage → Progress → Type 0
IsBehind stage Goes = is_due stage ≡ true
IsBehind stage Waits = ⊥
IsBehind stage Stops = is_due stage ≡ false

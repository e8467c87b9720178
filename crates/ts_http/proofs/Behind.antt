-- What a read says, by what is due behind what it read.
use Rattle.std.proofs.Common.{Result, Ok, Err, IfOk, OnOk}
use Rattle.ts_http.specs.Reading.{FindsMore, Tells}
use Rattle.ts_http.specs.inside.Behind.{IsBehind}
use Rattle.ts_http.specs.declared.connection.Connection.{Connection}
use Rattle.ts_http.specs.declared.connection.Stage.{Stage}
use Rattle.ts_http.specs.declared.reading.Progress.{Progress}
use Rattle.ts_http.specs.declared.reading.Progress.TheVariants.{Goes, Waits, Stops}

pub told : {E : Type 0} (result : Result Progress E) (stage : Stage) (a b : Connection)
    → OnOk result (FindsMore stage a b) → IfOk result (IsBehind b.stage) → IfOk result (Tells stage a b)
told (Ok Goes) stage a b found is = (found, is)
told (Ok Waits) stage a b found is = absurd is
told (Ok Stops) stage a b found is = is
told (Err e) stage a b found is = tt

-- What a read says of the connection: whether there may be more to read.
use Rattle.std.specs.Prelude.{◌≡◌, Bool, true, false}
use Rattle.ts_http.specs.Moves.{HasAdded, HasBegun, HasStarved}
use Rattle.ts_http.specs.declared.connection.Connection.{Connection}
use Rattle.ts_http.specs.declared.connection.Stage.{Stage}
use Rattle.ts_http.specs.declared.connection.Stage.TheVariants as stages
use Rattle.ts_http.specs.declared.reading.Progress.{Progress}
use Rattle.ts_http.specs.declared.reading.Progress.TheVariants.{Goes, Waits, Stops}

-- a head, or more of a body, is due
abbrev pub is_due : Stage → Bool
is_due stages.Head = true
is_due (stages.Body r) = true
is_due other = false

-- where a head was due one was read; where more of a body was due, a piece of it
abbrev pub FindsMore : Stage → Connection → Connection → Type 0
FindsMore stages.Head a b = HasBegun a b
FindsMore (stages.Body r) a b = HasAdded r a b
FindsMore other a b = ⊥

-- What was due at this stage was read, and more is due; or less than that has come, and nothing
-- can be read before more does; or nothing is due: a request, or what is wrong, waits for its
-- response, or nothing more is answered.
abbrev pub Tells : Stage → Connection → Connection → Progress → Type 0
Tells stage a b Goes = FindsMore stage a b × (is_due b.stage ≡ true)
Tells stage a b Waits = (is_due stage ≡ true) × HasStarved a stage b
Tells stage a b Stops = is_due b.stage ≡ false

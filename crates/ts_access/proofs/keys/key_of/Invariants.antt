-- None of the keys before has the number.
use Rattle.std.proofs.Common.{◌≡◌, drop}
use Rattle.ts_access.specs.Keys.{key_found}
use Rattle.ts_access.proofs.keys.key_of.Given as goal

abbrev pub invariant-loop-key : goal.invariant-loop-key
invariant-loop-key l = key_found (drop l.key-index l.keys) l.id ≡ key_found l.keys l.id

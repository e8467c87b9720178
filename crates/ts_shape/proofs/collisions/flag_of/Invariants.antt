use Rattle.std.proofs.Common.{◌≡◌, drop}
use Rattle.ts_shape.specs.inside.Collisions.{hash_from}
use Rattle.ts_shape.proofs.collisions.flag_of.Given as goal

abbrev pub invariant-loop-octet : goal.invariant-loop-octet
invariant-loop-octet g l = hash_from l.factor 0 l.key ≡ hash_from l.factor l.hash (drop l.octet-index l.key)

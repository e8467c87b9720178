-- The object identifiers so far.
use Rattle.std.proofs.Common.{◌≡◌, take}
use Rattle.ts_sent.proofs.asking.copy_oids.Given as goal

abbrev pub invariant-loop-oid : goal.invariant-loop-oid
invariant-loop-oid l = l.copy.items ≡ take l.oid-index l.oid-items

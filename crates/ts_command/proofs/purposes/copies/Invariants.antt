use Rattle.std.proofs.Common.{◌≡◌, take}
use Rattle.ts_command.proofs.purposes.copies.Given as goal

abbrev pub invariant-loop-oid : goal.invariant-loop-oid
invariant-loop-oid l = l.copies.items ≡ take l.oid-index l.oids

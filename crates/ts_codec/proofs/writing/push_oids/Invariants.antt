use Rattle.std.proofs.Common.{◌≡◌, ◌++◌, take}
use Rattle.std.specs.List.{flat_map}
use Rattle.ts_codec.specs.Parts.{blob8}
use Rattle.ts_codec.proofs.writing.push_oids.Given as goal

abbrev pub invariant-loop-oid : goal.invariant-loop-oid
invariant-loop-oid l = l.out.items ≡ l.fn.out.items ++ flat_map blob8 (take l.oid-index l.oids)

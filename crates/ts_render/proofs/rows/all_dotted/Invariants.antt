-- The texts of those that were taken.
use Rattle.std.proofs.Common.{◌≡◌, map, take, string_bytes}
use Rattle.ts_line.specs.Names.{dotted_form}
use Rattle.ts_render.proofs.rows.all_dotted.Given as goal

abbrev pub invariant-loop-oid : goal.invariant-loop-oid
invariant-loop-oid l = map string_bytes l.texts.items ≡ map dotted_form (take l.oid-index l.oids)

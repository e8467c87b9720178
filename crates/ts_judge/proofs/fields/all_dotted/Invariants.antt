-- The texts so far are those of the object identifiers so far.
use Rattle.std.proofs.Common.{◌≡◌, map, take, string_bytes}
use Rattle.ts_line.specs.Names.{dotted_form}
use Rattle.ts_judge.proofs.fields.all_dotted.Given as goal

abbrev pub invariant-loop-oid : goal.invariant-loop-oid
invariant-loop-oid l = map string_bytes l.texts.items ≡ map dotted_form (map (λ p. p.content.now) (take l.oid-index l.oids))

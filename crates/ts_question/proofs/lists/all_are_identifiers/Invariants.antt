use Rattle.std.proofs.Common.{◌≡◌, drop}
use Rattle.std.specs.List.{list_all}
use Rattle.ts_der.specs.ObjectIdentifier.{is_oid}
use Rattle.ts_question.proofs.lists.all_are_identifiers.Given as goal

abbrev pub invariant-loop-oid : goal.invariant-loop-oid
invariant-loop-oid l = list_all is_oid (drop l.oid-index l.oids) ≡ list_all is_oid l.oids

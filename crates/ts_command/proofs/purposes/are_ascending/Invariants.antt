use Rattle.std.proofs.Common.{◌≡◌, ◌∷◌, drop}
use Rattle.std.specs.List.{list_all}
use Rattle.ts_der.specs.ObjectIdentifier.{is_oid}
use Rattle.ts_command.specs.Purposes.{is_ascending}
use Rattle.ts_command.proofs.purposes.are_ascending.Given as goal

abbrev pub invariant-loop-oid : goal.invariant-loop-oid
invariant-loop-oid l = record {
  ascending : is_ascending (l.before.content.now ∷ drop l.oid-index l.others) ≡ is_ascending l.oids;
  identifiers : list_all is_oid (drop l.oid-index l.others) ≡ list_all is_oid l.oids;
}

use Rattle.std.proofs.Common.{◌≡◌, ◌*◌, ◌^◌, ◌<◌, drop}
use Rattle.ts_constraint.specs.inside.Ranges.{number, number_from}
use Rattle.ts_constraint.proofs.masked.number.Given as goal

abbrev pub invariant-loop-octet : goal.invariant-loop-octet
invariant-loop-octet l = record { digits : number_from l.number (drop l.octet-index l.octets) ≡ number l.octets; fits : l.number < 2 ^ (8 * l.octet-index) }

use Rattle.std.proofs.Common.{◌≡◌, drop}
use Rattle.ts_crl.specs.inside.Endings.{ending_of, with_octets}
use Rattle.ts_crl.proofs.endings.ending.Given as goal

abbrev pub invariant-loop-octet : goal.invariant-loop-octet
invariant-loop-octet l = ending_of l.fn.serial ≡ with_octets l.ending (drop l.octet-index l.octet-items)

-- The numbers of the octets that were taken.
use Rattle.std.proofs.Common.{◌≡◌, take}
use Rattle.ts_render.proofs.fields.numbers.Given as goal

abbrev pub invariant-loop-octet : goal.invariant-loop-octet
invariant-loop-octet l = l.numbers.items ≡ take l.octet-index l.octets

-- The strings so far.
use Rattle.std.proofs.Common.{◌≡◌, map, take}
use Rattle.ts_sent.proofs.asking.copy_strings.Given as goal

abbrev pub invariant-loop-octets : goal.invariant-loop-octets
invariant-loop-octets l = l.copy ≡ map (λ octets. octets.items) (take l.octets-index l.octets-items)

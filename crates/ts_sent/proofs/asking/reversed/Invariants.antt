-- The strings so far, the last first.
use Rattle.std.proofs.Common.{◌≡◌, map, reverse, take}
use Rattle.ts_sent.proofs.asking.reversed.Given as goal

abbrev pub invariant-loop-octets : goal.invariant-loop-octets
invariant-loop-octets l = map (λ octets. octets.items) l.copies.items
    ≡ reverse (map (λ octets. octets.items) (take l.octets-index l.strings))

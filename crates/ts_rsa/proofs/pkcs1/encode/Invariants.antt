use Rattle.std.proofs.Common.{◌≡◌, ◌∷◌, replicate}
use Rattle.ts_rsa.proofs.pkcs1.encode.Given as goal

abbrev pub invariant-loop-filled : goal.invariant-loop-filled
invariant-loop-filled l = l.octets.items ≡ 0 ∷ 1 ∷ replicate l.filled 255

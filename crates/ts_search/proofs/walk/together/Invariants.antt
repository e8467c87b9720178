use Rattle.std.proofs.Common.{◌≡◌, ◌∷◌, take}
use Rattle.ts_search.proofs.walk.together.Given as goal

abbrev pub invariant-loop-cert : goal.invariant-loop-cert
invariant-loop-cert l = l.certificates.items ≡ l.leaf ∷ take l.cert-index l.pool

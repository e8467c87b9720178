use Rattle.std.proofs.Common.{◌≡◌, map, take, suc}
use Rattle.ts_answer.proofs.verdicts.places_of.Given as goal

abbrev pub invariant-loop-place : goal.invariant-loop-place
invariant-loop-place l = l.places.items ≡ map suc (take l.place-index l.chain)

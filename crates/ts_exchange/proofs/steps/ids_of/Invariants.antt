use Rattle.std.proofs.Common.{◌≡◌, map, take}
use Rattle.ts_exchange.proofs.steps.ids_of.Given as goal

abbrev pub invariant-loop-value : goal.invariant-loop-value
invariant-loop-value l = l.ids.items ≡ map (λ v. v.id) (take l.value-index l.values)

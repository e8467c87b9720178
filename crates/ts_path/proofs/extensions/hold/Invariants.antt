-- One of all stands for it exactly where one of those left does.
use Rattle.std.proofs.Common.{◌≡◌, length, map}
use Rattle.std.specs.List.{list_any}
use Rattle.ts_path.specs.Purposes.{stands_for}
use Rattle.ts_path.proofs.extensions.hold.Given as goal

abbrev pub invariant-loop-rest : goal.invariant-loop-rest
invariant-loop-rest l = list_any (stands_for l.asked) (map (λ p. p.now) l.purposes) ≡ list_any (stands_for l.asked) (map (λ p. p.now) l.rest)

abbrev pub decreases-loop-rest : goal.decreases-loop-rest
decreases-loop-rest l = length l.rest

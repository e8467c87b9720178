use Rattle.std.proofs.Common.{◌≡◌, ◌++◌, ◌≤◌, [], take, length, map}
use Rattle.ts_policy.specs.inside.Layers.{firsts, newest}
use Rattle.ts_policy.specs.inside.Links.{link_in}
use Rattle.ts_policy.proofs.policies.firsts.Given as goal

abbrev pub invariant-loop-i : goal.invariant-loop-i
invariant-loop-i l =
    (l.i ≤ length l.layers)
    × (map (λ x. x.content.now) l.found.items ++ firsts (newest (λ v. map link_in v.items) [] (take l.i l.layers)) l.alive ≡ firsts (newest (λ v. map link_in v.items) [] l.layers) l.fn.ends)

abbrev pub decreases-loop-i : goal.decreases-loop-i
decreases-loop-i l = l.i

use Rattle.std.proofs.Common.{refl}
use Rattle.ts_name.proofs.CanonOrder.{items-same, rest-same, none-left}
use Rattle.ts_name.proofs.ordering.are_one.Goals as goal

pub returns-then-not-same : goal.returns-then-not-same
returns-then-not-same c =
    (λ t. absurd cc, λ same. c.if-not-same.ensures.1 (items-same c.args.a.now c.args.b.now c.loop-i.i _ _ c.loop-i-test.true c.if-a-b.false (c.loop-i.invariant.0 same)))

pub loop-i-preserved : goal.loop-i-preserved
loop-i-preserved c =
    let next = rest-same c.args.a.now c.args.b.now c.loop-i.i _ _ c.loop-i-test.true c.if-a-b.false (c.if-not-same.ensures.0 refl) in
    (λ same. next.0 (c.loop-i.invariant.0 same), λ rest. c.loop-i.invariant.1 (next.1 rest))

pub returns : goal.returns
returns c = (λ t. c.loop-i.invariant.1 (none-left c.args.a.now c.args.b.now c.loop-i.i c.loop-i-test.false c.if-a-b.false), λ same. refl)

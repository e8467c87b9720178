-- No room where a fact does not fit, or the facts are too long.
use Rattle.std.proofs.Common.{arith}
use Rattle.ts_node.proofs.Rooms.{fit_here, no_less}
use Rattle.ts_node.proofs.room.room_for.Goals as goal

pub returns-in_default-clause-none : goal.returns-in_default-clause-none
returns-in_default-clause-none g c = λ fit short.
    let octets = g.C.Codec.octets in
    let less = no_less octets c.args.facts.now c.loop-fact.fact-index c.fact-item.result c.loop-fact-test.true c.fact-item.is in
    (rw c.in_default.is at c.in_ok-more.ensures.none) (fit_here octets c.args.facts.now c.loop-fact.fact-index c.fact-item.result c.loop-fact-test.true c.fact-item.is fit) (omega arith)

pub returns-then-size-more-gt-MAX_BODY-clause-none : goal.returns-then-size-more-gt-MAX_BODY-clause-none
returns-then-size-more-gt-MAX_BODY-clause-none g c = λ fit short.
    let octets = g.C.Codec.octets in
    let less = no_less octets c.args.facts.now c.loop-fact.fact-index c.fact-item.result c.loop-fact-test.true c.fact-item.is in
    let found = rw c.in-Some.is at c.in_ok-more.ensures.some in
    omega (arith, less, short, found.1, c.loop-fact.invariant.size, c.if-size-more-gt-MAX_BODY.true)

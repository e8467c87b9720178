use Rattle.std.proofs.Common.{◌≡◌, ◌+◌, ◌-◌, inl, inr, take, drop, refl, ap, arith, length-drop}
use Rattle.std.proofs.lemmas.List.{take_rest}
use Rattle.ts_record.proofs.Walk.{opening, one_block, stop_at_end, stop_at_length, stop_at_body, no_facts}
use Rattle.ts_record.proofs.blocks.read_blocks.Goals as goal

pub returns-clause-fault : goal.returns-clause-fault
returns-clause-fault g c =
    let at = c.loop-at.at in
    inr (at, refl, (c.loop-at.facts.items, at, c.loop-at.invariant, stop_at_end g.C.Codec.octets c.args.layout c.args.octets.now at c.loop-at-test.false))

pub returns-in_default-clause-fault : goal.returns-in_default-clause-fault
returns-in_default-clause-fault g c =
    let at = c.loop-at.at in
    let image = c.args.octets.now in
    inr (
      at + 1,
      refl,
      (
        c.loop-at.facts.items,
        at,
        c.loop-at.invariant,
        stop_at_length
            g.C.Codec.octets c.args.layout image _ at c.loop-at-test.true c.if-octets-at-eq0.false
            (take_rest image (at + 1)) (rw c.in_default.is at c.length_at.ensures),
      ),
    )

pub returns-then-octets-body-clause-fault : goal.returns-then-octets-body-clause-fault
returns-then-octets-body-clause-fault g c =
    let at = c.loop-at.at in
    let image = c.args.octets.now in
    let n = c.in-Some.size in
    let o = opening c.args.layout image _ at n c.loop-at-test.true c.if-octets-at-eq0.false (take_rest image (at + 1)) c.in-Some.ensures.0 c.in-Some.ensures.1 in
    inr (
      at + 5,
      refl,
      (
        c.loop-at.facts.items,
        at,
        c.loop-at.invariant,
        stop_at_body
            g.C.Codec.octets c.args.layout image at n o
            (inl (omega (arith, c.if-octets-body.true, length-drop (at + 5) image))),
      ),
    )

pub returns-then-not-branch-clause-fault : goal.returns-then-not-branch-clause-fault
returns-then-not-branch-clause-fault g c =
    let at = c.loop-at.at in
    let image = c.args.octets.now in
    let n = c.in-Some.size in
    let o = opening c.args.layout image _ at n c.loop-at-test.true c.if-octets-at-eq0.false (take_rest image (at + 1)) c.in-Some.ensures.0 c.in-Some.ensures.1 in
    let size : at + 5 + n - (at + 5) ≡ n = omega arith in
    inr (
      at + 5,
      refl,
      (
        c.loop-at.facts.items,
        at,
        c.loop-at.invariant,
        stop_at_body
            g.C.Codec.octets c.args.layout image at n o
            (inr (no_facts g.C.Codec.octets _ _ (ap (λ k. take k (drop (at + 5) image)) size)
            (c.in_ok-read_facts.ensures.none c.if-not-branch.true))),
      ),
    )

pub loop-at-preserved : goal.loop-at-preserved
loop-at-preserved g c =
    let at = c.loop-at.at in
    let image = c.args.octets.now in
    let n = c.in-Some.size in
    let o = opening c.args.layout image _ at n c.loop-at-test.true c.if-octets-at-eq0.false (take_rest image (at + 1)) c.in-Some.ensures.0 c.in-Some.ensures.1 in
    let size : at + 5 + n - (at + 5) ≡ n = omega arith in
    let found = c.in_ok-read_facts.ensures.found c.if-not-branch.false in
    one_block g.C.Codec.octets c.args.layout image c.loop-at.facts.items
    c.read_facts.new.facts.items found.0 at n _ c.loop-at.invariant o
    (omega (arith, c.if-octets-body.false, length-drop (at + 5) image))
    (ap (λ k. take k (drop (at + 5) image)) size) found.1 found.2 found.3

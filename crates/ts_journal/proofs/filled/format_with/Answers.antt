use Rattle.std.proofs.Common.{arith, [], ◌∷◌, subst}
use Rattle.ts_journal.specs.Images.{Header, bodies_in, Begins}
use Rattle.ts_journal.proofs.Filling as fill
use Rattle.ts_journal.proofs.Rewrites.{on_ok}
use Rattle.ts_journal.proofs.filled.format_with.Goals as goal

pub returns-in_err-lay-clause-moments : goal.returns-in_err-lay-clause-moments
returns-in_err-lay-clause-moments g c = λ first second blocks is.
    let state = g.D.Disk.state in
    let h : Header = record { node = c.args.node; nodes = c.args.nodes; group = c.args.group; generation = 1 } in
    fill.pairs h (bodies_in blocks) (state c.args.a.now) (state c.args.b.now) (state c.args.a.now) (state c.lay.new.disk)
    (fill.nothing_yet h (bodies_in blocks) (state c.args.a.now) (state c.args.a.now) (fill.rests (state c.args.a.now) (g.D.Disk.lawful c.args.a.now) first))
    (c.lay.ensures.moments second)

pub returns-in_err-lay-2-clause-moments : goal.returns-in_err-lay-2-clause-moments
returns-in_err-lay-2-clause-moments g c = λ first second blocks is.
    let state = g.D.Disk.state in
    let h : Header = record { node = c.args.node; nodes = c.args.nodes; group = c.args.group; generation = 1 } in
    fill.pairs h (bodies_in blocks) (state c.args.a.now) (state c.args.b.now) (state c.lay-2.new.disk) (state c.lay.new.disk)
    (fill.nothing_yet h (bodies_in blocks) (state c.args.a.now) (state c.lay-2.new.disk) (c.lay-2.ensures.moments first))
    (c.lay.ensures.moments second)

pub returns-clause-moments : goal.returns-clause-moments
returns-clause-moments g c = λ first second blocks is.
    let state = g.D.Disk.state in
    let h : Header = record { node = c.args.node; nodes = c.args.nodes; group = c.args.group; generation = 1 } in
    fill.pairs h (bodies_in blocks) (state c.args.a.now) (state c.args.b.now) (state c.put.new.disk) (state c.lay.new.disk)
    (fill.opens_gate h (bodies_in blocks) (state c.args.a.now) (state c.lay-2.new.disk) (state c.put.new.disk) (c.lay-2.ensures.moments first)
    (fill.stands_shut h blocks c.args.text.now (state c.lay-2.new.disk).read is
    (subst (λ octets. Begins octets c.args.text.now (state c.lay-2.new.disk).read)
    c.head_octets-2.ensures c.in_ok-lay-2.ensures.begun)) c.put.ensures.moments)
    (c.lay.ensures.moments second)

pub returns-clause-first : goal.returns-clause-first
returns-clause-first g c =
    let state = g.D.Disk.state in
    let h : Header = record { node = c.args.node; nodes = c.args.nodes; group = c.args.group; generation = 1 } in
    fill.gate_opened h c.args.text.now (state c.lay-2.new.disk).read (state c.put.new.disk).read
    c.put.result (subst (λ octets. Begins octets c.args.text.now (state c.lay-2.new.disk).read)
    c.head_octets-2.ensures c.in_ok-lay-2.ensures.begun) c.put.ensures.written

pub returns-clause-second : goal.returns-clause-second
returns-clause-second g c =
    let state = g.D.Disk.state in
    on_ok c.put.result (subst (λ octets. Begins octets (0 ∷ []) (state c.lay.new.disk).read) c.head_octets.ensures c.in_ok-lay.ensures.begun)

pub returns-clause-opens : goal.returns-clause-opens
returns-clause-opens g c =
    let state = g.D.Disk.state in
    fill.opens_now (record { node = c.args.node; nodes = c.args.nodes }) c.args.group
    c.args.text.now (state c.lay-2.new.disk).read (state c.put.new.disk) (state c.lay.new.disk)
    c.put.result c.requires.node_from c.requires.node_to c.requires.nodes_to (grind arith)
    c.in_ok-lay.ensures.durable (subst (λ octets. Begins octets c.args.text.now (state c.lay-2.new.disk).read) c.head_octets-2.ensures c.in_ok-lay-2.ensures.begun)
    (subst (λ octets. Begins octets (0 ∷ []) (state c.lay.new.disk).read) c.head_octets.ensures c.in_ok-lay.ensures.begun) c.put.ensures.durable c.put.ensures.written

use Rattle.std.proofs.Common.{◌∙◌}
use Rattle.ts_record.proofs.Reopened.{stays_durable, refused_fault, stays, untouched, nothing_new}
use Rattle.ts_record.proofs.opening.open_disks.Goals as goal

pub returns-in_default-clause-fault : goal.returns-in_default-clause-fault
returns-in_default-clause-fault g c =
    let state = g.D.Disk.state in
    refused_fault g.C.Codec.octets (state c.args.a.now) (state c.args.b.now) (state c.read.new.self)
    (state c.read-2.new.self) c.deref-in_default.result.now c.deref-in_default-2.result.now
    c.refusal.result
    (c.deref-in_default.ensures.value ∙ c.in_ok-first.ensures.octets ∙ c.sync.ensures.same)
    (c.deref-in_default-2.ensures.value ∙ c.in_ok-second.ensures.octets ∙ c.sync-2.ensures.same)
    c.refusal.ensures

pub returns-clause-durable_a : goal.returns-clause-durable_a
returns-clause-durable_a g c =
    let state = g.D.Disk.state in
    stays_durable (state c.sync.new.self) (state c.read.new.self) c.in_ok-sync.ensures.durable c.read.ensures.call c.read.ensures.same

pub returns-clause-durable_b : goal.returns-clause-durable_b
returns-clause-durable_b g c =
    let state = g.D.Disk.state in
    stays_durable (state c.sync-2.new.self) (state c.read-2.new.self) c.in_ok-sync-2.ensures.durable c.read-2.ensures.call c.read-2.ensures.same

pub returns-clause-moments : goal.returns-clause-moments
returns-clause-moments g c =
    let state = g.D.Disk.state in
    let a = c.args.a.now in
    let b = c.args.b.now in
    let first = stays (state a) (state a) (state c.sync.new.self) (g.D.Disk.lawful a) (untouched (state a) (g.D.Disk.lawful a)) c.sync.ensures.call in
    let second = stays (state b) (state b) (state c.sync-2.new.self) (g.D.Disk.lawful b) (untouched (state b) (g.D.Disk.lawful b)) c.sync-2.ensures.call in
    nothing_new (state a) (state b) (state c.read.new.self) (state c.read-2.new.self)
    (stays (state a) (state c.sync.new.self) (state c.read.new.self) (g.D.Disk.lawful c.sync.new.self) first c.read.ensures.call)
    (stays (state b) (state c.sync-2.new.self) (state c.read-2.new.self) (g.D.Disk.lawful c.sync-2.new.self) second c.read-2.ensures.call)

use Rattle.std.proofs.Common.{ap, sym, ◌∙◌}
use Rattle.ts_disk.specs.Past.{history}
use Rattle.ts_disk.specs.declared.call.DiskCall.TheVariants.{Read}
use Rattle.ts_disk.specs.Replays.{moment_after, read_same, reads}
use Rattle.ts_disk.proofs.memory.MemDiskDisk.read.Goals as goal

pub invariant_of-self-in-Ok : goal.invariant_of-self-in-Ok
invariant_of-self-in-Ok c =
    let m = c.args.self.now in
    record { bounded = m.bounded; replayed = m.replayed ∙ sym (ap (λ cs. (history m.first.items cs).read) c.in-Ok.ensures.kept ∙ read_same m.first.items m.calls.items) }

pub returns-in-Ok-clause-call : goal.returns-in-Ok-clause-call
returns-in-Ok-clause-call c =
    let m = c.args.self.now in
    reads m.first.items m.calls.items c.keep.new.calls.items m.octets.items m.octets.items m.failures m.failures c.in-Ok.ensures.kept

pub returns-in-Ok-clause-counted : goal.returns-in-Ok-clause-counted
returns-in-Ok-clause-counted c =
    let m = c.args.self.now in
    moment_after m.first.items m.calls.items c.keep.new.calls.items Read c.in-Ok.ensures.kept

use Rattle.std.proofs.Common.{◌≤◌, length, ap, sym, ◌∙◌, arith}
use Rattle.ts_disk.specs.Disk.{overwrite}
use Rattle.ts_disk.specs.Past.{history}
use Rattle.ts_disk.specs.declared.call.DiskCall.TheVariants.{Write}
use Rattle.ts_disk.specs.Replays.{moment_after, write_same, writes, torn_written}
use Rattle.ts_disk.proofs.memory.MemDiskDisk.write_at.Goals as goal

pub invariant_of-self-in-Ok : goal.invariant_of-self-in-Ok
invariant_of-self-in-Ok c =
    let m = c.args.self.now in
    let past = history m.first.items m.calls.items in
    let kept = c.in-Ok.ensures.kept in
    let within : c.args.at ≤ length past.read = omega (arith, c.requires, ap length m.replayed) in
    let torn = torn_written c.args.at m.octets.items c.args.octets.now c.requires in
    let later = ap (λ cs. (history m.first.items cs).read) kept.2 ∙ write_same m.first.items m.calls.items c.args.at kept.0 within in
    record {
      bounded = omega (arith, ap length c.in-Ok.ensures.written, torn.no_longer, m.bounded, c.if-octets-at.false);
      replayed = c.in-Ok.ensures.written ∙ ap (λ o. overwrite o c.args.at c.args.octets.now) m.replayed ∙ ap (λ n. overwrite past.read c.args.at n) (sym kept.1) ∙ sym later;
    }

pub returns-in-Ok-clause-call : goal.returns-in-Ok-clause-call
returns-in-Ok-clause-call c =
    let m = c.args.self.now in
    let kept = c.in-Ok.ensures.kept in
    writes m.first.items m.calls.items c.write.new.calls.items m.octets.items c.write.new.old.items m.failures m.failures c.args.at (length c.args.octets.now) kept.0 (ap length (sym kept.1)) kept.2

pub returns-in-Ok-clause-counted : goal.returns-in-Ok-clause-counted
returns-in-Ok-clause-counted c =
    let m = c.args.self.now in
    let kept = c.in-Ok.ensures.kept in
    moment_after m.first.items m.calls.items c.write.new.calls.items (Write c.args.at kept.0) kept.2

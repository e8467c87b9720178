use Rattle.ts_file.specs.History.{disk_after}
use Rattle.ts_file.specs.Laws.{synced_call}
use Rattle.ts_file.proofs.file.FileDiskDisk.sync.Goals as goal

pub returns-in-Ok-clause-call : goal.returns-in-Ok-clause-call
returns-in-Ok-clause-call g c =
    let disk = c.args.self.now in
    let past = disk_after disk.file.history.events in
    let later = c.sync.new.self.history.events in
    synced_call disk.file.history.events later past.read (disk_after later).read disk.failures disk.failures c.in-Ok.ensures.done

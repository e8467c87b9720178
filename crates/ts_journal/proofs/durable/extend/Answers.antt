use Rattle.std.proofs.lemmas.Result.{on_ok_weaker}
use Rattle.ts_journal.proofs.Moments.{and_then}
use Rattle.ts_journal.proofs.Extend.{Appends, first, second, opened}
use Rattle.ts_journal.proofs.durable.extend.Goals as goal

pub returns-in_err-put-clause-moments : goal.returns-in_err-put-clause-moments
returns-in_err-put-clause-moments g c =
    let state = g.D.Disk.state in
    first c.args.end c.args.text.now (state c.args.disk.now) (state c.put.new.disk) c.requires.closed c.put.ensures.moments

pub returns-clause-moments : goal.returns-clause-moments
returns-clause-moments g c =
    let state = g.D.Disk.state in
    and_then (Appends c.args.end c.args.text.now (state c.args.disk.now).read) (state c.args.disk.now) (state c.put.new.disk) (state c.put-2.new.disk)
    (first c.args.end c.args.text.now (state c.args.disk.now) (state c.put.new.disk) c.requires.closed c.put.ensures.moments)
    (second c.args.end c.args.text.now (state c.args.disk.now) (state c.put.new.disk) (state c.put-2.new.disk) c.requires.closed c.in_ok-put.ensures.written c.put-2.ensures.moments)

pub returns-clause-opened : goal.returns-clause-opened
returns-clause-opened g c =
    let state = g.D.Disk.state in
    on_ok_weaker c.put-2.result
    (opened c.args.end c.args.text.now (state c.args.disk.now).read (state c.put.new.disk).read
    (state c.put-2.new.disk).read c.requires.closed c.in_ok-put.ensures.written)
    c.put-2.ensures.written

use Rattle.std.proofs.Common.{sym, ◌∙◌, subst, arith}
use Rattle.ts_journal.specs.Images.{IsShut}
use Rattle.ts_journal.proofs.Filling.{closed_first, zeros, synced, laid}
use Rattle.ts_journal.proofs.filled.lay.Goals as goal

pub begin-requires-clause-shut : goal.begin-requires-clause-shut
begin-requires-clause-shut g c = subst IsShut (sym (c.sync.ensures.same ∙ c.in_ok-write_at.ensures.written)) (closed_first (g.D.Disk.state c.args.disk.now).read)

pub returns-in_err-write_at-clause-moments : goal.returns-in_err-write_at-clause-moments
returns-in_err-write_at-clause-moments g c = λ fresh.
    let state = g.D.Disk.state in
    (zeros (state c.args.disk.now) (state c.write_at.new.self) _ (omega arith) (g.D.Disk.lawful c.args.disk.now) fresh c.write_at.ensures.call).run

pub returns-in_err-sync-clause-moments : goal.returns-in_err-sync-clause-moments
returns-in_err-sync-clause-moments g c = λ fresh.
    let state = g.D.Disk.state in
    (synced (state c.args.disk.now) (state c.write_at.new.self) (state c.sync.new.self)
    (zeros (state c.args.disk.now) (state c.write_at.new.self) _ (omega arith) (g.D.Disk.lawful c.args.disk.now) fresh c.write_at.ensures.call) c.sync.ensures.call).run

pub returns-clause-moments : goal.returns-clause-moments
returns-clause-moments g c = λ fresh.
    let state = g.D.Disk.state in
    laid (state c.args.disk.now) (state c.sync.new.self) (state c.begin.new.disk)
    (synced (state c.args.disk.now) (state c.write_at.new.self) (state c.sync.new.self)
    (zeros (state c.args.disk.now) (state c.write_at.new.self) _ (omega arith) (g.D.Disk.lawful c.args.disk.now) fresh c.write_at.ensures.call) c.sync.ensures.call) c.begin.ensures.moments

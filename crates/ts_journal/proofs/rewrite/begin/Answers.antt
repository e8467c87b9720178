use Rattle.std.proofs.Common.{length, ◌∙◌, ap, subst, sym}
use Rattle.ts_disk.specs.Disk.{overwrite}
use Rattle.ts_journal.specs.Images.{Begins}
use Rattle.ts_journal.proofs.Rewrites.{on_ok, begins, head_writes, rest_writes, syncs}
use Rattle.ts_journal.proofs.rewrite.begin.Goals as goal

pub returns-in_err-write_at-clause-moments : goal.returns-in_err-write_at-clause-moments
returns-in_err-write_at-clause-moments g c =
    let state = g.D.Disk.state in
    (head_writes (state c.args.disk.now) (state c.write_at.new.self) _ c.requires.length (g.D.Disk.lawful c.args.disk.now) c.requires.durable c.requires.shut c.write_at.ensures.call).run

pub returns-in_err-write_at-2-clause-moments : goal.returns-in_err-write_at-2-clause-moments
returns-in_err-write_at-2-clause-moments g c =
    let state = g.D.Disk.state in
    (rest_writes (state c.args.disk.now) (state c.write_at.new.self) (state c.write_at-2.new.self) (length c.args.text.now)
    (head_writes (state c.args.disk.now) (state c.write_at.new.self) _ c.requires.length (g.D.Disk.lawful c.args.disk.now) c.requires.durable c.requires.shut c.write_at.ensures.call)
    c.write_at-2.ensures.call).run

pub returns-clause-moments : goal.returns-clause-moments
returns-clause-moments g c =
    let state = g.D.Disk.state in
    (syncs (state c.args.disk.now) (state c.write_at-2.new.self) (state c.sync.new.self)
    (rest_writes (state c.args.disk.now) (state c.write_at.new.self) (state c.write_at-2.new.self) (length c.args.text.now)
    (head_writes (state c.args.disk.now) (state c.write_at.new.self) _ c.requires.length (g.D.Disk.lawful c.args.disk.now) c.requires.durable c.requires.shut c.write_at.ensures.call)
    c.write_at-2.ensures.call) c.sync.ensures.call).run

pub returns-clause-begun : goal.returns-clause-begun
returns-clause-begun g c =
    let state = g.D.Disk.state in
    on_ok c.sync.result (subst (Begins c.args.octets.now c.args.text.now)
    (sym (c.sync.ensures.same ∙ c.in_ok-write_at-2.ensures.written
    ∙ ap (λ image. overwrite image 25 c.args.text.now) c.in_ok-write_at.ensures.written))
    (begins c.args.octets.now c.args.text.now (state c.args.disk.now).read c.requires.length c.requires.shut))

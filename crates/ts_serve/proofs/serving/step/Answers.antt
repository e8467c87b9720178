-- What was read is served.
use Rattle.std.proofs.Common.{take}
use Rattle.ts_serve.proofs.Steps.{failed, interrupted, piece_served}
use Rattle.ts_serve.proofs.serving.step.Goals as goal

pub returns-in_ok-drain-in-Ok-clause-reads : goal.returns-in_ok-drain-in-Ok-clause-reads
returns-in_ok-drain-in-Ok-clause-reads g c =
    let bytes = c.in-Ok.ensures.bytes in
    piece_served _ (g.R.Read.remaining c.args.reader.now) (g.R.Read.remaining c.read.new.self)
    c.args.server.now c.drain.new.server (g.W.Write.contents c.args.writer.now)
    (g.W.Write.contents c.drain.new.writer)
    c.args.feed.now (take c.in-Ok.count c.read.new.buf) c.push.new.self c.drain.new.feed bytes.0 c.in_ok-push-in-Ok.ensures.pushed c.in_ok-drain-in-Ok.ensures.drains

pub returns-in-Err-clause-reads : goal.returns-in-Err-clause-reads
returns-in-Err-clause-reads g c =
    interrupted _ (g.R.Read.remaining c.args.reader.now) (g.R.Read.remaining c.read.new.self)
    c.args.server.now (g.W.Write.contents c.args.writer.now) c.args.feed.now c.in-Err.ensures.bytes
    c.requires.partial

pub returns-in-Err-2-clause-reads : goal.returns-in-Err-2-clause-reads
returns-in-Err-2-clause-reads g c =
    failed _ (g.R.Read.remaining c.args.reader.now) (g.R.Read.remaining c.read.new.self)
    c.args.server.now (g.W.Write.contents c.args.writer.now) c.args.feed.now c.args.feed.now
    c.in-Err-2.ensures.bytes

-- What was read is answered.
use Rattle.std.proofs.Common.{◌<◌, ℕ, length, take, subst, arith}
use Rattle.std.specs.Io.KnownBytes.{Consumes, ReadConsumes}
use Rattle.ts_lab.proofs.Scanning.{step_done, step_fed}
use Rattle.ts_lab.proofs.stream.step.Goals as goal

pub returns-in-Ok-eq0-clause-says : goal.returns-in-Ok-eq0-clause-says
returns-in-Ok-eq0-clause-says g c =
    let left = g.R.Read.remaining c.args.reader.now in
    let now = g.R.Read.remaining c.read.new.self in
    let bytes = subst (λ r. ReadConsumes left now r c.read.new.buf) c.in-Ok-eq0.is c.read.ensures.bytes in
    let room : 0 < length c.read.new.buf = omega (arith, c.fits-buffer, c.read.auto.buf) in
    step_done (Unit {0}) c.end.result c.done.result c.args.scanner.now c.end.new.self left now
    (g.W.Write.contents c.args.writer.now) (g.W.Write.contents c.end.new.writer) c.done.ensures
    (subst (λ (n : ℕ). Consumes left now (take n c.read.new.buf)) c.in-Ok-eq0.field-0-test bytes.0) (bytes.1 c.in-Ok-eq0.field-0-test room) c.end.ensures.closes

pub returns-in-Ok-clause-says : goal.returns-in-Ok-clause-says
returns-in-Ok-clause-says g c =
    let left = g.R.Read.remaining c.args.reader.now in
    let now = g.R.Read.remaining c.read.new.self in
    let bytes = subst (λ r. ReadConsumes left now r c.read.new.buf) c.in-Ok.is c.read.ensures.bytes in
    step_fed (Unit {0}) c.feed.result c.fed.result c.args.scanner.now c.feed.new.self left now
    (g.W.Write.contents c.args.writer.now) (g.W.Write.contents c.feed.new.writer) (take c.in-Ok.count c.read.new.buf) c.fed.ensures bytes.0 c.feed.ensures.scans

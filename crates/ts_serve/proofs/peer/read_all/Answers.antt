-- What was read is all that there was.
use Rattle.std.proofs.Common.{◌<◌, ℕ, take, length, subst, arith}
use Rattle.std.specs.Io.KnownBytes.{Consumes, ReadConsumes}
use Rattle.ts_serve.proofs.Whole.{read_to_end}
use Rattle.ts_serve.proofs.peer.read_all.Goals as goal

pub returns-in-Ok-eq0-clause-all : goal.returns-in-Ok-eq0-clause-all
returns-in-Ok-eq0-clause-all g c =
    let left = g.R.Read.remaining c.loop-read.reader in
    let now = g.R.Read.remaining c.read.new.self in
    let bytes = subst (λ r. ReadConsumes left now r c.read.new.buf) c.in-Ok-eq0.is c.read.ensures.bytes in
    let room : 0 < length c.read.new.buf = omega (arith, c.loop-read.invariant.room, c.read.auto.buf) in
    read_to_end (g.R.Read.remaining c.args.reader.now) left now c.loop-read.octets.items c.loop-read.invariant.so_far
    (subst (λ (n : ℕ). Consumes left now (take n c.read.new.buf)) c.in-Ok-eq0.field-0-test bytes.0) (bytes.1 c.in-Ok-eq0.field-0-test room)

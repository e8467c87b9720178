-- Where the reader tells its octets, the whole stream is known.
use Rattle.ts_serve.proofs.Exact.{exact_if}
use Rattle.std.proofs.Common.{false}
use Rattle.ts_serve.proofs.Turns.{only_requests}
use Rattle.ts_serve.proofs.Whole.{has_run, if_told}
use Rattle.ts_serve.proofs.serving.serve.Goals as goal

pub returns-clause-served : goal.returns-clause-served
returns-clause-served g c =
    if_told _ (g.R.Read.remaining c.args.reader.now) (g.R.Read.remaining c.serve_within.new.reader)
    c.args.server.now c.serve_within.new.server (g.W.Write.contents c.args.writer.now)
    (g.W.Write.contents c.serve_within.new.writer) c.serve_within.result
    c.serve_within.ensures.serves

pub returns-clause-run : goal.returns-clause-run
returns-clause-run g c =
    has_run _ (g.R.Read.remaining c.args.reader.now) (g.R.Read.remaining c.serve_within.new.reader)
    c.args.server.now c.serve_within.new.server (g.W.Write.contents c.args.writer.now)
    (g.W.Write.contents c.serve_within.new.writer) c.serve_within.result
    c.serve_within.ensures.serves

pub returns-clause-exact : goal.returns-clause-exact
returns-clause-exact g c =
    exact_if _ (only_requests _ _ _ _ false) (g.R.Read.remaining c.args.reader.now)
    c.args.server.now c.serve_within.new.server (g.W.Write.contents c.args.writer.now)
    (g.W.Write.contents c.serve_within.new.writer) c.serve_within.result
    (if_told _ (g.R.Read.remaining c.args.reader.now) (g.R.Read.remaining c.serve_within.new.reader)
    c.args.server.now c.serve_within.new.server (g.W.Write.contents c.args.writer.now)
    (g.W.Write.contents c.serve_within.new.writer) c.serve_within.result
    c.serve_within.ensures.serves)

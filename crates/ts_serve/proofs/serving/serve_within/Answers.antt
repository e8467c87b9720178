-- A stream is served, read by read.
use Rattle.std.proofs.Common.{rules}
use Rattle.std.proofs.lemmas.Result.{err_from_is_err_and}
use Rattle.ts_serve.proofs.Steps.{ends_so, goes_on, meets_limit, starts, stops}
use Rattle.ts_serve.proofs.serving.serve_within.Goals as goal

pub loop-read-init : goal.loop-read-init
loop-read-init g c = record {
  so_far = rw c.feed-feed.ensures (starts _ (g.R.Read.remaining c.args.reader.now) c.args.server.now (g.W.Write.contents c.args.writer.now));
  sound = c.requires;
  room = search rules;
}

pub returns-in_err-step-clause-serves : goal.returns-in_err-step-clause-serves
returns-in_err-step-clause-serves g c =
    let p = err_from_is_err_and c.from_residual.result c.from_residual.ensures.1 in
    rw (p.1, p.2) (stops _ (g.R.Read.remaining c.args.reader.now)
    (g.R.Read.remaining c.loop-read.reader) (g.R.Read.remaining c.step.new.reader) _
    c.args.server.now c.loop-read.server c.step.new.server
    (g.W.Write.contents c.args.writer.now) (g.W.Write.contents c.loop-read.writer)
    (g.W.Write.contents c.step.new.writer) c.loop-read.feed c.step.new.feed
    c.loop-read.invariant.so_far c.in_err-step.ensures.reads)

pub returns-then-not-branch-clause-serves : goal.returns-then-not-branch-clause-serves
returns-then-not-branch-clause-serves g c =
    ends_so _ (g.R.Read.remaining c.args.reader.now) (g.R.Read.remaining c.loop-read.reader) (g.R.Read.remaining c.step.new.reader) c.args.server.now c.loop-read.server c.step.new.server
    (g.W.Write.contents c.args.writer.now) (g.W.Write.contents c.loop-read.writer) (g.W.Write.contents c.step.new.writer) c.loop-read.feed c.step.new.feed c.end_of.result c.loop-read.invariant.so_far
    (rw c.if-not-branch.true at c.in_ok-step.ensures.reads) c.end_of.ensures.whole c.end_of.ensures.cut

pub loop-read-preserved : goal.loop-read-preserved
loop-read-preserved g c = record {
  so_far = goes_on _ (g.R.Read.remaining c.args.reader.now) (g.R.Read.remaining c.loop-read.reader) (g.R.Read.remaining c.step.new.reader) c.args.server.now c.loop-read.server c.step.new.server
      (g.W.Write.contents c.args.writer.now) (g.W.Write.contents c.loop-read.writer) (g.W.Write.contents c.step.new.writer) c.loop-read.feed c.step.new.feed c.loop-read.invariant.so_far
      (rw c.if-not-branch.false at c.in_ok-step.ensures.reads);
  sound = c.step.ensures.sound;
  room = search rules;
}

pub returns-clause-serves : goal.returns-clause-serves
returns-clause-serves g c =
    meets_limit _ (g.R.Read.remaining c.args.reader.now) (g.R.Read.remaining c.loop-read.reader)
    c.args.server.now c.loop-read.server (g.W.Write.contents c.args.writer.now)
    (g.W.Write.contents c.loop-read.writer) c.loop-read.feed c.loop-read.invariant.so_far

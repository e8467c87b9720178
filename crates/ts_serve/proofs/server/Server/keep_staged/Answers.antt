-- What waited is kept, or the node is broken.
use Rattle.std.proofs.Common.{refl}
use Rattle.ts_serve.proofs.server.Server.keep_staged.Goals as goal

pub returns-clause-kept : goal.returns-clause-kept
returns-clause-kept g c = record {
  result = c.keep_staged-kept.result;
  call = c.keep_staged-kept.ensures.kept;
  failed = c.failed_then-self.ensures;
  outbox = refl;
}

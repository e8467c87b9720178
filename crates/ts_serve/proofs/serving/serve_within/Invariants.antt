-- What was read is served.
use Rattle.std.proofs.Common.{◌≡◌, length}
use Rattle.ts_question.specs.Question.{StoreQuestion}
use Rattle.ts_node.specs.Machine.{store_of}
use Rattle.ts_node.specs.Node.{IsSound}
use Rattle.ts_command.specs.Octets.{octets_of}
use Rattle.ts_serve.specs.Turn.{ServerTurn}
use Rattle.ts_serve.specs.inside.Steps.{SoFar}
use Rattle.ts_serve.proofs.serving.serve_within.Given as goal

abbrev pub invariant-loop-read : goal.invariant-loop-read
invariant-loop-read g l = record {
  so_far : SoFar (ServerTurn g.D.Disk.state (store_of StoreQuestion g.M.Machine.client_id g.M.Machine.outcome) g.M.Machine.basis g.M.Machine.is_answer)
      (g.R.Read.remaining l.initial.reader) (g.R.Read.remaining l.reader) l.initial.server (g.W.Write.contents l.initial.writer) l.server l.feed (g.W.Write.contents l.writer);
  sound : IsSound g.D.Disk.state octets_of g.M.Machine.commands l.server.node;
  room : length l.buffer ≡ 8192;
}

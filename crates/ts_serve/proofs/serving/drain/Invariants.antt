-- The frames that were taken are answered.
use Rattle.std.proofs.Common.{length}
use Rattle.ts_question.specs.Question.{StoreQuestion}
use Rattle.ts_node.specs.Machine.{store_of}
use Rattle.ts_node.specs.Node.{IsSound}
use Rattle.ts_command.specs.Octets.{octets_of}
use Rattle.ts_serve.specs.Turn.{ServerTurn}
use Rattle.ts_serve.specs.inside.Steps.{HasServed}
use Rattle.ts_serve.proofs.serving.drain.Given as goal

abbrev pub invariant-loop-frame : goal.invariant-loop-frame
invariant-loop-frame g l = record {
  served : HasServed (ServerTurn g.D.Disk.state (store_of StoreQuestion g.M.Machine.client_id g.M.Machine.outcome) g.M.Machine.basis g.M.Machine.is_answer)
      l.initial.feed l.initial.server (g.W.Write.contents l.initial.writer) l.server l.feed (g.W.Write.contents l.writer);
  sound : IsSound g.D.Disk.state octets_of g.M.Machine.commands l.server.node;
}

abbrev pub decreases-loop-frame : goal.decreases-loop-frame
decreases-loop-frame g l = length l.feed

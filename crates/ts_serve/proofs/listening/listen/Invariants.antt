-- The connections so far were served.
use Rattle.ts_question.specs.Question.{StoreQuestion}
use Rattle.ts_node.specs.Machine.{store_of}
use Rattle.ts_node.specs.Node.{IsSound}
use Rattle.ts_command.specs.Octets.{octets_of}
use Rattle.ts_serve.specs.Turn.{ServerTurn}
use Rattle.ts_serve.proofs.Whole.{HasRun}
use Rattle.ts_serve.proofs.listening.listen.Given as goal

abbrev pub invariant-loop-connection : goal.invariant-loop-connection
invariant-loop-connection g l = record {
  run : HasRun (ServerTurn g.D.Disk.state (store_of StoreQuestion g.M.Machine.client_id g.M.Machine.outcome) g.M.Machine.basis g.M.Machine.is_answer) l.initial.server l.server;
  sound : IsSound g.D.Disk.state octets_of g.M.Machine.commands l.server.node;
}

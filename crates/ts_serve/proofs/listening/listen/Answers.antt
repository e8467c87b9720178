-- One connection after the other.
use Rattle.ts_serve.proofs.Whole.{run_none, run_then}
use Rattle.ts_serve.proofs.listening.listen.Goals as goal

pub loop-connection-init : goal.loop-connection-init
loop-connection-init g c = record { run = run_none _ c.args.server.now; sound = c.requires }

pub loop-connection-preserved : goal.loop-connection-preserved
loop-connection-preserved g c = record {
  run = run_then _ c.args.server.now c.loop-connection.server c.serve_connection.new.server c.loop-connection.invariant.run c.serve_connection.ensures.run;
  sound = c.serve_connection.ensures.sound;
}

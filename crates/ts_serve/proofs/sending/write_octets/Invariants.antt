-- What was written and what is left are the octets.
use Rattle.ts_serve.proofs.Writing.{HasWritten}
use Rattle.ts_serve.proofs.sending.write_octets.Given as goal

abbrev pub invariant-loop-try : goal.invariant-loop-try
invariant-loop-try g l = HasWritten (g.W.Write.contents l.initial.writer) (g.W.Write.contents l.writer) l.octets l.rest

-- The frames so far were written.
use Rattle.std.proofs.Common.{take}
use Rattle.std.specs.Io.KnownBytes.{Appends}
use Rattle.ts_serve.specs.Text.{text}
use Rattle.ts_serve.proofs.sending.send_all.Given as goal

abbrev pub invariant-loop-frame : goal.invariant-loop-frame
invariant-loop-frame g l = Appends (g.W.Write.contents l.initial.writer) (g.W.Write.contents l.writer) (text (take l.frame-index l.frames))

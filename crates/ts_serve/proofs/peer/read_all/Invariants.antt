-- What was read is kept, and is no more than may come.
use Rattle.std.proofs.Common.{◌≡◌, ◌≤◌, length}
use Rattle.std.specs.Io.KnownBytes.{Consumes}
use Rattle.ts_serve.proofs.peer.read_all.Given as goal

abbrev pub invariant-loop-read : goal.invariant-loop-read
invariant-loop-read g l = record {
  so_far : Consumes (g.R.Read.remaining l.initial.reader) (g.R.Read.remaining l.reader) l.octets.items;
  room : length l.buffer ≡ 8192;
  kept : length l.octets.items ≤ l.most;
}

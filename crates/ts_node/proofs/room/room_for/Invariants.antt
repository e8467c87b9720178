-- the facts so far fit, and so long are their encodings
use Rattle.std.proofs.Common.{◌≡◌, ◌≤◌, ◌+◌, length, take}
use Rattle.ts_record.specs.Facts.{AllFit, encodings}
use Rattle.ts_node.proofs.room.room_for.Given as goal

abbrev pub invariant-loop-fact : goal.invariant-loop-fact
invariant-loop-fact g l = record {
  fit : AllFit g.C.Codec.octets (take l.fact-index l.facts);
  size : l.size ≡ l.before + length (encodings g.C.Codec.octets (take l.fact-index l.facts));
  short : l.size ≤ 4194500;
}

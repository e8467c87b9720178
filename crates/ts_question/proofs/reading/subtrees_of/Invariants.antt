use Rattle.std.proofs.Common.{◌≡◌, ◌-◌}
use Rattle.ts_codec.specs.Reading.{many_at, blob16_at}
use Rattle.ts_codec.proofs.Loops.{with_front}
use Rattle.ts_question.proofs.reading.subtrees_of.Given as goal

abbrev pub invariant-loop : goal.invariant-loop
invariant-loop l = with_front l.strings (many_at blob16_at (l.count - l.counter) l.rest) ≡ many_at blob16_at l.count l.octets

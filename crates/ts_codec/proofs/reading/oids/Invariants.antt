use Rattle.std.proofs.Common.{◌≡◌, ◌-◌}
use Rattle.ts_codec.specs.Reading.{many_at}
use Rattle.ts_codec.specs.Reading.{oid_at}
use Rattle.ts_codec.proofs.Loops.{with_front}
use Rattle.ts_codec.proofs.reading.oids.Given as goal

abbrev pub invariant-loop : goal.invariant-loop
invariant-loop l = with_front l.oids.items (many_at oid_at (l.count - l.counter) l.rest) ≡ many_at oid_at l.count l.octets

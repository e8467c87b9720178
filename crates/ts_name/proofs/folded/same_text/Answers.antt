use Rattle.ts_name.specs.inside.Folding.{octets_left}
use Rattle.ts_name.proofs.Streams.{same_left}
use Rattle.ts_name.proofs.folded.same_text.Goals as goal

pub returns : goal.returns
returns c = rw (← c.new.ensures, ← c.new-2.ensures) (same_left octets_left c.new.result c.new-2.result c.eq.result c.eq.ensures.ran)

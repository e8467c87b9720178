use Rattle.ts_cert.proofs.Held.{is-read}
use Rattle.ts_cert.proofs.reading.full_cert.Goals as goal

pub returns : goal.returns
returns c = is-read c.args.octets.now c.in_ok-layout.layout c.in_ok-layout.ensures.laid

use Rattle.ts_cert.proofs.Held.{is-read}
use Rattle.ts_cert.proofs.reading.read_cert.Goals as goal

pub returns-in-Some : goal.returns-in-Some
returns-in-Some c = is-read c.args.octets.now c.in-Some.layout c.in-Some.ensures

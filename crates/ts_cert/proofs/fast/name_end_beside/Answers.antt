use Rattle.ts_shape.specs.Fields.{Within}
use Rattle.ts_name.specs.NameEncoding.{IsName}
use Rattle.ts_cert.proofs.Spanned.{again}
use Rattle.ts_cert.proofs.fast.name_end_beside.Goals as goal

pub returns-in-Some : goal.returns-in-Some
returns-in-Some c = again (Within 0x30 IsName) c.args.octets.now c.args.at c.args.from c.args.to c.in-Some.end c.requires.other c.in-Some.ensures

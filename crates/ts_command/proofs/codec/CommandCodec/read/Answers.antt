use Rattle.ts_command.proofs.Encoded.{found_octets, no_octets}
use Rattle.ts_command.proofs.codec.CommandCodec.read.Goals as goal

pub returns-clause-found : goal.returns-clause-found
returns-clause-found c = found_octets c.args.source.now c.read.result c.read.ensures.found

pub returns-clause-none : goal.returns-clause-none
returns-clause-none c = no_octets c.args.source.now c.read.result c.read.ensures.only

use Rattle.ts_command.proofs.Encoded.{octets_are}
use Rattle.ts_command.proofs.codec.CommandCodec.write.Goals as goal

pub returns : goal.returns
returns c = rw (octets_are c.args.self.now c.has_encoding.ensures) c.push_encoding.ensures
